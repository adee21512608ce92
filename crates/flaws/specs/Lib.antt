pub mod Flaws
