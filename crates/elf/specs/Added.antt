-- What `align_to` asks of an alignment, and `add_string` by lengths alone.
use Rattle.std.specs.Prelude.{ℕ, ◌+◌}
use Rattle.elf.specs.declared.Added.{Added}

-- the alignments that sections have
pub data Alignment : ℕ → Type 0 where
  one : Alignment 1
  four : Alignment 4
  eight : Alignment 8

-- a string of `n` bytes added to a table of `len`: its place, and the table's length with it and its zero byte
abbrev pub added : ℕ → ℕ → Added
added len n = record { place = len; len = len + n + 1 }
