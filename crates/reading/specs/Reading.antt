-- How a loader reads an object: rules L1 to L7 of document 01. The first that fails decides. Nothing here names the writer or its layout:
-- the rules know only what the gABI and the BTF document say of a file's bytes.
use Rattle.std.proofs.Math.Option.{Option, none, some}
use Rattle.std.specs.Prelude.{List, [], ◌∷◌, ℕ}
use Rattle.ast.specs.Job.{Map}
use Rattle.reading.specs.Sections.{Named, read_names, read_sections}
use Rattle.reading.specs.Programs.{read_codes, read_licence, read_symbols}
use Rattle.reading.specs.Maps.{Mapped, read_maps}
use Rattle.reading.specs.Relocations.{Program, read_programs}

pub record Reading : Type 0 where
  pub licence : List ℕ
  pub maps : List Map
  pub programs : List Program

-- the first rule that fails, by its number
pub data Read : Type 0 where
  reads : Reading → Read
  fails : ℕ → Read

abbrev pub rule : {A : Type 0} → ℕ → Option A → (A → Read) → Read
rule n none k = fails n
rule n (some a) k = k a

abbrev pub maps_in : List Mapped → List Map
maps_in [] = []
maps_in (m ∷ ms) = m.map ∷ maps_in ms

-- L3 to L7, of the sections
abbrev pub loaded : List Named → Read
loaded ns =
    rule 3 (read_licence ns) λ licence.
    rule 4 (read_symbols ns) λ syms.
    rule 5 (read_codes syms ns) λ codes.
    rule 6 (read_maps ns) λ maps.
    rule 7 (read_programs ns syms maps codes) λ programs.
    reads (record { licence = licence; maps = maps_in maps; programs = programs })

abbrev pub reading : List ℕ → Read
reading f = rule 1 (read_sections f) λ ss. rule 2 (read_names f ss) λ ns. loaded ns
