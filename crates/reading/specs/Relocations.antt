-- Rule L7: the relocations of each program. Nothing here names the writer or its layout.
use Rattle.std.specs.Prelude.{Bool, cond, ◌&&◌, List, [], ◌∷◌, ℕ, zero, suc, ◌+◌, ◌/◌, ◌%◌, ◌^◌, length, drop, leb, eqb}
use Rattle.std.proofs.Math.Option.{Option, none, some}
use Rattle.std.proofs.Math.ListN.{get_elem?}
use Rattle.octets.specs.Octets.{ascii}
use Rattle.reading.specs.Steps.{◌>>=◌, ◌guards◌, field, keep, only}
use Rattle.reading.specs.Sections.{Named, is_plain}
use Rattle.reading.specs.Programs.{Code, Symbol}
use Rattle.reading.specs.Maps.{Mapped}

-- ---- L7: the relocations

-- a place in the code, and the number of its map
pub record Relocation : Type 0 where
  pub offset : ℕ
  pub map : ℕ

abbrev pub map_at : ℕ → ℕ → List Mapped → Option ℕ
map_at i p [] = none
map_at i p (m ∷ ms) = cond (eqb m.offset p) (some i) (map_at (suc i) p ms)

-- an entry: its place, and its info, which by the gABI has the type in the low 32 bits and the symbol's number above them
abbrev pub relocation_of : List Symbol → List Mapped → ℕ → List ℕ → Option Relocation
relocation_of syms ms maps d =
    let info = field 8 d 8 in
    eqb (info % 2 ^ 32) 1 guards
    (get_elem? syms (info / 2 ^ 32) >>= λ y.
    eqb y.section maps guards (map_at 0 y.at ms >>= λ k. some (record { offset = field 8 d 0; map = k })))

abbrev pub relocations_of : List Symbol → List Mapped → ℕ → ℕ → List ℕ → Option (List Relocation)
relocations_of syms ms maps zero d = some []
relocations_of syms ms maps (suc n) d =
    relocation_of syms ms maps d >>= λ r.
    relocations_of syms ms maps n (drop 16 d) >>= λ rs.
    some (r ∷ rs)

abbrev pub maps_section : List Named → Option ℕ
maps_section ss = only (keep (is_plain 3 (ascii ".maps")) ss) >>= λ s. some s.number

abbrev pub rel_of : List Named → List Symbol → List Mapped → List Named → Option (List Relocation)
rel_of ss syms ms [] = some []
rel_of ss syms ms (s ∷ []) =
    eqb (s.size % 16) 0 guards
    (cond (eqb s.size 0) (some [])
    (maps_section ss >>= λ maps. relocations_of syms ms maps (s.size / 16) s.bytes))
rel_of ss syms ms (s ∷ t ∷ ts) = none

abbrev pub relocates : ℕ → Named → Bool
relocates i s = eqb s.kind 9 && eqb s.info i

pub record Program : Type 0 where
  pub section : List ℕ
  pub symbol : List ℕ
  pub code : List ℕ
  pub relocations : List Relocation

abbrev pub relocated : List Named → List Symbol → List Mapped → List Code → Option (List Program)
relocated ss syms ms [] = some []
relocated ss syms ms (c ∷ cs) =
    rel_of ss syms ms (keep (relocates c.number) ss) >>= λ rs.
    relocated ss syms ms cs >>= λ ps.
    some (record { section = c.section; symbol = c.symbol; code = c.bytes; relocations = rs } ∷ ps)

abbrev pub relocation_count : List Program → ℕ
relocation_count [] = 0
relocation_count (p ∷ ps) = length p.relocations + relocation_count ps

abbrev pub read_programs : List Named → List Symbol → List Mapped → List Code → Option (List Program)
read_programs ss syms ms cs =
    relocated ss syms ms cs >>= λ ps. leb (relocation_count ps) 256 guards some ps
