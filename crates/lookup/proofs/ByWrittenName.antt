-- The promise of `find_map` rules out a lookup by the written name: with `a-b` declared, a relocation that names `a_b` finds nothing. A
-- lookup that compared the written names would find the map.
use mathlib.Core.Path.{◌≡◌, sym, ◌∙◌}
use mathlib.Core.List.{List, [], ◌∷◌}
use mathlib.Core.Option as math
use Prim.Native.Nat.{ℕ}
use native.Mathlib.Omega.{arith}
use Rattle.std.specs.Prelude.{Option}
use Rattle.octets.specs.Octets.{ascii}
use Rattle.octets.specs.Told.{Told, gives, refuses, told}
use Rattle.written.specs.Written.{written}
use Rattle.ast.specs.Job.{Map, last_map}
use Rattle.ast.specs.declared.NamedMap.{NamedMap}
use Rattle.object.specs.Tables.{no_decl}
use Rattle.object.specs.Read.{maps_in}
use Rattle.lookup.specs.Names.{Finds, found_told}

-- the maps under their written names
abbrev under_written : List Map → List Map
under_written [] = []
under_written (m ∷ ms) = record { name = written m.name; kind = m.kind; key = m.key; value = m.value; entries = m.entries } ∷ under_written ms

-- the wrong answer: the last map whose written name is that of the name
abbrev pub last_written : List ℕ → List Map → math.Option ℕ
last_written name ms = last_map (written name) (under_written ms)

-- one map, `a-b`, whose name is at the front of the text
abbrev one_map : NamedMap
one_map = record { decl = no_decl; name = record { at = 0; len = 3 } }

pub by_written_name_refused : (r : Option ℕ) → found_told r ≡ told 7 (last_written (ascii "a_b") (maps_in (ascii "612d62") (one_map ∷ [])))
    → Finds (ascii "612d62") (one_map ∷ []) (ascii "a_b") r → ⊥
by_written_name_refused r e f =
    let d : ◌≡◌ {A = Told ℕ} (gives 0) (refuses 7) = sym e ∙ f in
    let z : ◌≡◌ {A = ℕ} 0 1 = cc in
    omega arith
