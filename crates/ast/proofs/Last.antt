-- The last map of a name, by one map more or less at the end of the list: for a walk from the list's end.
use mathlib.Core.Path.{◌≡◌, refl, sym, ◌∙◌, ap}
use mathlib.Core.Bool.{Bool, true, false, cond}
use mathlib.Core.Option.{Option, none, some}
use mathlib.Core.List.{List, [], ◌∷◌, ◌++◌}
use Prim.Native.Nat.{ℕ, suc, ◌+◌}
use native.Mathlib.Nat.{add-zero, zero-add}
use native.Mathlib.Omega.{arith}
use lib.ListN.{length}
use Rattle.octets.specs.Octets.{equal}
use Rattle.ast.specs.Job.{Map, last_from, last_map}

-- what was found after a map, or the map itself
abbrev pick : Option ℕ → Bool → ℕ → Option ℕ
pick (some k) b i = some k
pick none b i = cond b (some i) none

last_cons : (i : ℕ) (name : List ℕ) (m : Map) (ms : List Map) (o : Option ℕ) → last_from (suc i) name ms ≡ o
    → last_from i name (m ∷ ms) ≡ pick o (equal name m.name) i
last_cons i name m ms (some k) e = rw (e, last_from)
last_cons i name m ms none e = rw (e, last_from)

pub last_snoc : (i : ℕ) (name : List ℕ) (ms : List Map) (m : Map)
    → last_from i name (ms ++ (m ∷ [])) ≡ cond (equal name m.name) (some (i + length ms)) (last_from i name ms)
last_snoc i name [] m = last_cons i name m [] none refl ∙ rw add-zero
last_snoc i name (n ∷ ms) m =
    last_cons i name n (ms ++ (m ∷ [])) _ refl ∙ ap (λ (o : Option ℕ). pick o (equal name n.name) i) (last_snoc (suc i) name ms m)
    ∙ go (equal name m.name)
  where
    go : (t : Bool) → pick (cond t (some (suc i + length ms)) (last_from (suc i) name ms)) (equal name n.name) i
        ≡ cond t (some (i + suc (length ms))) (last_from i name (n ∷ ms))
    go true = let e : suc i + length ms ≡ i + suc (length ms) = omega arith in ap some e
    go false = sym (last_cons i name n ms _ refl)

-- the map at the end is the one, or the search goes on without it
pub last_is : (name : List ℕ) (ms : List Map) (m : Map) → equal name m.name ≡ true → last_map name (ms ++ (m ∷ [])) ≡ some (length ms)
last_is name ms m e = last_snoc 0 name ms m ∙ rw (e, zero-add)

pub last_not : (name : List ℕ) (ms : List Map) (m : Map) → equal name m.name ≡ false → last_map name (ms ++ (m ∷ [])) ≡ last_map name ms
last_not name ms m e = last_snoc 0 name ms m ∙ rw e
