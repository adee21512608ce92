-- The tables read as a job, by one map more.
use mathlib.Core.Path.{◌≡◌, refl, ◌∙◌, ap}
use mathlib.Core.List.{List, [], ◌∷◌, ◌++◌}
use Prim.Native.Nat.{ℕ, suc, ◌≤◌, ◌<◌}
use native.Mathlib.Omega.{arith}
use lib.ListN.{length, take, get_or, set}
use lib.Seq.{take-suc, take-suc-set, length-take-le}
use Rattle.ast.specs.Job.{Map}
use Rattle.ast.specs.declared.NamedMap.{NamedMap}
use Rattle.object.specs.Tables.{no_map}
use Rattle.object.specs.Read.{map_in, maps_in}

pub maps_length : (text : List ℕ) (ms : List NamedMap) → length (maps_in text ms) ≡ length ms
maps_length text [] = refl
maps_length text (m ∷ ms) = ap suc (maps_length text ms)

pub maps_snoc : (text : List ℕ) (ms : List NamedMap) (m : NamedMap) → maps_in text (ms ++ (m ∷ [])) ≡ maps_in text ms ++ (map_in text m ∷ [])
maps_snoc text [] m = refl
maps_snoc text (n ∷ ms) m = ap (λ (l : List Map). map_in text n ∷ l) (maps_snoc text ms m)

-- one more of the maps in the table
pub maps_more : (text : List ℕ) (ms : List NamedMap) (n : ℕ) → n < length ms
    → maps_in text (take (suc n) ms) ≡ maps_in text (take n ms) ++ (map_in text (get_or ms n no_map) ∷ [])
maps_more text ms n p = rw (take-suc ms n no_map p) (maps_snoc text (take n ms) _)

-- a map put after them
pub maps_set : (text : List ℕ) (ms : List NamedMap) (n : ℕ) (m : NamedMap) → n < length ms
    → maps_in text (take (suc n) (set ms n m)) ≡ maps_in text (take n ms) ++ (map_in text m ∷ [])
maps_set text ms n m p = rw (take-suc-set ms n m p) (maps_snoc text (take n ms) m)

pub count_maps : (text : List ℕ) (ms : List NamedMap) (n : ℕ) → n ≤ length ms → length (maps_in text (take n ms)) ≡ n
count_maps text ms n p = maps_length text (take n ms) ∙ length-take-le n ms p
