-- String tables: a string is at the place that adding it gave, whatever is appended later, and a table is as long as its strings with a
-- zero byte each.
use mathlib.Core.Path.{◌≡◌, refl, sym, ap, ◌∙◌}
use mathlib.Core.List.{List, [], ◌∷◌, ◌++◌, append_assoc, append-nil}
use Prim.Native.Nat.{ℕ, suc, ◌+◌, ◌<◌}
use native.Mathlib.Omega.{arith}
use lib.ListN.{length, drop, length-append, length-drop}
use lib.Seq.{drop-append_seam, drop-append-le}
use Rattle.elf.specs.Strings.{add_string, add_strings}
use Rattle.elf.specs.Row.{size_of}

-- ---- a string at a place

-- from its place on a table has the string, a zero byte, and the rest
pub record Stands (t : List ℕ) (p : ℕ) (s : List ℕ) : Type 0 where
  pub rest : List ℕ
  pub from : drop p t ≡ s ++ (0 ∷ rest)

pub stands_added : (t s : List ℕ) → Stands (add_string t s).table (add_string t s).place s
stands_added t s = record { rest = []; from = drop-append_seam t (s ++ (0 ∷ [])) }

-- such a place is inside the table, with the whole string and its zero byte
pub stands_inside : {t s : List ℕ} {p : ℕ} → Stands t p s → p + length s < length t
stands_inside {t} {s} {p} h =
    let l : length (drop p t) ≡ length s + suc (length h.rest) = ap length h.from ∙ length-append s (0 ∷ h.rest) in
    omega (arith, length-drop p t)

-- and the string is still there when the table has grown
pub stands_more : {t s : List ℕ} {p : ℕ} (r : List ℕ) → Stands t p s → Stands (t ++ r) p s
stands_more {t} {s} {p} r h =
    let inside = stands_inside h in
    record { rest = h.rest ++ r; from = rw (drop-append-le p t r (omega arith), h.from, append_assoc) }

-- ---- strings at places, one for each

abbrev pub AllStand : List ℕ → List ℕ → List (List ℕ) → Type 0
AllStand t [] [] = Unit {0}
AllStand t [] (s ∷ ss) = ⊥
AllStand t (p ∷ ps) [] = ⊥
AllStand t (p ∷ ps) (s ∷ ss) = Stands t p s × AllStand t ps ss

pub all_stand_more : (t r ps : List ℕ) (ss : List (List ℕ)) → AllStand t ps ss → AllStand (t ++ r) ps ss
all_stand_more t r [] [] h = tt
all_stand_more t r [] (s ∷ ss) h = absurd h
all_stand_more t r (p ∷ ps) [] h = absurd h
all_stand_more t r (p ∷ ps) (s ∷ ss) h = (stands_more r h.0, all_stand_more t r ps ss h.1)

-- a table grows at its end
pub table_grows : (t : List ℕ) (ss : List (List ℕ)) → (r : List ℕ) × ((add_strings t ss).table ≡ t ++ r)
table_grows t [] = ([], sym (append-nil t))
table_grows t (s ∷ ss) =
    let (r, e) = table_grows (add_string t s).table ss in
    ((s ++ (0 ∷ [])) ++ r, e ∙ append_assoc t (s ++ (0 ∷ [])) r)

pub all_stand : (t : List ℕ) (ss : List (List ℕ)) → AllStand (add_strings t ss).table (add_strings t ss).places ss
all_stand t [] = tt
all_stand t (s ∷ ss) =
    let (r, e) = table_grows (add_string t s).table ss in
    (rw e (stands_more r (stands_added t s)), all_stand (add_string t s).table ss)

-- ---- how long

pub stand_length : (t ps : List ℕ) (ss : List (List ℕ)) → AllStand t ps ss → length ps ≡ length ss
stand_length t [] [] a = refl
stand_length t [] (s ∷ ss) a = absurd a
stand_length t (p ∷ ps) [] a = absurd a
stand_length t (p ∷ ps) (s ∷ ss) a = ap suc (stand_length t ps ss a.1)

pub size_append : (xs ys : List (List ℕ)) → size_of (xs ++ ys) ≡ size_of xs + size_of ys
size_append [] ys = omega arith
size_append (x ∷ xs) ys = omega (arith, size_append xs ys)

pub table-length : (t : List ℕ) (ss : List (List ℕ)) → length (add_strings t ss).table ≡ length t + size_of ss
table-length t [] = omega arith
table-length t (s ∷ ss) = rw (table-length (add_string t s).table ss, length-append, length-append) (omega arith)
