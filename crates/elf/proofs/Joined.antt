-- String tables by their lengths: a table is its strings in a row, and their places follow from the lengths before them. For writers that
-- keep only the length of the table so far.
use mathlib.Core.Path.{◌≡◌, refl, sym, ap, ◌∙◌}
use mathlib.Core.List.{List, [], ◌∷◌, ◌++◌, append_assoc, append-nil}
use Prim.Native.Nat.{ℕ, suc, ◌+◌}
use native.Mathlib.Omega.{arith}
use lib.ListN.{length, length-append}
use Rattle.elf.specs.Strings.{add_string, add_strings}
use Rattle.elf.specs.Row.{joined, places_at, size_of}

pub table-joined : (t : List ℕ) (ss : List (List ℕ)) → (add_strings t ss).table ≡ t ++ joined ss
table-joined t [] = sym (append-nil t)
table-joined t (s ∷ ss) = table-joined (add_string t s).table ss ∙ append_assoc t (s ++ (0 ∷ [])) (joined ss)

pub places_at_lem : (t : List ℕ) (ss : List (List ℕ)) → (add_strings t ss).places ≡ places_at (length t) ss
places_at_lem t [] = refl
places_at_lem t (s ∷ ss) =
    let n : length (add_string t s).table ≡ length t + suc (length s) =
    omega (arith, length-append t (s ++ (0 ∷ [])), length-append s (0 ∷ [])) in
    ap (λ (r : List ℕ). length t ∷ r) (places_at_lem (add_string t s).table ss ∙ ap (λ (k : ℕ). places_at k ss) n)

pub length_string : (s : List ℕ) → length (s ++ (0 ∷ [])) ≡ suc (length s)
length_string s = omega (arith, length-append s (0 ∷ []))

pub length-joined : (ss : List (List ℕ)) → length (joined ss) ≡ size_of ss
length-joined [] = refl
length-joined (s ∷ ss) = omega (arith, length-append (s ++ (0 ∷ [])) (joined ss), length_string s, length-joined ss)

pub joined-append : (xs ys : List (List ℕ)) → joined (xs ++ ys) ≡ joined xs ++ joined ys
joined-append [] ys = refl
joined-append (x ∷ xs) ys =
    ap (λ (r : List ℕ). (x ++ (0 ∷ [])) ++ r) (joined-append xs ys) ∙ sym (append_assoc (x ++ (0 ∷ [])) (joined xs) (joined ys))

pub count_places : (n : ℕ) (ss : List (List ℕ)) → length (places_at n ss) ≡ length ss
count_places n [] = refl
count_places n (s ∷ ss) = ap suc (count_places (n + suc (length s)) ss)
