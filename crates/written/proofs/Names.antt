-- Written names keep the bound of the raw name, and have no zero byte: a string table ends each one by a zero.
use mathlib.Core.Path.{◌≡◌, refl, ap}
use mathlib.Core.Bool.{Bool, true, false, cond}
use mathlib.Core.Option.{Option, none, some}
use mathlib.Core.List.{List, [], ◌∷◌}
use Prim.Native.Nat.{ℕ, zero, suc, ◌≤◌}
use native.Mathlib.Omega.{arith}
use lib.Dec.{eqb, eqb-suc-zero}
use lib.ListN.{length}
use Rattle.utf8.specs.Utf8.{Wait, idle, Next, point, more, bad, next, put, points_from, points, has_zero}
use Rattle.written.specs.Written.{letter, letter_or_digit, rest_written, written_points, written}

-- ---- length

length_of : Option (List ℕ) → ℕ
length_of none = 0
length_of (some s) = length s

put-length : (c : ℕ) (o : Option (List ℕ)) → length_of (put c o) ≤ suc (length_of o)
unfolding length_of
put-length c none = omega arith
put-length c (some s) = omega arith

-- a text has no more code points than bytes
points-length : (w : Wait) (bs : List ℕ) → length_of (points_from w bs) ≤ length bs
unfolding length_of
points-length w [] = go (eqb w.left 0)
  where
    go : (b : Bool) → length_of (cond b (some []) none) ≤ 0
    go true = omega arith
    go false = omega arith
points-length w (b ∷ bs) = go (next w b) (points-length idle bs) (λ v. points-length v bs)
  where
    go : (x : Next) → length_of (points_from idle bs) ≤ length bs → ((v : Wait) → length_of (points_from v bs) ≤ length bs)
        → length_of (elim x [ point c ↦ put c (points_from idle bs) | more v ↦ points_from v bs | bad ↦ none ]) ≤ suc (length bs)
    go (point c) h i = omega (arith, put-length c (points_from idle bs))
    go (more v) h i = omega (arith, i v)
    go bad h i = omega arith

pub rest-length : (cs : List ℕ) → length (rest_written cs) ≡ length cs
rest-length [] = refl
rest-length (c ∷ cs) = ap suc (rest-length cs)

-- the name that is written for an empty one has fourteen bytes
pub written-short : (most : ℕ) (bs : List ℕ) → 14 ≤ most → length bs ≤ most → length (written bs) ≤ most
unfolding length_of
written-short most bs l h = go (points bs) (points-length idle bs)
  where
    go : (o : Option (List ℕ)) → length_of o ≤ length bs → length {A = ℕ} (elim o as (λ x. List ℕ) [ none ↦ [] | some cs ↦ written_points cs ]) ≤ most
    go none k = omega arith
    go (some []) k = omega arith
    go (some (c ∷ cs)) k = omega (arith, rest-length cs)

-- ---- no zero byte

abbrev pub Clean : List ℕ → Type 0
Clean s = has_zero s ≡ false

kept : (b : Bool) (c : ℕ) → eqb (cond b (suc c) 95) 0 ≡ false
kept true c = eqb-suc-zero c
kept false c = refl

rest_clean : (cs : List ℕ) → Clean (rest_written cs)
rest_clean [] = refl
rest_clean (zero ∷ cs) = rest_clean cs
rest_clean (suc c ∷ cs) = rw (kept (letter_or_digit (suc c)) c) (rest_clean cs)

points_clean : (cs : List ℕ) → Clean (written_points cs)
points_clean [] = refl
points_clean (zero ∷ cs) = rest_clean cs
points_clean (suc c ∷ cs) = rw (kept (letter (suc c)) c) (rest_clean cs)

pub written_clean : (bs : List ℕ) → Clean (written bs)
written_clean bs = go (points bs)
  where
    go : (o : Option (List ℕ)) → Clean (elim o as (λ x. List ℕ) [ none ↦ [] | some cs ↦ written_points cs ])
    go none = refl
    go (some cs) = points_clean cs
