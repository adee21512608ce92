-- A refusal is told by its number, its line and the length needed: two that agree in these are the same.
use mathlib.Core.Path.{◌≡◌, refl, sym, ◌∙◌}
use mathlib.Core.Bool.{cond}
use Prim.Native.Nat.{ℕ}
use lib.Dec.{eqb}
use Rattle.refusals.specs.Refusal.{number_of, line_of, needed_of}
use Rattle.refusals.specs.declared.Refusal.{Refusal}
use Rattle.refusals.specs.declared.Refusal.TheVariants.{TooLong, BadLine, BadFrame, Misplaced, BadText, OverLimit, UnknownMap, NoRoom}

-- the refusal that has these numbers
abbrev back : ℕ → ℕ → ℕ → Refusal
back n l k =
    cond (eqb n 1) TooLong
    (cond (eqb n 2) (BadLine l)
    (cond (eqb n 3) (BadFrame l)
    (cond (eqb n 4) (Misplaced l) (cond (eqb n 5) (BadText l) (cond (eqb n 6) (OverLimit l) (cond (eqb n 7) (UnknownMap l) (NoRoom k)))))))

back_is : (r : Refusal) → back (number_of r) (line_of r) (needed_of r) ≡ r
back_is TooLong = refl
back_is (BadLine l) = refl
back_is (BadFrame l) = refl
back_is (Misplaced l) = refl
back_is (BadText l) = refl
back_is (OverLimit l) = refl
back_is (UnknownMap l) = refl
back_is (NoRoom k) = refl

pub told_once : (r s : Refusal) → number_of r ≡ number_of s → line_of r ≡ line_of s → needed_of r ≡ needed_of s → r ≡ s
told_once r s n l k = sym (back_is r) ∙ rw (n, l, k) (back_is s)
