-- Walks with no early end: they look at every byte and gather what they find in one number, 0 as long as nothing was found.
use mathlib.Core.Path.{◌≡◌, sym, ◌∙◌, ap}
use mathlib.Core.Bool.{Bool, true, false, cond, ◌&&◌, ◌||◌, not, and-false, or-true}
use Prim.Native.Nat.{ℕ}
use native.Mathlib.Omega.{arith}
use lib.Bits.{bit_or, or_add_and, and_mask, or_zero_r}
use lib.Dec.{eqb}
use borrow.Author.Tests.{ne_eqb}

-- with 1 among what is found, something was
found_one : (a : ℕ) → eqb (bit_or a 1) 0 ≡ false
found_one a = ne_eqb (bit_or a 1) 0 (λ e. omega (arith, or_add_and a 1, and_mask a 1))

-- with 0 nothing more
found_none : (a : ℕ) → eqb (bit_or a 0) 0 ≡ eqb a 0
found_none a = ap (λ (n : ℕ). eqb n 0) (or_zero_r a)

-- a walk that asks whether all are as they should be: `here` for this one, and `later` for those after it
pub all_on : (bad n : ℕ) (here later : Bool) → n ≡ cond here 0 1 → (eqb bad 0 && (here && later)) ≡ (eqb (bit_or bad n) 0 && later)
all_on bad n true later e = rw e (ap (λ (b : Bool). b && later) (sym (found_none bad)))
all_on bad n false later e = rw e (and-false (eqb bad 0) ∙ ap (λ (b : Bool). b && later) (sym (found_one bad)))

-- a walk that asks whether there is one
pub one_on : (found n : ℕ) (here later : Bool) → n ≡ cond here 1 0
    → (not (eqb found 0) || (here || later)) ≡ (not (eqb (bit_or found n) 0) || later)
one_on found n true later e = rw e (or-true (not (eqb found 0)) ∙ ap (λ (b : Bool). not b || later) (sym (found_one found)))
one_on found n false later e = rw e (ap (λ (b : Bool). not b || later) (sym (found_none found)))
