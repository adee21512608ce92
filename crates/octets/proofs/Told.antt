-- What a step's answer says of its definition.
use mathlib.Core.Path.{◌≡◌, refl}
use mathlib.Core.Bool.{Bool, true, false}
use mathlib.Core.Option.{Option, none, some}
use Prim.Native.Nat.{ℕ}
use native.Mathlib.Omega.{arith}
use Rattle.octets.specs.Told.{gives, refuses, told, told_if}

-- a value that was told is there, and a refusal was told because nothing is
pub told-there : {A : Type 0} (n : ℕ) (o : Option A) (a : A) → gives a ≡ told n o → o ≡ some a
told-there n none a e = let z : ◌≡◌ {A = ℕ} 0 1 = cc in absurd (omega arith)
told-there n (some b) a e = cc

pub told_none : {A : Type 0} (n k : ℕ) (o : Option A) → refuses k ≡ told n o → o ≡ none
told_none n k none e = refl
told_none n k (some b) e = let z : ◌≡◌ {A = ℕ} 0 1 = cc in absurd (omega arith)

-- the reason of a refusal holds, and if nothing is refused it does not
pub told_holds : (n k : ℕ) (b : Bool) → refuses k ≡ told_if n b → b ≡ true
told_holds n k true e = refl
told_holds n k false e = let z : ◌≡◌ {A = ℕ} 0 1 = cc in absurd (omega arith)

pub told_free : (n : ℕ) (b : Bool) → gives tt ≡ told_if n b → b ≡ false
told_free n true e = let z : ◌≡◌ {A = ℕ} 0 1 = cc in absurd (omega arith)
told_free n false e = refl
