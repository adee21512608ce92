-- What a step answers, in document 01's words. For each enum that a step answers, a definition turns its cases into this, and the step's
-- promise uses that definition.
use Rattle.std.specs.Prelude.{Bool, cond, ℕ}
use Rattle.std.proofs.Math.Option.{Option, none, some}

-- a value, or the number of a refusal
pub data Told (A : Type 0) : Type 0 where
  gives : A → Told A
  refuses : ℕ → Told A

-- what is there, or refusal `n` if nothing is
abbrev pub told : {A : Type 0} → ℕ → Option A → Told A
told n none = refuses n
told n (some a) = gives a

-- refusal `n` if its reason holds; else the step has nothing more to say
abbrev pub told_if : ℕ → Bool → Told (Unit {0})
told_if n b = cond b (refuses n) (gives tt)
