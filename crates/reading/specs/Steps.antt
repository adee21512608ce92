-- What the rules are said with: steps that may fail, fields of bytes, and picking from a list. Nothing here names the writer or its layout.
use Rattle.std.specs.Prelude.{Bool, true, false, cond, List, [], ◌∷◌, ℕ, zero, suc, length, take, drop, leb, eqb}
use Rattle.std.proofs.Math.Option.{Option, none, some}
use Rattle.std.proofs.Math.ListN.{get_elem?}
use Rattle.octets.specs.Octets.{value}

infixl 10 ◌>>=◌
infixl 10 ◌guards◌
abbrev pub ◌>>=◌ : {A B : Type 0} → Option A → (A → Option B) → Option B
◌>>=◌ none k = none
◌>>=◌ (some a) k = k a

abbrev pub ◌guards◌ : {B : Type 0} → Bool → Option B → Option B
◌guards◌ true b = b
◌guards◌ false b = none

-- ---- fields

-- the number in the `k` bytes at `p`
abbrev pub field : ℕ → List ℕ → ℕ → ℕ
field k f p = value (take k (drop p f))

-- the `n` bytes at `p`
abbrev pub part : List ℕ → ℕ → ℕ → List ℕ
part f p n = take n (drop p f)

-- the bytes before the first zero byte; none if there is no zero byte
abbrev pub to_zero : List ℕ → Option (List ℕ)
to_zero [] = none
to_zero (b ∷ bs) = cond (eqb b 0) (some []) (elim (to_zero bs) [ none ↦ none | some s ↦ some (b ∷ s) ])

-- what is at place `p` of a string table; none if no zero byte ends it
abbrev pub text_at : List ℕ → ℕ → Option (List ℕ)
text_at t p = to_zero (drop p t)

-- a string of at most `most` bytes
abbrev pub short : ℕ → Option (List ℕ) → Option (List ℕ)
short most none = none
short most (some s) = leb (length s) most guards some s

-- the string at place `p` of a string table, of at most `most` bytes
abbrev pub string_at : ℕ → List ℕ → ℕ → Option (List ℕ)
string_at most t p = short most (text_at t p)

-- ---- picking

abbrev pub keep {ℓ} : {A : Type ℓ} → (A → Bool) → List A → List A
keep p [] = []
keep p (a ∷ as') = cond (p a) (a ∷ keep p as') (keep p as')

-- the first, if there is one
abbrev pub first_of {ℓ} : {A : Type ℓ} → List A → Option A
first_of [] = none
first_of (a ∷ as') = some a

-- the only one
abbrev pub only {ℓ} : {A : Type ℓ} → List A → Option A
only [] = none
only (a ∷ []) = some a
only (a ∷ b ∷ as') = none

-- number `i` of things that are counted from 1: sections, of which header 0 is none, and BTF types
abbrev pub numbered {ℓ} : {A : Type ℓ} → List A → ℕ → Option A
numbered l zero = none
numbered l (suc i) = get_elem? l i
