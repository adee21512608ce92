-- A fact that holds of each member of a list, carried over an append, a part or a weaker fact.
use mathlib.Core.Path.{◌≡◌}
use mathlib.Core.List.{List, [], ◌∷◌, ◌++◌}
use Prim.Native.Nat.{ℕ, zero, suc, ◌+◌}
use native.Mathlib.Nat.{zero-add, suc-add}
use lib.ListN.{length, take, drop, get_elem?}
use Rattle.octets.specs.All.{All}

pub all_append {ℓ} : {A : Type ℓ} (P : A → Type 0) (xs ys : List A) → All P xs → All P ys → All P (xs ++ ys)
all_append P [] ys f g = g
all_append P (x ∷ xs) ys f g = (f.0, all_append P xs ys f.1 g)

-- a fact that follows member by member
pub all_weaken {ℓ} : {A : Type ℓ} (P Q : A → Type 0) → ((a : A) → P a → Q a) → (xs : List A) → All P xs → All Q xs
all_weaken P Q h [] f = tt
all_weaken P Q h (x ∷ xs) f = (h x f.0, all_weaken P Q h xs f.1)

pub all_take {ℓ} : {A : Type ℓ} (P : A → Type 0) (k : ℕ) (xs : List A) → All P xs → All P (take k xs)
all_take P zero xs f = tt
all_take P (suc k) [] f = tt
all_take P (suc k) (x ∷ xs) f = (f.0, all_take P k xs f.1)

pub all_drop {ℓ} : {A : Type ℓ} (P : A → Type 0) (k : ℕ) (xs : List A) → All P xs → All P (drop k xs)
all_drop P zero xs f = f
all_drop P (suc k) [] f = tt
all_drop P (suc k) (x ∷ xs) f = all_drop P k xs f.1

-- the member at a number past those of the first list
pub get_add {ℓ} : {A : Type ℓ} (xs ys : List A) (n : ℕ) → get_elem? (xs ++ ys) (length xs + n) ≡ get_elem? ys n
get_add [] ys n = rw zero-add
get_add (x ∷ xs) ys n = rw suc-add (get_add xs ys n)
