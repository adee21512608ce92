-- A fact that holds of each member of a list. It is used for rows of records, of names and of bytes.
use Rattle.std.specs.Prelude.{List, [], ◌∷◌}

abbrev pub All {ℓ} : {A : Type ℓ} → (A → Type 0) → List A → Type 0
All P [] = Unit {0}
All P (x ∷ xs) = P x × All P xs
