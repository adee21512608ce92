-- Written names: the name under which a map or a program's symbol is written (`sanitize_ident`).
use Rattle.std.specs.Prelude.{Bool, cond, ◌||◌, List, [], ◌∷◌, ℕ, eqb}
use Rattle.std.proofs.Math.Option.{none, some}
use Rattle.octets.specs.Octets.{within, ascii}
use Rattle.utf8.specs.Utf8.{points}

-- an ASCII letter or `_`
abbrev pub letter : ℕ → Bool
letter c = within 65 90 c || within 97 122 c || eqb c 95

abbrev pub letter_or_digit : ℕ → Bool
letter_or_digit c = letter c || within 48 57 c

-- a later character becomes itself if it is a letter, `_` or a digit, else one `_`
abbrev pub rest_written : List ℕ → List ℕ
rest_written [] = []
rest_written (c ∷ cs) = cond (letter_or_digit c) c 95 ∷ rest_written cs

abbrev pub unnamed : List ℕ
unnamed = ascii "_solnix_symbol"

-- the first character becomes itself if it is a letter or `_`, else one `_`; an empty name becomes "_solnix_symbol"
abbrev pub written_points : List ℕ → List ℕ
written_points [] = unnamed
written_points (c ∷ cs) = cond (letter c) c 95 ∷ rest_written cs

-- each character, not each byte, becomes itself or one `_`; what is no text has no written name
abbrev pub written : List ℕ → List ℕ
written bs = elim (points bs) [ none ↦ [] | some cs ↦ written_points cs ]
