-- Strings in a row, as in a string table: their bytes, their places and how many bytes they take.
use Rattle.std.specs.Prelude.{List, [], ◌∷◌, ◌++◌, ℕ, suc, ◌+◌, length}

-- the strings one after the other, each with its zero byte
abbrev pub joined : List (List ℕ) → List ℕ
joined [] = []
joined (s ∷ ss) = (s ++ (0 ∷ [])) ++ joined ss

-- their places after a table of `n` bytes
abbrev pub places_at : ℕ → List (List ℕ) → List ℕ
places_at n [] = []
places_at n (s ∷ ss) = n ∷ places_at (n + suc (length s)) ss

-- the bytes that they take
abbrev pub size_of : List (List ℕ) → ℕ
size_of [] = 0
size_of (s ∷ ss) = suc (length s) + size_of ss
