-- Fields one after the other, by their widths and numbers.
use Rattle.std.specs.Prelude.{List, [], ◌∷◌, ◌++◌, ℕ, ◌+◌}
use Rattle.octets.specs.Octets.{le}

abbrev pub fields : List ℕ → List ℕ → List ℕ
fields [] vs = []
fields (w ∷ ws) [] = []
fields (w ∷ ws) (v ∷ vs) = le w v ++ fields ws vs

-- how many bytes they are
abbrev pub total : List ℕ → ℕ
total [] = 0
total (w ∷ ws) = w + total ws
