-- Bytes and numbers: the words in which every other definition says its fields. A byte is a number below 256, a string of bytes a list.
use Rattle.std.specs.Prelude.{Bool, true, false, ◌&&◌, List, [], ◌∷◌, ◌++◌, ℕ, zero, suc, ◌+◌, ◌*◌, ◌/◌, ◌%◌, replicate, leb, eqb}
use Prim.Native.Char.{code}
use Prim.Native.String as string
use Prim.Native.String.{String}

-- `k` bytes of `n`, the lowest first; what does not fit is dropped
abbrev pub le : ℕ → ℕ → List ℕ
le zero n = []
le (suc k) n = n % 256 ∷ le k (n / 256)

-- the number that bytes give, the lowest first
abbrev pub value : List ℕ → ℕ
value [] = 0
value (b ∷ bs) = b + 256 * value bs

-- one list after the other
abbrev pub cat : List (List ℕ) → List ℕ
cat [] = []
cat (l ∷ ls) = l ++ cat ls

abbrev pub zeros : ℕ → List ℕ
zeros n = replicate n 0

-- the characters of a text of the format's own, as bytes
abbrev pub ascii : String → List ℕ
ascii string.[] = []
ascii (string.◌∷◌ c s) = code c ∷ ascii s

-- whether two strings of bytes are the same
abbrev pub equal : List ℕ → List ℕ → Bool
equal [] [] = true
equal [] (b ∷ bs) = false
equal (a ∷ as') [] = false
equal (a ∷ as') (b ∷ bs) = eqb a b && equal as' bs

-- whether `n` is one of `a` to `z`, both counted
abbrev pub within : ℕ → ℕ → ℕ → Bool
within a z n = leb a n && leb n z
