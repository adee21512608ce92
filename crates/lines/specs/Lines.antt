-- The job's text: lines of lower-case hexadecimal, each ended by LF, one frame a line.
use Rattle.std.specs.Prelude.{Bool, true, false, cond, List, [], ◌∷◌, ℕ, ◌+◌, ◌-◌, ◌*◌, length, eqb}
use Rattle.std.proofs.Math.Option.{Option, none, some}
use Rattle.octets.specs.Octets.{within}

-- a line's characters, and whether an LF ends it
pub record Line : Type 0 where
  pub text : List ℕ
  pub ended : Bool

-- lines with one character more before them
abbrev pub before : ℕ → List Line → List Line
before c [] = record { text = c ∷ []; ended = false } ∷ []
before c (l ∷ ls) = record { text = c ∷ l.text; ended = l.ended } ∷ ls

-- the lines of a text; the last one has no LF if the text does not end in one
abbrev pub lines : List ℕ → List Line
lines [] = []
lines (c ∷ cs) = cond (eqb c 10) (record { text = []; ended = true } ∷ lines cs) (before c (lines cs))

-- the number of a digit, 0 to 9 or a to f
abbrev pub digit : ℕ → Option ℕ
digit c = cond (within 48 57 c) (some (c - 48)) (cond (within 97 102 c) (some (c - 87)) none)

abbrev pub pair : Option ℕ → Option ℕ → Option (List ℕ) → Option (List ℕ)
pair none l bs = none
pair (some h) none bs = none
pair (some h) (some l) none = none
pair (some h) (some l) (some bs) = some ((h * 16 + l) ∷ bs)

-- the bytes that pairs of digits give; none for an odd number of characters, or another character
abbrev pub unhex : List ℕ → Option (List ℕ)
unhex [] = some []
unhex (c ∷ []) = none
unhex (c ∷ d ∷ cs) = pair (digit c) (digit d) (unhex cs)

-- a line's bytes; none if it is empty, odd, has another character or is not ended by LF
abbrev pub frame_bytes : Line → Option (List ℕ)
frame_bytes l = cond l.ended (cond (eqb (length l.text) 0) none (unhex l.text)) none
