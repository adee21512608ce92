-- A written name from its middle on.
use Rattle.std.proofs.Math.Option.{Option, none, some}
use Rattle.std.specs.Prelude.{List, [], ℕ, zero, suc, cond}
use Rattle.written.specs.Written.{letter, letter_or_digit, written_points, rest_written}

-- what a code point is written as, after `n` others
abbrev pub char_at : ℕ → ℕ → ℕ
char_at zero c = cond (letter c) c 95
char_at (suc n) c = cond (letter_or_digit c) c 95

-- what code points are written as, after `n` others
abbrev pub rest : ℕ → List ℕ → List ℕ
rest zero cs = written_points cs
rest (suc n) cs = rest_written cs

abbrev pub rest_of : ℕ → Option (List ℕ) → List ℕ
rest_of n none = []
rest_of n (some cs) = rest n cs
