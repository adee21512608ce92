-- The code's refusals in the words of document 01's table: the number, the line and the length needed of each case.
use Rattle.std.specs.Prelude.{List, ◌++◌, ℕ, codes, decimal}
use Rattle.refusals.specs.declared.Refusal.{Refusal}
use Rattle.refusals.specs.declared.Refusal.TheVariants.{TooLong, BadLine, BadFrame, Misplaced, BadText, OverLimit, UnknownMap, NoRoom}

abbrev pub number_of : Refusal → ℕ
number_of TooLong = 1
number_of (BadLine l) = 2
number_of (BadFrame l) = 3
number_of (Misplaced l) = 4
number_of (BadText l) = 5
number_of (OverLimit l) = 6
number_of (UnknownMap l) = 7
number_of (NoRoom n) = 8

abbrev pub line_of : Refusal → ℕ
line_of TooLong = 0
line_of (BadLine l) = l
line_of (BadFrame l) = l
line_of (Misplaced l) = l
line_of (BadText l) = l
line_of (OverLimit l) = l
line_of (UnknownMap l) = l
line_of (NoRoom n) = 0

abbrev pub needed_of : Refusal → ℕ
needed_of TooLong = 0
needed_of (BadLine l) = 0
needed_of (BadFrame l) = 0
needed_of (Misplaced l) = 0
needed_of (BadText l) = 0
needed_of (OverLimit l) = 0
needed_of (UnknownMap l) = 0
needed_of (NoRoom n) = n

-- what is printed for a refusal
abbrev pub text_of : Refusal → List ℕ
text_of r = codes "refused " ++ decimal (number_of r) ++ codes " line " ++ decimal (line_of r)
