-- What `make` answers, as the three numbers that go out to other languages.
use Rattle.std.specs.Prelude.{ℕ}
use Rattle.maker.specs.Made.{Outcome, object, refusal}

-- the refusal's number, 0 for an object
abbrev pub number_told : Outcome → ℕ
number_told (object n) = 0
number_told (refusal number line needed) = number

-- the refusal's line
abbrev pub line_told : Outcome → ℕ
line_told (object n) = 0
line_told (refusal number line needed) = line

-- the object's length, or the length needed
abbrev pub length_told : Outcome → ℕ
length_told (object n) = n
length_told (refusal number line needed) = needed
