-- What the reading of a listed number answers.
use Rattle.std.specs.Prelude.{Result, Ok, Err}
use Rattle.octets.specs.Told.{Told, gives, refuses}
use Rattle.ast.specs.declared.Unlisted.{Unlisted}

-- the type of the number; a number that is not listed is refused 3
abbrev pub listed_told : {A : Type 0} → Result A Unlisted → Told A
listed_told (Ok a) = gives a
listed_told (Err e) = refuses 3
