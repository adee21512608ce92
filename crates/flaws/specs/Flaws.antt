-- What is wrong with a frame's texts, as document 01's table numbers it.
use Rattle.std.specs.Prelude.{Result, Ok, Err}
use Rattle.octets.specs.Told.{Told, gives, refuses}
use Rattle.flaws.specs.declared.NotText.{NotText}
use Rattle.flaws.specs.declared.OverLimit.{OverLimit}

abbrev pub flaw_told : Result (Unit {0}) NotText → Told (Unit {0})
flaw_told (Ok u) = gives tt
flaw_told (Err e) = refuses 5

abbrev pub limit_told : Result (Unit {0}) OverLimit → Told (Unit {0})
limit_told (Ok u) = gives tt
limit_told (Err e) = refuses 6
