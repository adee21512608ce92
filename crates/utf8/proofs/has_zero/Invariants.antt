-- `utf8::has_zero` meets its contract. Assumes nothing.
use mathlib.Core.Path.{◌≡◌}
use lib.ListN.{drop}
use Rattle.lines.specs.Bytes.{bytes}
use Rattle.utf8.specs.Utf8.{has_zero}
use Rattle.utf8.proofs.has_zero.Given as goal

abbrev pub invariant-loop-i : goal.invariant-loop-i
invariant-loop-i l = has_zero (bytes l.s) ≡ has_zero (drop l.i (bytes l.s))
