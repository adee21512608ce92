-- `utf8::is_ascii` meets its contract. Assumes nothing.
use mathlib.Core.Path.{◌≡◌}
use mathlib.Core.Bool.{◌&&◌}
use lib.ListN.{drop}
use Rattle.lines.specs.Bytes.{bytes}
use Rattle.utf8.specs.Utf8.{all_ascii}
use Rattle.utf8.proofs.is_ascii.Given as goal

abbrev pub invariant-loop-i : goal.invariant-loop-i
invariant-loop-i l = all_ascii (bytes l.s) ≡ (l.all && all_ascii (drop l.i (bytes l.s)))
