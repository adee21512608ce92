-- `utf8::is_utf8` meets its contract. Assumes nothing.
use mathlib.Core.Path.{◌≡◌}
use lib.ListN.{drop}
use Rattle.lines.specs.Bytes.{bytes}
use Rattle.utf8.specs.Utf8.{is_text, points_from}
use Rattle.utf8.specs.Wait.{wait_of, Fine}
use Rattle.utf8.proofs.Laws.{ok}
use Rattle.utf8.proofs.is_utf8.Given as goal

abbrev pub invariant-loop-i : goal.invariant-loop-i
invariant-loop-i l = Fine l.w × (is_text (bytes l.s) ≡ ok (points_from (wait_of l.w) (drop l.i (bytes l.s))))
