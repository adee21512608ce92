-- `written::put_points` meets its contract. Assumes nothing.
use mathlib.Core.Path.{◌≡◌}
use mathlib.Core.Bool.{true}
use mathlib.Core.List.{◌++◌}
use lib.ListN.{length, drop, take}
use Rattle.utf8.specs.Utf8.{points_from}
use Rattle.written.specs.Written.{written}
use Rattle.utf8.specs.Wait.{wait_of, Fine}
use Rattle.written.specs.Name.{rest_of}
use Rattle.utf8.proofs.Laws.{ok}
use Rattle.written.proofs.put_points.Given as goal

abbrev pub invariant-loop-b : goal.invariant-loop-b
invariant-loop-b l =
    Fine l.w × (length l.out ≡ length (written l.s)) × (ok (points_from (wait_of l.w) (drop l.b-index l.s)) ≡ true)
    × (written l.s ≡ take l.n l.out ++ rest_of l.n (points_from (wait_of l.w) (drop l.b-index l.s)))
