-- `bodies::put_code` meets its contract. The loop's invariant: where the next line starts, that the lines left are frames, and that the
-- code of those before them is written. Assumes nothing.
use mathlib.Core.Path.{◌≡◌}
use lib.ListN.{drop}
use Rattle.octets.proofs.Filling.{Filling}
use Rattle.lines.specs.Lines.{lines as rows}
use Rattle.object.specs.Read.{code_of, body}
use Rattle.object.specs.Kept.{AllFrames}
use Rattle.bodies.proofs.put_code.Given as goal

abbrev pub invariant-loop-i : goal.invariant-loop-i
invariant-loop-i l =
    (drop l.i (rows (drop l.from l.text)) ≡ rows (drop l.start l.text)) × AllFrames (drop l.i (body l.text l.from l.lines))
    × Filling (code_of (body l.text l.from l.lines)) l.out l.at (code_of (drop l.i (body l.text l.from l.lines)))
