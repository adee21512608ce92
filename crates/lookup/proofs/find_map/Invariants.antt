-- `lookup::find_map` meets its contract: no map from `i` on has the name. Assumes nothing.
use mathlib.Core.Path.{◌≡◌}
use lib.ListN.{take}
use Rattle.lines.specs.Bytes.{bytes}
use Rattle.ast.specs.Job.{last_map}
use Rattle.object.specs.Read.{maps_in}
use Rattle.lookup.proofs.find_map.Given as goal

abbrev pub invariant-loop-i : goal.invariant-loop-i
invariant-loop-i l = last_map (bytes l.name) (maps_in l.text l.maps) ≡ last_map (bytes l.name) (maps_in l.text (take l.i l.maps))
