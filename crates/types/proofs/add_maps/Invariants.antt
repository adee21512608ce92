-- `types::add_maps` meets its contract. Assumes nothing.
use Rattle.spans.proofs.TypeRows.{TypesTurn}
use Rattle.types.proofs.add_maps.Given as goal

abbrev pub invariant-loop-map : goal.invariant-loop-map
invariant-loop-map l = TypesTurn l.text l.maps l.initial.next l.initial.out l.out l.next l.map-index
