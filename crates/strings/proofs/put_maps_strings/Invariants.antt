-- `strings::put_maps_strings` meets its contract. Assumes nothing.
use Rattle.spans.proofs.StringRows.{StringsTurn}
use Rattle.strings.proofs.put_maps_strings.Given as goal

abbrev pub invariant-loop-map : goal.invariant-loop-map
invariant-loop-map l = StringsTurn l.text l.maps l.at l.initial.out l.out l.place l.map-index
