-- `symbols::put_map_symbols` meets its contract. Assumes nothing.
use Rattle.strtab.proofs.Rows.{MapTurn}
use Rattle.symbols.proofs.put_map_symbols.Given as goal

abbrev pub invariant-loop-map : goal.invariant-loop-map
invariant-loop-map l = MapTurn l.text l.maps l.initial.out l.out l.at l.place l.value l.map-index
