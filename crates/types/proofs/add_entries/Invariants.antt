-- `types::add_entries` meets its contract. Assumes nothing.
use Rattle.spans.proofs.Decls.{EntriesTurn}
use Rattle.types.proofs.add_entries.Given as goal

abbrev pub invariant-loop-map : goal.invariant-loop-map
invariant-loop-map l = EntriesTurn l.maps l.initial.done l.initial.out l.out l.done l.next l.offset l.map-index
