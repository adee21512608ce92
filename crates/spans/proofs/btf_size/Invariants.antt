-- `spans::btf_size` meets its contract. Assumes nothing.
use Rattle.spans.proofs.Sizes.{SizeTurn}
use Rattle.spans.proofs.btf_size.Given as goal

abbrev pub invariant-loop-map : goal.invariant-loop-map
invariant-loop-map l = SizeTurn l.text l.maps l.types l.strings l.map-index
