-- `btf::put_words` meets its contract. Assumes nothing.
use lib.ListN.{drop}
use Rattle.octets.proofs.Going.{Going}
use Rattle.btf.specs.Builder.{words}
use Rattle.btf.proofs.put_words.Given as goal

abbrev pub invariant-loop-value : goal.invariant-loop-value
invariant-loop-value l = Going l.initial.out l.at (words l.values) l.out l.place (words (drop l.value-index l.values))
