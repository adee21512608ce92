-- `octets::put_fields` meets its contract. Assumes nothing.
use Rattle.octets.specs.Fields.{fields}
use Rattle.octets.proofs.Filling.{Filling}
use Rattle.octets.proofs.put_fields.Given as goal

abbrev pub invariant-loop-width : goal.invariant-loop-width
invariant-loop-width l =
    Filling (fields l.widths l.values) l.out l.at (fields l.width-iterator.a.rest.now l.width-iterator.b.rest.now)
