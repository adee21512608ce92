-- `named::hex_of` meets its contract. Assumes nothing.
use Rattle.object.proofs.Names.{part_hex, part_name}
use Rattle.named.proofs.hex_of.Goals as goal

pub invariant_of-result : goal.invariant_of-result
invariant_of-result c = record { hex = part_hex c.args.text.now c.args.name c.requires }

pub returns : goal.returns
returns c = part_name c.args.text.now c.args.name c.requires
