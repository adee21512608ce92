-- `strtab::put_names` meets its contract. Assumes nothing.
use lib.ListN.{drop}
use Rattle.octets.proofs.Going.{Going}
use Rattle.elf.specs.Row.{joined}
use Rattle.strtab.specs.Rows.{names_in}
use Rattle.strtab.proofs.put_names.Given as goal

abbrev pub invariant-loop-item : goal.invariant-loop-item
invariant-loop-item g l =
    let symbol = g.T.Symbolled.symbol in
    Going l.initial.out l.fn.start (joined (names_in symbol l.text l.row)) l.out l.at (joined (names_in symbol l.text (drop l.item-index l.row)))
