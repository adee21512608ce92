-- `strtab::put_names` meets its contract. Assumes nothing.
use mathlib.Core.List.{[]}
use Rattle.std.proofs.lemmas.List.{at_drop_all}
use Rattle.octets.proofs.Going.{go_as, go_done}
use Rattle.elf.specs.Row.{joined}
use Rattle.strtab.specs.Rows.{names_in}
use Rattle.strtab.proofs.Rows.{names_on}
use Rattle.strtab.proofs.put_names.Goals as goal

pub loop-item-preserved : goal.loop-item-preserved
loop-item-preserved g c =
    let l = c.loop-item in
    let put = c.put_written-at.ensures in
    names_on g.T.Symbolled.symbol c.args.text.now c.args.row.now l.item-index c.item-item.result _ _ l.invariant c.loop-item-test.true c.item-item.is
    (rw c.symbol.ensures at put.out_after)
    (rw c.symbol.ensures at put.value)

pub returns : goal.returns
returns g c =
    let l = c.loop-item in
    let none = at_drop_all (λ xs. joined (names_in g.T.Symbolled.symbol c.args.text.now xs)) c.args.row.now l.item-index c.loop-item-test.false in
    let both = go_done (go_as [] none l.invariant) in
    record { out_after = both.0; value = both.1 }
