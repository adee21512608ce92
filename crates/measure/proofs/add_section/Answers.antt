-- `measure::add_section` meets its contract. Assumes nothing.
use Prim.Native.Nat.{◌*◌}
use Rattle.measure.proofs.Table.{row_over}
use Rattle.measure.proofs.add_section.Goals as goal

pub returns-clause-table_after : goal.returns-clause-table_after
returns-clause-table_after c = row_over c.args.table.now _ (64 * c.args.m.count) c.args.section c.put.ensures
