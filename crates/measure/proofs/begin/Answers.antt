-- `measure::begin` meets its contract. Assumes nothing.
use mathlib.Core.Path.{◌∙◌, ap}
use Rattle.elf.specs.Elf.{header_bytes}
use Rattle.elf.specs.Entries.{header_of, null_section}
use Rattle.elf.specs.declared.Section.{Section}
use Rattle.measure.proofs.Table.{row_over}
use Rattle.measure.proofs.begin.Goals as goal

pub returns-clause-table_after : goal.returns-clause-table_after
returns-clause-table_after c =
    row_over c.args.table.now _ 0 null_section (c.put.ensures ∙ ap (λ (s : Section). header_bytes (header_of s)) c.null.ensures)
