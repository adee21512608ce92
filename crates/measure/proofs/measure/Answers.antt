-- `measure::measure` meets its contract. Assumes nothing.
use mathlib.Core.Path.{◌≡◌, ◌∙◌, ap}
use mathlib.Core.List.{List, ◌++◌}
use Prim.Native.Nat.{◌+◌}
use native.Mathlib.Omega.{arith}
use lib.ListN.{length, take, length-append}
use lib.Seq.{length-take-le}
use borrow.Author.Rules.{rules}
use Rattle.octets.specs.Over.{over}
use Rattle.elf.specs.Added.{eight}
use Rattle.elf.specs.declared.Section as code
use Rattle.elf.specs.Headers.{headers_bytes}
use Rattle.measure.specs.Measured.{behind_all, front, front_rows, after_programs, program_rows, declared_rows, table_rows}
use Rattle.measure.proofs.Table.{Has, has_on, from_zero, front_count, front_few}
use Rattle.measure.proofs.Programs.{rows_few, rows_count, short_names}
use Rattle.measure.proofs.Whole.{after_all, whole_is}
use Rattle.measure.proofs.measure.Goals as goal

pub measure_declared-declared-requires-clause-first_bound : goal.measure_declared-declared-requires-clause-first_bound
measure_declared-declared-requires-clause-first_bound c =
    let o = c.args.object.now in
    (c.first_program-first.ensures.upper_bound, short_names c.args.text.now o.reloc_count (take o.program_count o.programs) c.requires.kept.programs)

pub align_to-at-requires-clause-alignment : goal.align_to-at-requires-clause-alignment
align_to-at-requires-clause-alignment c = eight

pub returns-clause-table_after : goal.returns-clause-table_after
returns-clause-table_after c =
    let z = c.args.sizes in
    let o = c.args.object.now in
    let n = o.map_count in
    let ps = take o.program_count o.programs in
    let first = c.first_program-first.result in
    let symtab = behind_all ps first in
    let heads = front_count z n in
    let low = front_few z n in
    let few = rows_few (front z n) symtab ps in
    let more = rows_count (front z n) symtab ps in
    let count = length-take-le o.program_count o.programs (omega (arith, c.requires.kept.sound)) in
    let m = after_programs (front z n) symtab ps in
    let same : c.unwrap-rows.result.now ≡ c.args.table.now = search rules in
    let before : Has c.args.table.now 0 c.measure_front-before.new.table (front_rows z n) = record { is = rw same at c.measure_front-before.ensures.table_after; room = omega arith } in
    let declared = has_on _ (front z n).count (declared_rows (front z n) first ps) before (rw c.measure_front-before.ensures.value at c.measure_declared-declared.ensures.table_after) (from_zero heads) (omega arith) in
    let d : c.measure_declared-declared.result ≡ m = search rules in
    let at : m.count ≡ length (front_rows z n ++ program_rows (front z n) symtab ps) = omega (arith, length-append (front_rows z n) (program_rows (front z n) symtab ps)) in
    let all = has_on _ m.count (table_rows m (2 + n + o.program_count) z.strtab) declared (rw d at c.measure_tables-whole.ensures.table_after) (from_zero at) (omega arith) in
    let w : c.measure_tables-whole.result ≡ after_all z o symtab = search rules in
    let whole = whole_is c.args.text.now o c.requires.kept z c.requires.sizes_of first c.align_to-at.result c.first_program-first.ensures.value (rw w at c.align_to-at.ensures) in
    all.is ∙ ap (λ (rows : List code.Section). over c.args.table.now 0 (headers_bytes rows)) whole.0

pub returns-clause-value : goal.returns-clause-value
returns-clause-value c =
    let o = c.args.object.now in
    let first = c.first_program-first.result in
    let w : c.measure_tables-whole.result ≡ after_all c.args.sizes o (behind_all (take o.program_count o.programs) first) = search rules in
    let whole = whole_is c.args.text.now o c.requires.kept c.args.sizes c.requires.sizes_of first c.align_to-at.result c.first_program-first.ensures.value (rw w at c.align_to-at.ensures) in
    rw w whole.1
