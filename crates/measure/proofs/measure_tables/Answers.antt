-- `measure::measure_tables` meets its contract. Assumes nothing.
use mathlib.Core.Path.{◌≡◌}
use mathlib.Core.List.{[], ◌∷◌}
use Prim.Native.Nat.{◌+◌}
use native.Mathlib.Omega.{arith}
use borrow.Author.Rules.{rules}
use Rattle.elf.specs.Added.{one, eight}
use Rattle.measure.specs.Measured.{symtab_at, with_symbols, strtab_at, with_strings, shstrtab_at}
use Rattle.measure.proofs.Table.{Has, has_on}
use Rattle.measure.proofs.measure_tables.Goals as goal

pub align_to-at-requires-clause-alignment : goal.align_to-at-requires-clause-alignment
align_to-at-requires-clause-alignment c = eight

pub add_plain-with_strings-requires-clause-alignment : goal.add_plain-with_strings-requires-clause-alignment
add_plain-with_strings-requires-clause-alignment c = one

pub add_plain-requires-clause-alignment : goal.add_plain-requires-clause-alignment
add_plain-requires-clause-alignment c = one

pub returns-clause-table_after : goal.returns-clause-table_after
returns-clause-table_after c =
    let a = c.args in
    let m = a.m in
    let first : Has a.table.now m.count c.add_section-with_symbols.new.table (symtab_at m a.symbols ∷ []) = record { is = rw c.align_to-at.ensures at c.add_section-with_symbols.ensures.table_after; room = omega arith } in
    let s : c.add_section-with_symbols.result ≡ with_symbols m a.symbols = search rules in
    let second = has_on _ (m.count + 1) (strtab_at m a.symbols a.strtab ∷ []) first (rw s at c.add_plain-with_strings.ensures.table_after) (omega arith) (omega arith) in
    let t : c.add_plain-with_strings.result ≡ with_strings m a.symbols a.strtab = search rules in
    let third = has_on _ (m.count + 1 + 1) (shstrtab_at m a.symbols a.strtab ∷ []) second (rw t at c.add_plain.ensures.table_after) (omega arith) (omega arith) in
    third.is
