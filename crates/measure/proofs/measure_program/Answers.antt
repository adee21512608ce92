-- `measure::measure_program` meets its contract. Assumes nothing.
use mathlib.Core.Path.{◌≡◌}
use mathlib.Core.Bool.{false}
use mathlib.Core.List.{[], ◌∷◌}
use Prim.Native.Nat.{◌+◌}
use native.Mathlib.Omega.{arith}
use lib.Dec.{eqb}
use borrow.Author.Rules.{rules}
use borrow.Author.Tests.{ne_eqb}
use Rattle.elf.specs.Added.{eight}
use Rattle.measure.specs.Measured.{code_at, coded, rel_of}
use Rattle.measure.proofs.Table.{Has, has_on}
use Rattle.measure.proofs.measure_program.Goals as goal

pub plain-code-requires-clause-alignment : goal.plain-code-requires-clause-alignment
plain-code-requires-clause-alignment c = eight

pub returns-clause-table_after : goal.returns-clause-table_after
returns-clause-table_after c =
    let a = c.args in
    let m = a.m in
    let p = a.program in
    let some : eqb p.relocs 0 ≡ false = ne_eqb p.relocs 0 (omega arith) in
    let first : Has a.table.now m.count c.add_section-coded.new.table (code_at m p ∷ []) = record { is = rw c.plain-code.ensures at c.add_section-coded.ensures.table_after; room = omega arith } in
    let s : c.add_section-coded.result ≡ coded m p = search rules in
    let e : c.rel-entries.result ≡ rel_of m a.symtab p = search rules in
    let second = has_on _ (m.count + 1) (rel_of m a.symtab p ∷ []) first (rw (s, e) at c.add_section.ensures.table_after) (omega arith) (omega arith) in
    rw some second.is
