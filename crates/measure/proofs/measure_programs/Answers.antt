-- `measure::measure_programs` meets its contract. Assumes nothing.
use mathlib.Core.Path.{◌≡◌, refl, sym, ◌∙◌, ap, subst}
use mathlib.Core.List.{[], ◌∷◌, ◌++◌}
use Prim.Native.Nat.{ℕ, suc, ◌+◌, ◌*◌, ◌≤◌}
use native.Mathlib.Omega.{arith}
use lib.ListN.{length, drop, get_or, drop_of_length-le}
use Rattle.octets.proofs.Going.{go_start, go_as, go_on, go_done}
use Rattle.object.specs.Tables.{no_program}
use Rattle.elf.specs.Headers.{headers_bytes}
use Rattle.elf.proofs.Headers.{headers_length, headers_append}
use Rattle.strtab.proofs.Rows.{program_from}
use Rattle.measure.specs.declared.Measuring.{Measuring}
use Rattle.measure.specs.Measured.{programmed, program_row, after_programs, program_rows, Low, ShortNames}
use Rattle.measure.proofs.Programs.{rows_few, row_count}
use Rattle.measure.proofs.measure_programs.Invariants.{heads}
use Rattle.measure.proofs.measure_programs.Goals as goal

pub loop-program-init : goal.loop-program-init
loop-program-init c =
    let a = c.args in
    let ps = a.programs.now in
    let room : 64 * a.start.count + length (heads a.start a.symtab ps) ≤ length a.table.now = omega (arith, headers_length (program_rows a.start a.symtab ps), rows_few a.start a.symtab ps) in
    (c.requires.low, refl, go_start a.table.now (64 * a.start.count) (heads a.start a.symtab ps) room, omega arith, c.requires.symtab_bound.1)

pub loop-program-preserved : goal.loop-program-preserved
loop-program-preserved c =
    let l = c.loop-program in
    let a = c.args in
    let i = l.program-index in
    let ps = a.programs.now in
    let p = get_or ps i no_program in
    let next = drop (i + 1) ps in
    let row = program_row l.m a.symtab p in
    let m = programmed l.m a.symtab p in
    let f : drop i ps ≡ p ∷ next = program_from ps i (omega arith) in
    let e : c.measure_program-m.result ≡ m = c.measure_program-m.ensures.value in
    let split : heads l.m a.symtab (drop i ps) ≡ headers_bytes row ++ heads m a.symtab next = ap (heads l.m a.symtab) f ∙ headers_append row (program_rows m a.symtab next) in
    let at : 64 * m.count ≡ 64 * l.m.count + length (headers_bytes row) = omega (arith, row_count l.m a.symtab p, headers_length row) in
    let going = go_on (headers_bytes row) (heads m a.symtab next) _ (64 * m.count) (go_as _ split l.invariant.2) c.measure_program-m.ensures.table_after at in
    let two : 4 + 2 * (i + 1) ≡ suc (suc (4 + 2 * i)) = omega arith in (
      subst (λ (k : ℕ). Low k c.measure_program-m.result) (sym two) (c.measure_program-m.ensures.by_index (4 + 2 * i) l.invariant.0),
      ap (λ (x : Measuring). after_programs x a.symtab next) e ∙ sym (ap (after_programs l.m a.symtab) f) ∙ l.invariant.1,
      rw e going,
      l.invariant.3,
      (subst ShortNames f l.invariant.4).1,
    )

pub measure_program-m-requires-clause-symtab_bound : goal.measure_program-m-requires-clause-symtab_bound
measure_program-m-requires-clause-symtab_bound c =
    let i = c.loop-program.program-index in
    let ps = c.args.programs.now in
    let f : drop i ps ≡ get_or ps i no_program ∷ drop (i + 1) ps = program_from ps i (omega arith) in
    (c.requires.symtab_bound.0, (subst ShortNames f c.loop-program.invariant.4).0)

pub returns-clause-table_after : goal.returns-clause-table_after
returns-clause-table_after c =
    let l = c.loop-program in
    let none : drop l.program-index c.args.programs.now ≡ [] = drop_of_length-le c.args.programs.now (omega arith) in
    (go_done (go_as [] (ap (heads l.m c.args.symtab) none) l.invariant.2)).0
