-- `measure::measure_programs` meets its contract. The loop's invariant: the programs so far are measured, and the others are still to come.
-- Assumes nothing.
use mathlib.Core.Path.{◌≡◌}
use mathlib.Core.List.{List}
use Prim.Native.Nat.{ℕ, ◌+◌, ◌*◌}
use lib.ListN.{length, drop}
use Rattle.octets.proofs.Going.{Going}
use Rattle.object.specs.declared.Program.{Program}
use Rattle.elf.specs.Headers.{headers_bytes}
use Rattle.measure.specs.declared.Measuring.{Measuring}
use Rattle.measure.specs.Measured.{after_programs, program_rows, Low, ShortNames}
use Rattle.measure.proofs.measure_programs.Given as goal

-- the headers of programs
abbrev pub heads : Measuring → ℕ → List Program → List ℕ
heads m symtab ps = headers_bytes (program_rows m symtab ps)

abbrev pub invariant-loop-program : goal.invariant-loop-program
invariant-loop-program l =
    Low (4 + 2 * l.program-index) l.m
    × (after_programs l.m l.symtab (drop l.program-index l.programs) ≡ after_programs l.initial.m l.symtab l.programs)
    × Going l.initial.table (64 * l.initial.m.count) (heads l.initial.m l.symtab l.programs) l.table (64 * l.m.count) (heads l.m l.symtab (drop l.program-index l.programs))
    × (length l.initial.table ≡ 4544) × ShortNames (drop l.program-index l.programs)
