-- `symbols::put_program_symbols` meets its contract. Assumes nothing.
use Rattle.strtab.proofs.Rows.{ProgramTurn}
use Rattle.symbols.proofs.put_program_symbols.Given as goal

abbrev pub invariant-loop-program : goal.invariant-loop-program
invariant-loop-program l = ProgramTurn l.text l.programs l.first l.start l.names l.initial.out l.out l.at l.place l.section l.program-index
