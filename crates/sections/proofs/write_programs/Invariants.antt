-- `sections::write_programs` meets its contract. The loop's invariant: the programs so far are written, and the others are still to come.
-- Assumes nothing.
use lib.ListN.{drop}
use Rattle.sections.specs.Pieces.{program_pieces}
use Rattle.sections.proofs.Turns.{Turn}
use Rattle.sections.proofs.write_programs.Given as goal

abbrev pub invariant-loop-program : goal.invariant-loop-program
invariant-loop-program l =
    Turn l.initial.out l.start (program_pieces l.text l.object.slots l.programs) l.out l.end (program_pieces l.text l.object.slots (drop l.program-index l.programs))
