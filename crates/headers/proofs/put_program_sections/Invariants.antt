-- `headers::put_program_sections` meets its contract. The loop's invariant: the names so far are there, and the rest is still to come.
-- Assumes nothing.
use Rattle.octets.proofs.Going.{Going}
use Rattle.elf.specs.Row.{joined}
use Rattle.headers.specs.Names.{program_section_names}
use Rattle.headers.proofs.Names.{names_from}
use Rattle.headers.proofs.put_program_sections.Given as goal

abbrev pub invariant-loop-program : goal.invariant-loop-program
invariant-loop-program l =
    Going l.initial.out l.fn.start (joined (program_section_names l.text l.programs)) l.out l.at (joined (names_from l.text l.programs l.program-index))
