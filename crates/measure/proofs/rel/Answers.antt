-- `measure::rel` meets its contract. Assumes nothing.
use Rattle.elf.specs.Added.{eight}
use Rattle.measure.proofs.rel.Goals as goal

pub align_to-at-requires-clause-alignment : goal.align_to-at-requires-clause-alignment
align_to-at-requires-clause-alignment c = eight
