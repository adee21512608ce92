-- `elf::align_to` meets its contract. Assumes nothing.
use Rattle.elf.proofs.Laws.{align_mask}
use Rattle.elf.proofs.align_to.Goals as goal

pub returns-else-align-le1 : goal.returns-else-align-le1
returns-else-align-le1 c = align_mask c.args.align c.args.value c.requires.alignment c.requires.align_bound
