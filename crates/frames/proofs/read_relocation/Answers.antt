-- `frames::read_relocation` meets its contract. Assumes nothing.
use mathlib.Core.Path.{ap}
use native.Mathlib.Omega.{arith}
use Rattle.octets.specs.Told.{told}
use Rattle.lines.specs.Bytes.{bytes}
use Rattle.frames.proofs.Laws.{relocation_short, relocation_ok}
use Rattle.frames.proofs.read_relocation.Goals as goal

pub returns-then-len-lt9-clause-result_value : goal.returns-then-len-lt9-clause-result_value
returns-then-len-lt9-clause-result_value c = ap (told 3) (relocation_short (bytes c.args.line) (omega arith))

pub returns-clause-result_value : goal.returns-clause-result_value
returns-clause-result_value c = ap (told 3) (relocation_ok (bytes c.args.line) (omega arith))
