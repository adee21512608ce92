-- `frames::U32Value::read` meets its contract. Assumes nothing.
use mathlib.Core.Path.{ap}
use native.Mathlib.Omega.{arith}
use Rattle.octets.specs.Told.{told}
use Rattle.lines.specs.Bytes.{bytes}
use Rattle.frames.proofs.Laws.{count_some}
use Rattle.frames.proofs.U32Value.read.Goals as goal

pub returns-clause-result_value : goal.returns-clause-result_value
returns-clause-result_value c = ap (told 3) (count_some (bytes c.args.line) c.args.at _ (omega arith) c.number_at-number.ensures.value)
