-- `frames::read_instruction` meets its contract. Assumes nothing.
use mathlib.Core.Path.{ap}
use native.Mathlib.Omega.{arith}
use Rattle.octets.specs.Told.{told}
use Rattle.lines.specs.Bytes.{bytes}
use Rattle.frames.proofs.Laws.{instruction_ok, instruction_bad}
use Rattle.frames.proofs.read_instruction.Goals as goal

pub returns-then-len-eq10-clause-result_value : goal.returns-then-len-eq10-clause-result_value
returns-then-len-eq10-clause-result_value c = ap (told 3) (instruction_ok (bytes c.args.line) (omega arith))

pub returns-clause-result_value : goal.returns-clause-result_value
returns-clause-result_value c = ap (told 3) (instruction_bad (bytes c.args.line) c.requires (λ e. c.if-len-eq10.false (omega arith)))
