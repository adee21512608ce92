-- `frames::read_program` meets its contract. Assumes nothing.
use mathlib.Core.Path.{ap, ◌∙◌}
use native.Mathlib.Omega.{arith}
use Rattle.octets.specs.Told.{told}
use Rattle.lines.specs.Bytes.{bytes}
use Rattle.frames.proofs.Laws.{program_short, program_ok, program_over}
use Rattle.frames.proofs.read_program.Goals as goal

pub returns-then-len-lt2-clause-result_value : goal.returns-then-len-lt2-clause-result_value
returns-then-len-lt2-clause-result_value c = ap (told 3) (program_short (bytes c.args.line) (omega arith))

pub returns-then-n-len : goal.returns-then-n-len
returns-then-n-len c = record {
  result_value = ap (told 3) (program_ok (bytes c.args.line) _ (c.from-n.ensures ∙ c.byte_at.ensures) (omega arith) (omega arith));
  placed_read = (omega arith, omega arith);
}

pub returns-clause-result_value : goal.returns-clause-result_value
returns-clause-result_value c = ap (told 3) (program_over (bytes c.args.line) _ (c.from-n.ensures ∙ c.byte_at.ensures) (omega arith) (omega arith))
