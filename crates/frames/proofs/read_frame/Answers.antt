-- `frames::read_frame` meets its contract. Assumes nothing.
use mathlib.Core.Path.{ap, ◌∙◌}
use native.Mathlib.Omega.{arith}
use Rattle.octets.specs.Told.{told}
use Rattle.lines.specs.Bytes.{bytes}
use Rattle.frames.proofs.Laws.{frame_1, frame_2, frame_3, frame_4, frame_5, frame_6, frame_other}
use Rattle.frames.proofs.read_frame.Goals as goal

pub returns-in-1-clause-result_value : goal.returns-in-1-clause-result_value
returns-in-1-clause-result_value c = ap (told 3) (frame_1 (bytes c.args.line) _ c.byte_at-kind.ensures c.requires c.in-1.is)

pub returns-in-2-clause-result_value : goal.returns-in-2-clause-result_value
returns-in-2-clause-result_value c = c.read_map.ensures.result_value ∙ ap (told 3) (frame_2 (bytes c.args.line) _ c.byte_at-kind.ensures c.requires c.in-2.is)

pub returns-in-3-clause-result_value : goal.returns-in-3-clause-result_value
returns-in-3-clause-result_value c = c.read_program.ensures.result_value ∙ ap (told 3) (frame_3 (bytes c.args.line) _ c.byte_at-kind.ensures c.requires c.in-3.is)

pub returns-in-4-clause-result_value : goal.returns-in-4-clause-result_value
returns-in-4-clause-result_value c = ap (told 3) (frame_4 (bytes c.args.line) _ c.byte_at-kind.ensures c.requires c.in-4.is)

pub returns-in-5-clause-result_value : goal.returns-in-5-clause-result_value
returns-in-5-clause-result_value c = c.read_relocation.ensures.result_value ∙ ap (told 3) (frame_5 (bytes c.args.line) _ c.byte_at-kind.ensures c.requires c.in-5.is)

pub returns-in-6-clause-result_value : goal.returns-in-6-clause-result_value
returns-in-6-clause-result_value c = c.read_instruction.ensures.result_value ∙ ap (told 3) (frame_6 (bytes c.args.line) _ c.byte_at-kind.ensures c.requires c.in-6.is)

pub returns-in_default-clause-result_value : goal.returns-in_default-clause-result_value
returns-in_default-clause-result_value c =
    let other = frame_other (bytes c.args.line) _ c.byte_at-kind.ensures c.requires
    (λ e. omega arith) (λ e. omega arith) (λ e. omega arith) (λ e. omega arith) (λ e. omega arith) (λ e. omega arith) in
    ap (told 3) other
