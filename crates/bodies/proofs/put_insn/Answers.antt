-- `bodies::put_insn` meets its contract. Assumes nothing.
use mathlib.Core.Path.{◌∙◌}
use Rattle.lines.specs.Bytes.{bytes}
use Rattle.bodies.proofs.Frames.{insn_read}
use Rattle.bodies.proofs.put_insn.Goals as goal

pub returns : goal.returns
returns c =
    c.copy.ensures
    ∙ insn_read (bytes c.args.line) c.to_le_bytes-bytes.result c.new-insn.result _ _ _ _ _ c.requires.line_len c.to_le_bytes-bytes.ensures c.new-insn.ensures
    c.byte_at-code.ensures c.byte_at-dst.ensures c.byte_at-src.ensures c.number_at-off.ensures.value c.number_at-imm.ensures.value
