-- Single outcomes: two outcomes that meet the promise of a public function of this crate are equal.
use mathlib.Core.Path.{sym, ◌∙◌}
use Rattle.octets.proofs.Single.{OneResult}
use Rattle.insn.proofs.Insn.new.Kinds as insn_new_kinds
use Rattle.insn.proofs.Insn.new.Reads as insn_new
use Rattle.insn.proofs.Insn.to_le_bytes.Kinds as insn_to_le_bytes_kinds
use Rattle.insn.proofs.Insn.to_le_bytes.Reads as insn_to_le_bytes

insn_new_single : OneResult insn_new_kinds.ps insn_new_kinds.r insn_new.Post
insn_new_single κs a z z' e e' p p' = p ∙ sym p'

insn_to_le_bytes_single : OneResult insn_to_le_bytes_kinds.ps insn_to_le_bytes_kinds.r insn_to_le_bytes.Post
insn_to_le_bytes_single κs a z z' e e' p p' = p ∙ sym p'
