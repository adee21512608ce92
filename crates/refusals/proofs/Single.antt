-- Single outcomes: two outcomes that meet the promise of a public function of this crate are equal.
use mathlib.Core.Path.{sym, ◌∙◌}
use Rattle.octets.proofs.Single.{OneResult}
use Rattle.refusals.proofs.Refusal.number.Kinds as refusal_number_kinds
use Rattle.refusals.proofs.Refusal.number.Reads as refusal_number
use Rattle.refusals.proofs.Refusal.line.Kinds as refusal_line_kinds
use Rattle.refusals.proofs.Refusal.line.Reads as refusal_line
use Rattle.refusals.proofs.Refusal.needed.Kinds as refusal_needed_kinds
use Rattle.refusals.proofs.Refusal.needed.Reads as refusal_needed

refusal_number_single : OneResult refusal_number_kinds.ps refusal_number_kinds.r refusal_number.Post
refusal_number_single κs a z z' e e' p p' = p ∙ sym p'

refusal_line_single : OneResult refusal_line_kinds.ps refusal_line_kinds.r refusal_line.Post
refusal_line_single κs a z z' e e' p p' = p ∙ sym p'

refusal_needed_single : OneResult refusal_needed_kinds.ps refusal_needed_kinds.r refusal_needed.Post
refusal_needed_single κs a z z' e e' p p' = p ∙ sym p'
