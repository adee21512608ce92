-- Single outcomes: two outcomes that meet the promise of a public function of this crate are equal.
use mathlib.Core.Path.{◌≡◌, refl, sym, ◌∙◌}
use Rattle.octets.proofs.Single.{OneResult}
use Rattle.utf8.specs.Wait.{wait_of, decoded_told}
use Rattle.utf8.specs.declared.Wait.{Wait}
use Rattle.utf8.specs.declared.Next.{Next}
use Rattle.std.specs.Prelude.{Option, None, Some}
use Rattle.utf8.specs.declared.Stepped.{Stepped}
use Rattle.utf8.proofs.Wait.idle.Kinds as idle_kinds
use Rattle.utf8.proofs.Wait.idle.Reads as idle
use Rattle.utf8.proofs.step.Kinds as step_kinds
use Rattle.utf8.proofs.step.Reads as step
use Rattle.utf8.proofs.is_ascii.Kinds as is_ascii_kinds
use Rattle.utf8.proofs.is_ascii.Reads as is_ascii
use Rattle.utf8.proofs.is_text.Kinds as is_text_kinds
use Rattle.utf8.proofs.is_text.Reads as is_text
use Rattle.utf8.proofs.has_zero.Kinds as has_zero_kinds
use Rattle.utf8.proofs.has_zero.Reads as has_zero

idle_single : OneResult idle_kinds.ps idle_kinds.r idle.Post
idle_single κs a z z' e e' p p' = p ∙ sym p'

-- a state of the code has the fields of the model's
wait_once : (w v : Wait) → wait_of w ≡ wait_of v → w ≡ v
wait_once w v e = λ i. record { left = (e i).left; bits = (e i).bits; least = (e i).least }

decoded_once : (r s : Option Next) → decoded_told r ≡ decoded_told s → r ≡ s
decoded_once (Some n) (Some m) e = cc
decoded_once (Some n) None e = cc
decoded_once None (Some m) e = cc
decoded_once None None e = refl

stepped_once : (r s : Stepped) → r.answer ≡ s.answer → r.wait ≡ s.wait → r ≡ s
stepped_once r s e f = λ i. record { answer = e i; wait = f i }

step_single : OneResult step_kinds.ps step_kinds.r step.Post
step_single κs a z z' e e' p p' =
    stepped_once z z' (decoded_once _ _ (p.0 ∙ sym p'.0)) (wait_once _ _ (p.1.0 ∙ sym p'.1.0))

is_ascii_single : OneResult is_ascii_kinds.ps is_ascii_kinds.r is_ascii.Post
is_ascii_single κs a z z' e e' p p' = p ∙ sym p'

is_text_single : OneResult is_text_kinds.ps is_text_kinds.r is_text.Post
is_text_single κs a z z' e e' p p' = p ∙ sym p'

has_zero_single : OneResult has_zero_kinds.ps has_zero_kinds.r has_zero.Post
has_zero_single κs a z z' e e' p p' = p ∙ sym p'
