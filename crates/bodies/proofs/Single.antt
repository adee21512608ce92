-- Single outcomes: two outcomes that meet the promise of a public function of this crate are equal.
use mathlib.Core.Path.{sym, ◌∙◌}
use Rattle.octets.proofs.Single.{OneExit}
use Rattle.bodies.proofs.put_code.Kinds as put_code_kinds
use Rattle.bodies.proofs.put_code.Reads as put_code

put_code_single : OneExit put_code_kinds.ps put_code_kinds.r put_code.Post (λ κs e. e.0.now)
put_code_single κs a z z' e e' p p' = p ∙ sym p'
