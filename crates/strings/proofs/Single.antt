-- Single outcomes: two outcomes that meet the promise of a public function of this crate are equal.
use mathlib.Core.Path.{sym, ◌∙◌}
use Rattle.octets.proofs.Single.{OneExit}
use Rattle.strings.proofs.put_strings.Kinds as put_strings_kinds
use Rattle.strings.proofs.put_strings.Reads as put-strings

put_strings_single : OneExit put_strings_kinds.ps put_strings_kinds.r put-strings.Post (λ κs e. e.0.now)
put_strings_single κs a z z' e e' p p' = p ∙ sym p'
