-- Single outcomes: two outcomes that meet the promise of a public function of this crate are equal.
use mathlib.Core.Path.{sym, ◌∙◌}
use Rattle.octets.proofs.Single.{OneResult, OneExit}
use Rattle.contents.proofs.license_len.Kinds as license_len_kinds
use Rattle.contents.proofs.license_len.Reads as license_len
use Rattle.contents.proofs.put_license.Kinds as put_license_kinds
use Rattle.contents.proofs.put_license.Reads as put_license
use Rattle.contents.proofs.put_rels.Kinds as put_rels_kinds
use Rattle.contents.proofs.put_rels.Reads as put_rels

license_len_single : OneResult license_len_kinds.ps license_len_kinds.r license_len.Post
license_len_single κs a z z' e e' p p' = p ∙ sym p'

put_license_single : OneExit put_license_kinds.ps put_license_kinds.r put_license.Post (λ κs e. e.0.now)
put_license_single κs a z z' e e' p p' = p ∙ sym p'

put_rels_single : OneExit put_rels_kinds.ps put_rels_kinds.r put_rels.Post (λ κs e. e.0.now)
put_rels_single κs a z z' e e' p p' = p ∙ sym p'
