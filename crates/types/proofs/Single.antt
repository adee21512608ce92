-- Single outcomes: two outcomes that meet the promise of a public function of this crate are equal.
use mathlib.Core.Path.{sym, ◌∙◌}
use Rattle.octets.proofs.Single.{OneExit}
use Rattle.types.proofs.build_btf.Kinds as build_btf_kinds
use Rattle.types.proofs.build_btf.Reads as build_btf

build_btf_single : OneExit build_btf_kinds.ps build_btf_kinds.r build_btf.Post (λ κs e. e.0.now)
build_btf_single κs a z z' e e' p p' = p ∙ sym p'
