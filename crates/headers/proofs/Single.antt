-- Single outcome: two outcomes that meet the promise of `build_shstrtab` are equal.
use mathlib.Core.Path.{sym, ◌∙◌}
use Rattle.octets.proofs.Single.{OneExit}
use Rattle.headers.proofs.build_shstrtab.Kinds as build_shstrtab_kinds
use Rattle.headers.proofs.build_shstrtab.Reads as build_shstrtab

build_shstrtab_single : OneExit build_shstrtab_kinds.ps build_shstrtab_kinds.r build_shstrtab.Post (λ κs e. e.0.now)
build_shstrtab_single κs a z z' e e' p p' = p ∙ sym p'
