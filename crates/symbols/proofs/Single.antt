-- Single outcomes: two outcomes that meet the promise of a public function of this crate are equal.
use mathlib.Core.Path.{sym, ◌∙◌}
use Rattle.octets.proofs.Single.{OneExit}
use Rattle.symbols.proofs.build_symtab.Kinds as build_symtab_kinds
use Rattle.symbols.proofs.build_symtab.Reads as build_symtab

build_symtab_single : OneExit build_symtab_kinds.ps build_symtab_kinds.r build_symtab.Post (λ κs e. e.0.now)
build_symtab_single κs a z z' e e' p p' = p ∙ sym p'
