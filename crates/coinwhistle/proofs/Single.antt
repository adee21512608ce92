-- Single outcomes: two outcomes that meet the promise of `coinwhistle_make` are equal, in the result and in all that is lent.
use mathlib.Core.Path.{sym, ◌∙◌, ap}
use mathlib.Core.List.{[], ◌∷◌}
use Rattle.octets.proofs.Single.{OneResult, OneExit}
use Rattle.coinwhistle.proofs.coinwhistle_make.Kinds as coinwhistle_make_kinds
use Rattle.coinwhistle.proofs.coinwhistle_make.Reads as coinwhistle_make

coinwhistle_make_single : OneResult coinwhistle_make_kinds.ps coinwhistle_make_kinds.r coinwhistle_make.Post
coinwhistle_make_single κs a z z' e e' p p' = p.0 ∙ sym p'.0

coinwhistle_make_bytes : OneExit coinwhistle_make_kinds.ps coinwhistle_make_kinds.r coinwhistle_make.Post (λ κs e. e.1.0.now)
coinwhistle_make_bytes κs a z z' e e' p p' = p.1.1.1 ∙ sym p'.1.1.1

coinwhistle_make_line : OneExit coinwhistle_make_kinds.ps coinwhistle_make_kinds.r coinwhistle_make.Post (λ κs e. e.1.1.0.now ∷ [])
coinwhistle_make_line κs a z z' e e' p p' = ap (λ n. n ∷ []) (p.1.0 ∙ sym p'.1.0)

coinwhistle_make_length : OneExit coinwhistle_make_kinds.ps coinwhistle_make_kinds.r coinwhistle_make.Post (λ κs e. e.1.1.1.0.now ∷ [])
coinwhistle_make_length κs a z z' e e' p p' = ap (λ n. n ∷ []) (p.1.1.0 ∙ sym p'.1.1.0)
