-- Single outcomes: two outcomes that meet the promise of `measure` are equal.
use mathlib.Core.Path.{sym, ◌∙◌}
use Rattle.octets.proofs.Single.{OneResult, OneExit}
use Rattle.measure.proofs.measure.Kinds as measure_kinds
use Rattle.measure.proofs.measure.Reads as measure

measure_single : OneResult measure_kinds.ps measure_kinds.r measure.Post
measure_single κs a z z' e e' p p' = p.1.0 ∙ sym p'.1.0

measure_exit : OneExit measure_kinds.ps measure_kinds.r measure.Post (λ κs e. e.1.0.now)
measure_exit κs a z z' e e' p p' = p.0 ∙ sym p'.0
