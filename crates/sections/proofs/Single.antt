-- Single outcomes: two outcomes that meet the promise of `write_sections` are equal.
use mathlib.Core.Path.{sym, ◌∙◌}
use Rattle.octets.proofs.Single.{OneResult, OneExit}
use Rattle.sections.proofs.write_sections.Kinds as write_sections_kinds
use Rattle.sections.proofs.write_sections.Reads as write_sections

write_sections_single : OneResult write_sections_kinds.ps write_sections_kinds.r write_sections.Post
write_sections_single κs a z z' e e' p p' = p.1 ∙ sym p'.1

write_sections_exit : OneExit write_sections_kinds.ps write_sections_kinds.r write_sections.Post (λ κs e. e.0.now)
write_sections_exit κs a z z' e e' p p' = p.0 ∙ sym p'.0
