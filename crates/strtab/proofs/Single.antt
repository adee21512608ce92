-- Single outcomes: two outcomes that meet the promise of a public function of this crate are equal.
use mathlib.Core.Path.{sym, ◌∙◌}
use Rattle.octets.proofs.Single.{OneResult, OneExit}
use Rattle.strtab.proofs.strtab_size.Kinds as strtab_size_kinds
use Rattle.strtab.proofs.strtab_size.Reads as strtab_size
use Rattle.strtab.proofs.put_strtab.Kinds as put_strtab_kinds
use Rattle.strtab.proofs.put_strtab.Reads as put_strtab
use Rattle.strtab.proofs.section_behind.Kinds as section_behind_kinds
use Rattle.strtab.proofs.section_behind.Reads as section_behind
use Rattle.strtab.proofs.first_program.Kinds as first_program_kinds
use Rattle.strtab.proofs.first_program.Reads as first_program

strtab_size_single : OneResult strtab_size_kinds.ps strtab_size_kinds.r strtab_size.Post
strtab_size_single κs a z z' e e' p p' = p.0 ∙ sym p'.0

put_strtab_single : OneExit put_strtab_kinds.ps put_strtab_kinds.r put_strtab.Post (λ κs e. e.0.now)
put_strtab_single κs a z z' e e' p p' = p ∙ sym p'

section_behind_single : OneResult section_behind_kinds.ps section_behind_kinds.r section_behind.Post
section_behind_single κs a z z' e e' p p' = p.0 ∙ sym p'.0

first_program_single : OneResult first_program_kinds.ps first_program_kinds.r first_program.Post
first_program_single κs a z z' e e' p p' = p.0 ∙ sym p'.0
