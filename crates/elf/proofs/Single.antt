-- Single outcomes: two outcomes that meet the promise of a public function of this crate are equal.
use mathlib.Core.Path.{sym, ◌∙◌}
use Rattle.octets.proofs.Single.{OneResult, OneExit}
use Rattle.elf.proofs.align_to.Kinds as align_to_kinds
use Rattle.elf.proofs.align_to.Reads as align_to
use Rattle.elf.proofs.add_string.Kinds as add_string_kinds
use Rattle.elf.proofs.add_string.Reads as add_string
use Rattle.elf.proofs.put_string.Kinds as put_string_kinds
use Rattle.elf.proofs.put_string.Reads as put_string
use Rattle.elf.proofs.Section.null.Kinds as section_null_kinds
use Rattle.elf.proofs.Section.null.Reads as section_null
use Rattle.elf.proofs.Section.put.Kinds as section_put_kinds
use Rattle.elf.proofs.Section.put.Reads as section_put
use Rattle.elf.proofs.Symbol.null.Kinds as symbol_null_kinds
use Rattle.elf.proofs.Symbol.null.Reads as symbol_null
use Rattle.elf.proofs.Symbol.put.Kinds as symbol_put_kinds
use Rattle.elf.proofs.Symbol.put.Reads as symbol_put
use Rattle.elf.proofs.put_rel.Kinds as put_rel_kinds
use Rattle.elf.proofs.put_rel.Reads as put_rel
use Rattle.elf.proofs.put_file_header.Kinds as put_file_header_kinds
use Rattle.elf.proofs.put_file_header.Reads as put_file_header

align_to_single : OneResult align_to_kinds.ps align_to_kinds.r align_to.Post
align_to_single κs a z z' e e' p p' = p ∙ sym p'

add_string_single : OneResult add_string_kinds.ps add_string_kinds.r add_string.Post
add_string_single κs a z z' e e' p p' = p ∙ sym p'

put_string_single : OneExit put_string_kinds.ps put_string_kinds.r put_string.Post (λ κs e. e.0.now)
put_string_single κs a z z' e e' p p' = p ∙ sym p'

section_null_single : OneResult section_null_kinds.ps section_null_kinds.r section_null.Post
section_null_single κs a z z' e e' p p' = p ∙ sym p'

section_put_single : OneExit section_put_kinds.ps section_put_kinds.r section_put.Post (λ κs e. e.1.0.now)
section_put_single κs a z z' e e' p p' = p ∙ sym p'

symbol_null_single : OneResult symbol_null_kinds.ps symbol_null_kinds.r symbol_null.Post
symbol_null_single κs a z z' e e' p p' = p ∙ sym p'

symbol_put_single : OneExit symbol_put_kinds.ps symbol_put_kinds.r symbol_put.Post (λ κs e. e.1.0.now)
symbol_put_single κs a z z' e e' p p' = p ∙ sym p'

put_rel_single : OneExit put_rel_kinds.ps put_rel_kinds.r put_rel.Post (λ κs e. e.0.now)
put_rel_single κs a z z' e e' p p' = p ∙ sym p'

put_file_header_single : OneExit put_file_header_kinds.ps put_file_header_kinds.r put_file_header.Post (λ κs e. e.0.now)
put_file_header_single κs a z z' e e' p p' = p ∙ sym p'
