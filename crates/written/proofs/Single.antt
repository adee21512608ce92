-- Single outcomes: two outcomes that meet the promise of a public function of this crate are equal.
use mathlib.Core.Path.{sym, ◌∙◌}
use Rattle.octets.proofs.Single.{OneResult, OneExit}
use Rattle.written.proofs.written_char.Kinds as written_char_kinds
use Rattle.written.proofs.written_char.Reads as written_char
use Rattle.written.proofs.written_len.Kinds as written_len_kinds
use Rattle.written.proofs.written_len.Reads as written_len
use Rattle.written.proofs.sanitize_ident.Kinds as sanitize_ident_kinds
use Rattle.written.proofs.sanitize_ident.Reads as sanitize_ident

written_char_single : OneResult written_char_kinds.ps written_char_kinds.r written_char.Post
written_char_single κs a z z' e e' p p' = p ∙ sym p'

written_len_single : OneResult written_len_kinds.ps written_len_kinds.r written_len.Post
written_len_single κs a z z' e e' p p' = p ∙ sym p'

sanitize_ident_single : OneExit sanitize_ident_kinds.ps sanitize_ident_kinds.r sanitize_ident.Post (λ κs e. e.0.now)
sanitize_ident_single κs a z z' e e' p p' = p ∙ sym p'
