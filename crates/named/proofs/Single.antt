-- Single outcomes: two outcomes that meet the promise of a public function of this crate are equal.
use mathlib.Core.Path.{sym, ◌∙◌}
use Rattle.octets.proofs.Single.{OneResult, OneExit}
use Rattle.named.proofs.put_name.Kinds as put_name_kinds
use Rattle.named.proofs.put_name.Reads as put_name
use Rattle.named.proofs.written_size.Kinds as written_size_kinds
use Rattle.named.proofs.written_size.Reads as written_size
use Rattle.named.proofs.put_written.Kinds as put_written_kinds
use Rattle.named.proofs.put_written.Reads as Put-written
use Rattle.named.proofs.put_string_at.Kinds as put_string_at_kinds
use Rattle.named.proofs.put_string_at.Reads as put_string_at

put_name_bytes : OneExit put_name_kinds.ps put_name_kinds.r put_name.Post (λ κs e. e.0.now)
put_name_bytes κs a z z' e e' p p' = p.0 ∙ sym p'.0

put_name_single : OneResult put_name_kinds.ps put_name_kinds.r put_name.Post
put_name_single κs a z z' e e' p p' = p.1 ∙ sym p'.1

written_size_single : OneResult written_size_kinds.ps written_size_kinds.r written_size.Post
written_size_single κs a z z' e e' p p' = p.0 ∙ sym p'.0

put_written_bytes : OneExit put_written_kinds.ps put_written_kinds.r Put-written.Post (λ κs e. e.0.now)
put_written_bytes κs a z z' e e' p p' = p.0 ∙ sym p'.0

put_written_single : OneResult put_written_kinds.ps put_written_kinds.r Put-written.Post
put_written_single κs a z z' e e' p p' = p.1 ∙ sym p'.1

put_string_at_bytes : OneExit put_string_at_kinds.ps put_string_at_kinds.r put_string_at.Post (λ κs e. e.0.now)
put_string_at_bytes κs a z z' e e' p p' = p.0 ∙ sym p'.0

put_string_at_single : OneResult put_string_at_kinds.ps put_string_at_kinds.r put_string_at.Post
put_string_at_single κs a z z' e e' p p' = p.1 ∙ sym p'.1
