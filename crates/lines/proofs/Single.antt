-- Single outcomes: two outcomes that meet the promise of a public function of this crate are equal.
use mathlib.Core.Path.{◌≡◌, refl, sym, ◌∙◌}
use Rattle.std.specs.Prelude.{Option, None, Some}
use Prim.Native.Nat.{ℕ}
use Rattle.octets.proofs.Single.{OneResult, OneExit}
use Rattle.lines.specs.Ends.{end_told}
use Rattle.lines.proofs.line_end.Kinds as line_end_kinds
use Rattle.lines.proofs.line_end.Reads as line_end
use Rattle.lines.proofs.is_frame.Kinds as is_frame_kinds
use Rattle.lines.proofs.is_frame.Reads as is_frame
use Rattle.lines.proofs.Hex.len.Kinds as len_kinds
use Rattle.lines.proofs.Hex.len.Reads as len
use Rattle.lines.proofs.Hex.put_unhex.Kinds as put_unhex_kinds
use Rattle.lines.proofs.Hex.put_unhex.Reads as put-unhex
use Rattle.lines.proofs.Hex.byte_at.Kinds as byte_at_kinds
use Rattle.lines.proofs.Hex.byte_at.Reads as byte_at
use Rattle.lines.proofs.Hex.number_at.Kinds as number_at_kinds
use Rattle.lines.proofs.Hex.number_at.Reads as number_at

-- an answer is told by what it says
end_one : (a b : Option ℕ) → end_told a ≡ end_told b → a ≡ b
end_one (Some x) (Some y) e = cc
end_one (Some x) None e = cc
end_one None (Some y) e = cc
end_one None None e = refl

line_end_single : OneResult line_end_kinds.ps line_end_kinds.r line_end.Post
line_end_single κs a z z' e e' p p' = end_one z z' (p ∙ sym p')

is_frame_single : OneResult is_frame_kinds.ps is_frame_kinds.r is_frame.Post
is_frame_single κs a z z' e e' p p' = p ∙ sym p'

len_single : OneResult len_kinds.ps len_kinds.r len.Post
len_single κs a z z' e e' p p' = p ∙ sym p'

put_unhex_single : OneExit put_unhex_kinds.ps put_unhex_kinds.r put-unhex.Post (λ κs e. e.1.0.now)
put_unhex_single κs a z z' e e' p p' = p ∙ sym p'

byte_at_single : OneResult byte_at_kinds.ps byte_at_kinds.r byte_at.Post
byte_at_single κs a z z' e e' p p' = p ∙ sym p'

number_at_single : OneResult number_at_kinds.ps number_at_kinds.r number_at.Post
number_at_single κs a z z' e e' p p' = p.0 ∙ sym p'.0
