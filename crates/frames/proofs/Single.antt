-- Single outcomes: two outcomes that meet the promise of `read_frame` are equal. The promise gives the frame that an answer shows and the
-- bounds of its places, from which the answer is read back.
use mathlib.Core.Path.{◌≡◌, refl, sym, ◌∙◌, ap}
use mathlib.Core.Bool.{cond}
use mathlib.Core.List.{List}
use Prim.Native.Nat.{ℕ, suc, ◌-◌, ◌≤◌}
use native.Mathlib.Omega.{arith}
use lib.Dec.{eqb}
use lib.ListN.{length, drop, length-drop}
use borrow.Author.Tests.{eq-eqb, ne_eqb}
use Rattle.octets.proofs.Single.{OneResult}
use Rattle.frames.specs.Frames as model
use Rattle.octets.specs.Told.{Told, gives, refuses}
use Rattle.frames.specs.Shown.{shown, Placed, frame_told, PlacedRead}
use Rattle.frames.specs.declared.Frame.{Frame}
use Rattle.frames.specs.declared.Frame.TheVariants.{Licence, Map, Program, Code, Relocation, Instruction}
use Rattle.std.specs.Prelude.{Option, Some, None}
use Rattle.frames.proofs.read_frame.Kinds as read_frame_kinds
use Rattle.frames.proofs.read_frame.Reads as read_frame

-- The answer for a frame of the bytes `bs`. A name at the frame's end tells its place by its length. Code that is all the bytes but the
-- first is the line's own, and other code is that of an instruction.
abbrev answer : List ℕ → model.Frame → Frame
answer bs (model.licence text) = Licence
answer bs (model.map_decl kind key val entries name) =
    Map (record { map_type = kind; key_type = key; value_type = val; max_entries = entries }) (length bs - length name)
answer bs (model.program section symbol) = Program (length bs - length symbol)
answer bs (model.code bytes) = cond (eqb (suc (length bytes)) (length bs)) Code Instruction
answer bs (model.relocation offset name) = Relocation

abbrev read : List ℕ → Told model.Frame → Option Frame
read bs (gives f) = Some (answer bs f)
read bs (refuses n) = None

-- the place of what is left after it
place : (bs : List ℕ) (at : ℕ) → at ≤ length bs → length bs - length (drop at bs) ≡ at
place bs at h = rw length-drop (omega arith)

answer-shown : (bs : List ℕ) (r : Frame) → Placed bs r → answer bs (shown bs r) ≡ r
answer-shown bs Licence h = refl
answer-shown bs (Map d at) h = ap (Map d) (place bs at h.1)
answer-shown bs (Program at) h = ap Program (place bs at h.1)
answer-shown bs Code h = rw (eq-eqb (suc (length (drop 1 bs))) (length bs) (omega (arith, length-drop 1 bs)))
answer-shown bs Relocation h = refl
answer-shown bs Instruction h = rw (ne_eqb 9 (length bs) (λ e. omega arith))

read_told : (bs : List ℕ) (r : Option Frame) → PlacedRead bs r → read bs (frame_told bs r) ≡ r
read_told bs (Some f) h = ap Some (answer-shown bs f h)
read_told bs None h = refl

read_frame_single : OneResult read_frame_kinds.ps read_frame_kinds.r read_frame.Post
read_frame_single κs a z z' e e' p p' = sym (read_told _ z p.1) ∙ ap (read _) (p.0 ∙ sym p'.0) ∙ read_told _ z' p'.1
