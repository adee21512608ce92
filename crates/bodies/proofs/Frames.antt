-- What one line adds to a program's code: the bytes of a frame 04, the instruction of a frame 06, or nothing.
use mathlib.Core.Path.{◌≡◌, refl, sym, ◌∙◌, ap}
use mathlib.Core.Bool.{true}
use mathlib.Core.Option.{Option, none, some}
use mathlib.Core.List.{List, []}
use Prim.Native.Nat.{ℕ, ◌+◌, ◌-◌, ◌≤◌}
use native.Mathlib.Nat.{add-zero}
use native.Mathlib.Omega.{arith}
use lib.ListN.{length, take, drop, get_or, length-drop, take-append-drop}
use lib.Seq.{take_all}
use Rattle.octets.specs.Octets.{value}
use Rattle.octets.specs.Over.{over}
use Rattle.lines.specs.Hex.{is_hex, bytes_in}
use Rattle.lines.proofs.Bytes.{bytes_length, bytes_drop, hex_drop}
use Rattle.insn.specs.Insn.{insn_of, insn_bytes}
use Rattle.insn.specs.declared.Insn.{Insn}
use Rattle.frames.specs.Frames as model
use Rattle.frames.specs.Frames.{frame_of}
use Rattle.frames.specs.Shown.{shown, frame_told}
use Rattle.frames.specs.declared.Frame.TheVariants as frame
use Rattle.frames.specs.declared.Frame.{Frame}
use Rattle.std.specs.Prelude as code
use Rattle.octets.specs.Told.{Told, gives, refuses, told}
use Rattle.object.specs.Read.{frame_code}
use Rattle.bodies.specs.Code.{insn_in}

-- ---- a frame 04

module _ (s : List ℕ) (hex : is_hex s ≡ true) (long : 1 ≤ length (bytes_in s)) where
  pub two_long : 2 ≤ length s
  two_long = omega (arith, bytes_length s hex)

  behind : take (length s - 2) (drop 2 s) ≡ drop 2 s
  behind = take_all (length s - 2) (drop 2 s) (rw length-drop (omega arith))

  -- the characters after the first byte, and the bytes that they give
  pub behind_hex : is_hex (take (length s - 2) (drop 2 s)) ≡ true
  behind_hex = rw behind (hex_drop s 1 hex)

  pub behind_bytes : bytes_in (take (length s - 2) (drop 2 s)) ≡ drop 1 (bytes_in s)
  behind_bytes = rw behind (bytes_drop s 1 hex)

-- ---- a frame 06

-- the numbers of ten bytes, read one after the other, are the instruction's
pub insn_read : (bs r : List ℕ) (i : Insn) (op dst src off imm : ℕ) → length bs ≡ 10
    → r ≡ insn_bytes i.code i.dst i.src i.off i.imm → i ≡ insn_of op dst src off imm
    → op ≡ get_or bs 1 0 → dst ≡ get_or bs 2 0 → src ≡ get_or bs 3 0 → off ≡ value (take 2 (drop 4 bs)) → imm ≡ value (take 4 (drop 6 bs))
    → r ≡ insn_in bs
insn_read bs r i op dst src off imm n q e c d s o m =
    let t : take 4 (drop 6 bs) ≡ drop 6 bs = take_all 4 (drop 6 bs) (rw length-drop (omega arith)) in
    rw (q, e, c, d, s, o, m, t)

-- ---- any frame: its code, by what reading it answers

abbrev code_in : Told model.Frame → List ℕ
code_in (gives f) = frame_code (some f)
code_in (refuses n) = []

same_code : (o : Option model.Frame) → code_in (told 3 o) ≡ frame_code o
same_code none = refl
same_code (some f) = refl

pub code_told : (bs : List ℕ) (r : code.Option Frame) → frame_told bs r ≡ told 3 (frame_of bs) → frame_code (frame_of bs) ≡ code_in (frame_told bs r)
code_told bs r e = sym (same_code (frame_of bs)) ∙ sym (ap code_in e)

-- the code of a line whose frame is known
pub code_known : (bs : List ℕ) (r : code.Option Frame) (k : code.Option Frame) → frame_told bs r ≡ told 3 (frame_of bs) → r ≡ k → frame_code (frame_of bs) ≡ code_in (frame_told bs k)
code_known bs r k e q = code_told bs r e ∙ ap (λ x. code_in (frame_told bs x)) q

-- every frame but 04 and 06 gives none
pub no_code : (bs : List ℕ) (f : Frame) → (f ≡ frame.Code → ⊥) → (f ≡ frame.Instruction → ⊥) → frame_code (some (shown bs f)) ≡ []
no_code bs frame.Licence n m = refl
no_code bs (frame.Map d at) n m = refl
no_code bs (frame.Program at) n m = refl
no_code bs frame.Code n m = absurd (n refl)
no_code bs frame.Relocation n m = refl
no_code bs frame.Instruction n m = absurd (m refl)

-- a line that adds nothing
pub nothing_added : (d : List ℕ) (at : ℕ) (t : List ℕ) → t ≡ [] → (d ≡ over d at t) × (at ≡ at + length t)
unfolding over
nothing_added d at t e = (rw (e, add-zero) (sym (take-append-drop at d)), rw e (omega arith))
