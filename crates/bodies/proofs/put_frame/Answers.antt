-- `bodies::put_frame` meets its contract: a frame 04, a frame 06, and all others. Assumes nothing.
use mathlib.Core.Path.{◌≡◌, sym, ◌∙◌, ap}
use Prim.Native.Nat.{ℕ, ◌+◌, ◌-◌}
use native.Mathlib.Omega.{arith}
use lib.ListN.{length, drop, length-drop}
use borrow.Rule.Slice.PartMut.{mid_len}
use Rattle.std.specs.Prelude.{Some}
use Rattle.octets.proofs.Filling.{over-part}
use Rattle.lines.specs.Bytes.{bytes}
use Rattle.frames.specs.Frames.{frame_of}
use Rattle.frames.specs.declared.Frame.TheVariants as frame
use Rattle.object.specs.Read.{frame_code}
use Rattle.bodies.specs.Code.{insn_in}
use Rattle.bodies.proofs.Frames.{code_known, no_code, nothing_added}
use Rattle.bodies.proofs.put_frame.Goals as goal

pub returns-in_default : goal.returns-in_default
returns-in_default c =
    let both = nothing_added _ _ _ (code_known (bytes c.args.line) _ _ c.read_frame-shown.ensures.result_value c.in_default.is) in record {
      out_after = both.0;
      value = both.1;
    }

pub overflow_add-end : goal.overflow_add-end
overflow_add-end c =
    let bs = bytes c.args.line in
    let four : frame_code (frame_of bs) ≡ drop 1 bs = code_known bs _ (Some frame.Code) c.read_frame-shown.ensures.result_value (c.in-Some.is ∙ ap Some c.in-Code.is) in
    let long = ap length four ∙ length-drop 1 bs in
    omega (arith, long, c.requires.line_in_bounds)

pub slice_bounds-put_bytes-end : goal.slice_bounds-put_bytes-end
slice_bounds-put_bytes-end c =
    let bs = bytes c.args.line in
    let four : frame_code (frame_of bs) ≡ drop 1 bs = code_known bs _ (Some frame.Code) c.read_frame-shown.ensures.result_value (c.in-Some.is ∙ ap Some c.in-Code.is) in
    let long = ap length four ∙ length-drop 1 bs in
    omega (arith, long, c.requires.line_in_bounds)

pub put_bytes-requires-clause-out_len : goal.put_bytes-requires-clause-out_len
put_bytes-requires-clause-out_len c =
    let bs = bytes c.args.line in
    let four : frame_code (frame_of bs) ≡ drop 1 bs = code_known bs _ (Some frame.Code) c.read_frame-shown.ensures.result_value (c.in-Some.is ∙ ap Some c.in-Code.is) in
    let long = ap length four ∙ length-drop 1 bs in
    let a = c.args.at in
    let k = mid_len a (a + (c.len.result - 1)) c.args.out.now (omega (arith, long, c.requires.line_in_bounds)) in
    rw length-drop (omega (arith, k))

pub returns-in-Code : goal.returns-in-Code
returns-in-Code c =
    let bs = bytes c.args.line in
    let four : frame_code (frame_of bs) ≡ drop 1 bs = code_known bs _ (Some frame.Code) c.read_frame-shown.ensures.result_value (c.in-Some.is ∙ ap Some c.in-Code.is) in
    let long = ap length four ∙ length-drop 1 bs in
    let a = c.args.at in
    let n = c.len.result - 1 in
    let l : n ≡ length (frame_code (frame_of bs)) = omega (arith, long) in
    let e : a + length (frame_code (frame_of bs)) ≡ a + n = ap (λ (m : ℕ). a + m) (sym l) in record {
      out_after = over-part c.args.out.now a (a + n) c.put_bytes.new.out (frame_code (frame_of bs)) e (c.put_bytes.ensures ∙ sym four);
      value = sym e;
    }

pub slice_bounds-put_insn-end : goal.slice_bounds-put_insn-end
slice_bounds-put_insn-end c =
    let bs = bytes c.args.line in
    let six : frame_code (frame_of bs) ≡ insn_in bs = code_known bs _ (Some frame.Instruction) c.read_frame-shown.ensures.result_value (c.in-Some.is ∙ ap Some c.in-Instruction.is) in
    let long = ap length six in
    omega (arith, long, c.requires.line_in_bounds)

pub put_insn-requires-clause-line_len : goal.put_insn-requires-clause-line_len
put_insn-requires-clause-line_len c = let placed = rw (c.in-Some.is, c.in-Instruction.is) at c.read_frame-shown.ensures.placed_read in placed

pub returns-in-Instruction : goal.returns-in-Instruction
returns-in-Instruction c =
    let bs = bytes c.args.line in
    let six : frame_code (frame_of bs) ≡ insn_in bs = code_known bs _ (Some frame.Instruction) c.read_frame-shown.ensures.result_value (c.in-Some.is ∙ ap Some c.in-Instruction.is) in
    let long = ap length six in
    let a = c.args.at in
    let e : a + length (frame_code (frame_of bs)) ≡ a + 8 = ap (λ (m : ℕ). a + m) long in record {
      out_after = over-part c.args.out.now a (a + 8) c.put_insn.new.out (frame_code (frame_of bs)) e (c.put_insn.ensures ∙ sym six);
      value = sym e;
    }

pub returns-in_default-frame : goal.returns-in_default-frame
returns-in_default-frame c =
    let bs = bytes c.args.line in
    let none = code_known bs _ (Some c.in-Some.frame) c.read_frame-shown.ensures.result_value c.in-Some.is ∙ no_code bs c.in-Some.frame c.in_default-frame.not-Code c.in_default-frame.not-Instruction in
    let both = nothing_added _ _ _ none in record {
      out_after = both.0;
      value = both.1;
    }
