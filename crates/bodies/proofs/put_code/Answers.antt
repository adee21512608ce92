-- `bodies::put_code` meets its contract. Assumes nothing.
use mathlib.Core.Path.{sym, ◌∙◌, ap}
use mathlib.Core.List.{◌++◌}
use Prim.Native.Nat.{◌+◌, ◌-◌}
use native.Mathlib.Omega.{arith}
use lib.ListN.{take, drop}
use Rattle.octets.proofs.Filling.{fill_as, fill_room, fill_on}
use Rattle.lines.specs.Ends.{end_told}
use Rattle.lines.specs.Hex.{bytes_in}
use Rattle.lines.proofs.Laws.{line_ended}
use Rattle.lines.proofs.Bytes.{bytes_length}
use Rattle.frames.specs.Frames.{frame_of}
use Rattle.object.specs.Read.{frame_code, code_of, body}
use Rattle.bodies.proofs.Body.{turn, not_cut}
use Rattle.bodies.proofs.put_code.Goals as goal

pub returns-in_default : goal.returns-in_default
returns-in_default c =
    let l = c.loop-i in
    absurd
    (not_cut c.args.text.now c.args.from c.args.lines l.i l.start (omega arith) l.invariant.0 l.invariant.1 c.requires.lines_len
    (sym c.line_end-ended.ensures ∙ ap end_told c.in_default.is))

pub slice_bounds-line-end : goal.slice_bounds-line-end
slice_bounds-line-end c =
    let r = line_ended c.args.text.now c.loop-i.start c.in-Some.end (sym c.line_end-ended.ensures ∙ ap end_told c.in-Some.is) in
    omega (arith, r.0, r.1)

pub invariant_of-line : goal.invariant_of-line
invariant_of-line c =
    let text = c.args.text.now in
    let l = c.loop-i in
    let a = c.args in
    let ends = sym c.line_end-ended.ensures ∙ ap end_told c.in-Some.is in
    let here = turn text a.from a.lines l.i l.start (omega arith) l.invariant.0 l.invariant.1 c.in-Some.end ends in
    record { hex = here.hex }

pub put_frame-at-requires : goal.put_frame-at-requires
put_frame-at-requires c =
    let text = c.args.text.now in
    let l = c.loop-i in
    let a = c.args in
    let ends = sym c.line_end-ended.ensures ∙ ap end_told c.in-Some.is in
    let here = turn text a.from a.lines l.i l.start (omega arith) l.invariant.0 l.invariant.1 c.in-Some.end ends in
    let piece = take (c.in-Some.end - l.start) (drop l.start text) in
    let added = frame_code (frame_of (bytes_in piece)) in
    let later = code_of (drop (l.i + 1) (body text a.from a.lines)) in
    let filling = fill_as (added ++ later) here.code l.invariant.2 in
    record {
      in_bounds = omega (arith, here.long, bytes_length piece here.hex);
      line_in_bounds = fill_room added later filling;
    }

pub loop-i-preserved : goal.loop-i-preserved
loop-i-preserved c =
    let text = c.args.text.now in
    let l = c.loop-i in
    let a = c.args in
    let ends = sym c.line_end-ended.ensures ∙ ap end_told c.in-Some.is in
    let here = turn text a.from a.lines l.i l.start (omega arith) l.invariant.0 l.invariant.1 c.in-Some.end ends in
    let piece = take (c.in-Some.end - l.start) (drop l.start text) in
    let added = frame_code (frame_of (bytes_in piece)) in
    let later = code_of (drop (l.i + 1) (body text a.from a.lines)) in
    let filling = fill_as (added ++ later) here.code l.invariant.2 in
    (here.here, here.frames, fill_on added later c.put_frame-at.new.out c.put_frame-at.result filling c.put_frame-at.ensures.out_after c.put_frame-at.ensures.value)
