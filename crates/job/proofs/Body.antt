-- One line more in the body of the open program: its code, and what is known of the body.
use mathlib.Core.Path.{◌≡◌, ◌∙◌, ap}
use mathlib.Core.Option.{Option, some}
use mathlib.Core.List.{List, [], ◌∷◌, ◌++◌}
use Prim.Native.Nat.{ℕ, ◌+◌, ◌-◌}
use native.Mathlib.Numerals.{add-one}
use lib.ListN.{length, take, drop, length-append}
use Rattle.lines.specs.Lines.{lines, frame_bytes}
use Rattle.lines.specs.Hex.{there}
use Rattle.lines.proofs.Laws.{line}
use Rattle.frames.specs.Frames.{frame_of}
use Rattle.object.specs.declared.Program.{Program}
use Rattle.object.specs.declared.BpfObject.{BpfObject}
use Rattle.object.specs.Read.{frame_code, line_code, code_of, body}
use Rattle.object.specs.Kept.{AllFrames}
use Rattle.object.proofs.Programs.{take_next, drop-next, code_snoc, frames_snoc}
use Rattle.judge.specs.Judged.{line_bytes}
use Rattle.job.specs.Walked.{Next}
use Rattle.job.proofs.Lines.{line_bytes_lem}
use Rattle.job.proofs.Walking.{Opened}

-- the body with the line from `at` to `end`
pub record More (text : List ℕ) (p : Program) (at end : ℕ) : Type 0 where
  pub here : drop (p.lines + 1) (lines (drop p.from text)) ≡ lines (drop (end + 1) text)
  pub there : length (body text p.from (p.lines + 1)) ≡ p.lines + 1
  pub frames : AllFrames (body text p.from (p.lines + 1))
  pub code : code_of (body text p.from (p.lines + 1)) ≡ code_of (body text p.from p.lines) ++ frame_code (frame_of (line_bytes text at end))

pub more : (text : List ℕ) (o : BpfObject) (p : Program) (at end : ℕ) → Opened text o p at → Next text at end → More text p at end
more text o p at end q next =
    let part = take (end - at) (drop at text) in
    let l = lines (drop p.from text) in
    let d : drop p.lines l ≡ line part ∷ lines (drop (end + 1) text) = q.here ∙ next.is in
    let t : take (p.lines + 1) l ≡ take p.lines l ++ (line part ∷ []) = rw (add-one p.lines) (take_next l p.lines (line part) (lines (drop (end + 1) text)) d) in
    let b : frame_bytes (line part) ≡ some (line_bytes text at end) = line_bytes_lem text at end next.framed in
    record {
      here = rw (add-one p.lines) (drop-next l p.lines (line part) (lines (drop (end + 1) text)) d);
      there = ap length t ∙ length-append (take p.lines l) (line part ∷ []) ∙ ap (λ (n : ℕ). n + 1) q.there;
      frames = rw t (frames_snoc (take p.lines l) (line part) q.frames (ap there b));
      code = ap code_of t ∙ code_snoc (take p.lines l) (line part) ∙ ap (λ (x : Option (List ℕ)). code_of (take p.lines l) ++ line_code x) b;
    }
