-- `job::say` meets its contract. Assumes nothing.
use mathlib.Core.Path.{◌≡◌, sym, ◌∙◌, ap}
use Prim.Native.Nat.{ℕ, suc, ◌+◌}
use native.Mathlib.Numerals.{add-one}
use native.Mathlib.Omega.{arith}
use Rattle.std.specs.Result.{result_map_both}
use Rattle.std.proofs.Common.{rules}
use Rattle.octets.proofs.Told.{told-there, told_none}
use Rattle.lines.proofs.Parts.{line_length}
use Rattle.frames.specs.Frames.{frame_of}
use Rattle.refusals.specs.Checked.{Stage, faulty}
use Rattle.judge.specs.Judged.{line_bytes}
use Rattle.judge.proofs.Judge.{unread}
use Rattle.job.proofs.Lines.{stops_at, saying}
use Rattle.job.proofs.say.Goals as goal

-- a refusal's line is the next one
at-line : (s : Stage) (n k : ℕ) → s.lines ≡ k → faulty n (suc s.lines) ≡ faulty n (k + 1)
at-line s n k e = ap (λ (l : ℕ). faulty n (suc l)) e ∙ ap (faulty n) (sym (add-one k))

pub returns-in_default-shown-clause-saying : goal.returns-in_default-shown-clause-saying
returns-in_default-shown-clause-saying c =
    let a = c.args in
    let bytes = line_bytes a.text.now a.at c.in-Some.end in
    let n = told_none 3 3 (frame_of bytes) c.in_default-shown.ensures.result_value in
    λ s e h. stops_at a.text.now a.at c.in-Some.end c.in-Some.ensures s 3 (unread s bytes n) ∙ at-line s 3 a.counts.lines e.lines

pub judge_frame-verdict-requires-clause-says : goal.judge_frame-verdict-requires-clause-says
judge_frame-verdict-requires-clause-says c =
    let bytes = line_bytes c.args.text.now c.args.at c.in-Some.end in
    told-there 3 (frame_of bytes) _ c.in-Some-shown.ensures.result_value

pub returns-clause-saying : goal.returns-clause-saying
returns-clause-saying c =
    let a = c.args in
    let end = c.in-Some.end in
    let v = c.judge_frame-verdict.result in
    let m : c.map.result ≡ result_map_both (λ o. record { order = o; end = end }) (λ r. r) v = search rules in
    λ s e h. rw m (saying a.text.now a.at end c.in-Some.ensures s v (c.judge_frame-verdict.ensures s e h))

pub read_frame-shown-requires : goal.read_frame-shown-requires
read_frame-shown-requires c =
    let f = c.in-Some.ensures.framed in
    omega (arith, f.first, line_length c.args.text.now c.args.at c.in-Some.end (omega (arith, f.first)) f.last f.hex)
