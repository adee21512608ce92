-- One line of the walk: what the definition does with it, by what the code read.
use mathlib.Core.Path.{◌≡◌, refl, sym, ◌∙◌, ap}
use mathlib.Core.Bool.{true, false, false≢true}
use mathlib.Core.Option.{Option, none, some}
use mathlib.Core.List.{List, [], ◌∷◌}
use Prim.Native.Nat.{ℕ, suc, ◌+◌, ◌-◌, ◌≤◌, ◌<◌}
use native.Mathlib.Omega.{arith}
use lib.ListN.{length, take, drop, length-drop}
use lib.Seq.{length-take-le}
use borrow.Author.Tests.{ne_eqb}
use Rattle.std.specs.Prelude.{Result, Ok, Err}
use Rattle.std.specs.Result.{result_map_both}
use Rattle.lines.specs.Lines.{Line, lines, unhex, frame_bytes}
use Rattle.lines.specs.Ends.{line_end}
use Rattle.lines.specs.Hex.{there, is_frame}
use Rattle.octets.specs.Told.{gives, refuses}
use Rattle.lines.proofs.Laws.{is_there, frame_hex, line, cut, line_ended, line_cut}
use Rattle.lines.proofs.Bytes.{bytes_length}
use Rattle.refusals.specs.Checked.{Stage, Step, take_line, take_lines, take_bytes, went, stopped, faulty}
use Rattle.refusals.specs.Refusal.{number_of}
use Rattle.judge.specs.Judged.{Framed, line_bytes, Judged}
use Rattle.judge.specs.declared.Order.{Order}
use Rattle.refusals.specs.declared.Refusal.{Refusal}
use Rattle.job.specs.Walked.{Next, Saying}

-- ---- what may be there or not

pub not_there : {A : Type 0} (o : Option A) → there o ≡ false → o ≡ none
not_there none e = refl
not_there (some a) e = absurd (false≢true (sym e))

-- ---- a line that is not of the format

pub refused_line : (s : Stage) (l : Line) (ls : List Line) → frame_bytes l ≡ none → take_lines s (l ∷ ls) ≡ faulty 2 (suc s.lines)
refused_line s l ls e = let t : take_line s l ≡ stopped 2 = rw (e, take_line) in rw (t, take_lines)

pub cut_line : (text : List ℕ) (at : ℕ) → at < length text → line_end text at ≡ refuses 2 → (s : Stage) → take_lines s (lines (drop at text)) ≡ faulty 2 (suc s.lines)
cut_line text at h e s = ap (take_lines s) (line_cut text at h e) ∙ refused_line s (cut (drop at text)) [] refl

pub bad_line : (text : List ℕ) (at end : ℕ) → line_end text at ≡ gives end → is_frame (take (end - at) (drop at text)) ≡ false → (s : Stage)
    → take_lines s (lines (drop at text)) ≡ faulty 2 (suc s.lines)
bad_line text at end e f s =
    ap (take_lines s) (line_ended text at end e).2 ∙ refused_line s (line (take (end - at) (drop at text))) (lines (drop (end + 1) text)) (not_there _ f)

-- ---- a line of the format

pub good_line : (text : List ℕ) (at end : ℕ) → length text ≤ 65535 → line_end text at ≡ gives end → is_frame (take (end - at) (drop at text)) ≡ true → Next text at end
good_line text at end few e f =
    let r = line_ended text at end e in
    let h = frame_hex (take (end - at) (drop at text)) f in
    let n : length (take (end - at) (drop at text)) ≡ end - at = length-take-le (end - at) (drop at text) (rw length-drop (omega (arith, r.0, r.1))) in
    let m = bytes_length (take (end - at) (drop at text)) h.0 in
    record {
      framed = record { few = few; first = omega (arith, r.0, h.1); last = omega (arith, r.1); hex = h.0 };
      inside = r.1;
      is = r.2;
    }

pub part-long : (text : List ℕ) (at end : ℕ) → Framed text at end → length (take (end - at) (drop at text)) ≡ end - at
part-long text at end f = length-take-le (end - at) (drop at text) (rw length-drop (omega (arith, f.last, f.first)))

pub line_bytes_lem : (text : List ℕ) (at end : ℕ) → Framed text at end → frame_bytes (line (take (end - at) (drop at text))) ≡ some (line_bytes text at end)
line_bytes_lem text at end f =
    let n = part-long text at end f in
    let z : length (take (end - at) (drop at text)) ≡ 0 → ⊥ = λ e. omega (arith, f.first) in
    rw (ne_eqb (length (take (end - at) (drop at text))) 0 z) (is_there (unhex (take (end - at) (drop at text))) f.hex)

-- the definition goes on after the line, or stops at it
module _ (text : List ℕ) (at end : ℕ) (next : Next text at end) (s : Stage) where
  on_line : (step : Step) → take_bytes s (line_bytes text at end) ≡ step → take_line s (line (take (end - at) (drop at text))) ≡ step
  on_line step e = rw (line_bytes_lem text at end next.framed, take_line) e

  pub goes_on : (s' : Stage) → take_bytes s (line_bytes text at end) ≡ went s'
      → take_lines s (lines (drop at text)) ≡ take_lines s' (lines (drop (end + 1) text))
  goes_on s' e = ap (take_lines s) next.is ∙ rw (on_line (went s') e, take_lines)

  pub stops_at : (n : ℕ) → take_bytes s (line_bytes text at end) ≡ stopped n → take_lines s (lines (drop at text)) ≡ faulty n (suc s.lines)
  stops_at n e = ap (take_lines s) next.is ∙ rw (on_line (stopped n) e, take_lines)

  -- what a verdict on the line tells of the definition, with the line's end beside what is taken
  pub saying : (v : Result Order Refusal) → Judged text s (line_bytes text at end) v → Saying text at s (result_map_both (λ o. record { order = o; end = end }) (λ r. r) v)
  saying (Ok o) j = (next, j)
  saying (Err r) j = stops_at (number_of r) j.0 ∙ ap (faulty (number_of r)) (sym j.1)
