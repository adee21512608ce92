-- Checking a job refuses with the numbers 1 to 7. Only 8, for lack of room, has a length needed.
use mathlib.Core.Path.{◌≡◌, refl}
use mathlib.Core.Bool.{Bool, true, false, cond}
use mathlib.Core.Option.{Option, none, some}
use mathlib.Core.List.{List, [], ◌∷◌}
use Prim.Native.Nat.{ℕ, suc, ◌≤◌}
use native.Mathlib.Omega.{arith}
use lib.Dec.{ltb}
use lib.ListN.{length}
use Rattle.octets.specs.All.{All}
use Rattle.ast.specs.Job.{last_map}
use Rattle.lines.specs.Lines.{Line, lines, frame_bytes}
use Rattle.frames.specs.Frames.{Frame, licence, map_decl, program, code, relocation, frame_of}
use Rattle.refusals.specs.Checked.{Stage, Reason, first, reasons, Step, went, stopped, resolved, added, take_frame, take_bytes, take_line, take_lines, empty, Checked, accepted, faulty, checked}
use Rattle.refusals.specs.Refusal.{number_of, needed_of}
use Rattle.refusals.specs.declared.Refusal.{Refusal}
use Rattle.refusals.specs.declared.Refusal.TheVariants.{TooLong, BadLine, BadFrame, Misplaced, BadText, OverLimit, UnknownMap, NoRoom}

abbrev LowOption : Option ℕ → Type 0
LowOption none = Unit
LowOption (some n) = n ≤ 7

abbrev LowStep : Step → Type 0
LowStep (went s) = Unit
LowStep (stopped n) = n ≤ 7

abbrev pub LowChecked : Checked → Type 0
LowChecked (accepted j) = Unit
LowChecked (faulty n l) = n ≤ 7

first_low : (rs : List Reason) → All (λ (r : Reason). r.number ≤ 7) rs → LowOption (first rs)
first_low [] a = tt
first_low (r ∷ rs) a = go r.holds (first_low rs a.1)
  where
    go : (b : Bool) → LowOption (first rs) → LowOption (cond b (some r.number) (first rs))
    go true h = a.0
    go false h = h

reasons_low : (s : Stage) (f : Frame) → All (λ (r : Reason). r.number ≤ 7) (reasons s f)
reasons_low s (licence text) = (omega arith, (omega arith, (omega arith, tt)))
reasons_low s (map_decl kind key value entries name) = (omega arith, (omega arith, (omega arith, tt)))
reasons_low s (program section symbol) = (omega arith, (omega arith, tt))
reasons_low s (code bytes) = (omega arith, tt)
reasons_low s (relocation offset name) = (omega arith, (omega arith, (omega arith, tt)))

added_low : (s : Stage) (f : Frame) → LowStep (added s f)
added_low s (licence text) = tt
added_low s (map_decl kind key value entries name) = tt
added_low s (program section symbol) = tt
added_low s (code bytes) = tt
added_low s (relocation offset name) = go (last_map name s.job.maps)
  where
    go : (o : Option ℕ) → LowStep (resolved s offset name o)
    go none = omega arith
    go (some k) = tt

frame_low : (s : Stage) (f : Frame) → LowStep (take_frame s f)
frame_low s f = go (first (reasons s f)) (first_low (reasons s f) (reasons_low s f))
  where
    go : (o : Option ℕ) → LowOption o → LowStep (elim o as (λ x. Step) [ some n ↦ stopped n | none ↦ added s f ])
    go none h = added_low s f
    go (some n) h = h

bytes_low : (s : Stage) (bs : List ℕ) → LowStep (take_bytes s bs)
bytes_low s bs = go (frame_of bs)
  where
    go : (o : Option Frame) → LowStep (elim o as (λ x. Step) [ none ↦ stopped 3 | some f ↦ take_frame s f ])
    go none = omega arith
    go (some f) = frame_low s f

line_low : (s : Stage) (l : Line) → LowStep (take_line s l)
line_low s l = go (frame_bytes l)
  where
    go : (o : Option (List ℕ)) → LowStep (elim o as (λ x. Step) [ none ↦ stopped 2 | some bs ↦ take_bytes s bs ])
    go none = omega arith
    go (some bs) = bytes_low s bs

lines_low : (s : Stage) (ls : List Line) → LowChecked (take_lines s ls)
lines_low s [] = tt
lines_low s (l ∷ ls) = go (take_line s l) (line_low s l) (λ x. lines_low x ls)
  where
    go : (t : Step) → LowStep t → ((x : Stage) → LowChecked (take_lines x ls))
        → LowChecked (elim t as (λ x. Checked) [ went s' ↦ take_lines s' ls | stopped n ↦ faulty n (suc s.lines) ])
    go (went s') h later = later s'
    go (stopped n) h later = h

pub checked_low : (text : List ℕ) → LowChecked (checked text)
checked_low text = go (ltb 65535 (length text))
  where
    go : (b : Bool) → LowChecked (cond b (faulty 1 0) (take_lines empty (lines text)))
    go true = omega arith
    go false = lines_low empty (lines text)

-- so a refusal of the job has no length needed
pub nothing_needed : (r : Refusal) → number_of r ≤ 7 → needed_of r ≡ 0
nothing_needed TooLong h = refl
nothing_needed (BadLine l) h = refl
nothing_needed (BadFrame l) h = refl
nothing_needed (Misplaced l) h = refl
nothing_needed (BadText l) h = refl
nothing_needed (OverLimit l) h = refl
nothing_needed (UnknownMap l) h = refl
nothing_needed (NoRoom n) h = absurd (omega arith)
