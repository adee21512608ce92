-- When a job's first faulty line asks for a map that nobody declared. Refusal 7 is exactly this. Only for the lines before this one does it
-- use the table of refusals: `take_line` takes them. What holds of the line itself is said here: it is a relocation frame, a program is
-- open, its name is good text within the limits, and no map before it has the name.
use Rattle.std.specs.Prelude.{◌≡◌, true, false, List, [], ◌∷◌, ◌++◌, ℕ, suc, ◌≤◌, ◌<◌, length}
use Rattle.std.proofs.Math.Option.{Option, none, some}
use Rattle.octets.specs.Octets.{equal}
use Rattle.utf8.specs.Utf8.{is_text}
use Rattle.ast.specs.Job.{Map}
use Rattle.lines.specs.Lines.{Line, lines, frame_bytes}
use Rattle.frames.specs.Frames.{relocation, frame_of}
use Rattle.refusals.specs.Checked.{Stage, empty, Step, went, stopped, take_line}

-- what comes after a step that went on, and none after one that stopped
abbrev pub after_step : Step → (Stage → Option Stage) → Option Stage
after_step (went s) next = next s
after_step (stopped n) next = none

-- the stage after lines that are all taken, and none if one of them is refused
abbrev pub stage_after : Stage → List Line → Option Stage
stage_after s [] = some s
stage_after s (l ∷ ls) = after_step (take_line s l) (λ s'. stage_after s' ls)

-- no map of the list has this raw name
abbrev pub Unnamed : List ℕ → List Map → Type 0
Unnamed name [] = Unit
Unnamed name (m ∷ ms) = (equal name m.name ≡ false) × Unnamed name ms

-- A line that asks for an undeclared map after stage `s`: it is a relocation frame, a program is open, its name is text of at most 64
-- bytes, there is room for one more relocation, and no map of the stage has the name.
pub record Asks (s : Stage) (line : Line) : Type 0 where
  pub bytes : List ℕ
  pub hex : frame_bytes line ≡ some bytes
  pub offset : ℕ
  pub name : List ℕ
  pub frame : frame_of bytes ≡ some (relocation offset name)
  pub placed : 0 < length s.job.programs
  pub good : is_text name ≡ true
  pub room : s.relocations < 256
  pub short : length name ≤ 64
  pub undeclared : Unnamed name s.job.maps

-- Line `l` of the text, counted from 1, is such a line, and every line before it is taken. What comes after it does not matter.
pub record Unknown (text : List ℕ) (l : ℕ) : Type 0 where
  pub few : length text ≤ 65535
  pub before : List Line
  pub line : Line
  pub behind : List Line
  pub split : lines text ≡ before ++ (line ∷ behind)
  pub number : l ≡ suc (length before)
  pub stage : Stage
  pub taken : stage_after empty before ≡ some stage
  pub asks : Asks stage line
