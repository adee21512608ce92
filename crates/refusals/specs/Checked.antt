-- Whether a job is accepted: what it declares, or its first fault by document 01's table.
use Rattle.std.specs.Prelude.{Bool, cond, not, ◌||◌, List, [], ◌∷◌, ◌++◌, ℕ, suc, ◌+◌, length, ltb, leb, eqb}
use Rattle.std.proofs.Math.Option.{Option, none, some}
use Rattle.octets.specs.Octets.{ascii}
use Rattle.utf8.specs.Utf8.{is_text, has_zero}
use Rattle.ast.specs.Job.{Relocation, Program, Job, last_map}
use Rattle.lines.specs.Lines.{Line, lines, frame_bytes}
use Rattle.frames.specs.Frames.{Frame, licence, map_decl, program, code, relocation, frame_of}

-- what the lines so far have declared: `lines` counts them, and the last program is the one that is open
pub record Stage : Type 0 where
  pub lines : ℕ
  pub relocations : ℕ
  pub job : Job

abbrev pub empty : Stage
empty = record { lines = 0; relocations = 0; job = record { licence = ascii "GPL"; maps = []; programs = [] } }

-- ---- the table of refusals, for one line

-- a refusal's number, with whether its reason holds
pub record Reason : Type 0 where
  pub holds : Bool
  pub number : ℕ

-- the first number whose reason holds
abbrev pub first : List Reason → Option ℕ
first [] = none
first (r ∷ rs) = cond r.holds (some r.number) (first rs)

abbrev pub reason : ℕ → Bool → Reason
reason n b = record { holds = b; number = n }

abbrev pub long : List ℕ → Bool
long text = ltb 64 (length text)

-- 5: a text that is not UTF-8, a licence or a section name with a zero byte, or an empty section name
abbrev pub bad_name : List ℕ → Bool
bad_name text = not (is_text text)

abbrev pub bad_string : List ℕ → Bool
bad_string text = bad_name text || has_zero text

abbrev pub bad_program : List ℕ → List ℕ → Bool
bad_program section symbol = bad_string section || eqb (length section) 0 || bad_name symbol

-- why a frame is refused here: 4 it may not come here, 5 its text, 6 a limit. 7, a map that nobody declared, comes after these: it is given
-- below, where the map is looked up.
abbrev pub reasons : Stage → Frame → List Reason
reasons s (licence text) =
    reason 4 (ltb 0 s.lines) ∷ reason 5 (bad_string text) ∷ reason 6 (long text) ∷ []
reasons s (map_decl kind key value entries name) =
    reason 4 (ltb 0 (length s.job.programs)) ∷ reason 5 (bad_name name)
    ∷ reason 6 (leb 64 (length s.job.maps) || long name) ∷ []
reasons s (program section symbol) =
    reason 5 (bad_program section symbol)
    ∷ reason 6 (leb 32 (length s.job.programs) || long section || long symbol) ∷ []
reasons s (code bytes) = reason 4 (eqb (length s.job.programs) 0) ∷ []
reasons s (relocation offset name) =
    reason 4 (eqb (length s.job.programs) 0) ∷ reason 5 (bad_name name)
    ∷ reason 6 (leb 256 s.relocations || long name) ∷ []

-- ---- what an accepted frame adds

abbrev pub on_last : (Program → Program) → List Program → List Program
on_last f [] = []
on_last f (p ∷ []) = f p ∷ []
on_last f (p ∷ q ∷ ps) = p ∷ on_last f (q ∷ ps)

abbrev pub with_code : List ℕ → Program → Program
with_code bytes p =
    record { section = p.section; symbol = p.symbol; code = p.code ++ bytes; relocations = p.relocations }

abbrev pub with_relocation : Relocation → Program → Program
with_relocation r p =
    record { section = p.section; symbol = p.symbol; code = p.code; relocations = p.relocations ++ (r ∷ []) }

pub data Step : Type 0 where
  went : Stage → Step
  stopped : ℕ → Step

-- a line is taken, and the job is now `j`
abbrev pub go_on : Stage → Job → Step
go_on s j = went (record { lines = suc s.lines; relocations = s.relocations; job = j })

-- the stage with one relocation more in the open program
abbrev pub relocated : Stage → Relocation → Stage
relocated s r =
    record {
      lines = suc s.lines;
      relocations = s.relocations + 1;
      job =
          record {
            licence = s.job.licence;
            maps = s.job.maps;
            programs = on_last (with_relocation r) s.job.programs;
          };
    }

-- a relocation whose map was found under this number; one whose map nobody declared is refused 7
abbrev pub resolved : Stage → ℕ → List ℕ → Option ℕ → Step
resolved s offset name none = stopped 7
resolved s offset name (some k) = went (relocated s (record { offset = offset; map = name; number = k }))

abbrev pub added : Stage → Frame → Step
added s (licence text) = go_on s (record { licence = text; maps = s.job.maps; programs = s.job.programs })
added s (map_decl kind key value entries name) =
    go_on s
    (record {
      licence = s.job.licence;
      maps = s.job.maps ++ (record { name = name; kind = kind; key = key; value = value; entries = entries } ∷ []);
      programs = s.job.programs;
    })
added s (program section symbol) =
    go_on s
    (record {
      licence = s.job.licence;
      maps = s.job.maps;
      programs = s.job.programs ++ (record { section = section; symbol = symbol; code = []; relocations = [] } ∷ []);
    })
added s (code bytes) =
    go_on s
    (record { licence = s.job.licence; maps = s.job.maps; programs = on_last (with_code bytes) s.job.programs })
added s (relocation offset name) = resolved s offset name (last_map name s.job.maps)

-- ---- a line, and the lines one after the other

abbrev pub take_frame : Stage → Frame → Step
take_frame s f = elim (first (reasons s f)) [ some n ↦ stopped n | none ↦ added s f ]

abbrev pub take_bytes : Stage → List ℕ → Step
take_bytes s bs = elim (frame_of bs) [ none ↦ stopped 3 | some f ↦ take_frame s f ]

abbrev pub take_line : Stage → Line → Step
take_line s l = elim (frame_bytes l) [ none ↦ stopped 2 | some bs ↦ take_bytes s bs ]

pub data Checked : Type 0 where
  accepted : Job → Checked
  faulty : ℕ → ℕ → Checked

-- the first faulty line decides; its number, counted from 1, is told after the refusal's
abbrev pub take_lines : Stage → List Line → Checked
take_lines s [] = accepted s.job
take_lines s (l ∷ ls) =
    elim (take_line s l) [ went s' ↦ take_lines s' ls | stopped n ↦ faulty n (suc s.lines) ]

-- 1, a text that is too long, comes first
abbrev pub checked : List ℕ → Checked
checked text = cond (ltb 65535 (length text)) (faulty 1 0) (take_lines empty (lines text))
