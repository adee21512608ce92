-- What the walk over the lines is proved with: what a line says, and the tables and the open program as a stage of the definition.
use Rattle.std.specs.Prelude.{◌≡◌, true, List, [], ◌∷◌, ◌++◌, ℕ, suc, ◌+◌, ◌-◌, ◌<◌, length, take, drop, set, Option, Some, None, Result, Ok, Err}
use Rattle.octets.specs.Told.{Told, gives, refuses}
use Rattle.lines.specs.Lines.{lines}
use Rattle.ast.specs.declared.Name.{Name}
use Rattle.object.specs.declared.Program.{Program}
use Rattle.object.specs.declared.BpfObject.{BpfObject}
use Rattle.object.specs.declared.Added.{Added}
use Rattle.object.specs.Tables.{done, with_license, added_map, with_program, added_program}
use Rattle.refusals.specs.Checked.{Stage, take_lines, Checked, accepted, faulty}
use Rattle.judge.specs.Judged as judged
use Rattle.judge.specs.Judged.{line_bytes, Ordered}
use Rattle.judge.specs.declared.Counts.{Counts}
use Rattle.refusals.specs.declared.Refusal.{Refusal}
use Rattle.refusals.specs.declared.Refusal.TheVariants.{OverLimit}
use Rattle.object.specs.declared.Full.{Full}
use Rattle.ast.specs.Job as job
use Rattle.object.specs.declared.Slot.{Slot}
use Rattle.object.specs.Read.{licence_in, declared_maps, program_in, programs_in, job_in}
use Rattle.object.specs.Kept.{Kept}
use Rattle.refusals.specs.Refusal.{number_of, line_of}
use Rattle.judge.specs.declared.Declaration.{Declaration}
use Rattle.judge.specs.declared.Declaration.TheVariants as declaration
use Rattle.job.specs.declared.Built.{Built}
use Rattle.job.specs.declared.Parsed.{Parsed}
use Rattle.job.specs.declared.Said.{Said}

-- ---- lines

-- the line from `at` to `end` is the next one, and its LF is at `end`
pub record Next (text : List ℕ) (at end : ℕ) : Type 0 where
  pub framed : judged.Framed text at end
  pub inside : end < length text
  pub is : lines (drop at text) ≡ record { text = take (end - at) (drop at text); ended = true } ∷ lines (drop (end + 1) text)

-- what reading a line says: where it ends, or refusal 2
abbrev pub line_told : Option ℕ → Told ℕ
line_told (Some end) = gives end
line_told None = refuses 2

-- the line at `at` is a frame's, or the definition refuses it
abbrev pub LineSays : List ℕ → ℕ → Told ℕ → Type 0
LineSays text at (gives end) = Next text at end
LineSays text at (refuses n) = (s : Stage) → take_lines s (lines (drop at text)) ≡ faulty n (suc s.lines)

-- what the definition does with the line at `at`: it stops there, or the line is a frame's and is judged
abbrev pub Saying : List ℕ → ℕ → Stage → Result Said Refusal → Type 0
Saying text at s (Err r) = take_lines s (lines (drop at text)) ≡ faulty (number_of r) (line_of r)
Saying text at s (Ok x) = Next text at x.end × Ordered text s (line_bytes text at x.end) x.order

-- ---- the open program

-- how many programs are open
abbrev pub open_count : Option Program → ℕ
open_count None = 0
open_count (Some p) = 1

-- how much there is before a line, after `lines` other lines
abbrev pub counts_in : BpfObject → Option Program → ℕ → Counts
counts_in o p lines =
    record { lines = lines; programs = o.program_count + open_count p; relocs = o.reloc_count }

abbrev pub opened_at : Name → Name → ℕ → ℕ → Program
opened_at section symbol from first =
    record { section = section; symbol = symbol; from = from; lines = 0; code_len = 0; first = first; relocs = 0 }

abbrev pub code_added : Program → ℕ → Program
code_added p n =
    record {
      section = p.section;
      symbol = p.symbol;
      from = p.from;
      lines = p.lines + 1;
      code_len = p.code_len + n;
      first = p.first;
      relocs = p.relocs;
    }

abbrev pub reloc_added : Program → Program
reloc_added p =
    record {
      section = p.section;
      symbol = p.symbol;
      from = p.from;
      lines = p.lines + 1;
      code_len = p.code_len;
      first = p.first;
      relocs = p.relocs + 1;
    }

-- the object with the open program, if there is one
abbrev pub closed_of : BpfObject → Option Program → Added
closed_of o None = done o
closed_of o (Some p) = added_program o p

-- the same object, if there is room
abbrev pub closed_object : BpfObject → Option Program → BpfObject
closed_object o None = o
closed_object o (Some p) = with_program o p

-- the object with one relocation more
abbrev pub with_slot : BpfObject → Slot → BpfObject
with_slot o x =
    record {
      license = o.license;
      maps = o.maps;
      map_count = o.map_count;
      programs = o.programs;
      program_count = o.program_count;
      slots = set o.slots o.reloc_count (Some x);
      reloc_count = o.reloc_count + 1;
    }

-- ---- steps

abbrev pub built_with : Added → Option Program → Built
built_with a p = record { answer = a.answer; object = a.object; opened = p }

abbrev pub built_of : BpfObject → Option Program → Declaration → ℕ → Built
built_of o p (declaration.License n) from = built_with (with_license o n) p
built_of o p (declaration.Map d n) from = built_with (added_map o d n) p
built_of o p (declaration.Program a b) from = built_with (closed_of o p) (Some (opened_at a b from o.reloc_count))

-- ---- the tables and the open program as a stage

abbrev pub open_in : List ℕ → List (Option Slot) → Option Program → List job.Program
open_in text slots None = []
open_in text slots (Some p) = program_in text slots p ∷ []

abbrev pub stage_in : List ℕ → BpfObject → Option Program → ℕ → Stage
stage_in text o p n =
    record {
      lines = n;
      relocations = o.reloc_count;
      job =
          record {
            licence = licence_in text o.license;
            maps = declared_maps text o;
            programs = programs_in text o.slots (take o.program_count o.programs) ++ open_in text o.slots p;
          };
    }

-- ---- the answer

abbrev pub parsed_as : Result (Unit {0}) Refusal → BpfObject → Parsed
parsed_as a o = record { answer = a; object = o }

-- a table that is full is refused, which the walk's counts rule out
abbrev pub ended_as : Result (Unit {0}) Full → ℕ → Result (Unit {0}) Refusal
ended_as (Ok u) count = Ok tt
ended_as (Err e) count = Err (OverLimit count)

-- the end of the text: closing the open program decides
abbrev pub finished_with : Added → ℕ → Parsed
finished_with a count = parsed_as (ended_as a.answer count) a.object

abbrev pub finished_of : BpfObject → Option Program → ℕ → Parsed
finished_of o p count = finished_with (closed_of o p) count

-- the answer as the definition has it: the tables read as a job, or the refusal's number and line
abbrev pub parsing_in : List ℕ → Result (Unit {0}) Refusal → BpfObject → Checked
parsing_in text (Ok u) o = accepted (job_in text o)
parsing_in text (Err r) o = faulty (number_of r) (line_of r)

abbrev pub parsed_in : List ℕ → Parsed → Checked
parsed_in text r = parsing_in text r.answer r.object

-- what is known of the tables of an accepted job
abbrev pub ParsingKept : List ℕ → Result (Unit {0}) Refusal → BpfObject → Type 0
ParsingKept text (Ok u) o = Kept text o
ParsingKept text (Err r) o = Unit

abbrev pub ParsedKept : List ℕ → Parsed → Type 0
ParsedKept text r = ParsingKept text r.answer r.object
