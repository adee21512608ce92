-- What a loader must find in a job's object: demand 3.
use Rattle.std.specs.Prelude.{◌≡◌, List, map, ℕ}
use Rattle.std.proofs.Math.Option.{some}
use Rattle.octets.specs.All.{All}
use Rattle.written.specs.Written.{written}
use Rattle.ast.specs.Job.{Map, Job, last_map}
use Rattle.ast.specs.Job as job
use Rattle.reading.specs.Reading.{Reading, reading, reads}
use Rattle.reading.specs.Relocations as loader

-- a map as declared, under its written name
abbrev pub seen_map : Map → Map
seen_map m = record { name = written m.name; kind = m.kind; key = m.key; value = m.value; entries = m.entries }

-- a relocation's place, and its map by the number
abbrev pub seen_relocation : job.Relocation → loader.Relocation
seen_relocation r = record { offset = r.offset; map = r.number }

abbrev pub seen_program : job.Program → loader.Program
seen_program p =
    record {
      section = p.section;
      symbol = written p.symbol;
      code = p.code;
      relocations = map seen_relocation p.relocations;
    }

abbrev pub seen : Job → Reading
seen j = record { licence = j.licence; maps = map seen_map j.maps; programs = map seen_program j.programs }

-- a relocation has the number of the last map that is declared under its raw name
abbrev pub Last : List Map → job.Relocation → Type 0
Last ms r = last_map r.map ms ≡ some r.number

-- every relocation of a job has that number
abbrev pub Resolved : Job → Type 0
Resolved j = All (λ (p : job.Program). All (Last j.maps) p.relocations) j.programs

-- Demand 3 of a job and bytes: a loader reads from the bytes what the job declares, and the job's relocations have their maps' numbers. The
-- theorem: for every text and job with `checked text ≡ accepted j`, `Loads (object j) j`.
pub record Loads (bytes : List ℕ) (j : Job) : Type 0 where
  pub read : reading bytes ≡ reads (seen j)
  pub resolved : Resolved j
