-- The strength of demand 3: computing one job shows that the right writer keeps it and that no writer of specs/Wrong.antt does.
use mathlib.Core.Path.{◌≡◌, refl, sym, ap, ◌∙◌}
use mathlib.Core.Bool.{false, false≢true}
use mathlib.Core.List.{List, [], ◌∷◌, map}
use Prim.Native.Nat.{ℕ}
use Rattle.octets.specs.Octets.{equal}
use Rattle.octets.proofs.Laws.{equal_self}
use Rattle.octets.specs.All.{All}
use Rattle.ast.specs.Job.{Relocation, Program, Job}
use Rattle.object.specs.Object.{object, declared_sections, symbols}
use Rattle.refusals.specs.Checked.{checked, accepted}
use Rattle.reading.specs.Reading.{Read, reading, reads}
use Rattle.seen.specs.Seen.{seen, Loads}
use Rattle.seen.specs.Wrong.{Writer, text, job, object_of, numbered, renumbered, looked_up, later_left_zero, first_of_equal_names, written_names, absent_as_zero, offset_off, maps_swapped, code_cut, one_object, shown}

-- the right writer: the job is accepted, and a loader finds what it must
pub job_accepted : checked text ≡ accepted job
job_accepted = refl

pub job_read : Loads (object job) job
job_read = record { read = refl; resolved = ((refl, tt), ((refl, (refl, tt)), tt)) }

-- the parts of the wrong writers make the right writer if nothing is changed
pub object_parts : (j : Job) → object_of (declared_sections j) (symbols j) ≡ object j
object_parts j = refl

own_numbers : (rs : List Relocation) → numbered (λ r. r.number ∷ []) rs ≡ rs
own_numbers [] = refl
own_numbers (r ∷ rs) = ap (λ (x : List Relocation). r ∷ x) (own_numbers rs)

own_programs : (ps : List Program) → map (renumbered (λ r. r.number ∷ [])) ps ≡ ps
own_programs [] = refl
own_programs (p ∷ ps) = rw (own_numbers p.relocations, own_programs ps)

pub object_looked_up : (j : Job) → looked_up (λ r. r.number ∷ []) j ≡ object j
object_looked_up j = rw (own_programs j.programs)

-- demand 3 of a writer
abbrev pub Demand : Writer → Type 0
Demand w = (t : List ℕ) (j : Job) → checked t ≡ accepted j → Loads (w j) j

refused : (w : Writer) → equal (shown (reading (w job))) (shown (reads (seen job))) ≡ false → Demand w → ⊥
refused w e d =
    let right = shown (reads (seen job)) in
    false≢true (sym e ∙ ap (λ (r : Read). equal (shown r) right) (d text job job_accepted).read ∙ equal_self right)

pub wrong_refused : All (λ (w : Writer). Demand w → ⊥)
    (later_left_zero ∷ first_of_equal_names ∷ written_names ∷ absent_as_zero ∷ offset_off ∷ maps_swapped ∷ code_cut ∷ one_object ∷ [])
wrong_refused = (
  refused later_left_zero refl,
  (
    refused first_of_equal_names refl,
    (
      refused written_names refl,
      (refused absent_as_zero refl, (refused offset_off refl, (refused maps_swapped refl, (refused code_cut refl, (refused one_object refl, tt))))),
    ),
  ),
)
