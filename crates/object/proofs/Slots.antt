-- The slots of an accepted job's programs are all resolved, so that a program has as many relocations as it counts.
use mathlib.Core.Path.{◌≡◌, refl, ◌∙◌}
use mathlib.Core.List.{List, [], ◌∷◌}
use Prim.Native.Nat.{ℕ, zero, suc, ◌+◌, ◌≤◌, ◌<◌}
use native.Mathlib.Omega.{arith}
use lib.ListN.{length, take, drop, get_or, length-append, length-drop}
use lib.Seq.{length-take-le, get_or-drop}
use Rattle.ast.specs.Job.{Map}
use Rattle.std.specs.Prelude.{Option, Some, None}
use Rattle.object.specs.declared.Slot.{Slot}
use Rattle.object.specs.declared.Program.{Program}
use Rattle.object.specs.declared.BpfObject.{BpfObject}
use Rattle.object.specs.Read.{slot_in, relocations_in, program_in, declared_maps}
use Rattle.object.specs.Kept.{ResolvedSlot, AllKept, Kept}

-- every slot of a row is resolved
abbrev pub AllResolved : List ℕ → List Map → List (Option Slot) → Type 0
AllResolved text ms [] = Unit
AllResolved text ms (s ∷ ss) = ResolvedSlot text ms s × AllResolved text ms ss

-- then each of them gives one relocation
pub relocations_length : (text : List ℕ) (ms : List Map) (ss : List (Option Slot)) → AllResolved text ms ss → length (relocations_in text ss) ≡ length ss
relocations_length text ms [] r = refl
relocations_length text ms (s ∷ ss) r =
    omega (
      arith,
      length-append (slot_in text s) (relocations_in text ss),
      slot_length s r.0,
      relocations_length text ms ss r.1,
    )
  where
    slot_length : (s : Option Slot) → ResolvedSlot text ms s → length (slot_in text s) ≡ 1
    slot_length None r = absurd r
    slot_length (Some s) r = refl

-- a part of a table whose slots are resolved one by one
taken_resolved : (text : List ℕ) (ms : List Map) (l : List (Option Slot)) (k : ℕ) → k ≤ length l
    → ((i : ℕ) → i < k → ResolvedSlot text ms (get_or l i None)) → AllResolved text ms (take k l)
taken_resolved text ms l zero h f = tt
taken_resolved text ms [] (suc k) h f = tt
taken_resolved text ms (s ∷ l) (suc k) h f = (f 0 (omega arith), taken_resolved text ms l k (omega arith) (λ i g. f (suc i) (omega arith)))

-- every program has as many relocations as it counts
abbrev pub AllCounted : List ℕ → List (Option Slot) → List Program → Type 0
AllCounted text slots [] = Unit
AllCounted text slots (p ∷ ps) = (length (program_in text slots p).relocations ≡ p.relocs) × AllCounted text slots ps

module _ (text : List ℕ) (o : BpfObject) (k : Kept text o) where
  pub part-resolved : (p : Program) → p.first + p.relocs ≤ o.reloc_count
      → AllResolved text (declared_maps text o) (take p.relocs (drop p.first o.slots))
  part-resolved p h =
      taken_resolved text (declared_maps text o) (drop p.first o.slots) p.relocs (rw length-drop (omega (arith, k.sound)))
      (λ i g. rw (get_or-drop p.first o.slots i None) (k.slots (p.first + i) (omega arith)))

  counted : (ps : List Program) → AllKept text o.reloc_count ps → AllCounted text o.slots ps
  counted [] q = tt
  counted (p ∷ ps) q =
      let part = take p.relocs (drop p.first o.slots) in
      let n : length part ≡ p.relocs = length-take-le p.relocs (drop p.first o.slots) (rw length-drop (omega (arith, k.sound, q.0.slots))) in
      (relocations_length text (declared_maps text o) part (part-resolved p q.0.slots) ∙ n, counted ps q.1)

  pub all_counted : AllCounted text o.slots (take o.program_count o.programs)
  all_counted = counted (take o.program_count o.programs) k.programs
