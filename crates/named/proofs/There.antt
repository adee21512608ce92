-- The maps and programs of an accepted job from some one on: for loops over them.
use mathlib.Core.Path.{◌≡◌, refl}
use mathlib.Core.List.{List, [], ◌∷◌}
use Prim.Native.Nat.{ℕ, zero, suc, ◌+◌, ◌≤◌, ◌<◌}
use native.Mathlib.Omega.{arith}
use native.Mathlib.Numerals.{add-one}
use lib.ListN.{length, take, drop, get_or}
use lib.Seq.{length-take-le}
use Rattle.ast.specs.declared.NamedMap.{NamedMap}
use Rattle.std.specs.Prelude.{Option}
use Rattle.object.specs.declared.Slot.{Slot}
use Rattle.object.specs.declared.Program.{Program}
use Rattle.object.specs.declared.BpfObject.{BpfObject}
use Rattle.object.specs.Tables.{no_map, no_program}
use Rattle.object.specs.Read.{map_in, maps_in, program_in, programs_in}
use Rattle.object.specs.Kept.{Kept, ProgramKept, AllKept}
use Rattle.named.specs.There.{MapsThere}

-- ---- maps

next_map : (text : List ℕ) (ms : List NamedMap) (i : ℕ) → i < length ms → drop i (maps_in text ms) ≡ map_in text (get_or ms i no_map) ∷ drop (suc i) (maps_in text ms)
next_map text [] i h = absurd (omega arith)
next_map text (m ∷ ms) zero h = refl
next_map text (m ∷ ms) (suc i) h = next_map text ms i (omega arith)

-- the map at `i`, and those after it
pub maps_from : (text : List ℕ) (ms : List NamedMap) (i : ℕ) → i < length ms → drop i (maps_in text ms) ≡ map_in text (get_or ms i no_map) ∷ drop (i + 1) (maps_in text ms)
maps_from text ms i h = rw (add-one i) (next_map text ms i h)

-- no map is after the last
pub maps_end : (text : List ℕ) (ms : List NamedMap) (i : ℕ) → length ms ≤ i → drop i (maps_in text ms) ≡ []
maps_end text [] zero h = refl
maps_end text [] (suc i) h = refl
maps_end text (m ∷ ms) zero h = absurd (omega arith)
maps_end text (m ∷ ms) (suc i) h = maps_end text ms i (omega arith)

pub kept_maps : (text : List ℕ) (o : BpfObject) → Kept text o → MapsThere text (take o.map_count o.maps)
kept_maps text o k =
    let s = k.sound in
    let n = length-take-le o.map_count o.maps (omega (arith, s.maps, s.few_maps)) in
    record { few = omega (arith, n, s.few_maps); named = k.maps }

-- ---- programs

next_program : (text : List ℕ) (slots : List (Option Slot)) (ps : List Program) (i : ℕ) → i < length ps
    → drop i (programs_in text slots ps) ≡ program_in text slots (get_or ps i no_program) ∷ drop (suc i) (programs_in text slots ps)
next_program text slots [] i h = absurd (omega arith)
next_program text slots (p ∷ ps) zero h = refl
next_program text slots (p ∷ ps) (suc i) h = next_program text slots ps i (omega arith)

-- the program at `i`, and those after it
pub programs_from : (text : List ℕ) (slots : List (Option Slot)) (ps : List Program) (i : ℕ) → i < length ps
    → drop i (programs_in text slots ps) ≡ program_in text slots (get_or ps i no_program) ∷ drop (i + 1) (programs_in text slots ps)
programs_from text slots ps i h = rw (add-one i) (next_program text slots ps i h)

pub programs_end : (text : List ℕ) (slots : List (Option Slot)) (ps : List Program) (i : ℕ) → length ps ≤ i → drop i (programs_in text slots ps) ≡ []
programs_end text slots [] zero h = refl
programs_end text slots [] (suc i) h = refl
programs_end text slots (p ∷ ps) zero h = absurd (omega arith)
programs_end text slots (p ∷ ps) (suc i) h = programs_end text slots ps i (omega arith)

-- what is known of the program at `i`
pub kept_program : (text : List ℕ) (m : ℕ) (ps : List Program) (i : ℕ) → i < length ps → AllKept text m ps → ProgramKept text m (get_or ps i no_program)
kept_program text m [] i h k = absurd (omega arith)
kept_program text m (p ∷ ps) zero h k = k.0
kept_program text m (p ∷ ps) (suc i) h k = kept_program text m ps i (omega arith) k.1
