-- Programs and their relocations read from the tables, by one line, one slot or one program more.
use mathlib.Core.Path.{◌≡◌, refl, sym, ap}
use mathlib.Core.Bool.{true}
use mathlib.Core.List.{List, [], ◌∷◌, ◌++◌, append_assoc, append-nil}
use Prim.Native.Nat.{ℕ, zero, suc, ◌+◌, ◌-◌, ◌≤◌, ◌<◌}
use native.Mathlib.Omega.{arith}
use lib.ListN.{length, take, drop, set, length-drop}
use lib.Seq.{take-suc-set, take-set-le, drop-set-add}
use Rattle.lines.specs.Lines.{Line, frame_bytes}
use Rattle.lines.specs.Hex.{there}
use Rattle.ast.specs.Job as job
use Rattle.std.specs.Prelude.{Option}
use Rattle.object.specs.declared.Slot.{Slot}
use Rattle.object.specs.declared.Program.{Program}
use Rattle.object.specs.Read.{slot_in, relocations_in, line_code, code_of, program_in, programs_in}
use Rattle.object.specs.Kept.{AllFrames, ProgramKept, AllKept}

-- ---- lists

-- one element more, if it comes next
pub take_next : {A : Type 0} (l : List A) (n : ℕ) (a : A) (rest : List A) → drop n l ≡ a ∷ rest → take (suc n) l ≡ take n l ++ (a ∷ [])
take_next [] zero a rest e = let z : ◌≡◌ {A = ℕ} 0 1 = cc in absurd (omega arith)
take_next [] (suc n) a rest e = let z : ◌≡◌ {A = ℕ} 0 1 = cc in absurd (omega arith)
take_next (x ∷ xs) zero a rest e = let p : x ≡ a = cc in rw p
take_next {A} (x ∷ xs) (suc n) a rest e = ap (λ (r : List A). x ∷ r) (take_next xs n a rest e)

pub drop-next : {A : Type 0} (l : List A) (n : ℕ) (a : A) (rest : List A) → drop n l ≡ a ∷ rest → drop (suc n) l ≡ rest
drop-next [] zero a rest e = let z : ◌≡◌ {A = ℕ} 0 1 = cc in absurd (omega arith)
drop-next [] (suc n) a rest e = let z : ◌≡◌ {A = ℕ} 0 1 = cc in absurd (omega arith)
drop-next (x ∷ xs) zero a rest e = cc
drop-next (x ∷ xs) (suc n) a rest e = drop-next xs n a rest e

-- a slot after a part, and the part with it
part_kept : (l : List (Option Slot)) (a k n : ℕ) (v : Option Slot) → a + k ≤ n → take k (drop a (set l n v)) ≡ take k (drop a l)
part_kept l a k n v h =
    let e : n ≡ a + (n - a) = omega arith in
    let g : k ≤ n - a = omega arith in
    rw (e, drop-set-add a l (n - a) v, take-set-le k (drop a l) (n - a) v g)

pub part_more : (l : List (Option Slot)) (a k : ℕ) (v : Option Slot) → a + k < length l → take (suc k) (drop a (set l (a + k) v)) ≡ take k (drop a l) ++ (v ∷ [])
part_more l a k v h =
    let g : k < length (drop a l) = rw length-drop (omega arith) in
    rw (drop-set-add a l k v) (take-suc-set (drop a l) k v g)

-- ---- code and relocations

pub code_snoc : (ls : List Line) (l : Line) → code_of (ls ++ (l ∷ [])) ≡ code_of ls ++ line_code (frame_bytes l)
code_snoc [] l = rw append-nil
code_snoc (m ∷ ls) l = rw (code_snoc ls l) (sym (append_assoc (line_code (frame_bytes m)) (code_of ls) (line_code (frame_bytes l))))

pub frames_snoc : (ls : List Line) (l : Line) → AllFrames ls → there (frame_bytes l) ≡ true → AllFrames (ls ++ (l ∷ []))
frames_snoc [] l k e = (e, tt)
frames_snoc (m ∷ ls) l k e = (k.0, frames_snoc ls l k.1 e)

pub relocations_snoc : (text : List ℕ) (ss : List (Option Slot)) (s : Option Slot) → relocations_in text (ss ++ (s ∷ [])) ≡ relocations_in text ss ++ slot_in text s
relocations_snoc text [] s = append-nil (slot_in text s)
relocations_snoc text (r ∷ ss) s =
    rw (relocations_snoc text ss s) (sym (append_assoc (slot_in text r) (relocations_in text ss) (slot_in text s)))

-- ---- programs

pub programs_snoc : (text : List ℕ) (slots : List (Option Slot)) (ps : List Program) (p : Program)
    → programs_in text slots (ps ++ (p ∷ [])) ≡ programs_in text slots ps ++ (program_in text slots p ∷ [])
programs_snoc text slots [] p = refl
programs_snoc text slots (q ∷ ps) p = ap (λ (x : List job.Program). program_in text slots q ∷ x) (programs_snoc text slots ps p)

pub programs_length : (text : List ℕ) (slots : List (Option Slot)) (ps : List Program) → length (programs_in text slots ps) ≡ length ps
programs_length text slots [] = refl
programs_length text slots (p ∷ ps) = ap suc (programs_length text slots ps)

-- a slot after those of all programs changes none of them
pub programs_kept : (text : List ℕ) (slots : List (Option Slot)) (n : ℕ) (v : Option Slot) (ps : List Program) → AllKept text n ps
    → programs_in text (set slots n v) ps ≡ programs_in text slots ps
programs_kept text slots n v [] k = refl
programs_kept text slots n v (p ∷ ps) k =
    rw (part_kept slots p.first p.relocs n v k.0.slots) (ap (λ (x : List job.Program). program_in text slots p ∷ x) (programs_kept text slots n v ps k.1))

pub kept_more : (text : List ℕ) (n m : ℕ) (ps : List Program) → n ≤ m → AllKept text n ps → AllKept text m ps
kept_more text n m [] h k = tt
kept_more text n m (p ∷ ps) h k =
    let q = k.0 in (
      record { section = q.section; symbol = q.symbol; there = q.there; frames = q.frames; code = q.code; slots = omega (arith, q.slots) },
      kept_more text n m ps h k.1,
    )

pub kept_snoc : (text : List ℕ) (n : ℕ) (ps : List Program) (p : Program) → AllKept text n ps → ProgramKept text n p → AllKept text n (ps ++ (p ∷ []))
kept_snoc text n [] p k q = (q, tt)
kept_snoc text n (r ∷ ps) p k q = (k.0, kept_snoc text n ps p k.1 q)
