-- What callers need of rows of slots: their entries are those of the object's definition. And the length of the licence.
use mathlib.Core.Path.{◌≡◌, refl, ◌∙◌, ap}
use mathlib.Core.Bool.{true}
use mathlib.Core.List.{List, [], ◌∷◌, ◌++◌}
use Prim.Native.Nat.{ℕ, ◌+◌, ◌-◌, ◌*◌, ◌≤◌, ◌<◌}
use native.Mathlib.Numerals.{add-one}
use native.Mathlib.Omega.{arith}
use lib.ListN.{length, take, drop, get_or, length-append, length-drop}
use lib.Seq.{length-take-le, take_all, drop-cons}
use Rattle.std.specs.Prelude.{Option, Some, None}
use Rattle.octets.specs.Octets.{value}
use Rattle.lines.specs.Hex.{is_hex, bytes_in}
use Rattle.lines.proofs.Bytes.{bytes_length}
use Rattle.elf.specs.Elf.{rel_bytes}
use Rattle.ast.specs.Job.{Map}
use Rattle.object.specs.declared.License.{License}
use Rattle.object.specs.declared.License.TheVariants.{Gpl, Text}
use Rattle.object.specs.declared.Slot.{Slot}
use Rattle.object.specs.Object.{relocation_bytes}
use Rattle.object.specs.Read.{bytes_at, licence_in, relocations_in}
use Rattle.object.specs.Kept.{LicenceNamed, ResolvedSlot}
use Rattle.object.proofs.Names.{name_length}
use Rattle.object.proofs.Slots.{AllResolved}
use Rattle.contents.specs.Slots.{licence_len, slot_bytes, slots_bytes, PlacedSlot, AllPlaced}

-- ---- the licence

pub licence_length : (text : List ℕ) (l : License) → LicenceNamed text l → length (licence_in text l) ≡ licence_len l
licence_length text Gpl k = refl
licence_length text (Text n) k = name_length text n k

-- ---- rows of slots

-- the bytes that slots give are those of the relocations that are read from them
pub slots_relocations : (text : List ℕ) (ss : List (Option Slot)) → slots_bytes text ss ≡ relocation_bytes (relocations_in text ss)
slots_relocations text [] = refl
slots_relocations text (None ∷ ss) = slots_relocations text ss
slots_relocations text (Some s ∷ ss) = rw (slots_relocations text ss)

slot_placed : (text : List ℕ) (ms : List Map) (s : Option Slot) → ResolvedSlot text ms s → PlacedSlot text s
slot_placed text ms None r = r
slot_placed text ms (Some s) r = (r.inside, r.hex)

pub resolved_placed : (text : List ℕ) (ms : List Map) (ss : List (Option Slot)) → AllResolved text ms ss → AllPlaced text ss
resolved_placed text ms [] r = tt
resolved_placed text ms (s ∷ ss) r = (slot_placed text ms s r.0, resolved_placed text ms ss r.1)

-- ---- one entry

-- the offset of a slot is what the sixteen characters at its place give
module _ (text : List ℕ) (place : ℕ) (inside : place + 16 ≤ length text) (hex : is_hex (take 16 (drop place text)) ≡ true) where
  sixteen : take (place + 16 - place) (drop place text) ≡ take 16 (drop place text)
  sixteen = let k : place + 16 - place ≡ 16 = omega arith in rw k

  pub offset_hex : is_hex (take (place + 16 - place) (drop place text)) ≡ true
  offset_hex = rw sixteen hex

  pub offset_length : length (take (place + 16 - place) (drop place text)) ≡ 16
  offset_length = rw sixteen (length-take-le 16 (drop place text) (rw length-drop (omega arith)))

  pub offset_read : value (take 8 (drop 0 (bytes_in (take (place + 16 - place) (drop place text))))) ≡ value (bytes_at text place 8)
  offset_read =
      let e : length (bytes_in (take 16 (drop place text))) ≤ 8 = omega (arith, bytes_length (take 16 (drop place text)) hex, ap length sixteen, offset_length) in
      rw sixteen (ap value (take_all 8 (bytes_in (take 16 (drop place text))) e))

-- ---- a row of entries

-- each slot that is placed takes sixteen bytes
pub slots_length : (text : List ℕ) (ss : List (Option Slot)) → AllPlaced text ss → length (slots_bytes text ss) ≡ 16 * length ss
slots_length text [] k = refl
slots_length text (s ∷ ss) k =
    omega (arith, length-append (slot_bytes text s) (slots_bytes text ss), slot_length s k.0, slots_length text ss k.1)
  where
    slot_length : (s : Option Slot) → PlacedSlot text s → length (slot_bytes text s) ≡ 16
    slot_length None k = absurd k
    slot_length (Some s) k = refl

-- what is known of a slot that is the next one of a row, if `more` come after it
pub record Next (text : List ℕ) (s : Slot) (rest more : List (Option Slot)) : Type 0 where
  pub inside : s.place + 16 ≤ length text
  pub hex : is_hex (take 16 (drop s.place text)) ≡ true
  pub bytes : slots_bytes text rest ≡ rel_bytes (value (bytes_at text s.place 8)) (2 + s.map) ++ slots_bytes text more
  pub placed : AllPlaced text more

pub next_slot : (text : List ℕ) (slots : List (Option Slot)) (i : ℕ) (s : Slot) → i < length slots → get_or slots i None ≡ Some s
    → AllPlaced text (drop i slots) → Next text s (drop i slots) (drop (i + 1) slots)
next_slot text slots i s few e k =
    let more = drop (i + 1) slots in
    let f : drop i slots ≡ Some s ∷ more = rw (add-one i) (drop-cons slots i None few) ∙ ap (λ (x : Option Slot). x ∷ more) e in
    let g : AllPlaced text (Some s ∷ more) = rw f at k in
    record { inside = omega (arith, g.0.0); hex = g.0.1; bytes = ap (slots_bytes text) f; placed = g.1 }
