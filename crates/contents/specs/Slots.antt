-- What the licence section and a REL section hold, by the tables: the length of the licence, and the bytes of a row of slots.
use Rattle.std.specs.Prelude.{Option, Some, None, ◌≡◌, true, List, [], ◌∷◌, ◌++◌, ℕ, ◌+◌, ◌*◌, ◌≤◌, length, take, drop}
use Rattle.octets.specs.Octets.{value}
use Rattle.lines.specs.Hex.{is_hex}
use Rattle.elf.specs.Elf.{rel_bytes}
use Rattle.object.specs.declared.License.{License}
use Rattle.object.specs.declared.License.TheVariants.{Gpl, Text}
use Rattle.object.specs.declared.Slot.{Slot}
use Rattle.object.specs.Read.{bytes_at}

-- How many bytes the licence has, without its zero byte. A job with no licence frame has the licence GPL.
abbrev pub licence_len : License → ℕ
licence_len Gpl = 3
licence_len (Text n) = n.len

-- A slot gives one entry: its offset is in the text, and its map's symbol follows the null symbol, LICENSE and the maps before it. An empty
-- slot gives none.
abbrev pub slot_bytes : List ℕ → Option Slot → List ℕ
slot_bytes text None = []
slot_bytes text (Some s) = rel_bytes (value (bytes_at text s.place 8)) (2 + s.map)

-- Slots in a row give their entries in the same order.
abbrev pub slots_bytes : List ℕ → List (Option Slot) → List ℕ
slots_bytes text [] = []
slots_bytes text (s ∷ ss) = slot_bytes text s ++ slots_bytes text ss

-- A slot is placed when its offset is in the text in hexadecimal, and the map's name after it is in the text too. An empty slot is not
-- placed, so a writer never meets one.
abbrev pub PlacedSlot : List ℕ → Option Slot → Type 0
PlacedSlot text None = ⊥
PlacedSlot text (Some s) = (s.place + 16 + 2 * s.len ≤ length text) × (is_hex (take 16 (drop s.place text)) ≡ true)

-- Every slot of a row is placed.
abbrev pub AllPlaced : List ℕ → List (Option Slot) → Type 0
AllPlaced text [] = Unit
AllPlaced text (s ∷ ss) = PlacedSlot text s × AllPlaced text ss
