-- What the builder's methods do: where the builder is afterwards, and the bytes of a row of types whose names follow `n` bytes of strings.
use Rattle.std.specs.Prelude.{List, [], ◌∷◌, ◌++◌, ℕ, suc, ◌+◌, ◌^◌, ◌≤◌, ◌<◌, length}
use Rattle.octets.specs.Octets.{le}
use Rattle.elf.specs.Row.{places_at}
use Rattle.btf.specs.Btf.{BtfType, type_names, type_bytes}
use Rattle.btf.specs.declared.BtfBuilder.{BtfBuilder}

-- four bytes for each number
abbrev pub words : List ℕ → List ℕ
words [] = []
words (v ∷ vs) = le 4 v ++ words vs

abbrev pub new_builder : BtfBuilder
new_builder = record { at = 0; strings = 1; next_type_id = 1 }

-- the builder after `n` more bytes of types, `s` of strings, and `k` types
abbrev pub moved : BtfBuilder → ℕ → ℕ → ℕ → BtfBuilder
moved b n s k = record { at = b.at + n; strings = b.strings + s; next_type_id = b.next_type_id + k }

-- the same if nothing has a name
abbrev pub passed : BtfBuilder → ℕ → ℕ → BtfBuilder
passed b n k = record { at = b.at + n; strings = b.strings; next_type_id = b.next_type_id + k }

-- after a struct's member, whose name takes `s` bytes, and after a section's entry: the id of the next type stays
abbrev pub membered : BtfBuilder → ℕ → BtfBuilder
membered b s = record { at = b.at + 12; strings = b.strings + s; next_type_id = b.next_type_id }

abbrev pub entered : BtfBuilder → BtfBuilder
entered b = record { at = b.at + 12; strings = b.strings; next_type_id = b.next_type_id }

-- the builder has not left the memory, and its numbers fit their fields
pub record Within (b : BtfBuilder) (room : ℕ) : Type 0 where
  pub at : b.at ≤ room
  pub strings : b.strings < 2 ^ 32
  pub next : b.next_type_id < 2 ^ 32

-- the place after names that begin at `n`
abbrev pub behind : ℕ → List (List ℕ) → ℕ
behind n [] = n
behind n (s ∷ ss) = behind (n + suc (length s)) ss

-- the bytes of types whose names begin at `n`
abbrev pub bytes_at : ℕ → List BtfType → List ℕ
bytes_at n [] = []
bytes_at n (t ∷ ts) = type_bytes (places_at n (type_names t)) t ++ bytes_at (behind n (type_names t)) ts

-- the names of types, and the place after them
abbrev pub names_of : List BtfType → List (List ℕ)
names_of [] = []
names_of (t ∷ ts) = type_names t ++ names_of ts

abbrev pub past : ℕ → List BtfType → ℕ
past n [] = n
past n (t ∷ ts) = past (behind n (type_names t)) ts
