-- The maps among which a name is looked up.
use Rattle.std.specs.Prelude.{◌≡◌, true, List, ℕ, ◌+◌, ◌*◌, ◌≤◌, ◌<◌, length, take, drop, get_or, Option, Some, None}
use Rattle.octets.specs.Told.{Told, gives, refuses, told}
use Rattle.lines.specs.Hex.{is_hex}
use Rattle.ast.specs.Job.{last_map}
use Rattle.ast.specs.declared.Name.{Name}
use Rattle.ast.specs.declared.NamedMap.{NamedMap}
use Rattle.object.specs.Tables.{no_map}
use Rattle.object.specs.Read.{maps_in}

-- a name is in the text and is hexadecimal
pub record There (text : List ℕ) (n : Name) : Type 0 where
  pub inside : n.at + 2 * n.len ≤ length text
  pub hex : is_hex (take (2 * n.len) (drop n.at text)) ≡ true

abbrev pub Names : List ℕ → List NamedMap → Type 0
Names text ms = (i : ℕ) → i < length ms → There text (get_or ms i no_map).name

-- a map's number; a map that nobody declared is refused 7
abbrev pub found_told : Option ℕ → Told ℕ
found_told (Some i) = gives i
found_told None = refuses 7

-- the answer is the last of the maps that has the name
abbrev pub Finds : List ℕ → List NamedMap → List ℕ → Option ℕ → Type 0
Finds text ms name r = found_told r ≡ told 7 (last_map name (maps_in text ms))

abbrev pub FoundIn : ℕ → Option ℕ → Type 0
FoundIn count (Some i) = i < count
FoundIn count None = Unit
