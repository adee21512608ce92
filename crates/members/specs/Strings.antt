-- The strings of a job's maps, as the string table of `.BTF` has them: each with its zero byte, and an equal one is written again.
use Rattle.std.specs.Prelude.{List, [], ◌∷◌, ◌++◌, ℕ}
use Rattle.octets.specs.Octets.{ascii}
use Rattle.written.specs.Written.{written}
use Rattle.ast.specs.Job.{Map}
use Rattle.ast.specs.declared.Attr.{Attr}
use Rattle.ast.specs.declared.«Type».{«Type» as MemberType}
use Rattle.ast.specs.declared.Attr.TheVariants.{Absent, Present}

-- the name of an attribute; nothing if it is absent
abbrev pub attr_name : {A : Type 0} → Attr A → List ℕ → List ℕ
attr_name Absent s = []
attr_name (Present x) s = s ++ (0 ∷ [])

abbrev pub attr_names : Attr MemberType → Attr MemberType → Attr ℕ → List ℕ
attr_names key value entries =
    (ascii "type" ++ (0 ∷ [])) ++ (attr_name key (ascii "key") ++ (attr_name value (ascii "value") ++ attr_name entries (ascii "max_entries")))

-- the names of a map's members, and its own
abbrev pub map_strings : Map → List ℕ
map_strings m = attr_names m.key m.value m.entries ++ (written m.name ++ (0 ∷ []))

abbrev pub maps_strings : List Map → List ℕ
maps_strings [] = []
maps_strings (m ∷ ms) = map_strings m ++ maps_strings ms

-- the table's zero byte and the ints
abbrev pub int_strings : List ℕ
int_strings =
    0 ∷ ((ascii "int" ++ (0 ∷ [])) ++ ((ascii "u32" ++ (0 ∷ [])) ++ ((ascii "u64" ++ (0 ∷ [])) ++ ((ascii "i32" ++ (0 ∷ [])) ++ (ascii "i64" ++ (0 ∷ []))))))

abbrev pub all_strings : List Map → List ℕ
all_strings ms = int_strings ++ (maps_strings ms ++ (ascii ".maps" ++ (0 ∷ [])))
