-- Rows of BTF types: how many bytes a type takes, which numbers fit their fields, and the bytes and strings that a builder makes from any
-- strings on. Nothing here knows which types a job has.
use mathlib.Core.Path.{◌≡◌, refl, sym, ap, ◌∙◌}
use mathlib.Core.List.{List, [], ◌∷◌, ◌++◌, append_assoc, append-nil}
use Prim.Native.Nat.{ℕ, suc, ◌+◌, ◌*◌, ◌^◌, ◌≤◌, ◌<◌}
use native.Mathlib.Omega.{arith}
use lib.ListN.{length, length-append, length-map}
use Rattle.octets.specs.All.{All}
use Rattle.written.proofs.Names.{Clean}
use Rattle.elf.specs.Strings.{add_strings, empty_table}
use Rattle.elf.specs.Row.{size_of}
use Rattle.elf.proofs.Strings.{all_stand, stand_length, table_grows, table-length}
use Rattle.btf.specs.Btf.{Member, Var, BtfType, int, ptr, array, struct, var, datasec, type_names, member_bytes, var_bytes, type_bytes, Builder, add_type, add_types, start, finished, btf_bytes}

-- ---- one type

-- numbers that fit, and names without a zero byte
abbrev pub FitMember : Member → Type 0
FitMember m = m.type_id < 2 ^ 32

pub record FitVar (v : Var) : Type 0 where
  pub type_id : v.type_id < 2 ^ 32
  pub offset : v.offset < 2 ^ 32

abbrev pub FitNumbers : BtfType → Type 0
FitNumbers (int name size encoding) = (size < 2 ^ 32) × (encoding * 2 ^ 24 + 8 * size < 2 ^ 32)
FitNumbers (ptr t) = t < 2 ^ 32
FitNumbers (array elem index n) = n < 2 ^ 32
FitNumbers (struct ms) = (length ms < 2 ^ 24) × All FitMember ms
FitNumbers (var name t) = t < 2 ^ 32
FitNumbers (datasec name size vs) = (length vs < 2 ^ 24) × All FitVar vs

pub record FitType (t : BtfType) : Type 0 where
  pub numbers : FitNumbers t
  pub clean : All Clean (type_names t)

-- how many bytes a type takes
abbrev pub type_size : BtfType → ℕ
type_size (int name size encoding) = 16
type_size (ptr t) = 12
type_size (array elem index n) = 24
type_size (struct ms) = 12 + 12 * length ms
type_size (var name t) = 16
type_size (datasec name size vs) = 12 + 12 * length vs

pub type_size_lem : (t : BtfType) → 12 ≤ type_size t
type_size_lem (int name size encoding) = omega arith
type_size_lem (ptr t) = omega arith
type_size_lem (array elem index n) = omega arith
type_size_lem (struct ms) = omega arith
type_size_lem (var name t) = omega arith
type_size_lem (datasec name size vs) = omega arith

length_members : (i : ℕ) (ps : List ℕ) (ms : List Member) → length ps ≡ length ms → length (member_bytes i ps ms) ≡ 12 * length ms
length_members i [] [] e = refl
length_members i [] (m ∷ ms) e = absurd (omega arith)
length_members i (p ∷ ps) [] e = absurd (omega arith)
length_members i (p ∷ ps) (m ∷ ms) e = omega (arith, length_members (suc i) ps ms (omega arith))

length_vars : (vs : List Var) → length (var_bytes vs) ≡ 12 * length vs
length_vars [] = refl
length_vars (v ∷ vs) = omega (arith, length_vars vs)

pub length_type : (ps : List ℕ) (t : BtfType) → length ps ≡ length (type_names t) → length (type_bytes ps t) ≡ type_size t
length_type ps (int name size encoding) e = refl
length_type ps (ptr t) e = refl
length_type ps (array elem index n) e = refl
length_type ps (struct ms) e =
    omega (arith, length-append (member_bytes 0 ps ms) [], length_members 0 ps ms (e ∙ length-map ms (λ m. m.name)))
length_type ps (var name t) e = refl
length_type ps (datasec name size vs) e = omega (arith, length-append (var_bytes vs) [], length_vars vs)

-- ---- a row of types

-- the bytes and the strings of types, after the strings `strs`
abbrev pub bytes_from : List ℕ → List BtfType → List ℕ
bytes_from strs [] = []
bytes_from strs (t ∷ ts) =
    type_bytes (add_strings strs (type_names t)).places t ++ bytes_from (add_strings strs (type_names t)).table ts

abbrev pub table_from : List ℕ → List BtfType → List ℕ
table_from strs [] = strs
table_from strs (t ∷ ts) = table_from (add_strings strs (type_names t)).table ts

pub types_added : (ts : List BtfType) (b : Builder) → (add_types ts b).types ≡ b.types ++ bytes_from b.strings ts
types_added [] b = sym (append-nil b.types)
types_added (t ∷ ts) b =
    types_added ts (add_type t b)
    ∙ append_assoc b.types (type_bytes (add_strings b.strings (type_names t)).places t) (bytes_from (add_type t b).strings ts)

pub strings-added : (ts : List BtfType) (b : Builder) → (add_types ts b).strings ≡ table_from b.strings ts
strings-added [] b = refl
strings-added (t ∷ ts) b = strings-added ts (add_type t b)

-- strings are added at the end
pub strings_grow : (strs : List ℕ) (ts : List BtfType) → (r : List ℕ) × (table_from strs ts ≡ strs ++ r)
strings_grow strs [] = ([], sym (append-nil strs))
strings_grow strs (t ∷ ts) =
    let (r, e) = table_grows strs (type_names t) in
    let (q, g) = strings_grow (add_strings strs (type_names t)).table ts in
    (r ++ q, g ∙ ap (λ (x : List ℕ). x ++ q) e ∙ append_assoc strs r q)

-- a type's bytes at the front of a row
pub length-first : (strs : List ℕ) (t : BtfType) → length (type_bytes (add_strings strs (type_names t)).places t) ≡ type_size t
length-first strs t =
    let p = add_strings strs (type_names t) in
    length_type p.places t (stand_length p.table p.places (type_names t) (all_stand strs (type_names t)))

pub count_types : (strs : List ℕ) (ts : List BtfType) → length ts ≤ length (bytes_from strs ts)
count_types strs [] = omega arith
count_types strs (t ∷ ts) =
    let p = add_strings strs (type_names t) in
    omega (
      arith,
      count_types p.table ts,
      length-append (type_bytes p.places t) (bytes_from p.table ts),
      type_size_lem t,
      length-first strs t,
    )

-- ---- how long a section is

-- the bytes that types and their names take together
abbrev pub weigh : List BtfType → ℕ
weigh [] = 0
weigh (t ∷ ts) = type_size t + size_of (type_names t) + weigh ts

pub weigh_append : (xs ys : List BtfType) → weigh (xs ++ ys) ≡ weigh xs + weigh ys
weigh_append [] ys = omega arith
weigh_append (x ∷ xs) ys = omega (arith, weigh_append xs ys)

pub weighed : (strs : List ℕ) (ts : List BtfType) → length (bytes_from strs ts) + length (table_from strs ts) ≡ length strs + weigh ts
weighed strs [] = omega arith
weighed strs (t ∷ ts) =
    let p = add_strings strs (type_names t) in
    omega (
      arith,
      weighed p.table ts,
      length-append (type_bytes p.places t) (bytes_from p.table ts),
      length-first strs t,
      table-length strs (type_names t),
    )

pub length-finished : (b : Builder) → length (finished b) ≡ 24 + length b.types + length b.strings
length-finished b = omega (arith, length-append b.types (b.strings ++ []), length-append b.strings [])

pub length_btf : (ts : List BtfType) → length (btf_bytes ts) ≡ 25 + weigh ts
length_btf ts =
    omega (
      arith,
      length-finished (add_types ts start),
      ap length (types_added ts start),
      ap length (strings-added ts start),
      weighed empty_table ts,
    )
