-- L6, the bytes: a row of BTF types is read back, each with its names from the strings, and in a section that a builder finishes a loader
-- finds the builder's types.
use mathlib.Core.Path.{◌≡◌, refl, ap₂, ◌∙◌}
use mathlib.Core.Option.{some}
use mathlib.Core.List.{List, [], ◌∷◌, ◌++◌, map, append-nil}
use Prim.Native.Nat.{ℕ, zero, suc, ◌+◌, ◌*◌, ◌/◌, ◌%◌, ◌^◌, ◌≤◌, ◌<◌}
use native.Mathlib.Omega.{arith}
use lib.ListN.{length, take, length-append}
use lib.Seq.{drop_at, drop-append-add, drop-append_seam, take-append_seam}
use borrow.Author.Tests.{ne_eqb}
use Rattle.octets.specs.Octets.{le, value}
use Rattle.octets.proofs.Numbers.{value-le}
use Rattle.octets.specs.All.{All}
use Rattle.written.proofs.Names.{Clean}
use Rattle.elf.specs.Strings.{add_strings, empty_table}
use Rattle.elf.proofs.Strings.{AllStand, all_stand, all_stand_more, stand_length, stands_inside}
use Rattle.btf.specs.Btf.{Member, Var, BtfType, int, ptr, array, struct, var, datasec, type_names, member_bytes, var_bytes, type_bytes, info, Builder, add_types, start, finished, btf_bytes}
use Rattle.btf.proofs.Types.{FitMember, FitVar, FitType, type_size, type_size_lem, length_type, length-first, bytes_from, table_from, types_added, strings-added, strings_grow, count_types, weigh, weighed, length-finished}
use Rattle.reading.specs.Steps.{field}
use Rattle.reading.specs.Maps.{members_of, entries_of, front_of, front, types_of, read_btf}
use Rattle.reading.specs.Maps as reading
use Rattle.reading.proofs.Rules.{front_of_lem, btf_of}
use Rattle.seen.proofs.Strings.{stands_read}

-- types as a loader sees them
abbrev pub seen_member : Member → reading.Member
seen_member m = record { name = some m.name; type_id = m.type_id }

abbrev pub seen_var : Var → reading.Var
seen_var v = record { type_id = v.type_id; offset = v.offset }

abbrev pub seen_type : BtfType → reading.BtfType
seen_type (int name size encoding) = reading.int size (encoding * 2 ^ 24 + 8 * size)
seen_type (ptr t) = reading.ptr t
seen_type (array elem index n) = reading.array n
seen_type (struct ms) = reading.struct (map seen_member ms)
seen_type (var name t) = reading.var (some name) t
seen_type (datasec name size vs) = reading.datasec (some name) (map seen_var vs)

-- ---- one type

members_read : (strs : List ℕ) (i : ℕ) (ps : List ℕ) (ms : List Member) (r : List ℕ) → length strs ≤ 2 ^ 32
    → AllStand strs ps (map (λ m. m.name) ms) → All Clean (map (λ m. m.name) ms) → All FitMember ms
    → members_of strs (length ms) (member_bytes i ps ms ++ r) ≡ map seen_member ms
members_read strs i [] [] r l a c f = refl
members_read strs i [] (m ∷ ms) r l a c f = absurd a
members_read strs i (p ∷ ps) [] r l a c f = absurd a
members_read strs i (p ∷ ps) (m ∷ ms) r l a c f =
    let inside = stands_inside a.0 in
    rw (
      value-le 4 p (omega arith),
      stands_read a.0 c.0,
      value-le 4 m.type_id f.0,
      members_read strs (suc i) ps ms r l a.1 c.1 f.1,
    )

vars_read : (vs : List Var) (r : List ℕ) → All FitVar vs → entries_of (length vs) (var_bytes vs ++ r) ≡ map seen_var vs
vars_read [] r f = refl
vars_read (v ∷ vs) r f = rw (value-le 4 v.type_id f.0.type_id, value-le 4 v.offset f.0.offset, vars_read vs r f.1)

info_kind : (kind n : ℕ) → kind < 2 ^ 8 → n < 2 ^ 24 → value (le 4 (info kind n)) / 2 ^ 24 ≡ kind
info_kind kind n h l = rw (value-le 4 (info kind n) (omega arith)) (omega arith)

info_count : (kind n : ℕ) → kind < 2 ^ 8 → n < 2 ^ 24 → value (le 4 (info kind n)) % 2 ^ 24 ≡ n
info_count kind n h l = rw (value-le 4 (info kind n) (omega arith)) (omega arith)

-- by the kind: the numbers of the info word, then the type
front_by : (strs ps : List ℕ) (t : BtfType) (r : List ℕ) → length strs ≤ 2 ^ 32 → AllStand strs ps (type_names t) → FitType t
    → (kind : ℕ) × (n : ℕ) × (field 4 (type_bytes ps t ++ r) 4 / 2 ^ 24 ≡ kind) × (field 4 (type_bytes ps t ++ r) 4 % 2 ^ 24 ≡ n)
    × (front_of strs kind n (type_bytes ps t ++ r) ≡ some (record { this = seen_type t; size = type_size t }))
front_by strs ps (int name size encoding) r l a f =
    (1, 0, refl, refl, rw (value-le 4 size f.numbers.0, value-le 4 (encoding * 2 ^ 24 + 8 * size) f.numbers.1))
front_by strs ps (ptr t) r l a f = (2, 0, refl, refl, rw (value-le 4 t f.numbers))
front_by strs ps (array elem index n) r l a f = (3, 0, refl, refl, rw (value-le 4 n f.numbers))
front_by strs ps (struct ms) r l a f = (
  4,
  length ms,
  info_kind 4 (length ms) (omega arith) f.numbers.0,
  info_count 4 (length ms) (omega arith) f.numbers.0,
  rw (append-nil (member_bytes 0 ps ms), members_read strs 0 ps ms r l a f.clean f.numbers.1),
)
front_by strs [] (var name t) r l a f = absurd a
front_by strs (p ∷ ps) (var name t) r l a f =
    let inside = stands_inside a.0 in
    (14, 0, refl, refl, rw (value-le 4 p (omega arith), stands_read a.0 f.clean.0, value-le 4 t f.numbers))
front_by strs [] (datasec name size vs) r l a f = absurd a
front_by strs (p ∷ ps) (datasec name size vs) r l a f =
    let inside = stands_inside a.0 in (
      15,
      length vs,
      info_kind 15 (length vs) (omega arith) f.numbers.0,
      info_count 15 (length vs) (omega arith) f.numbers.0,
      rw (append-nil (var_bytes vs), value-le 4 p (omega arith), stands_read a.0 f.clean.0, vars_read vs r f.numbers.1),
    )

pub type_read : (strs ps : List ℕ) (t : BtfType) (r : List ℕ) → length strs ≤ 2 ^ 32 → AllStand strs ps (type_names t) → FitType t
    → front strs (type_bytes ps t ++ r) ≡ some (record { this = seen_type t; size = type_size t })
type_read strs ps t r l a f =
    let (kind, n, e₁, e₂, e₃) = front_by strs ps t r l a f in
    front_of_lem strs (type_bytes ps t ++ r) kind n (seen_type t) (type_size t) e₁ e₂ e₃ (type_size_lem t)
    (omega (arith, length-append (type_bytes ps t) r, length_type ps t (stand_length strs ps (type_names t) a)))

-- ---- a row of types

pub types_read : (n : ℕ) (strs : List ℕ) (ts : List BtfType) → length ts ≤ n → All FitType ts → length (table_from strs ts) ≤ 2 ^ 32
    → types_of (table_from strs ts) n (bytes_from strs ts) ≡ some (map seen_type ts)
types_read zero strs [] c f l = refl
types_read zero strs (t ∷ ts) c f l = absurd (omega arith)
types_read (suc n) strs [] c f l = refl
types_read (suc n) strs (t ∷ ts) c f l =
    let p = add_strings strs (type_names t) in
    let final = table_from p.table ts in
    let rest = bytes_from p.table ts in
    let (r, e) = strings_grow p.table ts in
    let a : AllStand final p.places (type_names t) = rw e (all_stand_more p.table r p.places (type_names t) (all_stand strs (type_names t))) in
    let size = length-first strs t in
    let more = type_size_lem t in
    rw (
      ne_eqb (length (type_bytes p.places t ++ rest)) 0 (λ q. omega (arith, length-append (type_bytes p.places t) rest)),
      type_read final p.places t rest l a f.0,
      drop_at (type_bytes p.places t) rest (type_size t) size,
      types_read n p.table ts (omega arith) f.1 l,
    )

-- ---- the section

pub finished_read : (b : Builder) → length b.types < 2 ^ 32 → length b.strings < 2 ^ 32
    → read_btf (finished b) ≡ types_of b.strings (length b.types) b.types
finished_read b few short =
    let n = length b.types in
    btf_of (finished b) n (length b.strings) (value-le 4 n few) (value-le 4 n few) (value-le 4 (length b.strings) short) refl
    (omega (arith, length-finished b))
    ∙ ap₂ (λ (s d : List ℕ). types_of s n d)
    (drop-append-add (take 24 (finished b)) (b.types ++ (b.strings ++ [])) n ∙ drop-append_seam b.types (b.strings ++ [])
    ∙ append-nil b.strings)
    (take-append_seam b.types (b.strings ++ []))

pub btf_read : (ts : List BtfType) → All FitType ts → weigh ts < 2 ^ 31 → read_btf (btf_bytes ts) ≡ some (map seen_type ts)
btf_read ts f short =
    let b = add_types ts start in
    let et : b.types ≡ bytes_from empty_table ts = types_added ts start in
    let es : b.strings ≡ table_from empty_table ts = strings-added ts start in
    let all = weighed empty_table ts in
    finished_read b (rw et (omega arith)) (rw es (omega arith))
    ∙ rw (et, es) (types_read (length (bytes_from empty_table ts)) empty_table ts (count_types empty_table ts) f (omega arith))
