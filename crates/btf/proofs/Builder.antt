-- Rows of types by the lengths of their strings: the bytes and the table that adding types gives, and rows one after the other.
use mathlib.Core.Path.{◌≡◌, refl, sym, ap, ◌∙◌}
use mathlib.Core.List.{List, [], ◌∷◌, ◌++◌, append_assoc, append-nil}
use Prim.Native.Nat.{ℕ, suc, ◌+◌}
use native.Mathlib.Omega.{arith}
use lib.ListN.{length, length-append}
use Rattle.elf.specs.Strings.{add_strings}
use Rattle.elf.specs.Row.{size_of, joined, places_at}
use Rattle.elf.proofs.Strings.{size_append, table-length}
use Rattle.elf.proofs.Joined.{table-joined, places_at_lem, joined-append, count_places}
use Rattle.btf.specs.Btf.{BtfType, type_names, type_bytes, start, add_types}
use Rattle.btf.specs.Builder.{behind, bytes_at, names_of, past}
use Rattle.btf.specs.declared.BtfBuilder.{BtfBuilder}
use Rattle.btf.proofs.Types.{type_size, length_type, bytes_from, table_from, types_added, strings-added}

-- two builders are the same by their numbers
pub same_builder : (b c : BtfBuilder) → b.at ≡ c.at → b.strings ≡ c.strings → b.next_type_id ≡ c.next_type_id → b ≡ c
same_builder b c p q r = λ i. record { at = p i; strings = q i; next_type_id = r i }

-- ---- places

pub behind_size : (n : ℕ) (ss : List (List ℕ)) → behind n ss ≡ n + size_of ss
behind_size n [] = omega arith
behind_size n (s ∷ ss) = omega (arith, behind_size (n + suc (length s)) ss)

pub past_size : (n : ℕ) (ts : List BtfType) → past n ts ≡ n + size_of (names_of ts)
past_size n [] = omega arith
past_size n (t ∷ ts) =
    omega (arith, past_size (behind n (type_names t)) ts, behind_size n (type_names t), size_append (type_names t) (names_of ts))

pub past-append : (n : ℕ) (ts us : List BtfType) → past n (ts ++ us) ≡ past (past n ts) us
past-append n [] us = refl
past-append n (t ∷ ts) us = past-append (behind n (type_names t)) ts us

pub names_append : (ts us : List BtfType) → names_of (ts ++ us) ≡ names_of ts ++ names_of us
names_append [] us = refl
names_append (t ∷ ts) us =
    ap (λ (r : List (List ℕ)). type_names t ++ r) (names_append ts us) ∙ sym (append_assoc (type_names t) (names_of ts) (names_of us))

-- ---- bytes

-- types `ts` and then `us` are a row
pub bytes_append : (n : ℕ) (ts us : List BtfType) → bytes_at n (ts ++ us) ≡ bytes_at n ts ++ bytes_at (past n ts) us
bytes_append n [] us = refl
bytes_append n (t ∷ ts) us =
    let b = type_bytes (places_at n (type_names t)) t in
    ap (λ (r : List ℕ). b ++ r) (bytes_append (behind n (type_names t)) ts us)
    ∙ sym (append_assoc b (bytes_at (behind n (type_names t)) ts) (bytes_at (past (behind n (type_names t)) ts) us))

-- of the strings before, only the length matters
pub bytes_from_lem : (strs : List ℕ) (ts : List BtfType) → bytes_from strs ts ≡ bytes_at (length strs) ts
bytes_from_lem strs [] = refl
bytes_from_lem strs (t ∷ ts) =
    let more = (add_strings strs (type_names t)).table in
    let n : length more ≡ behind (length strs) (type_names t) = table-length strs (type_names t) ∙ sym (behind_size (length strs) (type_names t)) in
    rw (places_at_lem strs (type_names t), bytes_from_lem more ts, n)

pub table_from_lem : (strs : List ℕ) (ts : List BtfType) → table_from strs ts ≡ strs ++ joined (names_of ts)
table_from_lem strs [] = sym (append-nil strs)
table_from_lem strs (t ∷ ts) =
    table_from_lem (add_strings strs (type_names t)).table ts
    ∙ rw (table-joined strs (type_names t), append_assoc strs (joined (type_names t)) (joined (names_of ts)), joined-append (type_names t) (names_of ts))

pub types_built : (ts : List BtfType) → (add_types ts start).types ≡ bytes_at 1 ts
types_built ts = types_added ts start ∙ bytes_from_lem (0 ∷ []) ts

pub strings_built : (ts : List BtfType) → (add_types ts start).strings ≡ 0 ∷ joined (names_of ts)
strings_built ts = strings-added ts start ∙ table_from_lem (0 ∷ []) ts

-- how many bytes
abbrev pub sizes : List BtfType → ℕ
sizes [] = 0
sizes (t ∷ ts) = type_size t + sizes ts

pub sizes_append : (ts us : List BtfType) → sizes (ts ++ us) ≡ sizes ts + sizes us
sizes_append [] us = omega arith
sizes_append (t ∷ ts) us = omega (arith, sizes_append ts us)

pub length_bytes : (n : ℕ) (ts : List BtfType) → length (bytes_at n ts) ≡ sizes ts
length_bytes n [] = refl
length_bytes n (t ∷ ts) =
    omega (
      arith,
      length-append (type_bytes (places_at n (type_names t)) t) (bytes_at (behind n (type_names t)) ts),
      length_type (places_at n (type_names t)) t (count_places n (type_names t)),
      length_bytes (behind n (type_names t)) ts,
    )
