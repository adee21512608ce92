-- The headers as they come: those so far are those of the definitions, and what is still to come follows from where the sections so far end
-- and how long their names are.
use mathlib.Core.Path.{◌≡◌, refl, sym, ◌∙◌, ap}
use mathlib.Core.Bool.{Bool, true, false, cond}
use lib.Dec.{eqb}
use mathlib.Core.List.{List, [], ◌∷◌, ◌++◌, map, append-nil}
use Prim.Native.Nat.{ℕ, suc, ◌+◌, ◌-◌, ◌*◌, ◌≤◌}
use native.Mathlib.Omega.{arith}
use lib.ListN.{length, length-append}
use lib.Seq.{append_snoc}
use borrow.Rule.Slice.PartMut.{put_mid}
use Rattle.octets.specs.Over.{over}
use Rattle.octets.proofs.Filling.{over-part, over_two}
use Rattle.elf.specs.Row.{size_of}
use Rattle.elf.specs.Elf.{Section, place, after, end_of, header_bytes, header_for}
use Rattle.elf.specs.Entries.{header_of, null_section}
use Rattle.elf.specs.declared.Section as code
use Rattle.elf.specs.Headers.{headers_bytes}
use Rattle.elf.proofs.Headers.{headers_length, headers_append}
use Rattle.measure.specs.declared.Measuring.{Measuring}
use Rattle.measure.specs.declared.Sizes.{Sizes}
use Rattle.measure.specs.Measured.{with_section, licence_at, licensed, maps_at, btf_at, mapped, front, front_rows, section_of, rows_from}

-- `all` are the sections of the object, `rows` the headers so far, and `rest` the sections that are still to be measured
pub record Rows (all : List Section) (rows : List code.Section) (m : Measuring) (rest : List Section) : Type 0 where
  pub is : null_section ∷ rows_from 1 64 all ≡ rows ++ rows_from m.names m.end rest
  pub size : length rows ≡ m.count
  pub counted : m.count + length rest ≡ suc (length all)
  pub ends : end_of m.end rest ≡ end_of 64 all
  pub named : m.names + size_of (map (λ s. s.name) rest) ≡ 1 + size_of (map (λ s. s.name) all)

-- one section more
pub rows_on : {all : List Section} {rows : List code.Section} {m : Measuring} (s : Section) (rest : List Section) (c : code.Section) (name : ℕ)
    → Rows all rows m (s ∷ rest) → c ≡ section_of (header_for m.names (place m.end s) s) → name ≡ length s.name
    → Rows all (rows ++ (c ∷ [])) (with_section m c name) rest
rows_on {all} {rows} {m} s rest c name r e n =
    let n₁ : m.names + name + 1 ≡ m.names + suc (length s.name) = omega (arith, n) in
    let a : c.at + c.size ≡ after m.end s = rw e in
    record {
      is = r.is ∙ sym (rw (append_snoc, n₁, a, e));
      size = omega (arith, length-append rows (c ∷ []), r.size);
      counted = omega (arith, r.counted);
      ends = rw a r.ends;
      named = omega (arith, r.named, n);
    }

-- a header written into its part of the table
pub row_over : (d l : List ℕ) (at : ℕ) (s : code.Section) → l ≡ header_bytes (header_of s) → put_mid at (at + 64 - at) d l ≡ over d at (headers_bytes (s ∷ []))
row_over d l at s e = over-part d at (at + 64) l (header_bytes (header_of s)) refl e ∙ ap (over d at) (sym (append-nil (header_bytes (header_of s))))

-- `rows` are written over the table as it was lent, from header `n` on; the table keeps its length
pub record Has (d : List ℕ) (n : ℕ) (out : List ℕ) (rows : List code.Section) : Type 0 where
  pub is : out ≡ over d (64 * n) (headers_bytes rows)
  pub room : 64 * (n + length rows) ≤ length d

pub has_on : {d out : List ℕ} {n : ℕ} {rows : List code.Section} (out' : List ℕ) (count : ℕ) (more : List code.Section) → Has d n out rows
    → out' ≡ over out (64 * count) (headers_bytes more) → count ≡ n + length rows → 64 * (count + length more) ≤ length d → Has d n out' (rows ++ more)
has_on {d} {out} {n} {rows} out' count more h e p room =
    record {
      is = over_two d (64 * n) (headers_bytes rows) (headers_bytes more) out out' (64 * count) (omega (arith, h.room)) h.is (omega (arith, p, headers_length rows)) e
          ∙ ap (over d (64 * n)) (sym (headers_append rows more));
      room = omega (arith, length-append rows more);
    }

pub from_zero : {a b : ℕ} → a ≡ b → a ≡ 0 + b
from_zero e = omega (arith, e)

-- the state counts the headers before the programs'
pub front_count : (z : Sizes) (maps : ℕ) → (front z maps).count ≡ length (front_rows z maps)
front_count z maps = go (eqb maps 0)
  where
    go : (b : Bool) → (cond b (licensed z) (mapped z)).count ≡ length (null_section ∷ licence_at z ∷ cond b [] (maps_at z ∷ btf_at z ∷ []))
    go true = refl
    go false = refl

pub front_few : (z : Sizes) (maps : ℕ) → length (front_rows z maps) ≤ 4
front_few z maps = go (eqb maps 0)
  where
    go : (b : Bool) → length (null_section ∷ licence_at z ∷ cond b [] (maps_at z ∷ btf_at z ∷ [])) ≤ 4
    go true = omega arith
    go false = omega arith
