-- A file's layout: where its sections end, that each section's contents are in the file at the section's place, and that the section header
-- table comes after them. Nothing here knows which sections a job has.
use mathlib.Core.Path.{◌≡◌, refl, ap, ◌∙◌, subst}
use mathlib.Core.List.{List, [], ◌∷◌, ◌++◌, append_assoc, append-nil}
use Prim.Native.Nat.{ℕ, suc, ◌+◌, ◌-◌, ◌*◌, ◌^◌, ◌≤◌, ◌<◌}
use native.Mathlib.Omega.{arith}
use native.Mathlib.Nat.{mod-lt, div-add-mod'}
use lib.ListN.{length, take, drop, length-append, length-replicate}
use lib.Seq.{drop_at, take_at}
use Rattle.octets.specs.All.{All}
use Rattle.elf.specs.Elf.{Section, align_to, place, after, end_of, padding, laid, header_bytes, null_header, section_headers, file_header, file}
use Rattle.elf.specs.Added.{Alignment, one, four, eight}
use Rattle.elf.proofs.Rows.{FitHeader, FitSection, headers_for, header_row, headers_row, count_headers, length_row}

-- ---- places

pub align_up : (a n : ℕ) → 0 < a → n ≤ align_to a n
align_up a n h = omega (arith, mod-lt (n + (a - 1)) h, div-add-mod' (n + (a - 1)) a)

pub align_near : (a n : ℕ) → 0 < a → align_to a n < n + a
align_near a n h = omega (arith, div-add-mod' (n + (a - 1)) a)

-- the alignments are positive and at most 8
pub align_small : {a : ℕ} → Alignment a → (0 < a) × (a ≤ 8)
align_small one = (omega arith, omega arith)
align_small four = (omega arith, omega arith)
align_small eight = (omega arith, omega arith)

abbrev pub Aligned : Section → Type 0
Aligned s = 0 < s.align

length-padding : (a n : ℕ) → 0 < a → n + length (padding a n) ≡ align_to a n
length-padding a n h = omega (arith, align_up a n h, length-replicate {A = ℕ} (align_to a n - n) 0)

pub length-laid : (n : ℕ) (ss : List Section) → All Aligned ss → n + length (laid n ss) ≡ end_of n ss
length-laid n [] h = omega arith
length-laid n (s ∷ ss) h =
    rw (length-append, length-append)
    (omega (arith, length-laid (after n s) ss h.1, length-padding s.align n h.0))

pub end_after : (n : ℕ) (ss : List Section) → All Aligned ss → n ≤ end_of n ss
end_after n ss h = omega (arith, length-laid n ss h)

-- ---- contents

-- in `f` each section's contents are at its place, if the sections begin at `n`
abbrev pub Held : List ℕ → ℕ → List Section → Type 0
Held f n [] = Unit {0}
Held f n (s ∷ ss) = (take (length s.contents) (drop (place n s) f) ≡ s.contents) × Held f (after n s) ss

pub held : (pre : List ℕ) (n : ℕ) (ss : List Section) (post : List ℕ) → length pre ≡ n → All Aligned ss → Held (pre ++ (laid n ss ++ post)) n ss
held pre n [] post e h = tt
held pre n (s ∷ ss) post e h =
    let pad = padding s.align n in
    let rest = laid (after n s) ss ++ post in
    let front : length (pre ++ pad) ≡ place n s = omega (arith, length-append pre pad, length-padding s.align n h.0) in
    let here : pre ++ (laid n (s ∷ ss) ++ post) ≡ pre ++ pad ++ (s.contents ++ rest) = simp append_assoc in
    let next : pre ++ pad ++ s.contents ++ rest ≡ pre ++ (laid n (s ∷ ss) ++ post) = simp append_assoc in (
      rw (here, drop_at (pre ++ pad) (s.contents ++ rest) (place n s) front) (take_at s.contents rest (length s.contents) refl),
      subst (λ (x : List ℕ). Held x (after n s) ss) next
          (held (pre ++ pad ++ s.contents) (after n s) ss post (omega (arith, length-append (pre ++ pad) s.contents)) h.1),
    )

-- ---- section headers

-- sections with numbers that fit, which end early enough and whose names' places fit, have headers that fit
pub headers_fit : (ps : List ℕ) (n : ℕ) (ss : List Section) → All FitSection ss → All Aligned ss → All (λ (p : ℕ). p < 2 ^ 32) ps → end_of n ss < 2 ^ 64
    → All FitHeader (headers_for ps n ss)
headers_fit [] n [] f a b l = tt
headers_fit [] n (s ∷ ss) f a b l = tt
headers_fit (p ∷ ps) n [] f a b l = tt
headers_fit (p ∷ ps) n (s ∷ ss) f a b l =
    let later = end_after (after n s) ss a.1 in (
      record {
        name = b.0;
        kind = f.0.kind;
        flags = f.0.flags;
        at = omega arith;
        size = omega arith;
        link = f.0.link;
        info = f.0.info;
      },
      headers_fit ps (after n s) ss f.1 a.1 b.1 l,
    )

-- ---- the file

-- where the section header table is
abbrev pub table_at : List Section → ℕ
table_at ss = align_to 8 (end_of 64 ss)

-- the file up to header 1
abbrev front : List Section → List ℕ
front ss =
    file_header (table_at ss) (suc (length ss)) (length ss) ++ (laid 64 ss ++ (padding 8 (end_of 64 ss) ++ header_bytes null_header))

module _ (names : List ℕ) (ss : List Section) (aligned : All Aligned ss) where
  file_split : file names ss ≡ front ss ++ header_row (headers_for names 64 ss)
  file_split = rw (headers_row names 64 ss) (simp (append_assoc, append-nil))

  length_front : length (front ss) ≡ table_at ss + 64
  length_front =
      omega (
        arith,
        length-laid 64 ss aligned,
        length-padding 8 (end_of 64 ss) (omega arith),
        length-append (laid 64 ss) (padding 8 (end_of 64 ss) ++ header_bytes null_header),
        length-append (padding 8 (end_of 64 ss)) (header_bytes null_header),
      )

  pub length-file : length names ≡ length ss → length (file names ss) ≡ table_at ss + 64 * suc (length ss)
  length-file same =
      ap length file_split
      ∙ omega (
        arith,
        length_front,
        length-append (front ss) (header_row (headers_for names 64 ss)),
        length_row (headers_for names 64 ss),
        count_headers names 64 ss same,
      )

  -- header 1 and the later ones come after header 0
  pub headers_there : drop (table_at ss + 64) (file names ss) ≡ header_row (headers_for names 64 ss)
  headers_there = rw file_split (drop_at (front ss) (header_row (headers_for names 64 ss)) (table_at ss + 64) length_front)

  pub contents-there : Held (file names ss) 64 ss
  contents-there =
      held (file_header (table_at ss) (suc (length ss)) (length ss)) 64 ss
      (padding 8 (end_of 64 ss) ++ (header_bytes null_header ++ (section_headers names 64 ss ++ []))) refl aligned
