-- What each answer of the code says of a frame's bytes `s`.
use mathlib.Core.Path.{◌≡◌, refl, sym, ◌∙◌, ap}
use mathlib.Core.Option.{Option, none, some}
use mathlib.Core.List.{List, [], ◌∷◌}
use Prim.Native.Nat.{ℕ, suc, ◌+◌, ◌-◌, ◌%◌, ◌≤◌, ◌<◌}
use native.Mathlib.Nat.{div-one}
use native.Mathlib.Omega.{arith}
use lib.Dec.{eqb}
use lib.ListN.{length, take, drop, get_or, length-drop}
use lib.Seq.{drop-drop}
use borrow.Author.Tests.{le-leb, lt-leb, eq-eqb, ne_eqb}
use Rattle.octets.specs.Octets.{value}
use Rattle.octets.proofs.Laws.{read_on, read_done}
use Rattle.insn.specs.Insn.{insn_bytes}
use Rattle.ast.specs.Numbers.{map_type_numbered, member_type_numbered}
use Rattle.ast.specs.declared.«Type».{«Type» as MemberType}
use Rattle.ast.specs.declared.MapType.{MapType}
use Rattle.ast.specs.declared.Attr.{Attr}
use Rattle.ast.specs.declared.Attr.TheVariants.{Present}
use Rattle.frames.specs.Frames.{licence, map_decl, program, code, relocation, Read, bit, take_type, take_count, attr_if, map_entries, map_attrs, map_frame, program_frame, relocation_frame, instruction_frame, frame_of}

module _ (s : List ℕ) where
  pub program_short : length s < 2 → none ≡ program_frame (drop 1 s)
  program_short h = let l : length s ≤ 1 = omega arith in rw (read_done s 1 l)

  pub program_ok : (n : ℕ) → n ≡ get_or s 1 0 → 2 ≤ length s → n ≤ length s - 2
      → some (program (take (n + 2 - 2) (drop 2 s)) (drop (n + 2) s)) ≡ program_frame (drop 1 s)
  program_ok n e h g =
      let l : 1 < length s = omega arith in
      let k : n + 2 - 2 ≡ n = omega arith in
      let m : n + 2 ≡ 2 + n = omega arith in
      let f : n ≤ length (drop 2 s) = rw length-drop g in
      rw (k, m, read_on s 1 l, ← e) (simp (le-leb n (length (drop 2 s)) f, drop-drop))

  pub program_over : (n : ℕ) → n ≡ get_or s 1 0 → 2 ≤ length s → length s - 2 < n → none ≡ program_frame (drop 1 s)
  program_over n e h g =
      let l : 1 < length s = omega arith in
      let f : length (drop 2 s) < n = rw length-drop g in
      rw (read_on s 1 l, ← e) (simp (lt-leb n (length (drop 2 s)) f))

  pub relocation_short : length s < 9 → none ≡ relocation_frame (drop 1 s)
  relocation_short h = let n : length (drop 1 s) < 8 = rw length-drop (omega arith) in simp (lt-leb 8 (length (drop 1 s)) n)

  pub relocation_ok : 9 ≤ length s → some (relocation (value (take 8 (drop 1 s))) (drop 9 s)) ≡ relocation_frame (drop 1 s)
  relocation_ok h =
      let n : 8 ≤ length (drop 1 s) = rw length-drop (omega arith) in
      simp (le-leb 8 (length (drop 1 s)) n, drop-drop)

  pub instruction_ok : length s ≡ 10
      → some (code (insn_bytes (get_or s 1 0) (get_or s 2 0) (get_or s 3 0) (value (take 2 (drop 4 s))) (value (drop 6 s)))) ≡ instruction_frame (drop 1 s)
  instruction_ok h =
      let a : 1 < length s = omega arith in
      let b : 2 < length s = omega arith in
      let c : 3 < length s = omega arith in
      let n : length (drop 4 s) ≡ 6 = length-drop 4 s ∙ omega arith in
      let d : drop 6 s ≡ drop 2 (drop 4 s) = sym (drop-drop 2 4 s) in
      rw (d, read_on s 1 a, read_on s 2 b, read_on s 3 c) (simp (eq-eqb (length (drop 4 s)) 6 n))

not_nine : (bs : List ℕ) → (length bs ≡ 9 → ⊥) → none ≡ instruction_frame bs
not_nine [] h = refl
not_nine (c ∷ []) h = refl
not_nine (c ∷ d ∷ []) h = refl
not_nine (c ∷ d ∷ s ∷ bs) h = simp (ne_eqb (length bs) 6 (λ e. h (ap (λ (n : ℕ). suc (suc (suc n))) e)))

pub instruction_bad : (s : List ℕ) → 1 ≤ length s → (length s ≡ 10 → ⊥) → none ≡ instruction_frame (drop 1 s)
instruction_bad s h g = not_nine (drop 1 s) (λ e. let k : length s - 1 ≡ 9 = sym (length-drop 1 s) ∙ e in g (omega arith))

-- ---- attributes

pub take_none : (s : List ℕ) (at b : ℕ) → b ≡ get_or s at 0 → at < length s → member_type_numbered b ≡ none → none ≡ take_type (drop at s)
take_none s at b q h e = rw (read_on s at h, ← q, e, take_type)

pub take_some : (s : List ℕ) (at b : ℕ) (t : MemberType) → b ≡ get_or s at 0 → at < length s → member_type_numbered b ≡ some t
    → some (record { attr = Present t; rest = drop (at + 1) s }) ≡ take_type (drop at s)
take_some s at b t q h e = rw (read_on s at h, ← q, e, take_type)

pub take_end : (s : List ℕ) (at : ℕ) → length s ≤ at → none ≡ take_type (drop at s)
take_end s at h = rw (read_done s at h)

pub count_none : (s : List ℕ) (at : ℕ) → length s - at < 4 → none ≡ take_count (drop at s)
count_none s at h = let n : length (drop at s) < 4 = rw length-drop h in simp (lt-leb 4 (length (drop at s)) n)

pub count_some : (s : List ℕ) (at n : ℕ) → 4 ≤ length s - at → n ≡ value (take 4 (drop at s))
    → some (record { attr = Present n; rest = drop (at + 4) s }) ≡ take_count (drop at s)
count_some s at n h e = let k : 4 ≤ length (drop at s) = rw length-drop h in simp (le-leb 4 (length (drop at s)) k, drop-drop, e)

-- ---- a map's frame, step by step

module _ (t : MapType) (k v : Attr MemberType) (p : ℕ) (bs : List ℕ) where
  pub entries_none : none ≡ attr_if take_count (bit 4 p) bs → none ≡ map_entries t k v p bs
  entries_none e = rw (← e, map_entries)

  pub entries_some : (x : Read ℕ) → some x ≡ attr_if take_count (bit 4 p) bs → some (map_decl t k v x.attr x.rest) ≡ map_entries t k v p bs
  entries_some x e = rw (← e, map_entries)

module _ (t : MapType) (p : ℕ) (bs : List ℕ) where
  first : (x : Option (Read MemberType)) → x ≡ attr_if take_type (eqb (p % 2) 1) bs → attr_if take_type (bit 1 p) bs ≡ x
  first x e = simp div-one (sym e)

  pub attrs_no_key : none ≡ attr_if take_type (eqb (p % 2) 1) bs → none ≡ map_attrs t p bs
  attrs_no_key e = rw (first none e, map_attrs)

  module _ (x : Read MemberType) (e : some x ≡ attr_if take_type (eqb (p % 2) 1) bs) where
    pub attrs_no_value : none ≡ attr_if take_type (bit 2 p) x.rest → none ≡ map_attrs t p bs
    attrs_no_value e₂ = rw (first (some x) e, ← e₂, map_attrs)

    pub attrs_types : (y : Read MemberType) → some y ≡ attr_if take_type (bit 2 p) x.rest → map_entries t x.attr y.attr p y.rest ≡ map_attrs t p bs
    attrs_types y e₂ = sym (rw (first (some x) e, ← e₂, map_attrs))

module _ (s : List ℕ) (t p : ℕ) (is_t : t ≡ get_or s 1 0) (is_p : p ≡ get_or s 2 0) (h : 3 ≤ length s) where
  opened : map_frame (drop 1 s) ≡ map_frame (t ∷ p ∷ drop 3 s)
  opened =
      let a : 1 < length s = omega arith in
      let b : 2 < length s = omega arith in
      rw (read_on s 1 a, read_on s 2 b, ← is_t, ← is_p)

  pub map_unlisted : map_type_numbered t ≡ none → none ≡ map_frame (drop 1 s)
  map_unlisted e = sym (opened ∙ rw (e, map_frame))

  module _ (k : MapType) (e : map_type_numbered t ≡ some k) where
    pub map_presence : 7 < p → none ≡ map_frame (drop 1 s)
    map_presence g = sym (opened ∙ rw (e, map_frame) (simp (lt-leb p 7 g)))

    pub map_listed : p ≤ 7 → map_attrs k p (drop 3 s) ≡ map_frame (drop 1 s)
    map_listed g = sym (opened ∙ rw (e, map_frame) (simp (le-leb p 7 g)))

map_short' : (bs : List ℕ) → length bs < 2 → none ≡ map_frame bs
map_short' [] h = refl
map_short' (t ∷ []) h = refl
map_short' (t ∷ p ∷ bs) h = absurd (omega arith)

pub map_short : (s : List ℕ) → length s < 3 → none ≡ map_frame (drop 1 s)
map_short s h = map_short' (drop 1 s) (rw length-drop (omega arith))

-- ---- a frame by its kind

module _ (s : List ℕ) (k : ℕ) (is_k : k ≡ get_or s 0 0) (h : 0 < length s) where
  kinds : frame_of s ≡ frame_of (k ∷ drop 1 s)
  kinds = ap frame_of (read_on s 0 h) ∙ rw is_k

  pub frame_1 : k ≡ 1 → some (licence (drop 1 s)) ≡ frame_of s
  frame_1 e = sym (kinds ∙ rw e)

  pub frame_2 : k ≡ 2 → map_frame (drop 1 s) ≡ frame_of s
  frame_2 e = sym (kinds ∙ rw e)

  pub frame_3 : k ≡ 3 → program_frame (drop 1 s) ≡ frame_of s
  frame_3 e = sym (kinds ∙ rw e)

  pub frame_4 : k ≡ 4 → some (code (drop 1 s)) ≡ frame_of s
  frame_4 e = sym (kinds ∙ rw e)

  pub frame_5 : k ≡ 5 → relocation_frame (drop 1 s) ≡ frame_of s
  frame_5 e = sym (kinds ∙ rw e)

  pub frame_6 : k ≡ 6 → instruction_frame (drop 1 s) ≡ frame_of s
  frame_6 e = sym (kinds ∙ rw e)

  pub frame_other : (k ≡ 1 → ⊥) → (k ≡ 2 → ⊥) → (k ≡ 3 → ⊥) → (k ≡ 4 → ⊥) → (k ≡ 5 → ⊥)
      → (k ≡ 6 → ⊥) → none ≡ frame_of s
  frame_other a b c d e f =
      sym (kinds ∙ simp (ne_eqb k 1 a, ne_eqb k 2 b, ne_eqb k 3 c, ne_eqb k 4 d, ne_eqb k 5 e, ne_eqb k 6 f))
