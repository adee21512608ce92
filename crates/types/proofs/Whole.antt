-- The whole section: header, types and strings, each written into its part.
use mathlib.Core.Path.{◌≡◌, refl, sym, ◌∙◌}
use mathlib.Core.List.{List, [], ◌++◌, append-nil}
use Prim.Native.Nat.{ℕ, ◌+◌, ◌-◌}
use native.Mathlib.Omega.{arith}
use lib.ListN.{length, take, drop, length-append}
use borrow.Rule.Slice.PartMut.{put_mid, mid_len}
use Rattle.octets.proofs.Filling.{over-part}
use Rattle.octets.proofs.Going.{Going, go_start, go_as, go_on, go_done}
use Rattle.ast.specs.Job.{Map}
use Rattle.btf.specs.Btf.{start, add_types, finished, btf_bytes}
use Rattle.btf.specs.Maps.{btf_types}
use Rattle.btf.specs.Builder.{bytes_at}
use Rattle.btf.proofs.Builder.{types_built}
use Rattle.members.specs.Section.{header_bytes}
use Rattle.members.specs.Strings.{all_strings}
use Rattle.spans.proofs.StringRows.{strings_are}
use Rattle.spans.proofs.AllTypes.{over-all}

-- a section of the types `t` and the strings `s`
abbrev pub section : List ℕ → List ℕ → List ℕ
section t s = header_bytes (length t) (length s) ++ (t ++ s)

built : (t s t' s' : List ℕ) → t ≡ t' → s ≡ s' → finished (record { types = t; strings = s }) ≡ section t' s'
built t s t' s' p q = rw (append-nil s, p, q)

pub section_is : (ms : List Map) → btf_bytes (btf_types ms) ≡ section (bytes_at 1 (btf_types ms)) (all_strings ms)
section_is ms = built (add_types (btf_types ms) start).types (add_types (btf_types ms) start).strings _ _ (types_built (btf_types ms)) (strings_are ms)

section_long : (t s : List ℕ) → length (section t s) ≡ 24 + length t + length s
section_long t s = omega (arith, length-append t s)

-- ---- what each call leaves, for types `t` of `n` bytes and strings `s`

module _ (t s : List ℕ) (n : ℕ) (out : List ℕ) (long : n ≡ length t) (same : length out ≡ length (section t s)) where
  pub parts_long : length out ≡ 24 + n + length s
  parts_long = omega (arith, section_long t s)

  module _ (l₁ : List ℕ) (e₁ : l₁ ≡ header_bytes n (length out - (24 + n))) where
    abbrev head : List ℕ
    head = put_mid 0 (24 - 0) out l₁

    head_left : Going out 0 (section t s) head 24 (t ++ s)
    head_left =
        let k : length out - (24 + n) ≡ length s = omega (arith, parts_long) in
        go_on (header_bytes (length t) (length s)) (t ++ s) head 24 (go_start out 0 (section t s) (omega arith))
        (over-part out 0 24 l₁ (header_bytes (length t) (length s)) refl (e₁ ∙ rw (k, long))) refl

    pub head_long : length head ≡ length out
    head_long = head_left.same

    pub types_part : length (take (24 + n - 24) (drop 24 head)) ≡ length t
    types_part = let k : 24 + n - 24 ≡ n = omega arith in mid_len 24 (24 + n) head (omega (arith, head_long, parts_long)) ∙ k ∙ long

    module _ (l₂ : List ℕ) (e₂ : l₂ ≡ t) where
      abbrev typed : List ℕ
      typed = put_mid 24 (24 + n - 24) head l₂

      types_left : Going out 0 (section t s) typed (24 + n) (s ++ [])
      types_left =
          go_as (s ++ []) (sym (append-nil s))
          (go_on t s typed (24 + n) head_left (over-part head 24 (24 + n) l₂ t (omega arith) e₂) (omega arith))

      pub types_long : length typed ≡ length out
      types_long = types_left.same

      pub strings-part : length (take (length out - (24 + n)) (drop (24 + n) typed)) ≡ length s
      strings-part =
          let k : length out - (24 + n) ≡ length s = omega (arith, parts_long) in
          mid_len (24 + n) (length out) typed (omega (arith, types_long)) ∙ k

      pub section_left : (l₃ : List ℕ) → l₃ ≡ s → put_mid (24 + n) (length out - (24 + n)) typed l₃ ≡ section t s
      section_left l₃ e₃ =
          (go_done
          (go_on s [] (put_mid (24 + n) (length out - (24 + n)) typed l₃) (24 + n + length s) types_left
          (over-part typed (24 + n) (length out) l₃ s (omega (arith, parts_long)) e₃) refl)).0
          ∙ over-all out (section t s) same
