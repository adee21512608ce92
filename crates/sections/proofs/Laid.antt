-- Sections in a row: one section written after the last, and rows one after the other.
use mathlib.Core.Path.{◌≡◌, refl, sym, ◌∙◌, ap}
use mathlib.Core.List.{List, [], ◌∷◌, ◌++◌, append_assoc, append-nil}
use Prim.Native.Nat.{ℕ, ◌+◌, ◌-◌, ◌≤◌, ◌<◌}
use native.Mathlib.Omega.{arith}
use lib.ListN.{length, take, drop, length-replicate}
use borrow.Rule.Slice.PartMut.{put_mid, mid_len}
use Rattle.octets.specs.Over.{over}
use Rattle.octets.proofs.Laws.{over-length}
use Rattle.octets.proofs.Filling.{over-part, over_two}
use Rattle.elf.specs.Elf.{Section, align_to, place, after, end_of, padding, laid}
use Rattle.elf.proofs.Places.{align_up, align_small}
use Rattle.sections.specs.Pieces.{bare, Fits, Room}

pub laid-append : (end : ℕ) (xs ys : List Section) → laid end (xs ++ ys) ≡ laid end xs ++ laid (end_of end xs) ys
laid-append end [] ys = refl
laid-append end (x ∷ xs) ys =
    let p = padding x.align end in
    ap (λ (r : List ℕ). p ++ (x.contents ++ r)) (laid-append (after end x) xs ys)
    ∙ ap (λ (r : List ℕ). p ++ r) (sym (append_assoc x.contents (laid (after end x) xs) (laid (end_of (after end x) xs) ys)))
    ∙ sym (append_assoc p (x.contents ++ laid (after end x) xs) (laid (end_of (after end x) xs) ys))

pub end_append : (end : ℕ) (xs ys : List Section) → end_of end (xs ++ ys) ≡ end_of (end_of end xs) ys
end_append end [] ys = refl
end_append end (x ∷ xs) ys = end_append (after end x) xs ys

-- a section's place is not before the end of the last
pub place_up : (end : ℕ) (s : Section) → 0 < s.align → end ≤ place end s
place_up end s h = align_up s.align end h

-- one section that has its place: the bytes before it are cleared, and its contents are written into its part
module _ {d : List ℕ} {end size : ℕ} {s : Section} (f : Fits d end size s) where
  up : end ≤ place end s
  up = place_up end s (align_small f.aligned).0

  pub fits_pad : (align_to s.align end ≤ length d) × (length d ≤ 200000000)
  fits_pad = (omega (arith, f.room), f.short)

  pub fits_add : {at : ℕ} → at ≡ place end s → at + size ≤ length d
  fits_add it = omega (arith, it, f.room)

  pub fits_after : {at : ℕ} → at ≡ place end s → at + size ≡ end_of end (s ∷ [])
  fits_after it = omega (arith, it, f.long)

  padded : length (padding s.align end) ≡ place end s - end
  padded = length-replicate {A = ℕ} (place end s - end) 0

  module _ (d₁ : List ℕ) {at : ℕ} (it : at ≡ place end s) (cleared : d₁ ≡ over d end (padding s.align end)) where
    pub fits_part : length (take (at + size - at) (drop at d₁)) ≡ length s.contents
    fits_part =
        let n : length d₁ ≡ length d = ap length cleared ∙ over-length d end (padding s.align end) (omega (arith, padded, up, f.room)) in
        let k : at + size - at ≡ size = omega arith in
        mid_len at (at + size) d₁ (omega (arith, n, it, f.room)) ∙ k ∙ f.long

    pub fits_lay : (l : List ℕ) → l ≡ s.contents → put_mid at (at + size - at) d₁ l ≡ over d end (laid end (s ∷ []))
    fits_lay l q =
        let n : at ≡ end + length (padding s.align end) = omega (arith, it, padded, up) in
        over_two d end (padding s.align end) s.contents d₁ _ at (omega (arith, up, f.room)) cleared n (over-part d₁ at (at + size) l s.contents (ap (λ (x : ℕ). at + x) (sym f.long)) q)
        ∙ ap (over d end) (ap (λ (r : List ℕ). padding s.align end ++ r) (sym (append-nil s.contents)))

-- where a section fits, any bytes of its size at its alignment do
pub fits_room : {d : List ℕ} {end size : ℕ} {s : Section} → Fits d end size s → Room d end s.align size
fits_room f = record { aligned = f.aligned; room = f.room; short = f.short }

pub room_fits : {d : List ℕ} {end align size : ℕ} (bytes : List ℕ) → Room d end align size → length bytes ≡ size → Fits d end size (bare align bytes)
room_fits bytes r n = record { aligned = r.aligned; long = sym n; room = r.room; short = r.short }
