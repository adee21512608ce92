-- Laws for loops over bytes, and for writers of fields in parts of lent memory. A loop that writes keeps `whole ≡ take i out ++ rest`,
-- where `rest` is what is still to come by its definition. A loop that reads keeps `result ≡ f state (drop i s)`.
use mathlib.Core.Path.{◌≡◌, refl, sym, ◌∙◌, ap}
use mathlib.Core.Logic.{◌⊎◌, inl, inr}
use mathlib.Core.List.{List, [], ◌∷◌, ◌++◌, append_assoc, append-nil}
use Prim.Native.Nat.{ℕ, ◌+◌, ◌-◌, ◌≤◌, ◌<◌}
use native.Mathlib.Numerals.{add-one}
use native.Mathlib.Nat.{add_assoc}
use native.Mathlib.Omega.{arith}
use lib.ListN.{length, take, drop, get_or, set, length-append, length-take, length-drop, drop_of_length-le}
use lib.Seq.{take-suc-set, drop-cons, take_all, append_snoc, drop_at, take_at, drop-drop, length-take-le}
use lib.Dec.{eqb}
use mathlib.Core.Bool.{Bool, true, false, ◌&&◌}
use borrow.Author.Tests.{eqb-true, eqb-false, eq-eqb, ne_eqb}
use borrow.Rule.Slice.PartMut.{put_mid, mid_len}
use Rattle.octets.specs.Octets.{le, equal}
use Rattle.octets.proofs.Numbers.{le-length}
use Rattle.octets.specs.Over.{over}
use Rattle.octets.specs.Fields.{fields, total}

-- the byte that a loop reads next, and the end
pub read_on : (s : List ℕ) (i : ℕ) → i < length s → drop i s ≡ get_or s i 0 ∷ drop (i + 1) s
read_on s i h = rw (add-one, drop-cons s i 0)

pub read_done : (s : List ℕ) (i : ℕ) → length s ≤ i → drop i s ≡ []
read_done s i h = drop_of_length-le s h

-- one byte written: it leaves the rest and joins what is done
pub write_on : {whole rest more : List ℕ} (out : List ℕ) (i x : ℕ) → i < length out
    → whole ≡ take i out ++ rest → rest ≡ x ∷ more → whole ≡ take (i + 1) (set out i x) ++ more
write_on {more = more} out i x h w e = rw (add-one, take-suc-set out i x h, append_snoc) (w ∙ ap (λ (r : List ℕ). take i out ++ r) e)

-- all is written
pub write_done : {whole rest : List ℕ} (out : List ℕ) (i : ℕ) → length out ≤ i → whole ≡ take i out ++ rest → rest ≡ [] → out ≡ whole
write_done out i h w e = sym (w ∙ ap (λ (r : List ℕ). take i out ++ r) e ∙ rw (append-nil, take_all i out h))

-- ---- fields in parts `&mut out[a..a + k]` of a list `d` of `n` bytes, one after the other: `w` is `d` once its first `a` bytes are `s`

pub record Run (d : List ℕ) (n : ℕ) (w s : List ℕ) (a : ℕ) : Type 0 where
  pub long : length d ≡ n
  pub far : length s ≡ a
  pub is : w ≡ s ++ drop a d

pub start : {n : ℕ} (d : List ℕ) → length d ≡ n → Run d n d [] 0
start d e = record { long = e; far = refl; is = refl }

-- one more part of a run: what a callee left in `&mut out[a..e]` is `t`
pub part : {d w s l : List ℕ} {n a : ℕ} (e : ℕ) (t : List ℕ) → Run d n w s a → l ≡ t → a + length t ≡ e → Run d n (put_mid a (e - a) w l) (s ++ t) e
part {d} {w} {s} {l} {n} {a} e t r q h =
    let taken : take a w ≡ s = rw (r.is, take_at s (drop a d) a r.far) in
    let dropped : drop a w ≡ drop a d = rw (r.is, drop_at s (drop a d) a r.far) in
    let k : a + (e - a) ≡ e = omega arith in
    record {
      long = r.long;
      far = rw (length-append, r.far) h;
      is = rw (q, taken, dropped, drop-drop, k, append_assoc);
    }

pub part-long : {d w s : List ℕ} {n a : ℕ} (e : ℕ) → Run d n w s a → a ≤ e → e ≤ n → length (take (e - a) (drop a w)) ≡ e - a
part-long {d} {w} {s} {n} {a} e r g h =
    rw (r.is, drop_at s (drop a d) a r.far) (length-take-le (e - a) (drop a d) (rw length-drop (omega (arith, r.long))))

pub done : {d w s : List ℕ} {n : ℕ} → Run d n w s n → w ≡ s
done {d} {w} {s} {n} r = r.is ∙ rw (drop_of_length-le d {i = n} (omega (arith, r.long)), append-nil)

-- ---- writing over

-- what `put_le` left in the part `&mut d[at..at + n]`, said of the whole
pub put-part : (d : List ℕ) (at n v : ℕ) (l : List ℕ) → at + n ≤ length d → l ≡ le (length (take (at + n - at) (drop at d))) v
    → put_mid at (at + n - at) d l ≡ over d at (le n v)
unfolding over
put-part d at n v l h e =
    let k : at + n - at ≡ n = omega arith in
    let part : length (take (at + n - at) (drop at d)) ≡ n = mid_len at (at + n) d h ∙ k in
    rw (e, part, k, drop-drop, le-length)

pub over-over : (d : List ℕ) (at : ℕ) (s t : List ℕ) → at ≤ length d → over (over d at s) (at + length s) t ≡ over d at (s ++ t)
unfolding over
over-over d at s t h =
    let taken : length (take at d) ≡ at = length-take-le at d h in
    let whole : length (take at d ++ s) ≡ at + length s = rw (length-append, taken) in
    rw (
      ← append_assoc (take at d) s (drop (at + length s) d),
      take_at (take at d ++ s) (drop (at + length s) d) (at + length s) whole,
      ← drop-drop (length t) (at + length s) (take at d ++ s ++ drop (at + length s) d),
      drop_at (take at d ++ s) (drop (at + length s) d) (at + length s) whole,
      drop-drop,
      length-append,
    )
    (simp (append_assoc, add_assoc))

pub over_taken : (d : List ℕ) (at : ℕ) (t : List ℕ) → at ≤ length d → take (at + length t) (over d at t) ≡ take at d ++ t
unfolding over
over_taken d at t h =
    rw (← append_assoc (take at d) t (drop (at + length t) d))
    (take_at (take at d ++ t) (drop (at + length t) d) (at + length t) (rw (length-append, length-take-le at d h)))

pub over-length : (d : List ℕ) (at : ℕ) (t : List ℕ) → at + length t ≤ length d → length (over d at t) ≡ length d
unfolding over
over-length d at t h = simp (length-append, length-take, length-drop) (omega arith)

-- ---- fields by their widths

pub fields_length : (ws vs : List ℕ) → length ws ≡ length vs → length (fields ws vs) ≡ total ws
fields_length [] vs e = refl
fields_length (w ∷ ws) [] e = absurd (omega arith)
fields_length (w ∷ ws) (v ∷ vs) e = rw (length-append, le-length, fields_length ws vs (omega arith))

-- no width or no number is left
pub fields_done : (ws vs : List ℕ) → (ws ≡ []) ⊎ (vs ≡ []) → fields ws vs ≡ []
fields_done [] vs e = refl
fields_done (w ∷ ws) vs (inl e) = cc
fields_done (w ∷ ws) vs (inr e) = rw e

-- ---- equal strings

pub equal_self : (a : List ℕ) → equal a a ≡ true
equal_self [] = refl
equal_self (x ∷ a) = rw (eq-eqb x x refl) (equal_self a)

-- the strings may be told in either order
pub equal_swap : (a b : List ℕ) → equal a b ≡ equal b a
equal_swap [] [] = refl
equal_swap [] (y ∷ b) = refl
equal_swap (x ∷ a) [] = refl
equal_swap (x ∷ a) (y ∷ b) = rw (equal_swap a b) (go (eqb x y) refl)
  where
    go : (t : Bool) → eqb x y ≡ t → (eqb x y && equal b a) ≡ (eqb y x && equal b a)
    go true e = let h : x ≡ y = eqb-true x y e in simp (e, eq-eqb y x (sym h))
    go false e = simp (e, ne_eqb y x (λ h. eqb-false x y e (sym h)))

pub equal_on : (a b : List ℕ) (i : ℕ) → i < length a → i < length b
    → equal (drop i a) (drop i b) ≡ (eqb (get_or a i 0) (get_or b i 0) && equal (drop (i + 1) a) (drop (i + 1) b))
equal_on a b i h g = rw (read_on a i h, read_on b i g)

pub equal_differ : (a b : List ℕ) (i : ℕ) → i < length a → i < length b → (get_or a i 0 ≡ get_or b i 0 → ⊥) → equal (drop i a) (drop i b) ≡ false
equal_differ a b i h g d = equal_on a b i h g ∙ simp (ne_eqb (get_or a i 0) (get_or b i 0) d)
