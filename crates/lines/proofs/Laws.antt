-- What the proofs of this crate share, and what callers learn of a line from its end.
use mathlib.Core.Path.{◌≡◌, refl, sym, ◌∙◌, ap}
use mathlib.Core.Bool.{Bool, true, false, cond, ◌&&◌, false≢true}
use mathlib.Core.Option.{Option, none, some}
use mathlib.Core.List.{List, [], ◌∷◌}
use mathlib.Core.Logic.{◌⊎◌, inl, inr, ⊎_elim}
use Prim.Native.Nat.{ℕ, suc, ◌+◌, ◌-◌, ◌*◌, ◌≤◌, ◌<◌}
use native.Mathlib.Omega.{arith}
use lib.Dec.{eqb, leb}
use Rattle.octets.specs.Octets.{within}
use lib.ListN.{length, take, drop, get_or, length-drop}
use lib.Seq.{drop-drop}
use borrow.Author.Tests.{ne_eqb, eqb-false, leb-true}
use Rattle.lines.specs.Lines.{Line, lines, before, digit, pair, unhex}
use Rattle.octets.proofs.Laws.{read_on}
use Rattle.octets.proofs.Tests.{and_true_both}
use Rattle.octets.specs.Told.{gives, refuses}
use Rattle.lines.specs.Ends.{end_of, line_end}
use Rattle.lines.specs.Hex.{there, bytes_of, is_hex, is_frame}

-- ---- the end of a line

pub before_end : (i c : ℕ) (ls : List Line) → end_of i (before c ls) ≡ end_of (i + 1) ls
before_end i c [] = refl
before_end i c (l ∷ ls) =
    let e : i + suc (length l.text) ≡ i + 1 + length l.text = omega arith in
    ap (λ (n : ℕ). cond l.ended (gives n) (refuses 2)) e

pub end_on : (s : List ℕ) (i : ℕ) → i < length s → (get_or s i 0 ≡ 10 → ⊥) → line_end s i ≡ line_end s (i + 1)
end_on s i h n = rw (read_on s i h) (simp (ne_eqb _ _ n) (before_end i (get_or s i 0) (lines (drop (i + 1) s))))

-- ---- hexadecimal

pub there-pair : (x y : Option ℕ) (z : Option (List ℕ)) → there (pair x y z) ≡ (there x && there y && there z)
there-pair none y z = refl
there-pair (some a) none z = refl
there-pair (some a) (some b) none = refl
there-pair (some a) (some b) (some z) = refl

-- what may be there or not
pub is_there : (o : Option (List ℕ)) → there o ≡ true → o ≡ some (bytes_of o)
is_there none e = absurd (false≢true e)
is_there (some a) e = refl

-- the text of a frame is hexadecimal, and not empty
pub frame_hex : (part : List ℕ) → is_frame part ≡ true → (is_hex part ≡ true) × (length part ≡ 0 → ⊥)
frame_hex part t = go (eqb (length part) 0) refl
  where
    go : (b : Bool) → eqb (length part) 0 ≡ b → (is_hex part ≡ true) × (length part ≡ 0 → ⊥)
    go true e = absurd (false≢true (rw e at t))
    go false e = (rw e at t, eqb-false (length part) 0 e)

-- two characters more
pub hex_on : (s : List ℕ) (i : ℕ) → i + 1 < length s
    → there (unhex (drop i s)) ≡ (there (digit (get_or s i 0)) && there (digit (get_or s (i + 1) 0)) && there (unhex (drop (i + 2) s)))
hex_on s i h =
    let e : i + 1 + 1 ≡ i + 2 = omega arith in
    let k : i < length s = omega arith in
    rw (read_on s i k, read_on s (i + 1) h, e) (there-pair (digit (get_or s i 0)) (digit (get_or s (i + 1) 0)) (unhex (drop (i + 2) s)))

-- ---- what callers learn of a line from its end

abbrev pub line : List ℕ → Line
line text = record { text = text; ended = true }

not_ended : (e : ℕ) → refuses 2 ≡ gives e → ⊥
not_ended e h = let z : ◌≡◌ {A = ℕ} 0 1 = cc in omega arith

same_end : (a e : ℕ) → gives a ≡ gives e → a ≡ e
same_end a e h = cc

split : (bs : List ℕ) (at e : ℕ) → end_of at (lines bs) ≡ gives e
    → (at ≤ e) × (e - at < length bs) × (lines bs ≡ line (take (e - at) bs) ∷ lines (drop (e + 1 - at) bs))
split [] at e h = absurd (not_ended e h)
split (c ∷ cs) at e h = go (eqb c 10) refl (split cs (at + 1) e)
  where
    go : (b : Bool) → eqb c 10 ≡ b
        → (end_of (at + 1) (lines cs) ≡ gives e → (at + 1 ≤ e) × (e - (at + 1) < length cs) × (lines cs ≡ line (take (e - (at + 1)) cs) ∷ lines (drop (e + 1 - (at + 1)) cs)))
        → (at ≤ e) × (e - at < length (c ∷ cs)) × (lines (c ∷ cs) ≡ line (take (e - at) (c ∷ cs)) ∷ lines (drop (e + 1 - at) (c ∷ cs)))
    go true t ih =
        let k : at + 0 ≡ e = same_end (at + 0) e (simp t at h) in
        let z : e - at ≡ 0 = omega arith in
        let y : e + 1 - at ≡ 1 = omega arith in
        (omega arith, omega arith, rw (z, y) (simp t))
    go false t ih =
        let h' : end_of at (before c (lines cs)) ≡ gives e = simp t at h in
        let r = ih (sym (before_end at c (lines cs)) ∙ h') in
        let p : at + 1 ≤ e = r.0 in
        let q : e - (at + 1) < length cs = r.1 in
        let z : e - at ≡ suc (e - (at + 1)) = omega arith in
        let y : e + 1 - at ≡ suc (e + 1 - (at + 1)) = omega arith in
        (omega arith, omega arith, rw (z, y) (simp t (ap (before c) r.2)))

pub line_ended : (s : List ℕ) (at e : ℕ) → line_end s at ≡ gives e
    → (at ≤ e) × (e < length s) × (lines (drop at s) ≡ line (take (e - at) (drop at s)) ∷ lines (drop (e + 1) s))
line_ended s at e h =
    let r = split (drop at s) at e h in
    let p : at ≤ e = r.0 in
    let q : e - at < length s - at = rw length-drop at r.1 in
    let z : at + (e + 1 - at) ≡ e + 1 = omega arith in
    (p, omega arith, r.2 ∙ ap (λ (b : List ℕ). line (take (e - at) (drop at s)) ∷ lines b) (drop-drop (e + 1 - at) at s ∙ ap (λ (k : ℕ). drop k s) z))

abbrev pub cut : List ℕ → Line
cut text = record { text = text; ended = false }

-- no LF in what is left
pub no_end : (bs : List ℕ) (at : ℕ) → end_of at (lines bs) ≡ refuses 2 → (lines bs ≡ cut bs ∷ []) ⊎ (bs ≡ [])
no_end [] at h = inr refl
no_end (c ∷ cs) at h = inl (go (eqb c 10) refl (no_end cs (at + 1)))
  where
    go : (b : Bool) → eqb c 10 ≡ b → (end_of (at + 1) (lines cs) ≡ refuses 2 → (lines cs ≡ cut cs ∷ []) ⊎ (cs ≡ [])) → lines (c ∷ cs) ≡ cut (c ∷ cs) ∷ []
    go true t ih = absurd (not_ended (at + 0) (sym (simp t at h)))
    go false t ih =
        let h' : end_of at (before c (lines cs)) ≡ refuses 2 = simp t at h in
        ⊎_elim (λ e. simp t (ap (before c) e)) (λ e. simp t (ap (λ (ds : List ℕ). before c (lines ds)) e ∙ ap (λ (ds : List ℕ). cut (c ∷ ds) ∷ []) (sym e)))
        (ih (sym (before_end at c (lines cs)) ∙ h'))

pub line_cut : (s : List ℕ) (at : ℕ) → at < length s → line_end s at ≡ refuses 2 → lines (drop at s) ≡ cut (drop at s) ∷ []
line_cut s at h e =
    ⊎_elim (λ k. k) (λ k. let l : length s - at ≡ 0 = sym (length-drop at s) ∙ ap length k in absurd (omega arith)) (no_end (drop at s) at e)

-- ---- digits

pub within_true : (a z n : ℕ) → within a z n ≡ true → (a ≤ n) × (n ≤ z)
within_true a z n e = let r = and_true_both (leb a n) (leb n z) e in (leb-true a n r.0, leb-true n z r.1)

pub digits : (c : ℕ) → there (digit c) ≡ true → ((48 ≤ c) × (c ≤ 57)) ⊎ ((97 ≤ c) × (c ≤ 102))
digits c e = go (within 48 57 c) refl (within 97 102 c) refl
  where
    go : (b : Bool) → within 48 57 c ≡ b → (d : Bool) → within 97 102 c ≡ d → ((48 ≤ c) × (c ≤ 57)) ⊎ ((97 ≤ c) × (c ≤ 102))
    go true p d q = inl (within_true 48 57 c p)
    go false p true q = inr (within_true 97 102 c q)
    go false p false q = absurd (false≢true (sym (simp (p, q)) ∙ e))

-- what two digits give, before the bytes of the rest
pub pair_on : (x y : ℕ) (a b : Option ℕ) (z : Option (List ℕ)) → some x ≡ a → some y ≡ b → there z ≡ true
    → bytes_of (pair a b z) ≡ (x * 16 + y) ∷ bytes_of z
pair_on x y a b none p q t = absurd (false≢true t)
pair_on x y a b (some z) p q t = rw (← p, ← q)

module _ (s : List ℕ) (at : ℕ) (h : at + 1 < length s) (t : there (unhex (drop at s)) ≡ true) where
  later : there (unhex (drop (at + 2) s)) ≡ true
  later = (and_true_both (there (digit (get_or s at 0)) && there (digit (get_or s (at + 1) 0))) (there (unhex (drop (at + 2) s))) (sym (hex_on s at h) ∙ t)).1

  pub byte_on : (x y : ℕ) → some x ≡ digit (get_or s at 0) → some y ≡ digit (get_or s (at + 1) 0)
      → bytes_of (unhex (drop at s)) ≡ (x * 16 + y) ∷ bytes_of (unhex (drop (at + 2) s))
  byte_on x y p q =
      let e : at + 1 + 1 ≡ at + 2 = omega arith in
      let k : at < length s = omega arith in
      rw (read_on s at k, read_on s (at + 1) h, e) (pair_on x y _ _ (unhex (drop (at + 2) s)) p q later)
