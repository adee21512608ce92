-- Equal bytes have equal text, since only lower-case digits are hexadecimal.
use mathlib.Core.Path.{◌≡◌, refl}
use mathlib.Core.Bool.{Bool, true, false, ◌&&◌, and_assoc, false≢true}
use mathlib.Core.List.{List, [], ◌∷◌}
use mathlib.Core.Logic.{⊎_elim}
use Prim.Native.Nat.{ℕ, ◌+◌, ◌-◌, ◌*◌, ◌/◌, ◌≤◌, ◌<◌}
use native.Mathlib.Omega.{arith}
use lib.Dec.{eqb}
use borrow.Author.Tests.{le-leb, lt-leb, eq-eqb, ne_eqb, eqb-true, eqb-false}
use Rattle.octets.specs.Octets.{equal}
use Rattle.lines.specs.Lines.{digit}
use Rattle.lines.specs.Hex.{there, is_hex, bytes_in}
use Rattle.lines.proofs.Laws.{digits}
use Rattle.lines.proofs.Bytes.{number_of, byte_of, front}

-- what the number of a digit says of the digit: 48 below it, or 87
pub record Digit (c n : ℕ) : Type 0 where
  pub small : n < 16
  pub is : n + 48 + 39 * ((n + 6) / 16) ≡ c

low_digit : (c : ℕ) → 48 ≤ c → c ≤ 57 → Digit c (number_of (digit c))
low_digit c h g =
    let e : number_of (digit c) ≡ c - 48 = simp (le-leb 48 c h, le-leb c 57 g) in
    record { small = omega arith; is = rw e (omega arith) }

high_digit : (c : ℕ) → 97 ≤ c → c ≤ 102 → Digit c (number_of (digit c))
high_digit c h g =
    let e : number_of (digit c) ≡ c - 87 = simp (le-leb 48 c (omega arith), lt-leb c 57 (omega arith), le-leb 97 c h, le-leb c 102 g) in
    record { small = omega arith; is = rw e (omega arith) }

pub digit_is : (c : ℕ) → there (digit c) ≡ true → Digit c (number_of (digit c))
digit_is c t = ⊎_elim (λ d. low_digit c d.0 d.1) (λ d. high_digit c d.0 d.1) (digits c t)

-- two digits give the byte of two others exactly when they are the same
both_same : (x y a b c d : ℕ) → (x ≡ y → (a ≡ b) × (c ≡ d)) → (a ≡ b → c ≡ d → x ≡ y) → eqb x y ≡ (eqb a b && eqb c d)
both_same x y a b c d f g = go (eqb a b) refl (eqb c d) refl
  where
    go : (t : Bool) → eqb a b ≡ t → (u : Bool) → eqb c d ≡ u → eqb x y ≡ (t && u)
    go true p true q = eq-eqb x y (g (eqb-true a b p) (eqb-true c d q))
    go true p false q = ne_eqb x y (λ e. eqb-false c d q (f e).1)
    go false p u q = ne_eqb x y (λ e. eqb-false a b p (f e).0)

pub byte_same : (c d c' d' : ℕ) → there (digit c) ≡ true → there (digit d) ≡ true → there (digit c') ≡ true → there (digit d') ≡ true
    → eqb (byte_of c d) (byte_of c' d') ≡ (eqb c c' && eqb d d')
byte_same c d c' d' p q p' q' =
    let h = digit_is c p in
    let l = digit_is d q in
    let h' = digit_is c' p' in
    let l' = digit_is d' q' in
    both_same (byte_of c d) (byte_of c' d') c c' d d' (λ e. (omega arith, omega arith)) (λ e f. rw (e, f))

pub equal_hex : (a b : List ℕ) → is_hex a ≡ true → is_hex b ≡ true → equal (bytes_in a) (bytes_in b) ≡ equal a b
equal_hex [] [] s t = refl
equal_hex [] (c ∷ []) s t = absurd (false≢true t)
equal_hex [] (c ∷ d ∷ cs) s t = rw (front c d cs t).bytes
equal_hex (c ∷ []) b s t = absurd (false≢true s)
equal_hex (c ∷ d ∷ cs) [] s t = rw (front c d cs s).bytes
equal_hex (c ∷ d ∷ cs) (c' ∷ []) s t = absurd (false≢true t)
equal_hex (c ∷ d ∷ cs) (c' ∷ d' ∷ cs') s t =
    let f = front c d cs s in
    let g = front c' d' cs' t in
    rw (f.bytes, g.bytes, byte_same c d c' d' f.high f.low g.high g.low, equal_hex cs cs' f.rest g.rest) (and_assoc (eqb c c') (eqb d d') (equal cs cs'))
