-- Laws for loops that put a number together from its bytes, the highest first.
use mathlib.Core.Path.{◌≡◌, ◌∙◌}
use mathlib.Core.List.{List, [], ◌∷◌, ◌++◌}
use Prim.Native.Nat.{ℕ, suc, ◌≤◌, ◌<◌, ◌-◌, ◌+◌, ◌*◌, ◌^◌}
use native.Mathlib.Omega.{arith}
use native.Mathlib.Nat.{pow-suc, pow-le-pow_right, mul-le-mul_left, one-le-pow, zero-lt-suc}
use lib.Dec.{lit<}
use Rattle.std.proofs.Common.{Fits, w8, w64}
use lib.ListN.{length, drop, get_or}
use Rattle.octets.specs.Octets.{value}
use Rattle.octets.proofs.Laws.{read_on}

-- while a byte is still to come, the number is below 2^56
pub small : (n i v : ℕ) → n ≤ 8 → 0 < i → v < 256 ^ (n - i) → v < 2 ^ 56
small n i v h p q = let e : 256 ^ (n - i) ≤ 256 ^ 7 = pow-le-pow_right (lit< tt) {j = 7} (omega arith) in omega arith

-- a byte more, from the end towards the front
pub more : (s : List ℕ) (i v : ℕ) → 0 < i → i ≤ length s → v ≡ value (drop i s) → v * 256 + get_or s (i - 1) 0 ≡ value (drop (i - 1) s)
more s i v p h e =
    let j : i - 1 + 1 ≡ i = omega arith in
    let b : i - 1 < length s = omega arith in
    rw (read_on s (i - 1) b, j, ← e) (omega arith)

pub larger : (n i v b : ℕ) → 0 < i → i ≤ n → v < 256 ^ (n - i) → b < 256 → v * 256 + b < 256 ^ (n - (i - 1))
larger n i v b p h q r =
    let j : n - (i - 1) ≡ suc (n - i) = omega arith in
    rw (j, pow-suc) (omega arith)

-- ---- the same where the bytes that are left are a list of their own: `v` is what was read after them, and together they are the number of all

-- the last byte that was left is read
pub back_on : {rest : List ℕ} (n : ℕ) (left : List ℕ) (b v : ℕ) → rest ≡ left ++ b ∷ [] → n ≡ value rest + 256 ^ length rest * v
    → n ≡ value left + 256 ^ length left * (v * 256 + b)
back_on n left b v e whole = (rw e at whole) ∙ go left
  where
    go : (l : List ℕ) → value (l ++ b ∷ []) + 256 ^ length (l ++ b ∷ []) * v ≡ value l + 256 ^ length l * (v * 256 + b)
    go [] = omega arith
    go (x ∷ l) =
        let more = go l in
        rw (pow-suc 256 (length (l ++ b ∷ [])), pow-suc 256 (length l)) (omega (arith, more))

-- the number that bytes give fits them
pub value_below : (s : List ℕ) → ((i : ℕ) → Fits w8 (get_or s i 0)) → value s < 256 ^ length s
value_below [] h = omega arith
value_below (b ∷ s) h = rw (pow-suc 256 (length s)) (omega (arith, h 0, value_below s (λ i. h (suc i))))

-- what is read of at most eight bytes fits a u64 with the next one too
pub back_fits : {rest : List ℕ} (s left : List ℕ) (b v : ℕ) → length s ≤ 8 → ((i : ℕ) → Fits w8 (get_or s i 0)) → rest ≡ left ++ b ∷ []
    → value s ≡ value rest + 256 ^ length rest * v → Fits w64 (v * 256 + b)
back_fits s left b v n h e whole =
    let most : 256 ^ length s ≤ 256 ^ 8 = pow-le-pow_right (lit< tt) n in
    let one = mul-le-mul_left (v * 256 + b) (one-le-pow (length left) 256 (zero-lt-suc 255)) in
    omega (arith, value_below s h, one, back_on (value s) left b v e whole)

-- nothing is left
pub back_done : (n : ℕ) (rest : List ℕ) (v : ℕ) → length rest ≡ 0 → n ≡ value rest + 256 ^ length rest * v → v ≡ n
back_done n [] v z whole = omega arith
back_done n (x ∷ rest) v z whole = absurd (omega arith)
