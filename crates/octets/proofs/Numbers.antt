-- Numbers as bytes, for every width: how many bytes there are, what they give back, and how they split.
use mathlib.Core.Path.{◌≡◌, refl, sym, ◌∙◌, ap}
use mathlib.Core.List.{List, [], ◌∷◌, ◌++◌}
use Prim.Native.Nat.{ℕ, zero, suc, ◌+◌, ◌*◌, ◌/◌, ◌%◌, ◌^◌, ◌<◌, suc-le-suc}
use native.Mathlib.Nat.{zero-add, suc-add, pow-suc, pow-succ', div-one, div-div-eq-div-mul, one-le-pow, mod-one, mod-eq_of_lt, zero-lt-suc}
use native.Mathlib.Omega.{arith}
use lib.Arith.{mod-mul}
use lib.ListN.{length, get_or}
use Rattle.octets.specs.Octets.{le, value}

pub le-length : (k n : ℕ) → length (le k n) ≡ k
le-length zero n = refl
le-length (suc k) n = ap suc (le-length k (n / 256))

-- what bytes of a number give back: all of it that fits
pub value_le_mod : (k n : ℕ) → value (le k n) ≡ n % 256 ^ k
value_le_mod zero n = sym (mod-one n)
value_le_mod (suc k) n =
    rw (value_le_mod k (n / 256), pow-suc 256 k, mod-mul n (one-le-pow k 256 (zero-lt-suc 255)) (zero-lt-suc 255)) (omega arith)

-- the little-endian fact: a number below 256^k is given back by its k bytes
pub value-le : (k n : ℕ) → n < 256 ^ k → value (le k n) ≡ n
value-le k n h = value_le_mod k n ∙ mod-eq_of_lt h

-- and the number that bytes give has those bytes
pub le-value : (bs : List ℕ) → ((i : ℕ) → i < length bs → get_or bs i 0 < 256) → le (length bs) (value bs) ≡ bs
le-value [] h = refl
le-value (b ∷ bs) h =
    let s : b < 256 = h 0 (omega arith) in
    let m : (b + 256 * value bs) % 256 ≡ b = omega arith in
    let d : (b + 256 * value bs) / 256 ≡ value bs = omega arith in
    rw (m, d) (ap (λ (r : List ℕ). b ∷ r) (le-value bs (λ i g. h (suc i) (suc-le-suc g))))

-- the bytes of a number in two parts: the lower ones, and those of what is above them
pub le_parts : (j k n : ℕ) → le (j + k) n ≡ le j n ++ le k (n / 256 ^ j)
le_parts zero k n = rw (zero-add, div-one)
le_parts (suc j) k n =
    let above : n / 256 / 256 ^ j ≡ n / 256 ^ suc j = div-div-eq-div-mul n 256 (256 ^ j) ∙ ap (λ (m : ℕ). n / m) (sym (pow-succ' 256 j)) in
    rw (suc-add j k, le_parts j k (n / 256), above)
