-- Lists of bytes: each number is below 256. The bytes of a number are such a list, and such a list gives a number that fits its bytes.
use Prim.Native.Nat.{ℕ, zero, suc, ◌/◌, ◌^◌, ◌≤◌, ◌<◌}
use mathlib.Core.List.{List, [], ◌∷◌}
use native.Mathlib.Nat.{pow-suc, pow-le-pow_right}
use native.Mathlib.Omega.{arith}
use lib.ListN.{length, take, length-take}
use Rattle.octets.specs.Octets.{le, value, cat}
use Rattle.octets.specs.All.{All}
use Rattle.octets.proofs.Lists.{all_append, all_take}

abbrev pub Byte : ℕ → Type 0
Byte b = b < 256

abbrev pub Bytes : List ℕ → Type 0
Bytes bs = All Byte bs

pub le_bytes : (k n : ℕ) → Bytes (le k n)
le_bytes zero n = tt
le_bytes (suc k) n = (omega arith, le_bytes k (n / 256))

pub cat_bytes : (ls : List (List ℕ)) → All Bytes ls → Bytes (cat ls)
cat_bytes [] h = tt
cat_bytes (l ∷ ls) h = all_append Byte l (cat ls) h.0 (cat_bytes ls h.1)

value_fits : (bs : List ℕ) → Bytes bs → value bs < 256 ^ length bs
value_fits [] h = omega arith
value_fits (b ∷ bs) h =
    let later = value_fits bs h.1 in
    rw (pow-suc 256 (length bs)) (omega (arith, h.0))

-- the number in the first `k` bytes
pub front_fits : (k : ℕ) (bs : List ℕ) → Bytes bs → value (take k bs) < 256 ^ k
front_fits k bs h =
    let l : length (take k bs) ≤ k = omega (arith, length-take k bs) in
    let p : 256 ^ length (take k bs) ≤ 256 ^ k = pow-le-pow_right (omega arith) l in
    omega (arith, value_fits (take k bs) (all_take Byte k bs h))
