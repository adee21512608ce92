-- The info word: a shift and a mask put the kind above the count.
use mathlib.Core.Path.{◌≡◌}
use Prim.Native.Nat.{ℕ, ◌*◌, ◌%◌, ◌^◌, ◌<◌}
use native.Mathlib.Nat.{mod-eq_of_lt}
use native.Mathlib.Omega.{arith}
use lib.Bits.{bit_or, or_shifted}
use Rattle.btf.specs.Btf.{info}

pub info_packed : (kind vlen : ℕ) → kind < 256 → vlen < 2 ^ 24 → bit_or (kind * 16777216 % 4294967296) vlen ≡ info kind vlen
info_packed kind vlen k v =
    let fits : kind * 16777216 < 4294967296 = omega arith in
    rw (mod-eq_of_lt fits) (or_shifted kind 24 vlen v)
