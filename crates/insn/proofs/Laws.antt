-- The register byte: masks and a shift put the two nibbles together.
use mathlib.Core.Path.{◌≡◌}
use Prim.Native.Nat.{ℕ, ◌*◌, ◌%◌, ◌<◌}
use native.Mathlib.Nat.{mod-eq_of_lt}
use native.Mathlib.Omega.{arith}
use lib.Bits.{bit_or, bit_and, and_mask, or_shifted_r}
use Rattle.insn.specs.Insn.{registers}

pub nibbles : (dst src : ℕ) → bit_or (bit_and dst 15) (bit_and src 15 * 16 % 256) ≡ registers dst src
nibbles dst src =
    let low : bit_and dst 15 ≡ dst % 16 = and_mask dst 4 in
    let high : bit_and src 15 ≡ src % 16 = and_mask src 4 in
    let fits : src % 16 * 16 < 256 = omega arith in
    rw (high, low, mod-eq_of_lt fits, or_shifted_r (src % 16) 4 (dst % 16) (omega arith)) (omega arith)

pub registers_fit : (dst src : ℕ) → registers dst src < 256
registers_fit dst src = omega arith
