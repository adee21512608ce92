-- `lines::Hex::number_at` meets its contract. Assumes nothing.
use mathlib.Core.Path.{sym, ◌∙◌, ap}
use Prim.Native.Nat.{ℕ, ◌+◌, ◌*◌, ◌-◌}
use native.Mathlib.Omega.{arith}
use lib.ListN.{take, drop}
use Rattle.octets.proofs.Reading.{small, more, larger}
use Rattle.lines.specs.Bytes.{bytes}
use Rattle.lines.proofs.Bytes.{chars_twice, part_length, part_byte}
use Rattle.lines.proofs.Hex.number_at.Goals as goal

pub overflow_mul-v : goal.overflow_mul-v
overflow_mul-v c =
    let l = c.loop-k in
    omega (arith, small c.args.n l.k l.v (omega arith) (omega arith) l.invariant.1)

pub overflow_add-v : goal.overflow_add-v
overflow_add-v c =
    let l = c.loop-k in
    omega (arith, small c.args.n l.k l.v (omega arith) (omega arith) l.invariant.1)

pub loop-k-preserved : goal.loop-k-preserved
loop-k-preserved c =
    let l = c.loop-k in
    let a = c.args in
    let part = take a.n (drop a.i (bytes a.self)) in
    let h = chars_twice a.self in
    let n = part_length a.self.chars.now a.i a.n a.self.hex (omega arith) in
    let b = part_byte a.self.chars.now a.i a.n (l.k - 1) (omega arith) in
    let m = more part l.k l.v (omega arith) (omega arith) l.invariant.0 in (
      ap (λ (x : ℕ). l.v * 256 + x) (c.from.ensures ∙ c.byte_at.ensures ∙ sym b) ∙ m,
      larger a.n l.k l.v _ (omega arith) (omega arith) l.invariant.1 (omega arith),
    )
