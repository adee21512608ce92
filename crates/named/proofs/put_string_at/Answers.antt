-- `named::put_string_at` meets its contract. Assumes nothing.
use mathlib.Core.List.{[], ◌∷◌, ◌++◌}
use Prim.Native.Nat.{◌+◌}
use native.Mathlib.Omega.{arith}
use lib.ListN.{length, length-append}
use Rattle.octets.proofs.Filling.{over-part}
use Rattle.named.proofs.put_string_at.Goals as goal

pub returns : goal.returns
returns c =
    let a = c.args in
    let n = length-append a.s.now (0 ∷ []) in record {
      out_after = over-part a.out.now a.at (a.at + length a.s.now + 1) _ (a.s.now ++ (0 ∷ [])) (omega (arith, n)) c.put_string.ensures;
      value = omega (arith, n);
    }
