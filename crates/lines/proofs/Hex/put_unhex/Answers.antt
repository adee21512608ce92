-- `lines::Hex::put_unhex` meets its contract. Assumes nothing.
use mathlib.Core.Path.{sym, ◌∙◌, ap}
use mathlib.Core.List.{◌∷◌}
use Prim.Native.Nat.{ℕ, ◌+◌}
use native.Mathlib.Omega.{arith}
use lib.ListN.{drop}
use Rattle.octets.proofs.Laws.{read_on, write_on}
use Rattle.lines.specs.Bytes.{bytes}
use Rattle.lines.proofs.Bytes.{byte_in}
use Rattle.lines.proofs.Hex.put_unhex.Goals as goal

pub loop-i-preserved : goal.loop-i-preserved
loop-i-preserved c =
    let bs = bytes c.args.self in
    let l = c.loop-i in
    let b = byte_in c.args.self l.i _ _ (omega arith) c.nibble-h.ensures.0 c.nibble-l.ensures.0 in
    write_on l.out l.i _ (omega arith) l.invariant (read_on bs l.i (omega arith) ∙ ap (λ (x : ℕ). x ∷ drop (l.i + 1) bs) (sym b))
