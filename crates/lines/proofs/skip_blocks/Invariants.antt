-- `lines::skip_blocks` meets its contract. Assumes nothing.
use mathlib.Core.Path.{◌≡◌}
use Prim.Native.Nat.{◌≤◌}
use lib.ListN.{length, drop}
use Rattle.lines.specs.Ends.{line_end}
use Rattle.lines.proofs.skip_blocks.Given as goal

abbrev pub invariant-loop-block : goal.invariant-loop-block
invariant-loop-block l =
    (l.i ≤ length l.s) × (l.block-iterator.size ≡ 64) × (l.block-iterator.rest.now ≡ drop l.i l.s) × (line_end l.s l.i ≡ line_end l.s l.at)
