-- `bodies::put_bytes` meets its contract. Assumes nothing.
use mathlib.Core.Path.{◌∙◌, sym, ap}
use native.Mathlib.Omega.{arith}
use lib.ListN.{length}
use Rattle.bodies.proofs.Frames.{behind_hex, behind_bytes, two_long}
use Rattle.bodies.proofs.put_bytes.Goals as goal

pub slice_bounds-behind-start : goal.slice_bounds-behind-start
slice_bounds-behind-start c = let n = two_long c.args.line.chars.now c.args.line.hex c.requires.in_bounds in omega arith

pub invariant_of-behind : goal.invariant_of-behind
invariant_of-behind c = record { hex = behind_hex c.args.line.chars.now c.args.line.hex c.requires.in_bounds }

pub put_unhex-requires : goal.put_unhex-requires
put_unhex-requires c = c.requires.out_len ∙ sym (ap length (behind_bytes c.args.line.chars.now c.args.line.hex c.requires.in_bounds))

pub returns : goal.returns
returns c = c.put_unhex.ensures ∙ behind_bytes c.args.line.chars.now c.args.line.hex c.requires.in_bounds
