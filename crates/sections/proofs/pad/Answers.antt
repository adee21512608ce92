-- `sections::pad` meets its contract. Assumes nothing.
use mathlib.Core.Path.{◌∙◌, ap}
use Prim.Native.Nat.{ℕ, ◌-◌}
use native.Mathlib.Omega.{arith}
use lib.ListN.{length-replicate}
use borrow.Rule.Slice.PartMut.{mid_len}
use Rattle.octets.specs.Octets.{zeros}
use Rattle.octets.proofs.Filling.{over-part}
use Rattle.elf.specs.Elf.{align_to, padding}
use Rattle.elf.proofs.Places.{align_up, align_small}
use Rattle.sections.proofs.pad.Goals as goal

pub returns : goal.returns
returns c =
    let a = c.args in
    let up = align_up a.align a.end (align_small c.requires.alignment).0 in
    let n = length-replicate {A = ℕ} (align_to a.align a.end - a.end) 0 in record {
      out_after = over-part a.out.now a.end c.align_to-at.result _ (padding a.align a.end) (omega (arith, n, up, c.align_to-at.ensures))
          (c.clear.ensures ∙ ap zeros (mid_len a.end c.align_to-at.result a.out.now (omega (arith, c.align_to-at.ensures, c.requires.end_in_bounds)) ∙ ap (λ (x : ℕ). x - a.end) c.align_to-at.ensures));
      value = c.align_to-at.ensures;
    }
