-- `sections::lay` meets its contract. Assumes nothing.
use mathlib.Core.Path.{◌≡◌, refl, ◌∙◌}
use Prim.Native.Nat.{◌+◌, ◌-◌}
use native.Mathlib.Omega.{arith}
use lib.ListN.{length, take, drop}
use Rattle.sections.proofs.Laid.{fits_part, fits_lay, room_fits}
use Rattle.sections.proofs.lay.Goals as goal

pub returns-clause-out_after : goal.returns-clause-out_after
returns-clause-out_after g c =
    let at = c.pad-at.result in
    let p = c.pad-at.ensures in
    let n : length c.write.new.arg2 ≡ c.args.size = omega arith in
    let f = room_fits c.write.new.arg2 c.requires.room n in record {
      part = take (at + c.args.size - at) (drop at c.pad-at.new.out);
      bytes = c.write.new.arg2;
      long = fits_part f _ p.value p.out_after ∙ n;
      left = record { shown = _; shows = refl; left = _; met = c.write.ensures; leaves = refl };
      is = fits_lay f _ p.value p.out_after _ refl;
    }
