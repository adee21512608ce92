-- `headers::put_section` meets its contract: the name and the zero byte are two pieces. Assumes nothing.
use mathlib.Core.Path.{◌≡◌, refl, ◌∙◌, ap}
use mathlib.Core.List.{[], ◌∷◌}
use Prim.Native.Nat.{◌+◌, ◌-◌}
use native.Mathlib.Omega.{arith}
use lib.ListN.{length, length-append}
use borrow.Rule.Slice.PartMut.{mid_len}
use Rattle.octets.specs.Octets.{zeros}
use Rattle.octets.proofs.Filling.{over-part, over_two}
use Rattle.object.specs.Read.{name_in}
use Rattle.object.proofs.Names.{name_length}
use Rattle.headers.proofs.put_section.Goals as goal

pub put_name-end-requires-clause-len_in_bounds : goal.put_name-end-requires-clause-len_in_bounds
put_name-end-requires-clause-len_in_bounds c =
    omega (arith, name_length c.args.text.now c.args.name c.requires.named)

pub slice_bounds-clear-end : goal.slice_bounds-clear-end
slice_bounds-clear-end c =
    omega (arith, name_length c.args.text.now c.args.name c.requires.named)

pub returns : goal.returns
returns c =
    let a = c.args in
    let n = name_in a.text.now a.name in
    let size = name_length a.text.now a.name c.requires.named in
    let r = c.put_name-end.result in
    let end : r ≡ a.at + length n = omega (arith, size) in
    let one : r + 1 - r ≡ 1 = omega arith in
    let zero = c.clear.ensures ∙ ap zeros (mid_len r (r + 1) _ (omega arith) ∙ one) in record {
      out_after = over_two a.out.now a.at n (0 ∷ []) _ _ r (omega (arith, c.requires.name_in_bounds)) c.put_name-end.ensures.out_after end (over-part _ r (r + 1) _ (0 ∷ []) refl zero);
      value = omega (arith, end, length-append n (0 ∷ []));
    }
