-- `headers::put_rel_name` meets its contract: `.rel` and the name with its zero byte are two pieces. Assumes nothing.
use mathlib.Core.Path.{refl}
use mathlib.Core.List.{[], ◌∷◌, ◌++◌}
use Prim.Native.Nat.{◌+◌}
use native.Mathlib.Omega.{arith}
use Rattle.octets.specs.Octets.{ascii}
use Rattle.octets.proofs.Filling.{over-part, over_two}
use Rattle.object.specs.Read.{name_in}
use Rattle.headers.proofs.put_rel_name.Goals as goal

pub returns-clause-out_after : goal.returns-clause-out_after
returns-clause-out_after c =
    let a = c.args in
    over_two a.out.now a.at (ascii ".rel") (name_in a.text.now a.name ++ (0 ∷ [])) _ _ (a.at + 4) (omega (arith, c.requires.name_in_bounds))
    (over-part a.out.now a.at (a.at + 4) _ (ascii ".rel") refl c.copy.ensures) refl c.put_section.ensures.out_after
