-- `btf::put_type` meets its contract: two pieces. Assumes nothing.
use mathlib.Core.Path.{refl, ◌∙◌, ap}
use mathlib.Core.List.{[], ◌∷◌}
use Prim.Native.Nat.{ℕ, ◌+◌}
use native.Mathlib.Omega.{arith}
use Rattle.octets.specs.Over.{over}
use Rattle.octets.proofs.Filling.{over_two}
use Rattle.btf.specs.Btf.{info}
use Rattle.btf.specs.Builder.{words}
use Rattle.btf.proofs.put_type.Goals as goal

pub returns : goal.returns
returns c =
    let a = c.args in
    let first = c.put_words.ensures ∙ ap (λ (i : ℕ). over a.out.now a.at (words (a.name ∷ i ∷ []))) c.btf_info-info.ensures in
    over_two a.out.now a.at (words (a.name ∷ info a.kind a.vlen ∷ [])) (words a.rest.now) _ _ (a.at + 8) (omega arith)
    first refl c.put_words-2.ensures
