-- `headers::put_map_sections` meets its contract: nothing is written, or two names. Assumes nothing.
use mathlib.Core.Path.{sym, ◌∙◌, ap}
use mathlib.Core.List.{List, [], ◌∷◌, ◌++◌}
use Prim.Native.Nat.{ℕ}
use native.Mathlib.Omega.{arith}
use Rattle.octets.specs.Octets.{ascii}
use Rattle.octets.specs.Over.{over}
use Rattle.octets.proofs.Filling.{over_two}
use Rattle.octets.proofs.Going.{over_nothing}
use Rattle.headers.proofs.Names.{no_map_sections, map_sections_lem}
use Rattle.headers.proofs.put_map_sections.Goals as goal

pub returns-then-maps-eq0-clause-out_after : goal.returns-then-maps-eq0-clause-out_after
returns-then-maps-eq0-clause-out_after c =
    let a = c.args in
    sym (ap (λ (s : List ℕ). over a.out.now a.at s) (no_map_sections a.maps (omega arith)) ∙ over_nothing a.out.now a.at)

pub returns-clause-out_after : goal.returns-clause-out_after
returns-clause-out_after c =
    let a = c.args in
    over_two a.out.now a.at (ascii ".maps" ++ (0 ∷ [])) (ascii ".BTF" ++ (0 ∷ [])) _ _ c.put_string_at-next.result (omega (arith, c.requires))
    c.put_string_at-next.ensures.out_after c.put_string_at-next.ensures.value c.put_string_at.ensures.out_after
    ∙ sym (ap (λ (s : List ℕ). over a.out.now a.at s) (map_sections_lem a.maps (omega arith)))
