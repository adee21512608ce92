-- `lookup::find_map` meets its contract: no map from `i` on has the name. Assumes nothing.
use mathlib.Core.Path.{sym, ◌∙◌, ap}
use native.Mathlib.Omega.{arith}
use Rattle.octets.specs.Told.{told}
use Rattle.lookup.proofs.Names.{here, not_here}
use Rattle.lookup.proofs.find_map.Goals as goal

pub returns-then-same-clause-finds : goal.returns-then-same-clause-finds
returns-then-same-clause-finds c =
    let l = c.loop-i in
    let a = c.args in
    ap (told 7) (sym (l.invariant ∙ here a.text.now a.maps.now a.name.chars.now c.requires a.name.hex l.i (omega arith) (omega arith) (sym c.if-same.true ∙ c.same.ensures)))

pub loop-i-preserved : goal.loop-i-preserved
loop-i-preserved c =
    let l = c.loop-i in
    let a = c.args in
    l.invariant ∙ not_here a.text.now a.maps.now a.name.chars.now c.requires a.name.hex l.i (omega arith) (omega arith) (sym c.if-same.false ∙ c.same.ensures)
