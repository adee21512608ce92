-- `frames::read_map` meets its contract. Assumes nothing.
use mathlib.Core.Path.{refl, sym, ◌∙◌, ap}
use native.Mathlib.Omega.{arith}
use Rattle.octets.specs.Told.{told}
use Rattle.octets.proofs.Told.{told-there, told_none}
use Rattle.lines.specs.Bytes.{bytes}
use Rattle.ast.specs.Listed.{listed_told}
use Rattle.frames.proofs.Laws.{map_short, map_unlisted, map_presence, map_listed}
use Rattle.frames.proofs.read_map.Goals as goal

pub returns-then-len-lt3-clause-result_value : goal.returns-then-len-lt3-clause-result_value
returns-then-len-lt3-clause-result_value c = ap (told 3) (map_short (bytes c.args.line) (omega arith))

pub returns-in_default-clause-result_value : goal.returns-in_default-clause-result_value
returns-in_default-clause-result_value c =
    let e = told_none 3 3 _ (sym (ap listed_told c.in_default.is) ∙ c.try_from-listed.ensures) in
    ap (told 3) (map_unlisted (bytes c.args.line) _ _ c.byte_at.ensures refl (omega arith) e)

pub returns-then-p-gt7-clause-result_value : goal.returns-then-p-gt7-clause-result_value
returns-then-p-gt7-clause-result_value c =
    let e = told-there 3 _ _ (sym (ap listed_told c.in-Ok.is) ∙ c.try_from-listed.ensures) in
    ap (told 3) (map_presence (bytes c.args.line) _ _ c.byte_at.ensures c.byte_at-p.ensures (omega arith) _ e c.if-p-gt7.true)

pub returns-clause-result_value : goal.returns-clause-result_value
returns-clause-result_value c =
    let e = told-there 3 _ _ (sym (ap listed_told c.in-Ok.is) ∙ c.try_from-listed.ensures) in
    c.read_attrs.ensures.result_value ∙ ap (told 3) (map_listed (bytes c.args.line) _ _ c.byte_at.ensures c.byte_at-p.ensures (omega arith) _ e (omega arith))
