-- `sections::write_program` meets its contract. Assumes nothing.
use mathlib.Core.Path.{◌≡◌, sym, ◌∙◌, ap, subst}
use mathlib.Core.List.{List, [], ◌∷◌}
use Prim.Native.Nat.{◌*◌, ◌≤◌}
use native.Mathlib.Omega.{arith}
use lib.ListN.{length}
use borrow.Author.Rules.{rules}
use Rattle.octets.specs.Over.{over}
use Rattle.elf.specs.Elf.{Section, end_of, laid}
use Rattle.elf.specs.Added.{eight}
use Rattle.object.specs.Read.{code_of, body}
use Rattle.contents.specs.Slots.{slots_bytes}
use Rattle.contents.proofs.Slots.{slots_length}
use Rattle.sections.specs.Pieces.{bare, own_pieces}
use Rattle.sections.proofs.Turns.{turn_start, turn_room, turn_lay, turn_done, aligned_own, some_rels}
use Rattle.sections.proofs.write_program.Goals as goal

pub lay-coded-requires-clause-room : goal.lay-coded-requires-clause-room
lay-coded-requires-clause-room c =
    let a = c.args in
    let begun = turn_start a.out.now a.start (own_pieces a.text.now a.slots.now a.program) (aligned_own a.text.now a.slots.now a.program) c.requires.program_in_bounds.0 in
    turn_room _ _ _ begun eight (sym c.requires.kept.code) c.requires.program_in_bounds.1

pub lay-requires-clause-room : goal.lay-requires-clause-room
lay-requires-clause-room c =
    let a = c.args in
    let text = a.text.now in
    let p = a.program in
    let all = bare 8 (code_of (body text p.from p.lines)) ∷ bare 8 (slots_bytes text a.slots.now) ∷ [] in
    let room : end_of a.start all ≤ length a.out.now = subst (λ (ss : List Section). end_of a.start ss ≤ length a.out.now) (some_rels text a.slots.now p (omega arith)) c.requires.program_in_bounds.0 in
    let begun = turn_start a.out.now a.start all (omega arith, (omega arith, tt)) room in
    let s₁ : c.lay-coded.ensures.out_after.bytes ≡ code_of (body text p.from p.lines) = search rules in
    let coded = turn_lay _ _ begun (sym c.requires.kept.code) c.lay-coded.ensures.out_after c.lay-coded.ensures.value s₁ in
    let long : 16 * p.relocs ≡ length (slots_bytes text a.slots.now) = omega (arith, slots_length text a.slots.now c.requires.all_placed) in
    turn_room _ _ _ coded eight long c.requires.program_in_bounds.1

pub returns-clause-out_after : goal.returns-clause-out_after
returns-clause-out_after c =
    let a = c.args in
    let text = a.text.now in
    let p = a.program in
    let all = bare 8 (code_of (body text p.from p.lines)) ∷ bare 8 (slots_bytes text a.slots.now) ∷ [] in
    let some = some_rels text a.slots.now p (omega arith) in
    let room : end_of a.start all ≤ length a.out.now = subst (λ (ss : List Section). end_of a.start ss ≤ length a.out.now) some c.requires.program_in_bounds.0 in
    let begun = turn_start a.out.now a.start all (omega arith, (omega arith, tt)) room in
    let s₁ : c.lay-coded.ensures.out_after.bytes ≡ code_of (body text p.from p.lines) = search rules in
    let coded = turn_lay _ _ begun (sym c.requires.kept.code) c.lay-coded.ensures.out_after c.lay-coded.ensures.value s₁ in
    let long : 16 * p.relocs ≡ length (slots_bytes text a.slots.now) = omega (arith, slots_length text a.slots.now c.requires.all_placed) in
    let s₂ : c.lay.ensures.out_after.bytes ≡ slots_bytes text a.slots.now = search rules in
    (turn_done (turn_lay _ _ coded long c.lay.ensures.out_after c.lay.ensures.value s₂)).0 ∙ ap (λ (ss : List Section). over a.out.now a.start (laid a.start ss)) (sym some)
