-- `sections::write_maps` meets its contract. Assumes nothing.
use mathlib.Core.Path.{◌≡◌, sym, ◌∙◌, ap, subst}
use mathlib.Core.List.{List, [], ◌∷◌}
use Prim.Native.Nat.{ℕ, ◌≤◌}
use native.Mathlib.Omega.{arith}
use lib.ListN.{length, length-replicate}
use borrow.Author.Rules.{rules}
use Rattle.octets.specs.Octets.{zeros}
use Rattle.octets.specs.Over.{over}
use Rattle.elf.specs.Elf.{Section, end_of, laid}
use Rattle.elf.specs.Added.{four, eight}
use Rattle.btf.specs.Btf.{btf_bytes}
use Rattle.btf.specs.Maps.{map_types, btf_types}
use Rattle.object.specs.Read.{declared_maps}
use Rattle.sections.specs.Pieces.{bare, map_pieces}
use Rattle.sections.proofs.Turns.{turn_start, turn_room, turn_lay, turn_done, nothing_laid, no_maps, some_maps}
use Rattle.sections.proofs.write_maps.Goals as goal

pub returns-then-object-eq0-clause-out_after : goal.returns-then-object-eq0-clause-out_after
returns-then-object-eq0-clause-out_after c =
    let a = c.args in
    let ms = declared_maps a.text.now a.object.now in
    (nothing_laid a.out.now a.end (map_pieces a.object.now.map_count ms) (no_maps a.object.now.map_count ms (omega arith))).0

pub lay-middle-requires-clause-room : goal.lay-middle-requires-clause-room
lay-middle-requires-clause-room c =
    let a = c.args in
    let o = a.object.now in
    let ms = declared_maps a.text.now o in
    let n = (map_types 6 0 ms).size in
    let all = bare 8 (zeros n) ∷ bare 4 (btf_bytes (btf_types ms)) ∷ [] in
    let is : map_pieces o.map_count ms ≡ all = some_maps o.map_count ms (omega arith) in
    let room : end_of a.end all ≤ length a.out.now = subst (λ (ss : List Section). end_of a.end ss ≤ length a.out.now) is c.requires.object_in_bounds.0 in
    let begun = turn_start a.out.now a.end all (omega arith, (omega arith, tt)) room in
    let size : a.sizes.maps ≡ length (zeros n) = omega (arith, length-replicate {A = ℕ} n 0, c.requires.sizes_of.maps) in
    turn_room _ _ _ begun eight size c.requires.object_in_bounds.1

pub lay-requires-clause-room : goal.lay-requires-clause-room
lay-requires-clause-room c =
    let a = c.args in
    let o = a.object.now in
    let ms = declared_maps a.text.now o in
    let n = (map_types 6 0 ms).size in
    let all = bare 8 (zeros n) ∷ bare 4 (btf_bytes (btf_types ms)) ∷ [] in
    let is : map_pieces o.map_count ms ≡ all = some_maps o.map_count ms (omega arith) in
    let room : end_of a.end all ≤ length a.out.now = subst (λ (ss : List Section). end_of a.end ss ≤ length a.out.now) is c.requires.object_in_bounds.0 in
    let begun = turn_start a.out.now a.end all (omega arith, (omega arith, tt)) room in
    let size : a.sizes.maps ≡ length (zeros n) = omega (arith, length-replicate {A = ℕ} n 0, c.requires.sizes_of.maps) in
    let s₁ : c.lay-middle.ensures.out_after.bytes ≡ zeros (length c.lay-middle.ensures.out_after.part) = search rules in
    let middle = turn_lay _ _ begun size c.lay-middle.ensures.out_after c.lay-middle.ensures.value (s₁ ∙ ap zeros (c.lay-middle.ensures.out_after.long ∙ sym c.requires.sizes_of.maps)) in
    turn_room _ _ _ middle four (sym c.requires.sizes_of.btf) c.requires.object_in_bounds.1

pub returns-clause-out_after : goal.returns-clause-out_after
returns-clause-out_after c =
    let a = c.args in
    let o = a.object.now in
    let ms = declared_maps a.text.now o in
    let n = (map_types 6 0 ms).size in
    let all = bare 8 (zeros n) ∷ bare 4 (btf_bytes (btf_types ms)) ∷ [] in
    let is : map_pieces o.map_count ms ≡ all = some_maps o.map_count ms (omega arith) in
    let room : end_of a.end all ≤ length a.out.now = subst (λ (ss : List Section). end_of a.end ss ≤ length a.out.now) is c.requires.object_in_bounds.0 in
    let begun = turn_start a.out.now a.end all (omega arith, (omega arith, tt)) room in
    let size : a.sizes.maps ≡ length (zeros n) = omega (arith, length-replicate {A = ℕ} n 0, c.requires.sizes_of.maps) in
    let s₁ : c.lay-middle.ensures.out_after.bytes ≡ zeros (length c.lay-middle.ensures.out_after.part) = search rules in
    let middle = turn_lay _ _ begun size c.lay-middle.ensures.out_after c.lay-middle.ensures.value (s₁ ∙ ap zeros (c.lay-middle.ensures.out_after.long ∙ sym c.requires.sizes_of.maps)) in
    let s₂ : c.lay.ensures.out_after.bytes ≡ btf_bytes (btf_types ms) = search rules in
    let done = turn_done (turn_lay _ _ middle (sym c.requires.sizes_of.btf) c.lay.ensures.out_after c.lay.ensures.value s₂) in
    done.0 ∙ ap (λ (ss : List Section). over a.out.now a.end (laid a.end ss)) (sym is)
