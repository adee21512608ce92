-- `judge::judge_map` meets its contract. Assumes nothing.
use mathlib.Core.Path.{◌≡◌, sym, ◌∙◌, ap}
use mathlib.Core.Bool.{Bool, true, false, ◌||◌}
use mathlib.Core.Option.{some}
use mathlib.Core.List.{List}
use Prim.Native.Nat.{ℕ, ◌+◌, ◌*◌, ◌≤◌}
use native.Mathlib.Omega.{arith}
use lib.Dec.{ltb, leb}
use lib.ListN.{length, drop}
use borrow.Author.Tests.{not-false, le-ltb, ltb-false, leb-false}
use Rattle.octets.specs.Told.{told_if}
use Rattle.octets.proofs.Told.{told_holds, told_free}
use Rattle.octets.proofs.Tests.{or_false_both}
use Rattle.utf8.specs.Utf8.{is_text}
use Rattle.refusals.specs.Checked.{Stage, long, bad_name, added}
use Rattle.judge.specs.declared.Counts.{Counts}
use Rattle.judge.specs.Judged.{line_bytes, map_frame_of, Agrees}
use Rattle.judge.proofs.Pieces.{within, rest, part_hex, part_bytes, piece_name, piece_named}
use Rattle.judge.proofs.Judge.{stops, goes, at_5, at_6, at_none}
use Rattle.judge.proofs.judge_map.Goals as goal

-- the table's tests in a stage with these counts
abbrev late : Stage → Bool
late s = ltb 0 (length s.job.programs)

abbrev over : Stage → List ℕ → Bool
over s t = leb 64 (length s.job.maps) || long t

over-is : (s : Stage) (maps : ℕ) (t : List ℕ) → length s.job.maps ≡ maps → (b : Bool) → (leb 64 maps || long t) ≡ b → over s t ≡ b
over-is s maps t m b q = ap (λ (n : ℕ). leb 64 n || long t) m ∙ q

early : (s : Stage) (k : Counts) → Agrees s k → k.programs ≤ 0 → late s ≡ false
early s k e h = le-ltb 0 (length s.job.programs) (omega (arith, e.programs))

pub overflow_mul-from : goal.overflow_mul-from
overflow_mul-from c = omega (arith, within c.args.text.now c.args.at c.args.end c.requires.framed c.args.name c.requires.le_name.1)

pub overflow_add-from : goal.overflow_add-from
overflow_add-from c = omega (arith, within c.args.text.now c.args.at c.args.end c.requires.framed c.args.name c.requires.le_name.1)

pub slice_bounds-hex-count : goal.slice_bounds-hex-count
slice_bounds-hex-count c = omega (arith, within c.args.text.now c.args.at c.args.end c.requires.framed c.args.name c.requires.le_name.1)

pub slice_bounds-hex-start : goal.slice_bounds-hex-start
slice_bounds-hex-start c = omega (arith, within c.args.text.now c.args.at c.args.end c.requires.framed c.args.name c.requires.le_name.1)

pub invariant_of-hex : goal.invariant_of-hex
invariant_of-hex c =
    let inside = within c.args.text.now c.args.at c.args.end c.requires.framed c.args.name c.requires.le_name.1 in
    let piece = (let a = c.args in rest a.text.now a.at a.end c.requires.framed a.name (a.at + 2 * a.name) (omega arith) inside) in
    record { hex = part_hex piece }

pub returns-in_default : goal.returns-in_default
returns-in_default c =
    let bytes = line_bytes c.args.text.now c.args.at c.args.end in
    let given = drop c.args.name bytes in
    let frame = map_frame_of c.args.decl given in
    let inside = within c.args.text.now c.args.at c.args.end c.requires.framed c.args.name c.requires.le_name.1 in
    let piece = (let a = c.args in rest a.text.now a.at a.end c.requires.framed a.name (a.at + 2 * a.name) (omega arith) inside) in
    let flaw = c.in_default.ensures ∙ ap (λ (x : List ℕ). told_if 5 (bad_name x)) (part_bytes piece) in
    let t = given in
    λ s e n. (
      stops s frame bytes c.requires.says 5
          (at_5 (late s) (bad_name t) (over s given) (early s c.args.counts e (omega arith)) (told_holds 5 5 (bad_name t) flaw)),
      omega (arith, e.lines),
    )

pub returns-in_default-limit : goal.returns-in_default-limit
returns-in_default-limit c =
    let bytes = line_bytes c.args.text.now c.args.at c.args.end in
    let given = drop c.args.name bytes in
    let frame = map_frame_of c.args.decl given in
    let inside = within c.args.text.now c.args.at c.args.end c.requires.framed c.args.name c.requires.le_name.1 in
    let piece = (let a = c.args in rest a.text.now a.at a.end c.requires.framed a.name (a.at + 2 * a.name) (omega arith) inside) in
    let flaw = c.in-Ok.ensures ∙ ap (λ (x : List ℕ). told_if 5 (bad_name x)) (part_bytes piece) in
    let good = told_free 5 _ flaw in
    let full = leb 64 c.args.maps in
    let limit = c.in_default-limit.ensures ∙ ap (λ (x : List ℕ). told_if 6 (full || long x)) (part_bytes piece) in
    λ s e n. (
      stops s frame bytes c.requires.says 6
          (at_6 (late s) (bad_name given) (over s given) (early s c.args.counts e (omega arith)) good
          (over-is s c.args.maps given n true (told_holds 6 6 (full || long given) limit))),
      omega (arith, e.lines),
    )

pub name_at-name-requires-clause-from_le_end : goal.name_at-name-requires-clause-from_le_end
name_at-name-requires-clause-from_le_end c = within c.args.text.now c.args.at c.args.end c.requires.framed c.args.name c.requires.le_name.1

pub name_at-name-requires-clause-end_bound_2 : goal.name_at-name-requires-clause-end_bound_2
name_at-name-requires-clause-end_bound_2 c =
    let bytes = line_bytes c.args.text.now c.args.at c.args.end in
    let given = drop c.args.name bytes in
    let full = leb 64 c.args.maps in
    let inside = within c.args.text.now c.args.at c.args.end c.requires.framed c.args.name c.requires.le_name.1 in
    let piece = (let a = c.args in rest a.text.now a.at a.end c.requires.framed a.name (a.at + 2 * a.name) (omega arith) inside) in
    let limit = c.in-Ok-limit.ensures ∙ ap (λ (x : List ℕ). told_if 6 (full || long x)) (part_bytes piece) in
    let kept = told_free 6 _ limit in
    let short : long given ≡ false = (or_false_both full (long given) kept).1 in
    let n = ltb-false 64 (length given) short in
    omega (arith, piece.count, piece.even)

pub returns : goal.returns
returns c =
    let bytes = line_bytes c.args.text.now c.args.at c.args.end in
    let given = drop c.args.name bytes in
    let full = leb 64 c.args.maps in
    let inside = within c.args.text.now c.args.at c.args.end c.requires.framed c.args.name c.requires.le_name.1 in
    let piece = (let a = c.args in rest a.text.now a.at a.end c.requires.framed a.name (a.at + 2 * a.name) (omega arith) inside) in
    let limit = c.in-Ok-limit.ensures ∙ ap (λ (x : List ℕ). told_if 6 (full || long x)) (part_bytes piece) in
    let kept = told_free 6 _ limit in
    let frame = map_frame_of c.args.decl given in
    let flaw = c.in-Ok.ensures ∙ ap (λ (x : List ℕ). told_if 5 (bad_name x)) (part_bytes piece) in
    let good = told_free 5 _ flaw in
    let short : long given ≡ false = (or_false_both full (long given) kept).1 in
    let t = given in
    let m = leb-false 64 c.args.maps (or_false_both full (long t) kept).0 in
    λ s e n. rw c.name_at-name.ensures (
      goes s frame bytes c.requires.says
          (at_none (late s) (bad_name t) (over s given) (early s c.args.counts e (omega arith)) good (over-is s c.args.maps given n false kept))
          ∙ ap (λ (l : List ℕ). added s (map_frame_of c.args.decl l)) (sym (piece_name piece)),
      (piece_named piece inside c.requires.framed.last (not-false (is_text t) good) short, omega (arith, n), omega (arith, e.programs)),
      c.requires.says ∙ ap (λ (l : List ℕ). some (map_frame_of c.args.decl l)) (sym (piece_name piece)),
    )
