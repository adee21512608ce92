-- `judge::judge_relocation` meets its contract. Assumes nothing.
use mathlib.Core.Path.{◌≡◌, sym, ◌∙◌, ap}
use mathlib.Core.Bool.{Bool, true, false, ◌||◌}
use mathlib.Core.Option.{some}
use mathlib.Core.List.{List}
use Prim.Native.Nat.{ℕ, ◌+◌, ◌-◌, ◌≤◌}
use native.Mathlib.Omega.{arith}
use lib.Dec.{leb, eqb}
use lib.ListN.{length, take, drop}
use borrow.Author.Tests.{ltb-false, leb-false, ne_eqb}
use Rattle.std.specs.Prelude.{Some, None}
use Rattle.octets.specs.Octets.{value}
use Rattle.octets.specs.Told.{told_if}
use Rattle.octets.proofs.Told.{told-there, told_none, told_holds, told_free}
use Rattle.octets.proofs.Tests.{or_false_both}
use Rattle.ast.specs.Job.{last_map}
use Rattle.frames.specs.Frames.{relocation}
use Rattle.object.specs.Read.{frame_code}
use Rattle.refusals.specs.Checked.{Stage, long, bad_name, relocated, went}
use Rattle.judge.specs.declared.Counts.{Counts}
use Rattle.judge.specs.Judged.{line_bytes, relocation_frame_of, Agrees}
use Rattle.judge.proofs.Pieces.{within, rest, part_hex, part_bytes}
use Rattle.judge.proofs.Judge.{stops, goes, found, missing, at_5, at_6, at_none}
use Rattle.judge.proofs.Relocation.{reading, looked}
use Rattle.judge.proofs.judge_relocation.Goals as goal

-- the table's tests in a stage with these counts
abbrev late : Stage → Bool
late s = eqb (length s.job.programs) 0

abbrev over : Stage → List ℕ → Bool
over s t = leb 256 s.relocations || long t

over-is : (s : Stage) (k : Counts) (t : List ℕ) → Agrees s k → (b : Bool) → (leb 256 k.relocs || long t) ≡ b → over s t ≡ b
over-is s k t e b q = ap (λ (n : ℕ). leb 256 n || long t) e.relocs ∙ q

early : (s : Stage) (k : Counts) → Agrees s k → (k.programs ≡ 0 → ⊥) → late s ≡ false
early s k e h = ne_eqb (length s.job.programs) 0 (λ z. h (omega (arith, e.programs)))

same_frame : {x y : ℕ} {a b : List ℕ} → x ≡ y → a ≡ b → some (relocation x a) ≡ some (relocation y b)
same_frame e f = rw (e, f)

relocated_at : {x y : ℕ} {a b : List ℕ} (s : Stage) (k : ℕ) → x ≡ y → a ≡ b
    → went (relocated s (record { offset = x; map = a; number = k })) ≡ went (relocated s (record { offset = y; map = b; number = k }))
relocated_at s k e f = rw (e, f)

pub slice_bounds-hex-count : goal.slice_bounds-hex-count
slice_bounds-hex-count c = omega (arith, within c.args.text.now c.args.at c.args.end c.requires.framed 9 c.requires.in_bounds)

pub slice_bounds-hex-start : goal.slice_bounds-hex-start
slice_bounds-hex-start c = omega (arith, within c.args.text.now c.args.at c.args.end c.requires.framed 9 c.requires.in_bounds)

pub invariant_of-hex : goal.invariant_of-hex
invariant_of-hex c =
    let inside = within c.args.text.now c.args.at c.args.end c.requires.framed 9 c.requires.in_bounds in
    let piece = (let a = c.args in rest a.text.now a.at a.end c.requires.framed 9 (a.at + 18) (omega arith) inside) in
    record { hex = part_hex piece }

pub returns-in_default : goal.returns-in_default
returns-in_default c =
    let bytes = line_bytes c.args.text.now c.args.at c.args.end in
    let given = drop 9 bytes in
    let frame = relocation_frame_of bytes in
    let says = c.requires.says in
    let inside = within c.args.text.now c.args.at c.args.end c.requires.framed 9 c.requires.in_bounds in
    let piece = (let a = c.args in rest a.text.now a.at a.end c.requires.framed 9 (a.at + 18) (omega arith) inside) in
    let flaw = c.in_default.ensures ∙ ap (λ (x : List ℕ). told_if 5 (bad_name x)) (part_bytes piece) in
    let t = given in
    λ s e h. (
      stops s frame bytes says 5
          (at_5 (late s) (bad_name t) (over s given) (early s c.args.counts e c.if-counts-eq0.false) (told_holds 5 5 (bad_name t) flaw)),
      omega (arith, e.lines),
    )

pub returns-in_default-limit : goal.returns-in_default-limit
returns-in_default-limit c =
    let bytes = line_bytes c.args.text.now c.args.at c.args.end in
    let frame = relocation_frame_of bytes in
    let says = c.requires.says in
    let given = drop 9 bytes in
    let inside = within c.args.text.now c.args.at c.args.end c.requires.framed 9 c.requires.in_bounds in
    let piece = (let a = c.args in rest a.text.now a.at a.end c.requires.framed 9 (a.at + 18) (omega arith) inside) in
    let flaw = c.in-Ok.ensures ∙ ap (λ (x : List ℕ). told_if 5 (bad_name x)) (part_bytes piece) in
    let good = told_free 5 _ flaw in
    let full = leb 256 c.args.counts.relocs in
    let limit = c.in_default-limit.ensures ∙ ap (λ (x : List ℕ). told_if 6 (full || long x)) (part_bytes piece) in
    λ s e h. (
      stops s frame bytes says 6
          (at_6 (late s) (bad_name given) (over s given) (early s c.args.counts e c.if-counts-eq0.false) good
          (over-is s c.args.counts given e true (told_holds 6 6 (full || long given) limit))),
      omega (arith, e.lines),
    )

pub returns-in_default-found : goal.returns-in_default-found
returns-in_default-found c =
    let bytes = line_bytes c.args.text.now c.args.at c.args.end in
    let frame = relocation_frame_of bytes in
    let says = c.requires.says in
    let opened : c.args.counts.programs ≡ 0 → ⊥ = c.if-counts-eq0.false in
    let given = drop 9 bytes in
    let inside = within c.args.text.now c.args.at c.args.end c.requires.framed 9 c.requires.in_bounds in
    let piece = (let a = c.args in rest a.text.now a.at a.end c.requires.framed 9 (a.at + 18) (omega arith) inside) in
    let flaw = c.in-Ok.ensures ∙ ap (λ (x : List ℕ). told_if 5 (bad_name x)) (part_bytes piece) in
    let good = told_free 5 _ flaw in
    let full = leb 256 c.args.counts.relocs in
    let limit = c.in-Ok-limit.ensures ∙ ap (λ (x : List ℕ). told_if 6 (full || long x)) (part_bytes piece) in
    let kept = told_free 6 _ limit in
    let offset = value (take 8 (drop 1 bytes)) in
    λ s e h. (
      goes s frame bytes says ((at_none (late s) (bad_name given) (over s given) (early s c.args.counts e opened) good (over-is s c.args.counts given e false kept)))
          ∙ missing s offset given (told_none 7 7 _ (looked c.args.text.now c.args.maps.now (take (c.args.end - (c.args.at + 18)) (drop (c.args.at + 18) c.args.text.now)) given None s (part_bytes piece) h c.in_default-found.ensures.finds)),
      omega (arith, e.lines),
    )

pub slot_at-requires-clause-at_bound : goal.slot_at-requires-clause-at_bound
slot_at-requires-clause-at_bound c = within c.args.text.now c.args.at c.args.end c.requires.framed 9 c.requires.in_bounds

pub slot_at-requires-clause-end_bound_2 : goal.slot_at-requires-clause-end_bound_2
slot_at-requires-clause-end_bound_2 c =
    let inside = within c.args.text.now c.args.at c.args.end c.requires.framed 9 c.requires.in_bounds in
    let bytes = line_bytes c.args.text.now c.args.at c.args.end in
    let given = drop 9 bytes in
    let full = leb 256 c.args.counts.relocs in
    let piece = (let a = c.args in rest a.text.now a.at a.end c.requires.framed 9 (a.at + 18) (omega arith) inside) in
    let limit = c.in-Ok-limit.ensures ∙ ap (λ (x : List ℕ). told_if 6 (full || long x)) (part_bytes piece) in
    let kept = told_free 6 (full || long given) limit in
    omega (arith, ltb-false 64 (length given) (or_false_both full (long given) kept).1, piece.count, piece.even)

pub returns : goal.returns
returns c =
    let full = leb 256 c.args.counts.relocs in
    let bytes = line_bytes c.args.text.now c.args.at c.args.end in
    let given = drop 9 bytes in
    let inside = within c.args.text.now c.args.at c.args.end c.requires.framed 9 c.requires.in_bounds in
    let piece = (let a = c.args in rest a.text.now a.at a.end c.requires.framed 9 (a.at + 18) (omega arith) inside) in
    let limit = c.in-Ok-limit.ensures ∙ ap (λ (x : List ℕ). told_if 6 (full || long x)) (part_bytes piece) in
    let kept = told_free 6 (full || long given) limit in
    let frame = relocation_frame_of bytes in
    let says = c.requires.says in
    let opened : c.args.counts.programs ≡ 0 → ⊥ = c.if-counts-eq0.false in
    let flaw = c.in-Ok.ensures ∙ ap (λ (x : List ℕ). told_if 5 (bad_name x)) (part_bytes piece) in
    let good = told_free 5 (bad_name given) flaw in
    let offset = value (take 8 (drop 1 bytes)) in
    let short : c.args.end ≤ c.args.at + 18 + 128 = omega (arith, ltb-false 64 (length given) (or_false_both full (long given) kept).1, piece.count, piece.even) in
    let a = c.args in
    let n = leb-false 256 a.counts.relocs (or_false_both full (long given) kept).0 in
    λ s e h.
    let l = told-there 7 _ _ (looked c.args.text.now c.args.maps.now (take (c.args.end - (c.args.at + 18)) (drop (c.args.at + 18) c.args.text.now)) given (Some c.in-Some.map) s (part_bytes piece) h c.in-Some.ensures.finds) in
    let r = reading a.text.now a.at a.end c.requires.framed inside in
    rw c.slot_at.ensures (
      goes s frame bytes says ((at_none (late s) (bad_name given) (over s given) (early s c.args.counts e opened) good (over-is s c.args.counts given e false kept))) ∙ found s offset given c.in-Some.map l
          ∙ relocated_at s c.in-Some.map (ap value (sym r.offset)) (sym r.name),
      record {
        inside = omega (arith, inside, c.requires.framed.last);
        hex = r.hex;
        last = ap (λ (x : List ℕ). last_map x s.job.maps) r.name ∙ l;
        short = omega (arith, short);
      },
      omega (arith, e.relocs),
      omega (arith, e.programs, opened),
      ap frame_code says,
      says ∙ same_frame (ap value (sym r.offset)) (sym r.name),
    )
