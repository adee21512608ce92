-- `judge::judge_license` meets its contract. Assumes nothing.
use mathlib.Core.Path.{sym, ◌∙◌, ap}
use mathlib.Core.Option.{some}
use mathlib.Core.List.{List}
use Prim.Native.Nat.{ℕ, ◌+◌}
use native.Mathlib.Omega.{arith}
use lib.Dec.{ltb}
use lib.ListN.{length, drop}
use borrow.Author.Tests.{not-false, le-ltb, ltb-false}
use Rattle.octets.specs.Told.{told_if}
use Rattle.octets.proofs.Told.{told_holds, told_free}
use Rattle.octets.proofs.Tests.{or_false_both}
use Rattle.utf8.specs.Utf8.{is_text, has_zero}
use Rattle.frames.specs.Frames.{licence}
use Rattle.refusals.specs.Checked.{long, bad_name, bad_string, added}
use Rattle.judge.specs.Judged.{line_bytes}
use Rattle.judge.proofs.Pieces.{rest, part_hex, part_bytes, piece_name, piece_named}
use Rattle.judge.proofs.Judge.{stops, goes, at_5, at_6, at_none}
use Rattle.judge.proofs.judge_license.Goals as goal

pub invariant_of-hex : goal.invariant_of-hex
invariant_of-hex c =
    let piece = (let a = c.args in rest a.text.now a.at a.end c.requires.framed 1 (a.at + 2) (omega arith) (omega (arith, c.requires.framed.first))) in
    record { hex = part_hex piece }

pub returns-in_default : goal.returns-in_default
returns-in_default c =
    let bytes = line_bytes c.args.text.now c.args.at c.args.end in
    let given = drop 1 bytes in
    let piece = (let a = c.args in rest a.text.now a.at a.end c.requires.framed 1 (a.at + 2) (omega arith) (omega (arith, c.requires.framed.first))) in
    let flaw = c.in_default.ensures ∙ ap (λ (x : List ℕ). told_if 5 (bad_string x)) (part_bytes piece) in
    let t = given in
    λ s e. (
      stops s (licence t) bytes c.requires.says 5
          (at_5 (ltb 0 s.lines) (bad_string t) (long t) (le-ltb 0 s.lines (omega arith)) (told_holds 5 5 (bad_string t) flaw)),
      omega arith,
    )

pub returns-in_default-limit : goal.returns-in_default-limit
returns-in_default-limit c =
    let bytes = line_bytes c.args.text.now c.args.at c.args.end in
    let given = drop 1 bytes in
    let piece = (let a = c.args in rest a.text.now a.at a.end c.requires.framed 1 (a.at + 2) (omega arith) (omega (arith, c.requires.framed.first))) in
    let flaw = c.in-Ok.ensures ∙ ap (λ (x : List ℕ). told_if 5 (bad_string x)) (part_bytes piece) in
    let good = told_free 5 _ flaw in
    let limit = c.in_default-limit.ensures ∙ ap (λ (x : List ℕ). told_if 6 (long x)) (part_bytes piece) in
    let t = given in
    λ s e. (
      stops s (licence t) bytes c.requires.says 6
          (at_6 (ltb 0 s.lines) (bad_string t) (long t) (le-ltb 0 s.lines (omega arith)) good (told_holds 6 6 (long t) limit)),
      omega arith,
    )

pub name_at-name-requires-clause-end_bound_2 : goal.name_at-name-requires-clause-end_bound_2
name_at-name-requires-clause-end_bound_2 c =
    let bytes = line_bytes c.args.text.now c.args.at c.args.end in
    let given = drop 1 bytes in
    let piece = (let a = c.args in rest a.text.now a.at a.end c.requires.framed 1 (a.at + 2) (omega arith) (omega (arith, c.requires.framed.first))) in
    let limit = c.in-Ok-limit.ensures ∙ ap (λ (x : List ℕ). told_if 6 (long x)) (part_bytes piece) in
    let short = told_free 6 _ limit in
    let n = ltb-false 64 (length given) short in
    omega (arith, piece.count, piece.even)

pub returns : goal.returns
returns c =
    let bytes = line_bytes c.args.text.now c.args.at c.args.end in
    let given = drop 1 bytes in
    let piece = (let a = c.args in rest a.text.now a.at a.end c.requires.framed 1 (a.at + 2) (omega arith) (omega (arith, c.requires.framed.first))) in
    let flaw = c.in-Ok.ensures ∙ ap (λ (x : List ℕ). told_if 5 (bad_string x)) (part_bytes piece) in
    let good = told_free 5 _ flaw in
    let limit = c.in-Ok-limit.ensures ∙ ap (λ (x : List ℕ). told_if 6 (long x)) (part_bytes piece) in
    let short = told_free 6 _ limit in
    let t = given in
    λ s e. rw c.name_at-name.ensures (
      goes s (licence t) bytes c.requires.says (at_none (ltb 0 s.lines) (bad_string t) (long t) (le-ltb 0 s.lines (omega arith)) good short)
          ∙ ap (λ (n : List ℕ). added s (licence n)) (sym (piece_name piece)),
      (piece_named piece (omega (arith, c.requires.framed.first)) c.requires.framed.last (not-false (is_text t) (or_false_both (bad_name t) (has_zero t) good).0) short, omega arith),
      c.requires.says ∙ ap (λ (n : List ℕ). some (licence n)) (sym (piece_name piece)),
    )
