-- `judge::judge_program` meets its contract. Assumes nothing.
use mathlib.Core.Path.{◌≡◌, refl, ◌∙◌, ap}
use mathlib.Core.Bool.{Bool, true, false, ◌||◌}
use mathlib.Core.Option.{some}
use mathlib.Core.List.{List}
use Prim.Native.Nat.{ℕ, ◌+◌, ◌-◌, ◌*◌}
use native.Mathlib.Omega.{arith}
use lib.Dec.{leb, eqb}
use lib.ListN.{length, take, drop}
use borrow.Author.Tests.{not-false, ltb-false, leb-false}
use Rattle.octets.specs.Told.{told_if}
use Rattle.octets.proofs.Told.{told_holds, told_free}
use Rattle.octets.proofs.Tests.{or_false_both}
use Rattle.utf8.specs.Utf8.{is_text, has_zero}
use Rattle.frames.specs.Frames.{program}
use Rattle.refusals.specs.Checked.{Stage, long, bad_name, bad_string, bad_program, added}
use Rattle.judge.specs.declared.Counts.{Counts}
use Rattle.judge.specs.Judged.{line_bytes, Agrees}
use Rattle.judge.proofs.Pieces.{within, middle, rest, part_hex, part_bytes, piece_name, piece_named}
use Rattle.judge.proofs.Judge.{stops, goes, at_5, at_6, at_none}
use Rattle.judge.proofs.judge_program.Goals as goal

-- the table's tests in a stage with these counts
abbrev over : Stage → List ℕ → List ℕ → Bool
over s a b = leb 32 (length s.job.programs) || long a || long b

over-is : (s : Stage) (k : Counts) (x y : List ℕ) → Agrees s k → (b : Bool) → (leb 32 k.programs || long x || long y) ≡ b → over s x y ≡ b
over-is s k x y e b q = ap (λ (n : ℕ). leb 32 n || long x || long y) e.programs ∙ q

same-flaw : {a b x y : List ℕ} → a ≡ x → b ≡ y → told_if 5 (bad_program a b) ≡ told_if 5 (bad_program x y)
same-flaw e f = rw (e, f)

same-limit : {a b x y : List ℕ} (full : Bool) → a ≡ x → b ≡ y → told_if 6 (full || long a || long b) ≡ told_if 6 (full || long x || long y)
same-limit full e f = rw (e, f)

named : {a b x y : List ℕ} (s : Stage) → x ≡ a → y ≡ b → added s (program a b) ≡ added s (program x y)
named s e f = rw (e, f)

same-frame : {a b x y : List ℕ} → x ≡ a → y ≡ b → some (program a b) ≡ some (program x y)
same-frame e f = rw (e, f)

-- ---- the answers

pub overflow_mul-middle : goal.overflow_mul-middle
overflow_mul-middle c = omega (arith, within c.args.text.now c.args.at c.args.end c.requires.framed c.args.symbol c.requires.le_symbol.1)

pub overflow_add-middle : goal.overflow_add-middle
overflow_add-middle c = omega (arith, within c.args.text.now c.args.at c.args.end c.requires.framed c.args.symbol c.requires.le_symbol.1)

pub slice_bounds-first-end : goal.slice_bounds-first-end
slice_bounds-first-end c = omega (arith, within c.args.text.now c.args.at c.args.end c.requires.framed c.args.symbol c.requires.le_symbol.1, c.requires.framed.last)

pub slice_bounds-second-count : goal.slice_bounds-second-count
slice_bounds-second-count c = omega (arith, within c.args.text.now c.args.at c.args.end c.requires.framed c.args.symbol c.requires.le_symbol.1)

pub slice_bounds-second-start : goal.slice_bounds-second-start
slice_bounds-second-start c = omega (arith, within c.args.text.now c.args.at c.args.end c.requires.framed c.args.symbol c.requires.le_symbol.1)

pub invariant_of-first : goal.invariant_of-first
invariant_of-first c =
    let inside = within c.args.text.now c.args.at c.args.end c.requires.framed c.args.symbol c.requires.le_symbol.1 in
    let a = c.args in
    record { hex = part_hex (middle a.text.now a.at a.end c.requires.framed 2 a.symbol (a.at + 4) (a.at + 2 * a.symbol) c.requires.le_symbol.0 (omega arith) (omega arith) inside) }

pub invariant_of-second : goal.invariant_of-second
invariant_of-second c =
    let inside = within c.args.text.now c.args.at c.args.end c.requires.framed c.args.symbol c.requires.le_symbol.1 in
    let a = c.args in
    record { hex = part_hex (rest a.text.now a.at a.end c.requires.framed a.symbol (a.at + 2 * a.symbol) (omega arith) inside) }

pub returns-in_default : goal.returns-in_default
returns-in_default c =
    let bytes = line_bytes c.args.text.now c.args.at c.args.end in
    let section_of = take (c.args.symbol - 2) (drop 2 bytes) in
    let symbol_of = drop c.args.symbol bytes in
    let frame = program section_of symbol_of in
    let inside = within c.args.text.now c.args.at c.args.end c.requires.framed c.args.symbol c.requires.le_symbol.1 in
    let first_piece = (let a = c.args in middle a.text.now a.at a.end c.requires.framed 2 a.symbol (a.at + 4) (a.at + 2 * a.symbol) c.requires.le_symbol.0 (omega arith) (omega arith) inside) in
    let second-piece = (let a = c.args in rest a.text.now a.at a.end c.requires.framed a.symbol (a.at + 2 * a.symbol) (omega arith) inside) in
    let flaw = c.in_default.ensures ∙ same-flaw (part_bytes first_piece) (part_bytes second-piece) in
    λ s e. (
      stops s frame bytes c.requires.says 5
          (at_5 false (bad_program section_of symbol_of) (over s section_of symbol_of) refl (told_holds 5 5 (bad_program section_of symbol_of) flaw)),
      omega (arith, e.lines),
    )

pub returns-in_default-limit : goal.returns-in_default-limit
returns-in_default-limit c =
    let bytes = line_bytes c.args.text.now c.args.at c.args.end in
    let section_of = take (c.args.symbol - 2) (drop 2 bytes) in
    let symbol_of = drop c.args.symbol bytes in
    let frame = program section_of symbol_of in
    let inside = within c.args.text.now c.args.at c.args.end c.requires.framed c.args.symbol c.requires.le_symbol.1 in
    let first_piece = (let a = c.args in middle a.text.now a.at a.end c.requires.framed 2 a.symbol (a.at + 4) (a.at + 2 * a.symbol) c.requires.le_symbol.0 (omega arith) (omega arith) inside) in
    let second-piece = (let a = c.args in rest a.text.now a.at a.end c.requires.framed a.symbol (a.at + 2 * a.symbol) (omega arith) inside) in
    let flaw = c.in-Ok.ensures ∙ same-flaw (part_bytes first_piece) (part_bytes second-piece) in
    let good = told_free 5 _ flaw in
    let full = leb 32 c.args.counts.programs in
    let limit = c.in_default-limit.ensures ∙ same-limit full (part_bytes first_piece) (part_bytes second-piece) in
    λ s e. (
      stops s frame bytes c.requires.says 6
          (at_6 false (bad_program section_of symbol_of) (over s section_of symbol_of) refl good
          (over-is s c.args.counts section_of symbol_of e true (told_holds 6 6 (full || long section_of || long symbol_of) limit))),
      omega (arith, e.lines),
    )

pub name_at-section-requires-clause-end_bound_2 : goal.name_at-section-requires-clause-end_bound_2
name_at-section-requires-clause-end_bound_2 c =
    let bytes = line_bytes c.args.text.now c.args.at c.args.end in
    let section_of = take (c.args.symbol - 2) (drop 2 bytes) in
    let full = leb 32 c.args.counts.programs in
    let symbol_of = drop c.args.symbol bytes in
    let inside = within c.args.text.now c.args.at c.args.end c.requires.framed c.args.symbol c.requires.le_symbol.1 in
    let first_piece = (let a = c.args in middle a.text.now a.at a.end c.requires.framed 2 a.symbol (a.at + 4) (a.at + 2 * a.symbol) c.requires.le_symbol.0 (omega arith) (omega arith) inside) in
    let second-piece = (let a = c.args in rest a.text.now a.at a.end c.requires.framed a.symbol (a.at + 2 * a.symbol) (omega arith) inside) in
    let limit = c.in-Ok-limit.ensures ∙ same-limit full (part_bytes first_piece) (part_bytes second-piece) in
    let kept = told_free 6 _ limit in
    let room : (full || long section_of) ≡ false = (or_false_both (full || long section_of) (long symbol_of) kept).0 in
    let short-section : long section_of ≡ false = (or_false_both full (long section_of) room).1 in
    let n = ltb-false 64 (length section_of) short-section in
    omega (arith, first_piece.count, first_piece.even)

pub name_at-symbol-requires-clause-from_le_end : goal.name_at-symbol-requires-clause-from_le_end
name_at-symbol-requires-clause-from_le_end c = within c.args.text.now c.args.at c.args.end c.requires.framed c.args.symbol c.requires.le_symbol.1

pub name_at-symbol-requires-clause-end_bound_2 : goal.name_at-symbol-requires-clause-end_bound_2
name_at-symbol-requires-clause-end_bound_2 c =
    let bytes = line_bytes c.args.text.now c.args.at c.args.end in
    let symbol_of = drop c.args.symbol bytes in
    let full = leb 32 c.args.counts.programs in
    let section_of = take (c.args.symbol - 2) (drop 2 bytes) in
    let inside = within c.args.text.now c.args.at c.args.end c.requires.framed c.args.symbol c.requires.le_symbol.1 in
    let first_piece = (let a = c.args in middle a.text.now a.at a.end c.requires.framed 2 a.symbol (a.at + 4) (a.at + 2 * a.symbol) c.requires.le_symbol.0 (omega arith) (omega arith) inside) in
    let second-piece = (let a = c.args in rest a.text.now a.at a.end c.requires.framed a.symbol (a.at + 2 * a.symbol) (omega arith) inside) in
    let limit = c.in-Ok-limit.ensures ∙ same-limit full (part_bytes first_piece) (part_bytes second-piece) in
    let kept = told_free 6 _ limit in
    let short-symbol : long symbol_of ≡ false = (or_false_both (full || long section_of) (long symbol_of) kept).1 in
    let n = ltb-false 64 (length symbol_of) short-symbol in
    omega (arith, second-piece.count, second-piece.even)

pub returns : goal.returns
returns c =
    let full = leb 32 c.args.counts.programs in
    let bytes = line_bytes c.args.text.now c.args.at c.args.end in
    let section_of = take (c.args.symbol - 2) (drop 2 bytes) in
    let symbol_of = drop c.args.symbol bytes in
    let inside = within c.args.text.now c.args.at c.args.end c.requires.framed c.args.symbol c.requires.le_symbol.1 in
    let first_piece = (let a = c.args in middle a.text.now a.at a.end c.requires.framed 2 a.symbol (a.at + 4) (a.at + 2 * a.symbol) c.requires.le_symbol.0 (omega arith) (omega arith) inside) in
    let second-piece = (let a = c.args in rest a.text.now a.at a.end c.requires.framed a.symbol (a.at + 2 * a.symbol) (omega arith) inside) in
    let limit = c.in-Ok-limit.ensures ∙ same-limit full (part_bytes first_piece) (part_bytes second-piece) in
    let kept = told_free 6 _ limit in
    let room : (full || long section_of) ≡ false = (or_false_both (full || long section_of) (long symbol_of) kept).0 in
    let frame = program section_of symbol_of in
    let flaw = c.in-Ok.ensures ∙ same-flaw (part_bytes first_piece) (part_bytes second-piece) in
    let good = told_free 5 _ flaw in
    let text-section = (let a = section_of in let g = (or_false_both (bad_string a || eqb (length a) 0) (bad_name symbol_of) good).0 in not-false (is_text a) (or_false_both (bad_name a) (has_zero a) (or_false_both (bad_string a) (eqb (length a) 0) g).0).0) in
    let short-section : long section_of ≡ false = (or_false_both full (long section_of) room).1 in
    let text-symbol = (let a = section_of in not-false (is_text symbol_of) (or_false_both (bad_string a || eqb (length a) 0) (bad_name symbol_of) good).1) in
    let short-symbol : long symbol_of ≡ false = (or_false_both (full || long section_of) (long symbol_of) kept).1 in
    let m = leb-false 32 c.args.counts.programs (or_false_both full (long section_of) room).0 in
    λ s e. rw (c.name_at-section.ensures, c.name_at-symbol.ensures) (
      goes s frame bytes c.requires.says
          (at_none false (bad_program section_of symbol_of) (over s section_of symbol_of) refl good (over-is s c.args.counts section_of symbol_of e false kept))
          ∙ named s (piece_name first_piece) (piece_name second-piece),
      (
        piece_named first_piece (omega (arith, c.requires.le_symbol)) (omega (arith, inside, c.requires.framed.last)) text-section short-section,
        piece_named second-piece inside c.requires.framed.last text-symbol short-symbol,
        omega (arith, e.programs),
      ),
      c.requires.says ∙ same-frame (piece_name first_piece) (piece_name second-piece),
    )
