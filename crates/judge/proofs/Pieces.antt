-- Pieces of a line: what is known of the characters from `from` to `to`, whose bytes are the list `l`.
use mathlib.Core.Path.{◌≡◌, sym, ◌∙◌, ap}
use mathlib.Core.Bool.{true, false}
use mathlib.Core.List.{List}
use Prim.Native.Nat.{ℕ, ◌+◌, ◌-◌, ◌*◌, ◌/◌, ◌≤◌}
use native.Mathlib.Omega.{arith}
use lib.ListN.{length, take, drop, length-drop}
use lib.Seq.{length-take-le}
use borrow.Author.Tests.{ltb-false}
use Rattle.lines.specs.Hex.{is_hex, bytes_in}
use Rattle.lines.proofs.Parts.{line_length, some_bytes, some_hex, last_bytes}
use Rattle.utf8.specs.Utf8.{is_text}
use Rattle.object.specs.Read.{name_in}
use Rattle.refusals.specs.Checked.{long}
use Rattle.object.specs.Kept.{Named}
use Rattle.judge.specs.Judged.{Framed, line_bytes, name_at}

pub record Piece (text : List ℕ) (from to : ℕ) (l : List ℕ) : Type 0 where
  pub even : 2 * ((to - from) / 2) ≡ to - from
  pub hex : is_hex (take (2 * ((to - from) / 2)) (drop from text)) ≡ true
  pub bytes : bytes_in (take (2 * ((to - from) / 2)) (drop from text)) ≡ l
  pub count : length l ≡ (to - from) / 2

-- the same for the part of the text that the code lends
pub part_hex : {text l : List ℕ} {from to : ℕ} → Piece text from to l → is_hex (take (to - from) (drop from text)) ≡ true
part_hex {text} {l} {from} {to} p = rw (← p.even) p.hex

pub part_bytes : {text l : List ℕ} {from to : ℕ} → Piece text from to l → bytes_in (take (to - from) (drop from text)) ≡ l
part_bytes {text} {l} {from} {to} p = rw (← p.even) p.bytes

module _ (text : List ℕ) (at end : ℕ) (framed : Framed text at end) where
  -- where byte `i` of the line starts, if it has so many
  pub within : (i : ℕ) → i ≤ length (line_bytes text at end) → at + 2 * i ≤ end
  within i h = omega (arith, h, framed.first, line_length text at end (omega (arith, framed.first)) framed.last framed.hex)

  -- bytes `i` to `j` of the line
  pub middle : (i j from to : ℕ) → i ≤ j → from ≡ at + 2 * i → to ≡ at + 2 * j → to ≤ end
      → Piece text from to (take (j - i) (drop i (line_bytes text at end)))
  middle i j from to h e f g =
      let n : (to - from) / 2 ≡ j - i = omega arith in
      let first : at ≤ end = omega (arith, framed.first) in
      let w : at + 2 * i + 2 * (j - i) ≤ end = omega arith in
      let l = line_length text at end first framed.last framed.hex in
      let c : length (take (j - i) (drop i (line_bytes text at end))) ≡ j - i =
      length-take-le (j - i) (drop i (line_bytes text at end)) (rw length-drop (omega arith)) in
      record {
        even = omega arith;
        hex = rw (n, e) (some_hex text at end first framed.last framed.hex i (j - i) w);
        bytes = rw (n, e) (some_bytes text at end first framed.last framed.hex i (j - i) w);
        count = c ∙ sym n;
      }

  -- the bytes from byte `i` on
  pub rest : (i from : ℕ) → from ≡ at + 2 * i → from ≤ end → Piece text from end (drop i (line_bytes text at end))
  rest i from e g =
      let first : at ≤ end = omega (arith, framed.first) in
      let l = line_length text at end first framed.last framed.hex in
      let n : at + 2 * i + 2 * ((end - from) / 2) ≡ end = omega arith in
      record {
        even = omega arith;
        hex = rw e (some_hex text at end first framed.last framed.hex i ((end - (at + 2 * i)) / 2) (omega arith));
        bytes = rw e (last_bytes text at end first framed.last framed.hex i ((end - (at + 2 * i)) / 2) (omega arith));
        count = length-drop i (line_bytes text at end) ∙ omega arith;
      }

-- a piece that the table lets pass is a name
pub piece_name : {text l : List ℕ} {from to : ℕ} → Piece text from to l → name_in text (name_at from to) ≡ l
piece_name p = p.bytes

pub piece_named : {text l : List ℕ} {from to : ℕ} → Piece text from to l → from ≤ to → to ≤ length text → is_text l ≡ true → long l ≡ false
    → Named text (name_at from to)
piece_named {text} {l} {from} {to} p h g t s =
    let n : length l ≤ 64 = ltb-false 64 (length l) s in
    record {
      inside = omega (arith, p.even);
      hex = p.hex;
      good = ap is_text p.bytes ∙ t;
      short = omega (arith, p.count);
    }
