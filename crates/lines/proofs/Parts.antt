-- Bytes of a line by their places in the whole text: if the line starts at `at`, its bytes from `i` on begin at `at` + 2 i.
use mathlib.Core.Path.{◌≡◌, sym, ◌∙◌, ap}
use mathlib.Core.Bool.{true}
use mathlib.Core.List.{List}
use Prim.Native.Nat.{ℕ, ◌+◌, ◌-◌, ◌*◌, ◌≤◌}
use native.Mathlib.Omega.{arith}
use lib.ListN.{length, take, drop, length-drop}
use lib.Seq.{take-add, drop_at, drop-drop, take-take, take_all, length-take-le}
use Rattle.lines.specs.Hex.{is_hex, bytes_in}
use Rattle.lines.proofs.Bytes.{bytes_length, bytes_drop, bytes_take, hex_drop, hex_take}

drop-take : (i m : ℕ) (l : List ℕ) → i ≤ length l → drop i (take (i + m) l) ≡ take m (drop i l)
drop-take i m l h = rw (take-add i m l, drop_at (take i l) (take m (drop i l)) i (length-take-le i l h))

-- a part of a part is a part of the whole
pub part_of_part : (l : List ℕ) (at end i n : ℕ) → at + i + n ≤ end → end ≤ length l
    → take n (drop i (take (end - at) (drop at l))) ≡ take n (drop (at + i) l)
part_of_part l at end i n h g =
    let e : end - at ≡ i + (end - at - i) = omega arith in
    let d : i ≤ length (drop at l) = rw length-drop (omega arith) in
    let t : n ≤ end - at - i = omega arith in
    rw (e, drop-take i (end - at - i) (drop at l) d, take-take n (end - at - i) (drop i (drop at l)) t, drop-drop)

module _ (text : List ℕ) (at end : ℕ) (first : at ≤ end) (last : end ≤ length text) (hex : is_hex (take (end - at) (drop at text)) ≡ true) where
  -- how many bytes the line has
  pub line_length : end - at ≡ 2 * length (bytes_in (take (end - at) (drop at text)))
  line_length =
      let n : end - at ≤ length (drop at text) = rw length-drop (omega arith) in
      sym (length-take-le (end - at) (drop at text) n) ∙ bytes_length (take (end - at) (drop at text)) hex

  -- `n` bytes from byte `i` on
  pub some_bytes : (i n : ℕ) → at + 2 * i + 2 * n ≤ end
      → bytes_in (take (2 * n) (drop (at + 2 * i) text)) ≡ take n (drop i (bytes_in (take (end - at) (drop at text))))
  some_bytes i n h =
      let part = take (end - at) (drop at text) in
      ap bytes_in (sym (part_of_part text at end (2 * i) (2 * n) h last)) ∙ bytes_take (drop (2 * i) part) n (hex_drop part i hex)
      ∙ ap (take n) (bytes_drop part i hex)

  pub some_hex : (i n : ℕ) → at + 2 * i + 2 * n ≤ end → is_hex (take (2 * n) (drop (at + 2 * i) text)) ≡ true
  some_hex i n h =
      let part = take (end - at) (drop at text) in
      ap is_hex (sym (part_of_part text at end (2 * i) (2 * n) h last)) ∙ hex_take (drop (2 * i) part) n (hex_drop part i hex)

  -- all `n` bytes from byte `i` on
  pub last_bytes : (i n : ℕ) → at + 2 * i + 2 * n ≡ end
      → bytes_in (take (2 * n) (drop (at + 2 * i) text)) ≡ drop i (bytes_in (take (end - at) (drop at text)))
  last_bytes i n h =
      let l = line_length in
      some_bytes i n (omega arith) ∙ take_all n (drop i (bytes_in (take (end - at) (drop at text)))) (rw length-drop (omega arith))
