-- The walk over the lines of a program's body: one line more, and why every line of it has its end.
use mathlib.Core.Path.{◌≡◌, sym, ◌∙◌, ap}
use mathlib.Core.Bool.{true, false≢true}
use mathlib.Core.Option.{Option, some}
use mathlib.Core.List.{List, [], ◌∷◌, ◌++◌}
use mathlib.Core.Logic.{⊎_elim}
use Prim.Native.Nat.{ℕ, zero, suc, ◌+◌, ◌-◌, ◌≤◌, ◌<◌}
use native.Mathlib.Numerals.{add-one}
use native.Mathlib.Omega.{arith}
use lib.ListN.{length, take, drop, length-take, length-drop, drop_of_length-le}
use borrow.Author.Tests.{ne_eqb}
use Rattle.lines.specs.Lines.{lines, frame_bytes}
use Rattle.lines.specs.Ends.{line_end}
use Rattle.lines.specs.Hex.{is_hex, bytes_in}
use Rattle.octets.specs.Told.{gives, refuses}
use Rattle.lines.proofs.Laws.{is_there, frame_hex, line, cut, line_ended, no_end}
use Rattle.frames.specs.Frames.{frame_of}
use Rattle.object.specs.Read.{frame_code, line_code, code_of, body}
use Rattle.object.specs.Kept.{AllFrames}
use Rattle.object.proofs.Programs.{drop-next}

-- ---- lists

-- the element that comes next is the next of the first `n` too, if it is one of them
next_taken : {A : Type 0} (l : List A) (i n : ℕ) (a : A) (rest : List A) → i < n → drop i l ≡ a ∷ rest → drop i (take n l) ≡ a ∷ drop (suc i) (take n l)
next_taken [] zero n a rest h e = let z : ◌≡◌ {A = ℕ} 0 1 = cc in absurd (omega arith)
next_taken [] (suc i) n a rest h e = let z : ◌≡◌ {A = ℕ} 0 1 = cc in absurd (omega arith)
next_taken (x ∷ xs) i zero a rest h e = absurd (omega arith)
next_taken (x ∷ xs) zero (suc n) a rest h e = let p : x ≡ a = cc in rw p
next_taken (x ∷ xs) (suc i) (suc n) a rest h e = next_taken xs i n a rest (omega arith) e

-- ---- the walk

-- what is known of the line `part` after the first `i` lines of a body of `n`, if the next one starts at `next`
pub record Turn (text : List ℕ) (from n i : ℕ) (part : List ℕ) (next : ℕ) : Type 0 where
  pub hex : is_hex part ≡ true
  pub long : 1 ≤ length part
  pub here : drop (i + 1) (lines (drop from text)) ≡ lines (drop next text)
  pub code : code_of (drop i (body text from n)) ≡ frame_code (frame_of (bytes_in part)) ++ code_of (drop (i + 1) (body text from n))
  pub frames : AllFrames (drop (i + 1) (body text from n))

module _ (text : List ℕ) (from n i start : ℕ) (few : i < n) (here : drop i (lines (drop from text)) ≡ lines (drop start text)) (frames : AllFrames (drop i (body text from n))) where
  pub turn : (end : ℕ) → line_end text start ≡ gives end → Turn text from n i (take (end - start) (drop start text)) (end + 1)
  turn end e =
      let part = take (end - start) (drop start text) in
      let l = lines (drop from text) in
      let rest = lines (drop (end + 1) text) in
      let d : drop i l ≡ line part ∷ rest = here ∙ (line_ended text start end e).2 in
      let t : drop i (body text from n) ≡ line part ∷ drop (i + 1) (body text from n) = rw (add-one i) (next_taken l i n (line part) rest few d) in
      let f : AllFrames (line part ∷ drop (i + 1) (body text from n)) = rw t at frames in
      let h = frame_hex part f.0 in
      let b : frame_bytes (line part) ≡ some (bytes_in part) = is_there (frame_bytes (line part)) f.0 ∙ rw (ne_eqb (length part) 0 h.1) in
      record {
        hex = h.0;
        long = omega (arith, h.1);
        here = rw (add-one i) (drop-next l i (line part) rest d);
        code = ap code_of t ∙ ap (λ (x : Option (List ℕ)). line_code x ++ code_of (drop (i + 1) (body text from n))) b;
        frames = f.1;
      }

  -- a body that has all its lines ends each of them
  pub not_cut : length (body text from n) ≡ n → line_end text start ≡ refuses 2 → ⊥
  not_cut all e =
      let l = lines (drop from text) in
      ⊎_elim
      (λ k.
      let t = next_taken l i n (cut (drop start text)) [] few (here ∙ k) in
      let f : AllFrames (cut (drop start text) ∷ drop (suc i) (body text from n)) = rw t at frames in
      false≢true f.0)
      (λ k.
      let z : length l - i ≡ 0 = sym (length-drop i l) ∙ ap length (here ∙ ap lines k) in
      omega (arith, length-take n l))
      (no_end (drop start text) start e)

-- after the last line there is no code
pub code_done : (text : List ℕ) (from n i : ℕ) → length (body text from n) ≡ n → n ≤ i → code_of (drop i (body text from n)) ≡ []
code_done text from n i e h = ap code_of (drop_of_length-le (body text from n) {i = i} (omega arith))
