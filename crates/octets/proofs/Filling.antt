-- Lent memory that is filled from its front to its end, in pieces of any length: for writers of a row. A piece is written at a place, and
-- the next one goes after it.
use mathlib.Core.Path.{◌≡◌, refl, sym, ◌∙◌, ap}
use mathlib.Core.List.{List, [], ◌∷◌, ◌++◌, append_assoc, append-nil}
use Prim.Native.Nat.{ℕ, ◌+◌, ◌-◌, ◌≤◌}
use native.Mathlib.Omega.{arith}
use lib.ListN.{length, take, length-append}
use lib.Seq.{take_all, drop-drop, length-take-le}
use borrow.Rule.Slice.PartMut.{put_mid}
use Rattle.octets.specs.Octets.{le}
use Rattle.octets.specs.Fields.{fields}
use Rattle.octets.specs.Over.{over}
use Rattle.octets.proofs.Numbers.{le-length}
use Rattle.octets.proofs.Laws.{over_taken, over-length, over-over}

-- `out` is to become `whole`: its first `at` bytes are there, and `rest` is still to come
pub record Filling (whole out : List ℕ) (at : ℕ) (rest : List ℕ) : Type 0 where
  pub is : whole ≡ take at out ++ rest
  pub same : length out ≡ length whole
  pub near : at ≤ length out

pub fill_start : (whole out : List ℕ) → length out ≡ length whole → Filling whole out 0 whole
fill_start whole out e = record { is = refl; same = e; near = omega arith }

-- the same rest in other words
pub fill_as : {whole out rest : List ℕ} {at : ℕ} (other : List ℕ) → rest ≡ other → Filling whole out at rest → Filling whole out at other
fill_as {whole} {out} {rest} {at} other e f =
    record { is = f.is ∙ ap (λ (r : List ℕ). take at out ++ r) e; same = f.same; near = f.near }

-- what is still to come has room
pub fill_left : {whole out rest : List ℕ} {at : ℕ} → Filling whole out at rest → at + length rest ≡ length out
fill_left {whole} {out} {rest} {at} f =
    let l : length whole ≡ length (take at out) + length rest = ap length f.is ∙ length-append (take at out) rest in
    omega (arith, f.same, length-take-le at out f.near)

pub fill_room : {whole out : List ℕ} {at : ℕ} (t more : List ℕ) → Filling whole out at (t ++ more) → at + length t ≤ length out
fill_room t more f = omega (arith, fill_left f, length-append t more)

-- one piece more
pub fill_on : {whole out : List ℕ} {at : ℕ} (t more out' : List ℕ) (at' : ℕ) → Filling whole out at (t ++ more) → out' ≡ over out at t → at' ≡ at + length t
    → Filling whole out' at' more
fill_on {whole} {out} {at} t more out' at' f e n =
    let room = fill_room t more f in
    let long : length out' ≡ length out = ap length e ∙ over-length out at t room in
    let taken : take at' out' ≡ take at out ++ t = rw (e, n) (over_taken out at t f.near) in
    record {
      is = f.is ∙ sym (rw (taken, append_assoc));
      same = long ∙ f.same;
      near = omega arith;
    }

pub fill_done : {whole out : List ℕ} {at : ℕ} → Filling whole out at [] → out ≡ whole
fill_done {whole} {out} {at} f =
    let left = fill_left f in
    sym (f.is ∙ rw (append-nil, take_all at out (omega arith)))

-- what a callee left in the part `&mut out[at..e]` is `t`: the same, written over
pub over-part : (d : List ℕ) (at e : ℕ) (l t : List ℕ) → at + length t ≡ e → l ≡ t → put_mid at (e - at) d l ≡ over d at t
unfolding over
over-part d at e l t n q =
    let k : e - at ≡ length t = omega arith in
    rw (q, k, drop-drop)

-- a piece in two parts
pub over_two : (d : List ℕ) (at : ℕ) (s t d₁ d₂ : List ℕ) (mid : ℕ) → at ≤ length d → d₁ ≡ over d at s → mid ≡ at + length s → d₂ ≡ over d₁ mid t
    → d₂ ≡ over d at (s ++ t)
over_two d at s t d₁ d₂ mid h p n q = q ∙ rw (p, n) (over-over d at s t h)

-- ---- fields by their widths: those of `widths` and `values` are still to come

pub field_room : {whole out widths values ws vs : List ℕ} {at w v : ℕ} → widths ≡ w ∷ ws → values ≡ v ∷ vs → Filling whole out at (fields widths values)
    → at + w ≤ length out
field_room {ws = ws} {vs} {w = w} {v} e g f = omega (arith, fill_room (le w v) (fields ws vs) (fill_as _ (rw (e, g)) f), le-length w v)

pub field_on : {whole out out' widths values ws vs : List ℕ} {at w v : ℕ} → widths ≡ w ∷ ws → values ≡ v ∷ vs → Filling whole out at (fields widths values)
    → out' ≡ over out at (le w v) → Filling whole out' (at + w) (fields ws vs)
field_on {out' = out'} {ws = ws} {vs} {w = w} {v} e g f h =
    fill_on (le w v) (fields ws vs) out' _ (fill_as _ (rw (e, g)) f) h (omega (arith, le-length w v))
