-- What the proofs of this crate share.
use mathlib.Core.Path.{◌≡◌, refl, sym, ◌∙◌, ap}
use Prim.Native.Nat.{ℕ, ◌+◌, ◌<◌}
use native.Mathlib.Omega.{arith}
use mathlib.Core.Bool.{Bool, true, false}
use mathlib.Core.Option.{Option, none, some}
use mathlib.Core.List.{List}
use Rattle.utf8.specs.declared.Wait.{Wait}
use Rattle.utf8.specs.declared.Next.{Next}
use Rattle.utf8.specs.declared.Next.TheVariants.{Point, More}
use Rattle.std.specs.Prelude.{Some}
use Rattle.utf8.specs.declared.Stepped.{Stepped}
use Rattle.octets.specs.Told.{gives}
use Rattle.utf8.specs.Wait.{wait_of, Fine, decoded_told, step_told, next_told, wait_after, stepped_bad}
use lib.ListN.{length, drop, get_or}
use Rattle.octets.proofs.Laws.{read_on}
use borrow.Author.Tests.{eq-eqb}
use Rattle.utf8.specs.Utf8 as text
use Rattle.utf8.specs.Utf8.{point, more, bad, allowed, continues, next, put, points_from, idle, points, is_text}

-- what the bytes after a byte that did `n` give
abbrev pub after : text.Next → List ℕ → Option (List ℕ)
after (point c) bs = put c (points_from idle bs)
after (more w) bs = points_from w bs
after bad bs = none

pub took : (s : List ℕ) (i : ℕ) (w : text.Wait) (n : text.Next) → i < length s → n ≡ next w (get_or s i 0)
    → points_from w (drop i s) ≡ after n (drop (i + 1) s)
took s i w (point c) h e = rw (read_on s i h, ← e, points_from)
took s i w (more v) h e = rw (read_on s i h, ← e, points_from)
took s i w bad h e = rw (read_on s i h, ← e, points_from)

abbrev pub ok : Option (List ℕ) → Bool
ok none = false
ok (some cs) = true

pub ok_put : (c : ℕ) (o : Option (List ℕ)) → ok (put c o) ≡ ok o
ok_put c none = refl
ok_put c (some cs) = refl

-- what a step promises: what it tells of the byte, the wait after it, and that this is one that the next step takes
abbrev pub Does : Wait → text.Next → Stepped → Type 0
Does w n r = (step_told r ≡ next_told n) × ((wait_of r.wait ≡ wait_after (wait_of w) n) × Fine r.wait)

pub does_bad : (w : Wait) (n : text.Next) (r : Stepped) → r ≡ stepped_bad w → bad ≡ n → Fine w → Does w n r
does_bad w n r e f h = rw (e, ← f) (refl, (refl, h))

-- what a byte gave, by what a step told of it
module _ (w : text.Wait) (bs : List ℕ) where
  gave_any : (n : text.Next) (x : Next) → gives x ≡ next_told n → ok (after n bs) ≡ ok (points_from (wait_after w n) bs)
  gave_any (point c) x e = ok_put c (points_from idle bs)
  gave_any (more v) x e = refl
  gave_any bad x e = let z : ◌≡◌ {A = ℕ} 0 1 = cc in absurd (omega arith)

  gave_point : (n : text.Next) (c : ℕ) → gives (Point c) ≡ next_told n → after n bs ≡ put c (points_from (wait_after w n) bs)
  gave_point (point d) c e = let f : d ≡ c = cc in rw f
  gave_point (more v) c e = let z : ◌≡◌ {A = ℕ} 0 1 = cc in absurd (omega arith)
  gave_point bad c e = let z : ◌≡◌ {A = ℕ} 0 1 = cc in absurd (omega arith)

  gave_more : (n : text.Next) → gives More ≡ next_told n → after n bs ≡ points_from (wait_after w n) bs
  gave_more (point d) e = let z : ◌≡◌ {A = ℕ} 0 1 = cc in absurd (omega arith)
  gave_more (more v) e = refl
  gave_more bad e = let z : ◌≡◌ {A = ℕ} 0 1 = cc in absurd (omega arith)

-- `took`, by what the step `r` at byte `i`, which is `b`, answered
module _ (s : List ℕ) (i b : ℕ) (w : text.Wait) (r : Stepped) (h : i < length s) (d : b ≡ get_or s i 0)
    (e : step_told r ≡ next_told (next w b)) (f : wait_of r.wait ≡ wait_after w (next w b)) where
  here : points_from w (drop i s) ≡ after (next w b) (drop (i + 1) s)
  here = took s i w (next w b) h (ap (next w) d)

  pub took_any : (x : Next) → r.answer ≡ Some x → ok (points_from w (drop i s)) ≡ ok (points_from (wait_of r.wait) (drop (i + 1) s))
  took_any x a = rw f (ap ok here ∙ gave_any w (drop (i + 1) s) (next w b) x (sym (ap decoded_told a) ∙ e))

  pub took_point : (x : Next) (c : ℕ) → r.answer ≡ Some x → x ≡ Point c → points_from w (drop i s) ≡ put c (points_from (wait_of r.wait) (drop (i + 1) s))
  took_point x c a g = rw f (here ∙ gave_point w (drop (i + 1) s) (next w b) c (sym (ap gives g) ∙ sym (ap decoded_told a) ∙ e))

  pub took_more : (x : Next) → r.answer ≡ Some x → x ≡ More → points_from w (drop i s) ≡ points_from (wait_of r.wait) (drop (i + 1) s)
  took_more x a g = rw f (here ∙ gave_more w (drop (i + 1) s) (next w b) (sym (ap gives g) ∙ sym (ap decoded_told a) ∙ e))

-- whether a zero byte is among those from here on, by the byte that is here
pub zero_here : (s : List ℕ) (i : ℕ) → i < length s → get_or s i 0 ≡ 0 → text.has_zero (drop i s) ≡ true
zero_here s i h e = ap text.has_zero (read_on s i h) ∙ simp (eq-eqb (get_or s i 0) 0 e)
