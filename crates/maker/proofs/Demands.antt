-- What the promise of `make` says of each job, each as a theorem of its own: a refusal changes no byte; an accepted job changes only the
-- bytes that its object takes up; those bytes are the object of the definitions; and a job is refused for lack of room exactly if it is
-- accepted and its object is longer than the output.
use mathlib.Core.Path.{◌≡◌, refl, sym, ◌∙◌, ap, subst}
use mathlib.Core.Bool.{Bool, true, false, cond}
use mathlib.Core.List.{List, ◌++◌}
use Prim.Native.Nat.{ℕ, ◌≤◌, ◌<◌}
use native.Mathlib.Omega.{arith}
use lib.ListN.{length, take, drop}
use lib.Seq.{drop_at, take_at}
use lib.Dec.{leb}
use borrow.Author.Tests.{le-leb, lt-leb, leb-false}
use Rattle.ast.specs.Job.{Job}
use Rattle.object.specs.Object as whole
use Rattle.refusals.specs.Checked.{Checked, checked, accepted, faulty}
use Rattle.job.specs.Answer.{Answer, made, refused, fitted, answer, output_after}
use Rattle.maker.specs.Made.{Outcome, object, refusal, outcome}
use Rattle.maker.proofs.Answered.{answer_accepted, answer_faulty}
use Rattle.maker.proofs.Numbers.{LowChecked, checked_low}

-- the answer and the output afterwards, as `make` promises them of a job and an output
pub record Met (text out : List ℕ) (said : Outcome) (after : List ℕ) : Type 0 where
  pub answered : said ≡ outcome (answer text (length out))
  pub written : after ≡ output_after (answer text (length out)) out

refused_is : (a : Answer) (n l k : ℕ) → refusal n l k ≡ outcome a → a ≡ refused n l k
refused_is (made bytes) n l k e = let z : ◌≡◌ {A = ℕ} 0 1 = cc in absurd (omega arith)
refused_is (refused m i j) n l k e = cc

made_is : (a : Answer) (n : ℕ) → object n ≡ outcome a → (bytes : List ℕ) × (a ≡ made bytes) × (n ≡ length bytes)
made_is (made bytes) n e = (bytes, refl, cc)
made_is (refused m i j) n e = let z : ◌≡◌ {A = ℕ} 0 1 = cc in absurd (omega arith)

-- a refusal changes no byte
pub refusal_changes_nothing : (text out after : List ℕ) (n l k : ℕ) → Met text out (refusal n l k) after → after ≡ out
refusal_changes_nothing text out after n l k m = m.written ∙ ap (λ (a : Answer). output_after a out) (refused_is (answer text (length out)) n l k m.answered)

-- an accepted job changes only the bytes that the object takes up, and its bytes are those of the definition
pub record Wrote (text out after : List ℕ) (n : ℕ) (j : Job) : Type 0 where
  pub job : checked text ≡ accepted j
  pub long : n ≡ length (whole.object j)
  pub object : take n after ≡ whole.object j
  pub rest : drop n after ≡ drop n out

fitted_made : (room : ℕ) (bytes bs : List ℕ) → fitted room bytes ≡ made bs → bs ≡ bytes
fitted_made room bytes bs e = go (leb (length bytes) room) e
  where
    go : (b : Bool) → cond b (made bytes) (refused 8 0 (length bytes)) ≡ made bs → bs ≡ bytes
    go true q = cc
    go false q = let z : ◌≡◌ {A = ℕ} 0 1 = cc in absurd (omega arith)

answer_made : (text : List ℕ) (room : ℕ) (bs : List ℕ) (c : Checked) → checked text ≡ c → answer text room ≡ made bs → (j : Job) × (checked text ≡ accepted j) × (bs ≡ whole.object j)
answer_made text room bs (accepted j) e q = (j, e, fitted_made room (whole.object j) bs (sym (answer_accepted text room j e) ∙ q))
answer_made text room bs (faulty n l) e q =
    let f : ◌≡◌ {A = Answer} (refused n l 0) (made bs) = sym (rw (e, answer)) ∙ q in
    let z : ◌≡◌ {A = ℕ} 0 1 = cc in
    absurd (omega arith)

pub accepted_writes : (text out after : List ℕ) (n : ℕ) → Met text out (object n) after → (j : Job) × Wrote text out after n j
accepted_writes text out after n m =
    let (bytes, e, l) = made_is (answer text (length out)) n m.answered in
    let (j, c, b) = answer_made text (length out) bytes (checked text) refl e in
    let w : after ≡ bytes ++ drop (length bytes) out = m.written ∙ ap (λ (a : Answer). output_after a out) e in (
      j,
      record {
        job = c;
        long = l ∙ ap length b;
        object = rw w (take_at bytes (drop (length bytes) out) n (sym l)) ∙ b;
        rest = rw w (drop_at bytes (drop (length bytes) out) n (sym l)) ∙ ap (λ (k : ℕ). drop k out) (sym l);
      },
    )

-- ---- the room

-- a job that is accepted is refused for lack of room exactly if its object is longer than the output
module _ (text out after : List ℕ) (said : Outcome) (met : Met text out said after) (j : Job) (c : checked text ≡ accepted j) where
  fitting : said ≡ outcome (fitted (length out) (whole.object j))
  fitting = met.answered ∙ ap outcome (answer_accepted text (length out) j c)

  pub room_refused : length out < length (whole.object j) → said ≡ refusal 8 0 (length (whole.object j))
  room_refused h = fitting ∙ rw (lt-leb (length (whole.object j)) (length out) h)

  pub room_made : length (whole.object j) ≤ length out → said ≡ object (length (whole.object j))
  room_made h = fitting ∙ rw (le-leb (length (whole.object j)) (length out) h)

-- what is known of a job that is refused 8
pub record NoRoom (text out : List ℕ) (l k : ℕ) (j : Job) : Type 0 where
  pub job : checked text ≡ accepted j
  pub longer : length out < length (whole.object j)
  pub line : l ≡ 0
  pub needed : k ≡ length (whole.object j)

-- and no other job is: the table of refusals for a job's lines has no 8
pub refused_room : (text out after : List ℕ) (l k : ℕ) → Met text out (refusal 8 l k) after → (j : Job) × NoRoom text out l k j
refused_room text out after l k m = go (checked text) refl
  where
    go : (c : Checked) → checked text ≡ c → (j : Job) × NoRoom text out l k j
    go (faulty n i) e =
        let a = m.answered ∙ ap outcome (answer_faulty text (length out) n i e) in
        let eight : 8 ≡ n = cc in
        absurd (omega (arith, subst LowChecked e (checked_low text)))
    go (accepted j) e = (j, by_room (leb (length (whole.object j)) (length out)) refl)
      where
        by_room : (b : Bool) → leb (length (whole.object j)) (length out) ≡ b → NoRoom text out l k j
        by_room true q =
            let f : fitted (length out) (whole.object j) ≡ made (whole.object j) = rw q in
            let x = m.answered ∙ ap outcome (answer_accepted text (length out) j e ∙ f) in
            let z : ◌≡◌ {A = ℕ} 0 1 = cc in
            absurd (omega arith)
        by_room false q =
            let f : fitted (length out) (whole.object j) ≡ refused 8 0 (length (whole.object j)) = rw q in
            let x = m.answered ∙ ap outcome (answer_accepted text (length out) j e ∙ f) in
            record { job = e; longer = leb-false (length (whole.object j)) (length out) q; line = cc; needed = cc }
