-- Refusal 7, exactly: a job is refused 7 at line `l` if and only if `l` is its first faulty line and that line asks for a map that nobody
-- declared before it. It follows from a law for every number: a job is refused `n` at `l` exactly when the lines before `l` are taken and
-- line `l` is refused `n`.
use mathlib.Core.Path.{◌≡◌, refl, sym, ◌∙◌, ap}
use mathlib.Core.Bool.{Bool, true, false, cond, ◌||◌}
use mathlib.Core.Option.{Option, none, some}
use mathlib.Core.List.{List, [], ◌∷◌, ◌++◌}
use Prim.Native.Nat.{ℕ, suc, ◌+◌}
use native.Mathlib.Omega.{arith}
use lib.ListN.{length}
use lib.Dec.{ltb, leb, eqb}
use borrow.Author.Tests.{ltb-false, le-ltb, leb-false, lt-leb, eqb-true, eqb-false, ne_eqb, not-false}
use Rattle.octets.specs.Octets.{equal, ascii}
use Rattle.octets.proofs.Laws.{equal_self}
use Rattle.octets.specs.All.{All}
use Rattle.octets.proofs.Tests.{or_false_both, and_true_both}
use Rattle.utf8.specs.Utf8.{is_text}
use Rattle.ast.specs.Job.{Map, last_from, last_map}
use Rattle.lines.specs.Lines.{Line, lines, frame_bytes}
use Rattle.frames.specs.Frames.{Frame, licence, map_decl, program, code, relocation, frame_of}
use Rattle.refusals.specs.Checked.{Stage, empty, Reason, first, long, bad_name, reasons, Step, went, stopped, resolved, added, take_frame, take_bytes, take_line, Checked, faulty, take_lines, checked}
use Rattle.judge.specs.Unknown.{stage_after, Unnamed, Asks, Unknown}
use Rattle.refusals.proofs.Within.{none_holds}
use Rattle.judge.proofs.Judge.{goes, missing, at_none}

-- ---- no map of a name

equal-same : (a b : List ℕ) → equal a b ≡ true → a ≡ b
equal-same [] [] e = refl
equal-same [] (y ∷ b) e = cc
equal-same (x ∷ a) [] e = cc
equal-same (x ∷ a) (y ∷ b) e =
    let (p, q) = and_true_both (eqb x y) (equal a b) e in
    let h = eqb-true x y p in
    let t = equal-same a b q in
    cc

-- the test for equal names is false exactly when the names differ
pub equal_differ : (a b : List ℕ) → equal a b ≡ false → a ≡ b → ⊥
equal_differ a b e q = let s = equal_self b in let t : ◌≡◌ {A = ℕ} 0 1 = cc in omega arith

pub differ_equal : (a b : List ℕ) → (a ≡ b → ⊥) → equal a b ≡ false
differ_equal a b h = go (equal a b) refl
  where
    go : (t : Bool) → equal a b ≡ t → t ≡ false
    go true e = absurd (h (equal-same a b e))
    go false e = refl

-- the lookup finds nothing exactly when no map has the name
from_none : (i : ℕ) (name : List ℕ) (ms : List Map) → last_from i name ms ≡ none → Unnamed name ms
from_none i name [] e = tt
from_none i name (m ∷ ms) e = go (last_from (suc i) name ms) refl (equal name m.name) refl (from_none (suc i) name ms)
  where
    go : (o : Option ℕ) → last_from (suc i) name ms ≡ o → (t : Bool) → equal name m.name ≡ t → (last_from (suc i) name ms ≡ none → Unnamed name ms)
        → Unnamed name (m ∷ ms)
    go (some k) p t q h =
        let x : ◌≡◌ {A = Option ℕ} (some k) none = rw (p, last_from) at e in
        let z : ◌≡◌ {A = ℕ} 0 1 = cc in
        absurd (omega arith)
    go none p true q h =
        let x : ◌≡◌ {A = Option ℕ} (some i) none = rw q at (rw (p, last_from) at e) in
        let z : ◌≡◌ {A = ℕ} 0 1 = cc in
        absurd (omega arith)
    go none p false q h = (q, h p)

none_from : (i : ℕ) (name : List ℕ) (ms : List Map) → Unnamed name ms → last_from i name ms ≡ none
none_from i name [] h = refl
none_from i name (m ∷ ms) h = rw (none_from (suc i) name ms h.1, last_from) (rw h.0)

pub none_unnamed : (name : List ℕ) (ms : List Map) → last_map name ms ≡ none → Unnamed name ms
none_unnamed name ms e = from_none 0 name ms e

pub unnamed_none : (name : List ℕ) (ms : List Map) → Unnamed name ms → last_map name ms ≡ none
unnamed_none name ms h = none_from 0 name ms h

-- ---- a frame is refused 7 for one reason

-- a number that no reason has is not given
never : (n : ℕ) (rs : List Reason) → All (λ (r : Reason). r.number ≡ n → ⊥) rs → first rs ≡ some n → ⊥
never n [] d e = let z : ◌≡◌ {A = ℕ} 0 1 = cc in omega arith
never n (r ∷ rs) d e = go r.holds e (never n rs d.1)
  where
    go : (b : Bool) → cond b (some r.number) (first rs) ≡ some n → (first rs ≡ some n → ⊥) → ⊥
    go true q h = d.0 (cc)
    go false q h = h q

-- no frame has a reason 7 in the list: the lookup of the map gives it
no_seven : (s : Stage) (f : Frame) → first (reasons s f) ≡ some 7 → ⊥
no_seven s (licence t) = never 7 (reasons s (licence t)) (λ z. omega arith, (λ z. omega arith, (λ z. omega arith, tt)))
no_seven s (map_decl kind key val entries name) = never 7 (reasons s (map_decl kind key val entries name)) (λ z. omega arith, (λ z. omega arith, (λ z. omega arith, tt)))
no_seven s (program section symbol) = never 7 (reasons s (program section symbol)) (λ z. omega arith, (λ z. omega arith, tt))
no_seven s (code c) = never 7 (reasons s (code c)) (λ z. omega arith, tt)
no_seven s (relocation offset name) = never 7 (reasons s (relocation offset name)) (λ z. omega arith, (λ z. omega arith, (λ z. omega arith, tt)))

goes_on : (t : Stage) → went t ≡ stopped 7 → ⊥
goes_on t e = let z : ◌≡◌ {A = ℕ} 0 1 = cc in omega arith

module _ (s : Stage) (line : Line) (bytes : List ℕ) (hex : frame_bytes line ≡ some bytes) where
  -- a frame that no reason refuses, and that stops all the same
  frame_asks : (f : Frame) → frame_of bytes ≡ some f → first (reasons s f) ≡ none → added s f ≡ stopped 7 → Asks s line
  frame_asks (licence t) e q a = absurd (goes_on _ a)
  frame_asks (map_decl kind key val entries name) e q a = absurd (goes_on _ a)
  frame_asks (program section symbol) e q a = absurd (goes_on _ a)
  frame_asks (code c) e q a = absurd (goes_on _ a)
  frame_asks (relocation offset name) e q a = go (last_map name s.job.maps) refl
    where
      go : (o : Option ℕ) → last_map name s.job.maps ≡ o → Asks s line
      go (some k) l = absurd (goes_on _ (rw l at a))
      go none l =
          let h = none_holds (reasons s (relocation offset name)) q in
          let (full, too_long) = or_false_both (leb 256 s.relocations) (long name) h.1.1.0 in
          let none_open = eqb-false (length s.job.programs) 0 h.0 in
          record {
            bytes = bytes;
            hex = hex;
            offset = offset;
            name = name;
            frame = e;
            placed = omega arith;
            good = not-false (is_text name) h.1.0;
            room = leb-false 256 s.relocations full;
            short = ltb-false 64 (length name) too_long;
            undeclared = none_unnamed name s.job.maps l;
          }

-- ---- a line is refused 7 exactly if it asks for an undeclared map

bytes_ask : (s : Stage) (line : Line) (bytes : List ℕ) → frame_bytes line ≡ some bytes → take_bytes s bytes ≡ stopped 7 → Asks s line
bytes_ask s line bytes hex e = go (frame_of bytes) refl
  where
    by_frame : (f : Frame) → frame_of bytes ≡ some f → (o : Option ℕ) → first (reasons s f) ≡ o → Asks s line
    by_frame f p none q = frame_asks s line bytes hex f p q (rw (q, take_frame) at (rw (p, take_bytes) at e))
    by_frame f p (some n) q =
        let x : ◌≡◌ {A = Step} (stopped n) (stopped 7) = rw (q, take_frame) at (rw (p, take_bytes) at e) in
        let y : n ≡ 7 = cc in
        absurd (no_seven s f (q ∙ ap some y))

    go : (o : Option Frame) → frame_of bytes ≡ o → Asks s line
    go none p =
        let x : ◌≡◌ {A = Step} (stopped 3) (stopped 7) = rw (p, take_bytes) at e in
        let z : ◌≡◌ {A = ℕ} 3 7 = cc in
        absurd (omega arith)
    go (some f) p = by_frame f p (first (reasons s f)) refl

pub line_asks : (s : Stage) (line : Line) → take_line s line ≡ stopped 7 → Asks s line
line_asks s line e = go (frame_bytes line) refl
  where
    go : (o : Option (List ℕ)) → frame_bytes line ≡ o → Asks s line
    go none p =
        let x : ◌≡◌ {A = Step} (stopped 2) (stopped 7) = rw (p, take_line) at e in
        let z : ◌≡◌ {A = ℕ} 2 7 = cc in
        absurd (omega arith)
    go (some bytes) p = bytes_ask s line bytes p (rw (p, take_line) at e)

pub asks_line : (s : Stage) (line : Line) → Asks s line → take_line s line ≡ stopped 7
asks_line s line a =
    let name = a.name in
    rw (a.hex, take_line)
    (goes s (relocation a.offset name) a.bytes a.frame
    (at_none (eqb (length s.job.programs) 0) (bad_name name) (leb 256 s.relocations || long name)
    (ne_eqb (length s.job.programs) 0 (λ z. omega (arith, a.placed)))
    (rw a.good)
    (rw (lt-leb 256 s.relocations a.room, le-ltb 64 (length name) a.short)))
    ∙ missing s a.offset name (unnamed_none name s.job.maps a.undeclared))

-- ---- the first faulty line, whatever it is refused for

abbrev Counted : Stage → Step → Type 0
Counted s (went t) = t.lines ≡ suc s.lines
Counted s (stopped n) = Unit {0}

-- a line that is taken counts as one
line_counted : (s : Stage) (line : Line) → Counted s (take_line s line)
line_counted s line = by_line (frame_bytes line)
  where
    by_map : (offset : ℕ) (name : List ℕ) (o : Option ℕ) → Counted s (resolved s offset name o)
    by_map offset name none = tt
    by_map offset name (some k) = refl

    by_kind : (f : Frame) → Counted s (added s f)
    by_kind (licence t) = refl
    by_kind (map_decl kind key val entries name) = refl
    by_kind (program section symbol) = refl
    by_kind (code c) = refl
    by_kind (relocation offset name) = by_map offset name (last_map name s.job.maps)

    by_reasons : (f : Frame) (o : Option ℕ) → Counted s (elim o [ some n ↦ stopped n | none ↦ added s f ])
    by_reasons f none = by_kind f
    by_reasons f (some n) = tt

    by_frame : (o : Option Frame) → Counted s (elim o [ none ↦ stopped 3 | some f ↦ take_frame s f ])
    by_frame none = tt
    by_frame (some f) = by_reasons f (first (reasons s f))

    by_line : (o : Option (List ℕ)) → Counted s (elim o [ none ↦ stopped 2 | some bytes ↦ take_bytes s bytes ])
    by_line none = tt
    by_line (some bytes) = by_frame (frame_of bytes)

-- after stage `s` the lines `ls` are taken up to one, which has the number `l` and is refused `n`
record Stops (s : Stage) (ls : List Line) (n l : ℕ) : Type 0 where
  before : List Line
  line : Line
  behind : List Line
  split : ls ≡ before ++ (line ∷ behind)
  number : l ≡ suc (s.lines + length before)
  stage : Stage
  taken : stage_after s before ≡ some stage
  stop : take_line stage line ≡ stopped n

lines_stop : (s : Stage) (ls : List Line) (n l : ℕ) → take_lines s ls ≡ faulty n l → Stops s ls n l
lines_stop s [] n l e = let z : ◌≡◌ {A = ℕ} 0 1 = cc in absurd (omega arith)
lines_stop s (line ∷ ls) n l e = go (take_line s line) refl (line_counted s line) (λ t. lines_stop t ls n l)
  where
    go : (x : Step) → take_line s line ≡ x → Counted s x → ((t : Stage) → take_lines t ls ≡ faulty n l → Stops t ls n l) → Stops s (line ∷ ls) n l
    go (went t) p c h =
        let r = h t (rw (p, take_lines) at e) in
        record {
          before = line ∷ r.before;
          line = r.line;
          behind = r.behind;
          split = ap (λ (ls' : List Line). line ∷ ls') r.split;
          number = omega (arith, r.number);
          stage = r.stage;
          taken = rw (p, stage_after) r.taken;
          stop = r.stop;
        }
    go (stopped m) p c h =
        let x : ◌≡◌ {A = Checked} (faulty m (suc s.lines)) (faulty n l) = rw (p, take_lines) at e in
        record {
          before = [];
          line = line;
          behind = ls;
          split = refl;
          number = let q : suc s.lines ≡ l = cc in omega arith;
          stage = s;
          taken = refl;
          stop = cc;
        }

stop_lines : (s : Stage) (before : List Line) (line : Line) (behind : List Line) (t : Stage) (n : ℕ) → stage_after s before ≡ some t
    → take_line t line ≡ stopped n → take_lines s (before ++ (line ∷ behind)) ≡ faulty n (suc (s.lines + length before))
stop_lines s [] line behind t n e q =
    let h : s ≡ t = cc in
    let q' : take_line s line ≡ stopped n = rw (sym h) at q in
    let l : suc s.lines ≡ suc (s.lines + 0) = omega arith in
    rw (q', take_lines) (ap (faulty n) l)
stop_lines s (b ∷ before) line behind t n e q =
    go (take_line s b) refl (line_counted s b) (λ s' h. stop_lines s' before line behind t n h q)
  where
    go : (x : Step) → take_line s b ≡ x → Counted s x
        → ((s' : Stage) → stage_after s' before ≡ some t → take_lines s' (before ++ (line ∷ behind)) ≡ faulty n (suc (s'.lines + length before)))
        → take_lines s (b ∷ before ++ (line ∷ behind)) ≡ faulty n (suc (s.lines + suc (length before)))
    go (went s') p c h =
        let l : suc (s'.lines + length before) ≡ suc (s.lines + suc (length before)) = omega arith in
        rw (p, take_lines) (h s' (rw (p, stage_after) at e) ∙ ap (faulty n) l)
    go (stopped m) p c h =
        let x : ◌≡◌ {A = Option Stage} none (some t) = rw (p, stage_after) at e in
        let z : ◌≡◌ {A = ℕ} 0 1 = cc in
        absurd (omega arith)

-- ---- the job

pub refused_unknown : (text : List ℕ) (l : ℕ) → checked text ≡ faulty 7 l → Unknown text l
refused_unknown text l e = go (ltb 65535 (length text)) refl
  where
    go : (b : Bool) → ltb 65535 (length text) ≡ b → Unknown text l
    go true q =
        let x : ◌≡◌ {A = Checked} (faulty 1 0) (faulty 7 l) = rw q at e in
        let z : ◌≡◌ {A = ℕ} 1 7 = cc in
        absurd (omega arith)
    go false q =
        let r = lines_stop empty (lines text) 7 l (rw q at e) in
        record {
          few = ltb-false 65535 (length text) q;
          before = r.before;
          line = r.line;
          behind = r.behind;
          split = r.split;
          number = omega (arith, r.number);
          stage = r.stage;
          taken = r.taken;
          asks = line_asks r.stage r.line r.stop;
        }

pub unknown_refused : (text : List ℕ) (l : ℕ) → Unknown text l → checked text ≡ faulty 7 l
unknown_refused text l u =
    let n : suc (0 + length u.before) ≡ l = omega (arith, u.number) in
    rw (le-ltb 65535 (length text) u.few, u.split)
    (stop_lines empty u.before u.line u.behind u.stage 7 u.taken (asks_line u.stage u.line u.asks) ∙ ap (faulty 7) n)

-- A job of two lines, a program `x` and a relocation to `m`, is refused 7 at its second line.
abbrev two_lines : List ℕ
two_lines = ascii "03017879" ++ (10 ∷ ascii "0500000000000000006d") ++ (10 ∷ [])

example : Unknown two_lines 2
example = refused_unknown two_lines 2 refl
