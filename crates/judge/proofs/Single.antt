-- Single outcomes: two verdicts that meet the promise of `judge_frame` mean the same once their places are read. They may differ only in
-- places: the text may have the same bytes twice, and the promise does not say which of the two places a name gets.
use mathlib.Core.Path.{◌≡◌, refl, sym, ◌∙◌, ap}
use mathlib.Core.Bool.{cond}
use mathlib.Core.Option.{Option, none, some}
use mathlib.Core.List.{List, []}
use Prim.Native.Nat.{ℕ, suc, ◌+◌}
use native.Mathlib.Omega.{arith}
use lib.Dec.{eqb}
use lib.ListN.{length, replicate, length-replicate}
use contract.Lifetimes.{Lfts}
use borrow.Fn.Kinds.{Dens, ended_of}
use denote.Triple.Clauses.{AtExit}
use Rattle.std.specs.Prelude.{Result, Ok, Err}
use Rattle.octets.specs.Octets.{value}
use Rattle.ast.specs.Job.{Program, last_map}
use Rattle.ast.specs.declared.NamedMap.{NamedMap}
use Rattle.frames.specs.Frames.{Frame, licence, map_decl, program, code, relocation, frame_of}
use Rattle.object.specs.Read.{bytes_at, maps_in, frame_code}
use Rattle.refusals.specs.Checked.{Stage, Step, went, stopped, take_bytes, added}
use Rattle.refusals.specs.Refusal.{number_of, line_of}
use Rattle.refusals.specs.declared.Refusal.{Refusal}
use Rattle.refusals.specs.declared.Refusal.TheVariants.{TooLong, BadLine, BadFrame, Misplaced, BadText, OverLimit, UnknownMap, NoRoom}
use Rattle.judge.specs.Judged.{Agrees, Held, Judged, line_bytes, declaration_frame}
use Rattle.judge.specs.declared.Counts.{Counts}
use Rattle.judge.specs.declared.Declaration.{Declaration}
use Rattle.judge.specs.declared.Declaration.TheVariants as declaration
use Rattle.judge.specs.declared.Order.{Order}
use Rattle.judge.specs.declared.Order.TheVariants.{Declares, Code, Reloc}
use Rattle.judge.proofs.judge_frame.Kinds as judge_frame_kinds
use Rattle.judge.proofs.judge_frame.Reads as judge_frame

-- ---- what a verdict means: a frame that is taken, with the length of its code or the number of its map, or a refusal

data Meaning : Type 0 where
  takes : Frame → Option ℕ → Meaning
  refuses : Refusal → Meaning

abbrev meant : List ℕ → List ℕ → Result Order Refusal → Meaning
meant text bs (Ok (Declares d)) = takes (declaration_frame text d) none
meant text bs (Ok (Code n)) = takes (code (frame_code (frame_of bs))) (some n)
meant text bs (Ok (Reloc x)) = takes (relocation (value (bytes_at text x.place 8)) (bytes_at text (x.place + 16) x.len)) (some x.map)
meant text bs (Err r) = refuses r

-- ---- the same, by the line's frame and what the table does with it

-- the refusal of a line by its number
abbrev refusal_of : ℕ → ℕ → Option Refusal
refusal_of n l =
    cond (eqb n 2) (some (BadLine l))
    (cond (eqb n 3) (some (BadFrame l))
    (cond (eqb n 4) (some (Misplaced l)) (cond (eqb n 5) (some (BadText l)) (cond (eqb n 6) (some (OverLimit l)) (cond (eqb n 7) (some (UnknownMap l)) none)))))

refusal_is : (r : Refusal) (l : ℕ) → line_of r ≡ suc l → refusal_of (number_of r) (suc l) ≡ some r
refusal_is TooLong l h = absurd (omega arith)
refusal_is (BadLine k) l h = ap (λ (x : ℕ). some (BadLine x)) (sym h)
refusal_is (BadFrame k) l h = ap (λ (x : ℕ). some (BadFrame x)) (sym h)
refusal_is (Misplaced k) l h = ap (λ (x : ℕ). some (Misplaced x)) (sym h)
refusal_is (BadText k) l h = ap (λ (x : ℕ). some (BadText x)) (sym h)
refusal_is (OverLimit k) l h = ap (λ (x : ℕ). some (OverLimit x)) (sym h)
refusal_is (UnknownMap k) l h = ap (λ (x : ℕ). some (UnknownMap x)) (sym h)
refusal_is (NoRoom k) l h = absurd (omega arith)

module _ (s : Stage) where
  abbrev extra : Frame → Option ℕ
  extra (licence t) = none
  extra (map_decl kind key val entries name) = none
  extra (program section symbol) = none
  extra (code bytes) = some (length bytes)
  extra (relocation offset name) = last_map name s.job.maps

  abbrev refusing : Option Refusal → Option Meaning
  refusing none = none
  refusing (some r) = some (refuses r)

  abbrev back : Option Frame → Step → Option Meaning
  back o (stopped n) = refusing (refusal_of n (suc s.lines))
  back (some f) (went t) = some (takes f (extra f))
  back none (went t) = none

  module _ (text bs : List ℕ) where
    back_declared : (d : Declaration) → back (some (declaration_frame text d)) (added s (declaration_frame text d)) ≡ some (takes (declaration_frame text d) none)
    back_declared (declaration.License n) = refl
    back_declared (declaration.Map d n) = refl
    back_declared (declaration.Program a b) = refl

    back_meant : (r : Result Order Refusal) → Judged text s bs r → back (frame_of bs) (take_bytes s bs) ≡ some (meant text bs r)
    back_meant (Ok (Declares d)) j =
        ap (λ (o : Option Frame). back o (take_bytes s bs)) j.2 ∙ ap (back (some (declaration_frame text d))) j.0 ∙ back_declared d
    back_meant (Ok (Code n)) j =
        let c = code (frame_code (frame_of bs)) in
        ap (λ (o : Option Frame). back o (take_bytes s bs)) j.4 ∙ ap (back (some c)) j.0 ∙ ap (λ (k : ℕ). some (takes c (some k))) j.1
    back_meant (Ok (Reloc x)) j =
        let f = relocation (value (bytes_at text x.place 8)) (bytes_at text (x.place + 16) x.len) in
        ap (λ (o : Option Frame). back o (take_bytes s bs)) j.5 ∙ ap (back (some f)) j.0
        ∙ ap (λ (k : Option ℕ). some (takes f k)) j.1.last
    back_meant (Err r) j = ap (back (frame_of bs)) j.0 ∙ ap refusing (refusal_is r s.lines j.1)

-- ---- the promise is about every stage with these counts, and there is one

module _ (text : List ℕ) (ms : List NamedMap) (k : Counts) where
  abbrev any_program : Program
  any_program = record { section = []; symbol = []; code = []; relocations = [] }

  abbrev stage : Stage
  stage =
      record {
        lines = k.lines;
        relocations = k.relocs;
        job = record { licence = []; maps = maps_in text ms; programs = replicate k.programs any_program };
      }

  agrees : Agrees stage k
  agrees = record { lines = refl; programs = length-replicate k.programs any_program; relocs = refl }

  -- two verdicts that meet the promise mean the same
  meant_once : (bs : List ℕ) (r r' : Result Order Refusal) → ((s : Stage) → Agrees s k → Held text ms s → Judged text s bs r)
      → ((s : Stage) → Agrees s k → Held text ms s → Judged text s bs r') → meant text bs r ≡ meant text bs r'
  meant_once bs r r' p p' =
      let e = sym (back_meant stage text bs r (p stage agrees refl)) ∙ back_meant stage text bs r' (p' stage agrees refl) in
      cc

-- ---- two verdicts that meet the promise of `judge_frame`

module _ (κs : Lfts 2) (a : Dens κs judge_frame_kinds.ps) (z z' : Result Order Refusal) (e e' : AtExit (ended_of 2 judge_frame_kinds.ps judge_frame_kinds.r) κs)
    (p : judge_frame.Post κs a z e) (p' : judge_frame.Post κs a z' e') where
  abbrev text : List ℕ
  text = a.0.now

  -- the line's bytes
  abbrev line : List ℕ
  line = line_bytes text a.1.1.0 a.1.1.1.0

  -- they mean the same
  judge_frame_meant : meant text line z ≡ meant text line z'
  judge_frame_meant = meant_once text _ _ line z z' p p'
