-- What an accepted job is known to keep, in one record: names are texts of at most 64 bytes, counts are within document 01's limits,
-- numbers fit their fields, and every relocation has the number of the last map that is declared under its raw name. It is proved once, of
-- `checked`; the theorems about accepted jobs use it.
use mathlib.Core.Path.{◌≡◌, refl, ap, subst}
use mathlib.Core.Bool.{Bool, true, false, cond, not, ◌||◌}
use mathlib.Core.Option.{Option, none, some}
use mathlib.Core.List.{List, [], ◌∷◌, ◌++◌}
use Prim.Native.Nat.{ℕ, suc, ◌+◌, ◌*◌, ◌^◌, ◌≤◌, ◌<◌}
use native.Mathlib.Omega.{arith}
use lib.Dec.{eqb, leb, ltb}
use lib.ListN.{length, length-append}
use borrow.Author.Tests.{ltb-false, leb-false, eqb-false, not-false}
use Rattle.octets.specs.All.{All}
use Rattle.octets.proofs.Lists.{all_append}
use Rattle.octets.proofs.Bytes.{Byte, Bytes}
use Rattle.octets.proofs.Tests.{or_false_both}
use Rattle.utf8.specs.Utf8.{has_zero, is_text}
use Rattle.written.proofs.Names.{Clean}
use Rattle.ast.specs.Job.{Map, Relocation, Program, Job, last_map}
use Rattle.ast.specs.declared.Attr.TheVariants.{Present}
use Rattle.lines.specs.Lines.{Line, lines, frame_bytes}
use Rattle.frames.specs.Frames.{Frame, licence, map_decl, program, code, relocation, frame_of}
use Rattle.refusals.specs.Checked.{Stage, empty, Reason, first, long, reasons, on_last, with_code, with_relocation, Step, went, stopped, resolved, added, take_frame, take_bytes, take_line, Checked, accepted, faulty, take_lines, checked}
use Rattle.refusals.proofs.WithinFrames.{Holds, LineBytes, line_bytes_lem, total, lines-total, FitFrame, frame_fit}

-- ---- the record

-- a name, raw: the bytes of a text, at most 64
pub record Name (s : List ℕ) : Type 0 where
  pub short : length s ≤ 64
  pub bytes : Bytes s
  pub text : is_text s ≡ true

pub record MapWithin (m : Map) : Type 0 where
  pub name : Name m.name
  pub entries : (n : ℕ) → m.entries ≡ Present n → n < 2 ^ 32

pub record RelocationWithin (ms : List Map) (r : Relocation) : Type 0 where
  pub offset : r.offset < 2 ^ 64
  pub name : Name r.map
  pub last : last_map r.map ms ≡ some r.number

pub record ProgramWithin (ms : List Map) (p : Program) : Type 0 where
  pub section : Name p.section
  pub clean : Clean p.section
  pub nonempty : 0 < length p.section
  pub symbol : Name p.symbol
  pub code : Bytes p.code
  pub relocations : All (RelocationWithin ms) p.relocations

-- the relocations and the bytes of code of all programs
abbrev pub relocations_in : List Program → ℕ
relocations_in [] = 0
relocations_in (p ∷ ps) = length p.relocations + relocations_in ps

abbrev pub code_in : List Program → ℕ
code_in [] = 0
code_in (p ∷ ps) = length p.code + code_in ps

pub record Within (j : Job) : Type 0 where
  pub licence : Name j.licence
  pub clean : Clean j.licence
  pub map_count : length j.maps ≤ 64
  pub maps : All MapWithin j.maps
  pub program_count : length j.programs ≤ 32
  pub programs : All (ProgramWithin j.maps) j.programs
  pub relocations : relocations_in j.programs ≤ 256
  pub code : code_in j.programs < 2 ^ 15

-- ---- the last program, changed

module _ (f : Program → Program) where
  pub last_count : (ps : List Program) → length (on_last f ps) ≡ length ps
  last_count [] = refl
  last_count (p ∷ []) = refl
  last_count (p ∷ q ∷ ps) = ap suc (last_count (q ∷ ps))

  last_code : (c : ℕ) (ps : List Program) → ((p : Program) → length (f p).code ≡ length p.code + c) → 0 < length ps
      → code_in (on_last f ps) ≡ code_in ps + c
  last_code c [] h l = absurd (omega arith)
  last_code c (p ∷ []) h l = omega (arith, h p)
  last_code c (p ∷ q ∷ ps) h l = omega (arith, last_code c (q ∷ ps) h (omega arith))

  last_relocations : (k : ℕ) (ps : List Program) → ((p : Program) → length (f p).relocations ≡ length p.relocations + k) → 0 < length ps
      → relocations_in (on_last f ps) ≡ relocations_in ps + k
  last_relocations k [] h l = absurd (omega arith)
  last_relocations k (p ∷ []) h l = omega (arith, h p)
  last_relocations k (p ∷ q ∷ ps) h l = omega (arith, last_relocations k (q ∷ ps) h (omega arith))

  last_within : (ms : List Map) (ps : List Program) → ((p : Program) → ProgramWithin ms p → ProgramWithin ms (f p)) → All (ProgramWithin ms) ps
      → All (ProgramWithin ms) (on_last f ps)
  last_within ms [] h w = tt
  last_within ms (p ∷ []) h w = (h p w.0, tt)
  last_within ms (p ∷ q ∷ ps) h w = (w.0, last_within ms (q ∷ ps) h w.1)

-- ---- a frame that no reason refuses

abbrev pub Fails : Reason → Type 0
Fails r = r.holds ≡ false

pub none_holds : (rs : List Reason) → first rs ≡ none → All Fails rs
none_holds [] e = tt
none_holds (r ∷ rs) e = go r.holds refl (none_holds rs)
  where
    go : (b : Bool) → r.holds ≡ b → (first rs ≡ none → All Fails rs) → All Fails (r ∷ rs)
    go true q h =
        let x : ◌≡◌ {A = Option ℕ} (some r.number) none = rw q at e in
        let y : ◌≡◌ {A = ℕ} 0 1 = cc in
        absurd (omega arith)
    go false q h = (q, h (rw q at e))

not_zero : (n : ℕ) → eqb n 0 ≡ false → 0 < n
not_zero n e = let h = eqb-false n 0 e in omega arith

name_of : (s : List ℕ) → Bytes s → not (is_text s) ≡ false → long s ≡ false → Name s
name_of s b t l = record { short = omega (arith, ltb-false 64 (length s) l); bytes = b; text = not-false (is_text s) t }

-- ---- the stage

-- what holds of a stage after lines of `used` characters
record Kept (used : ℕ) (s : Stage) : Type 0 where
  within : Within s.job
  count : s.relocations ≡ relocations_in s.job.programs
  code : 2 * code_in s.job.programs ≤ used

-- a step that goes on leads to such a stage
abbrev GoodStep : ℕ → Step → Type 0
GoodStep n (went s) = Kept n s
GoodStep n (stopped k) = Unit {0}

no_programs : (ms : List Map) (ps : List Program) → length ps ≤ 0 → All (ProgramWithin ms) ps
no_programs ms [] l = tt
no_programs ms (p ∷ ps) l = absurd (omega arith)

code_append : (ps qs : List Program) → code_in (ps ++ qs) ≡ code_in ps + code_in qs
code_append [] qs = omega arith
code_append (p ∷ ps) qs = omega (arith, code_append ps qs)

relocations_append : (ps qs : List Program) → relocations_in (ps ++ qs) ≡ relocations_in ps + relocations_in qs
relocations_append [] qs = omega arith
relocations_append (p ∷ ps) qs = omega (arith, relocations_append ps qs)

-- a stage after `u` characters, and a line of `n` more
module _ (u n : ℕ) (few : u + n ≤ 65535) (s : Stage) (i : Kept u s) where
  abbrev w : Within s.job
  w = i.within

  abbrev ms : List Map
  ms = s.job.maps

  abbrev ps : List Program
  ps = s.job.programs

  -- other programs, with `m` relocations in all
  abbrev with_programs : List Program → ℕ → Stage
  with_programs qs m =
      record {
        lines = suc s.lines;
        relocations = m;
        job = record { licence = s.job.licence; maps = ms; programs = qs };
      }

  -- they have `c` bytes of code and `k` relocations more than those before
  grown : (qs : List Program) (c k m : ℕ) → m ≡ s.relocations + k → length qs ≤ 32 → All (ProgramWithin ms) qs → code_in qs ≡ code_in ps + c → 2 * c ≤ n
      → relocations_in qs ≡ relocations_in ps + k → relocations_in qs ≤ 256
      → Kept (u + n) (with_programs qs m)
  grown qs c k m z l h d b e f =
      record {
        within =
            record {
              licence = w.licence;
              clean = w.clean;
              map_count = w.map_count;
              maps = w.maps;
              program_count = l;
              programs = h;
              relocations = f;
              code = omega (arith, i.code);
            };
        count = omega (arith, i.count);
        code = omega (arith, i.code);
      }

  grown_last : (f : Program → Program) (c k m : ℕ) → m ≡ s.relocations + k → eqb (length ps) 0 ≡ false → ((p : Program) → ProgramWithin ms p → ProgramWithin ms (f p))
      → ((p : Program) → length (f p).code ≡ length p.code + c) → 2 * c ≤ n
      → ((p : Program) → length (f p).relocations ≡ length p.relocations + k) → relocations_in ps + k ≤ 256
      → Kept (u + n) (with_programs (on_last f ps) m)
  grown_last f c k m z e h d b g q =
      let l = not_zero (length ps) e in
      let joined = last_relocations f k ps g l in
      grown (on_last f ps) c k m z (omega (arith, last_count f ps, w.program_count)) (last_within f ms ps h w.programs) (last_code f c ps d l) b
      joined (omega arith)

  took : (f : Frame) → FitFrame n f → All Fails (reasons s f) → GoodStep (u + n) (added s f)
  took (licence text) fit x =
      let (a, b) = or_false_both (not (is_text text)) (has_zero text) x.1.0 in
      record {
        within =
            record {
              licence = name_of text fit a x.1.1.0;
              clean = b;
              map_count = w.map_count;
              maps = w.maps;
              program_count = w.program_count;
              programs = w.programs;
              relocations = w.relocations;
              code = w.code;
            };
        count = omega (arith, i.count);
        code = omega (arith, i.code);
      }
  took (map_decl kind key value entries name) fit x =
      let m : Map = record { name = name; kind = kind; key = key; value = value; entries = entries } in
      let (a, b) = or_false_both (leb 64 (length ms)) (long name) x.1.1.0 in
      record {
        within =
            record {
              licence = w.licence;
              clean = w.clean;
              map_count = omega (arith, leb-false 64 (length ms) a, length-append ms (m ∷ []));
              maps = all_append MapWithin ms (m ∷ []) w.maps (record { name = name_of name fit.1 x.1.0 b; entries = fit.0 }, tt);
              program_count = w.program_count;
              programs = no_programs (ms ++ (m ∷ [])) ps (omega (arith, ltb-false 0 (length ps) x.0));
              relocations = w.relocations;
              code = w.code;
            };
        count = omega (arith, i.count);
        code = omega (arith, i.code);
      }
  took (program section symbol) fit x =
      let p : Program = record { section = section; symbol = symbol; code = []; relocations = [] } in
      let (a, b) = or_false_both (not (is_text section) || has_zero section || eqb (length section) 0) (not (is_text symbol)) x.0 in
      let (c, d) = or_false_both (not (is_text section) || has_zero section) (eqb (length section) 0) a in
      let (g, h) = or_false_both (not (is_text section)) (has_zero section) c in
      let (k, l) = or_false_both (leb 32 (length ps) || long section) (long symbol) x.1.0 in
      let (q, r) = or_false_both (leb 32 (length ps)) (long section) k in
      let joined = relocations_append ps (p ∷ []) in
      grown (ps ++ (p ∷ [])) 0 0 s.relocations (omega arith) (omega (arith, leb-false 32 (length ps) q, length-append ps (p ∷ [])))
      (all_append (ProgramWithin ms) ps (p ∷ []) w.programs (
        record {
          section = name_of section fit.0 g r;
          clean = h;
          nonempty = not_zero (length section) d;
          symbol = name_of symbol fit.1 b l;
          code = tt;
          relocations = tt;
        },
        tt,
      ))
      (code_append ps (p ∷ [])) (omega arith) joined (omega (arith, w.relocations))
  took (code bytes) fit x =
      grown_last (with_code bytes) (length bytes) 0 s.relocations (omega arith) x.0
      (λ p h. record {
        section = h.section;
        clean = h.clean;
        nonempty = h.nonempty;
        symbol = h.symbol;
        code = all_append Byte p.code bytes h.code fit.bytes;
        relocations = h.relocations;
      })
      (λ p. length-append p.code bytes) fit.few (λ p. omega arith) (omega (arith, w.relocations))
  took (relocation offset name) fit x = go (last_map name ms) refl
    where
      go : (o : Option ℕ) → last_map name ms ≡ o → GoodStep (u + n) (resolved s offset name o)
      go none e = tt
      go (some number) e =
          let r : Relocation = record { offset = offset; map = name; number = number } in
          let (a, b) = or_false_both (leb 256 s.relocations) (long name) x.1.1.0 in
          grown_last (with_relocation r) 0 1 (s.relocations + 1) (omega arith) x.0
          (λ p h. record {
            section = h.section;
            clean = h.clean;
            nonempty = h.nonempty;
            symbol = h.symbol;
            code = h.code;
            relocations =
                all_append (RelocationWithin ms) p.relocations (r ∷ []) h.relocations (
                  record { offset = fit.0; name = name_of name fit.1 x.1.0 b; last = e },
                  tt,
                );
          })
          (λ p. omega arith) (omega arith) (λ p. length-append p.relocations (r ∷ [])) (omega (arith, i.count, leb-false 256 s.relocations a))

-- ---- lines

abbrev GoodJob : Checked → Type 0
GoodJob (accepted j) = Within j
GoodJob (faulty k l) = Unit {0}

module _ (u n : ℕ) (few : u + n ≤ 65535) (s : Stage) (i : Kept u s) where
  frame_good : (f : Frame) → FitFrame n f → GoodStep (u + n) (take_frame s f)
  frame_good f fit = go (first (reasons s f)) refl
    where
      go : (o : Option ℕ) → first (reasons s f) ≡ o → GoodStep (u + n) (elim o [ some k ↦ stopped k | none ↦ added s f ])
      go none e = took u n few s i f fit (none_holds (reasons s f) e)
      go (some k) e = tt

  bytes_good : (bs : List ℕ) → LineBytes n bs → GoodStep (u + n) (take_bytes s bs)
  bytes_good bs b = go (frame_of bs) (frame_fit n bs b)
    where
      go : (o : Option Frame) → Holds (FitFrame n) o → GoodStep (u + n) (elim o [ none ↦ stopped 3 | some f ↦ take_frame s f ])
      go none h = tt
      go (some f) h = frame_good f h

line_good : (u : ℕ) (s : Stage) (l : Line) → Kept u s → u + length l.text ≤ 65535 → GoodStep (u + length l.text) (take_line s l)
line_good u s l i few = go (frame_bytes l) (line_bytes_lem l)
  where
    go : (o : Option (List ℕ)) → Holds (LineBytes (length l.text)) o
        → GoodStep (u + length l.text) (elim o [ none ↦ stopped 2 | some bs ↦ take_bytes s bs ])
    go none h = tt
    go (some bs) h = bytes_good u (length l.text) few s i bs h

lines_good : (u : ℕ) (s : Stage) (ls : List Line) → Kept u s → u + total ls ≤ 65535 → GoodJob (take_lines s ls)
lines_good u s [] i few = i.within
lines_good u s (l ∷ ls) i few = go (take_line s l) (line_good u s l i (omega arith)) (λ t k. lines_good (u + length l.text) t ls k (omega arith))
  where
    go : (x : Step) → GoodStep (u + length l.text) x → ((t : Stage) → Kept (u + length l.text) t → GoodJob (take_lines t ls))
        → GoodJob (elim x [ went t ↦ take_lines t ls | stopped k ↦ faulty k (suc s.lines) ])
    go (went t) g h = h t g
    go (stopped k) g h = tt

empty_kept : Kept 0 empty
empty_kept =
    record {
      within =
          record {
            licence = record { short = omega arith; bytes = (omega arith, (omega arith, (omega arith, tt))); text = refl };
            clean = refl;
            map_count = omega arith;
            maps = tt;
            program_count = omega arith;
            programs = tt;
            relocations = omega arith;
            code = omega arith;
          };
      count = refl;
      code = omega arith;
    }

checked_good : (text : List ℕ) → GoodJob (checked text)
checked_good text = go (ltb 65535 (length text)) refl
  where
    go : (b : Bool) → ltb 65535 (length text) ≡ b → GoodJob (cond b (faulty 1 0) (take_lines empty (lines text)))
    go true e = tt
    go false e = lines_good 0 empty (lines text) empty_kept (omega (arith, ltb-false 65535 (length text) e, lines-total text))

pub accepted_within : (text : List ℕ) (j : Job) → checked text ≡ accepted j → Within j
accepted_within text j e = subst GoodJob e (checked_good text)
