-- The walk over the lines: what holds before each line, and that it holds again after a line of each kind.
use mathlib.Core.Path.{◌≡◌, refl, sym, ◌∙◌, ap}
use mathlib.Core.List.{List, [], ◌∷◌, ◌++◌}
use Prim.Native.Nat.{ℕ, zero, suc, ◌+◌, ◌≤◌, ◌<◌}
use native.Mathlib.Numerals.{add-one}
use native.Mathlib.Omega.{arith}
use lib.ListN.{length, take, drop, set, length-append, length-set}
use lib.Seq.{take-suc-set, length-take-le}
use Rattle.std.specs.Prelude.{Option, Some, None}
use Rattle.lines.specs.Lines.{lines}
use Rattle.frames.specs.Frames.{licence}
use Rattle.ast.specs.Job.{Map, Job}
use Rattle.ast.specs.declared.Name.{Name}
use Rattle.ast.specs.declared.MapDecl.{MapDecl}
use Rattle.ast.specs.declared.NamedMap.{NamedMap}
use Rattle.object.specs.declared.Slot.{Slot}
use Rattle.object.specs.declared.Program.{Program}
use Rattle.object.specs.declared.BpfObject.{BpfObject}
use Rattle.object.specs.Tables.{empty_object, Sound, with_map, with_license}
use Rattle.object.specs.Read.{name_in, map_in, code_of, body, programs_in, declared_maps}
use Rattle.object.specs.Kept.{Named, MapsNamed, AllFrames, Kept}
use Rattle.object.proofs.Read.{maps_set, count_maps}
use Rattle.object.proofs.Programs.{programs_length}
use Rattle.refusals.specs.Checked.{Stage, take_bytes, take_lines, empty, went, added}
use Rattle.judge.specs.Judged.{line_bytes, map_frame_of}
use Rattle.job.specs.Walked.{Next, open_count, open_in, stage_in}
use Rattle.job.proofs.Lines.{goes_on}

-- what is known of the open program before the line at `at`
pub record Opened (text : List ℕ) (o : BpfObject) (p : Program) (at : ℕ) : Type 0 where
  pub section : Named text p.section
  pub symbol : Named text p.symbol
  pub here : drop p.lines (lines (drop p.from text)) ≡ lines (drop at text)
  pub there : length (body text p.from p.lines) ≡ p.lines
  pub frames : AllFrames (body text p.from p.lines)
  pub code : length (code_of (body text p.from p.lines)) ≡ p.code_len
  pub slots : p.first + p.relocs ≡ o.reloc_count
  pub few_lines : p.lines ≤ at
  pub few_bytes : p.code_len ≤ at

abbrev pub OpenedIf : List ℕ → BpfObject → Option Program → ℕ → Type 0
OpenedIf text o None at = (o.program_count ≡ 0) × (o.reloc_count ≡ 0)
OpenedIf text o (Some p) at = Opened text o p at

pub record Walking (text : List ℕ) (o : BpfObject) (opened : Option Program) (n at : ℕ) : Type 0 where
  pub kept : Kept text o
  pub opening : OpenedIf text o opened at
  pub few : o.program_count + open_count opened ≤ 32
  pub inside : at ≤ length text
  pub counted : n ≤ at
  pub early : open_count opened ≤ n
  pub whole : take_lines empty (lines text) ≡ take_lines (stage_in text o opened n) (lines (drop at text))

-- ---- a map more

named_snoc : (text : List ℕ) (ms : List NamedMap) (m : NamedMap) → MapsNamed text ms → Named text m.name → MapsNamed text (ms ++ (m ∷ []))
named_snoc text [] m k n zero h = n
named_snoc text [] m k n (suc i) h = absurd (omega arith)
named_snoc text (l ∷ ms) m k n zero h = k zero (omega arith)
named_snoc text (l ∷ ms) m k n (suc i) h = named_snoc text ms m (λ j g. k (suc j) (omega arith)) n i (omega arith)

-- ---- the start

pub start_kept : (text : List ℕ) → Kept text empty_object
start_kept text = record {
  sound = record { maps = refl; programs = refl; slots = refl; few_maps = omega arith; few_programs = omega arith; few_slots = omega arith };
  licence = tt;
  maps = λ i h. absurd (omega arith);
  programs = tt;
  slots = λ i h. absurd (omega arith);
}

pub start : (text : List ℕ) (o : BpfObject) → o ≡ empty_object → Walking text o None 0 0
start text o e = rw e (record {
  kept = start_kept text;
  opening = (refl, refl);
  few = omega arith;
  inside = omega arith;
  counted = omega arith;
  early = omega arith;
  whole = refl;
})

-- ---- stages

-- two stages with the same parts
same_stage : (n m : ℕ) (r q : ℕ) (j i : Job) → n ≡ m → r ≡ q → j ≡ i
    → ◌≡◌ {A = Stage} (record { lines = n; relocations = r; job = j }) (record { lines = m; relocations = q; job = i })
same_stage n m r q j i a b c = rw (a, b, c)

pub open_length : (text : List ℕ) (slots : List (Option Slot)) (opened : Option Program) → length (open_in text slots opened) ≡ open_count opened
open_length text slots None = refl
open_length text slots (Some p) = refl

-- ---- what is counted

pub maps_counted : (text : List ℕ) (o : BpfObject) → Sound o → length (declared_maps text o) ≡ o.map_count
maps_counted text o s =
    count_maps text o.maps o.map_count (omega (arith, s.maps, s.few_maps))

pub programs_counted : (text : List ℕ) (o : BpfObject) (opened : Option Program) (n : ℕ) → Sound o
    → length (stage_in text o opened n).job.programs ≡ o.program_count + open_count opened
programs_counted text o opened n s =
    let t : length (take o.program_count o.programs) ≡ o.program_count = length-take-le o.program_count o.programs (omega (arith, s.programs, s.few_programs)) in
    rw (length-append (programs_in text o.slots (take o.program_count o.programs)) (open_in text o.slots opened), programs_length, open_length text o.slots opened, t)

-- ---- a line taken

module _ (text : List ℕ) (o : BpfObject) (opened : Option Program) (n at end : ℕ) (w : Walking text o opened n at) (next : Next text at end) where
  -- the definition after a line that leads to the job `j` with `r` relocations, if the tables then are `o'` and the open program is `opened'`
  pub taken : (r : ℕ) (j : Job) (o' : BpfObject) (opened' : Option Program)
      → take_bytes (stage_in text o opened n) (line_bytes text at end) ≡ went (record { lines = suc n; relocations = r; job = j })
      → j ≡ (stage_in text o' opened' (n + 1)).job → r ≡ o'.reloc_count
      → take_lines empty (lines text) ≡ take_lines (stage_in text o' opened' (n + 1)) (lines (drop (end + 1) text))
  taken r j o' opened' e q i =
      w.whole ∙ goes_on text at end next (stage_in text o opened n) (record { lines = suc n; relocations = r; job = j }) e
      ∙ ap (λ (s : Stage). take_lines s (lines (drop (end + 1) text))) (same_stage (suc n) (n + 1) r o'.reloc_count _ _ (sym (add-one n)) i q)

  pub license_on : (m : Name) → take_bytes (stage_in text o opened n) (line_bytes text at end) ≡ added (stage_in text o opened n) (licence (name_in text m))
      → Named text m → n ≡ 0 → Walking text (with_license o m).object opened (n + 1) (end + 1)
  license_on m e k z = go opened refl
    where
      go : (q : Option Program) → opened ≡ q → Walking text (with_license o m).object opened (n + 1) (end + 1)
      go (Some q) i = absurd (omega (arith, w.early, ap open_count i))
      go None i =
          record {
            kept =
                record {
                  sound =
                      record {
                        maps = w.kept.sound.maps;
                        programs = w.kept.sound.programs;
                        slots = w.kept.sound.slots;
                        few_maps = w.kept.sound.few_maps;
                        few_programs = w.kept.sound.few_programs;
                        few_slots = w.kept.sound.few_slots;
                      };
                  licence = k;
                  maps = w.kept.maps;
                  programs = w.kept.programs;
                  slots = w.kept.slots;
                };
            opening = rw i (rw i at w.opening);
            few = w.few;
            inside = omega (arith, next.inside);
            counted = omega (arith, w.counted, next.framed.first);
            early = omega (arith, w.early);
            whole = taken _ _ (with_license o m).object opened e refl refl;
          }

  -- if there is no program, none is open and no slot is taken
  none_open : length (stage_in text o opened n).job.programs ≡ 0 → (opened ≡ None) × (o.program_count ≡ 0) × (o.reloc_count ≡ 0)
  none_open e = go opened refl
    where
      c : o.program_count + open_count opened ≡ 0
      c = sym (programs_counted text o opened n w.kept.sound) ∙ e

      go : (q : Option Program) → opened ≡ q → (opened ≡ None) × (o.program_count ≡ 0) × (o.reloc_count ≡ 0)
      go None i = let h = rw i at w.opening in (i, h.0, h.1)
      go (Some q) i = absurd (omega (arith, c, ap open_count i))

  pub map_on : (d : MapDecl) (m : Name) → take_bytes (stage_in text o opened n) (line_bytes text at end) ≡ added (stage_in text o opened n) (map_frame_of d (name_in text m))
      → Named text m → length (declared_maps text o) < 64 → length (stage_in text o opened n).job.programs ≡ 0
      → Walking text (with_map o d m) opened (n + 1) (end + 1)
  map_on d m e k few z =
      let s = w.kept.sound in
      let c = maps_counted text o s in
      let u = none_open z in
      let a : o.map_count < length o.maps = omega (arith, s.maps) in
      record {
        kept =
            record {
              sound =
                  record {
                    maps = length-set o.maps o.map_count (record { decl = d; name = m }) ∙ s.maps;
                    programs = s.programs;
                    slots = s.slots;
                    few_maps = omega arith;
                    few_programs = s.few_programs;
                    few_slots = s.few_slots;
                  };
              licence = w.kept.licence;
              maps = named_set a;
              programs = w.kept.programs;
              slots = λ i h. absurd (omega (arith, u.2));
            };
        opening = still u;
        few = w.few;
        inside = omega (arith, next.inside);
        counted = omega (arith, w.counted, next.framed.first);
        early = omega (arith, w.early);
        whole = taken _ _ (with_map o d m) opened e (ap with_maps (sym (set_maps a))) refl;
      }
    where
      with_maps : List Map → Job
      with_maps ms = record { licence = (stage_in text o opened n).job.licence; maps = ms; programs = (stage_in text o opened n).job.programs }

      own : NamedMap
      own = record { decl = d; name = m }

      set_maps : o.map_count < length o.maps → declared_maps text (with_map o d m) ≡ declared_maps text o ++ (map_in text own ∷ [])
      set_maps a = rw (add-one o.map_count) (maps_set text o.maps o.map_count own a)

      named_set : o.map_count < length o.maps → MapsNamed text (take (o.map_count + 1) (set o.maps o.map_count own))
      named_set a = rw (add-one o.map_count, take-suc-set o.maps o.map_count own a) (named_snoc text (take o.map_count o.maps) own w.kept.maps k)

      still : (opened ≡ None) × (o.program_count ≡ 0) × (o.reloc_count ≡ 0) → OpenedIf text (with_map o d m) opened (end + 1)
      still u = rw u.0 (u.1, u.2)
