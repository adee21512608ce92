-- The lines of programs: one that opens a program, code, relocations, and the end of the text.
use mathlib.Core.Path.{◌≡◌, refl, sym, ◌∙◌, ap}
use mathlib.Core.Bool.{Bool, true, false}
use mathlib.Core.List.{List, [], ◌∷◌, ◌++◌, append-nil}
use Prim.Native.Nat.{ℕ, ◌+◌, ◌-◌, ◌*◌, ◌≤◌, ◌<◌}
use native.Mathlib.Nat.{add-zero}
use native.Mathlib.Numerals.{add-one}
use native.Mathlib.Omega.{arith}
use lib.Dec.{eqb}
use lib.ListN.{length, take, drop, get_or, set, length-append, length-set}
use lib.Seq.{length-take-le, take-suc-set, get_or-set_same, get_or-set_other}
use borrow.Author.Tests.{lt-ltb, eqb-true, eqb-false}
use Rattle.std.specs.Prelude.{Option, Some, None, Ok, IfSome, option_map}
use Rattle.octets.proofs.Laws.{read_done}
use Rattle.lines.specs.Lines.{lines}
use Rattle.lines.proofs.Parts.{line_length}
use Rattle.frames.specs.Frames.{frame_of, program, code}
use Rattle.ast.specs.Job.{Job}
use Rattle.ast.specs.Job as job
use Rattle.ast.specs.declared.Name.{Name}
use Rattle.ast.specs.declared.MapDecl.{MapDecl}
use Rattle.object.specs.declared.Slot.{Slot}
use Rattle.object.specs.declared.Program.{Program}
use Rattle.object.specs.declared.BpfObject.{BpfObject}
use Rattle.object.specs.declared.Added.{Added}
use Rattle.object.specs.Tables.{Sound, done, with_license, with_map, added_map}
use Rattle.object.specs.Read.{name_in, relocation_at, relocations_in, frame_code, code_of, body, program_in, programs_in, declared_maps, job_in}
use Rattle.object.specs.Kept.{Named, Resolved, ResolvedSlot, ProgramKept, Kept}
use Rattle.object.proofs.Programs.{part_more, relocations_snoc, programs_snoc, programs_kept, kept_more, kept_snoc}
use Rattle.refusals.specs.Checked.{take_bytes, take_lines, empty, went, accepted, relocated, added, on_last, with_code, with_relocation}
use Rattle.lookup.specs.Names.{Names}
use Rattle.judge.specs.Judged.{line_bytes, Declared, declaration_frame}
use Rattle.judge.specs.declared.Declaration.{Declaration}
use Rattle.judge.specs.declared.Declaration.TheVariants.{License, Map as MapOf, Program as ProgramOf}
use Rattle.job.specs.declared.Built.{Built}
use Rattle.job.specs.declared.Parsed.{Parsed}
use Rattle.job.specs.Walked.{Next, parsed_as, finished_with, finished_of, parsed_in, ParsedKept, open_count, opened_at, code_added, reloc_added, closed_of, closed_object, with_slot, built_with, built_of, stage_in}
use Rattle.job.proofs.Body.{More, more}
use Rattle.job.proofs.Walking.{Opened, Walking, maps_counted, programs_counted, taken, license_on, map_on}

-- ---- closing the open program

-- what holds of the object when the open program is added
pub record Closed (text : List ℕ) (o : BpfObject) (opened : Option Program) (n : ℕ) : Type 0 where
  pub done : closed_of o opened ≡ done (closed_object o opened)
  pub kept : Kept text (closed_object o opened)
  pub job : job_in text (closed_object o opened) ≡ (stage_in text o opened n).job
  pub relocs : (closed_object o opened).reloc_count ≡ o.reloc_count
  pub programs : (closed_object o opened).program_count ≡ o.program_count + open_count opened

abbrev with_programs_lem : (text : List ℕ) (o : BpfObject) → List job.Program → Job
with_programs_lem text o ps = record { licence = (job_in text o).licence; maps = (job_in text o).maps; programs = ps }

pub closing : (text : List ℕ) (o : BpfObject) (opened : Option Program) (n at : ℕ) → Walking text o opened n at → Closed text o opened n
closing text o None n at w =
    record {
      done = refl;
      kept = w.kept;
      job = ap (with_programs_lem text o) (sym (append-nil (programs_in text o.slots (take o.program_count o.programs))));
      relocs = refl;
      programs = sym (add-zero o.program_count);
    }
closing text o (Some p) n at w =
    let s = w.kept.sound in
    let q = w.opening in
    let c : o.program_count < 32 = omega (arith, w.few) in
    let l : o.program_count < length o.programs = omega (arith, s.programs) in
    let t : take (o.program_count + 1) (set o.programs o.program_count p) ≡ take o.program_count o.programs ++ (p ∷ []) =
    rw (add-one o.program_count) (take-suc-set o.programs o.program_count p l) in
    let k : ProgramKept text o.reloc_count p = record {
      section = q.section;
      symbol = q.symbol;
      there = q.there;
      frames = q.frames;
      code = q.code;
      slots = omega (arith, q.slots);
    } in
    record {
      done = simp (lt-ltb o.program_count 32 c);
      kept =
          record {
            sound =
                record {
                  maps = s.maps;
                  programs = length-set o.programs o.program_count p ∙ s.programs;
                  slots = s.slots;
                  few_maps = s.few_maps;
                  few_programs = omega arith;
                  few_slots = s.few_slots;
                };
            licence = w.kept.licence;
            maps = w.kept.maps;
            programs = rw t (kept_snoc text o.reloc_count (take o.program_count o.programs) p w.kept.programs k);
            slots = w.kept.slots;
          };
      job = ap (with_programs_lem text o) (ap (programs_in text o.slots) t ∙ programs_snoc text o.slots (take o.program_count o.programs) p);
      relocs = refl;
      programs = refl;
    }

-- a job with one program more
abbrev one_more : job.Program → Job → Job
one_more p j = record { licence = j.licence; maps = j.maps; programs = j.programs ++ (p ∷ []) }

-- ---- the last program of a list

pub on_last_lem : (f : job.Program → job.Program) (ps : List job.Program) (q : job.Program) → on_last f (ps ++ (q ∷ [])) ≡ ps ++ (f q ∷ [])
on_last_lem f [] q = refl
on_last_lem f (p ∷ []) q = refl
on_last_lem f (p ∷ r ∷ ps) q = ap (λ (l : List job.Program). p ∷ l) (on_last_lem f (r ∷ ps) q)

module _ (text : List ℕ) (o : BpfObject) (opened : Option Program) (n at end : ℕ) (w : Walking text o opened n at) (next : Next text at end) where
  -- a program's line
  pub program_on : (a b : Name)
      → take_bytes (stage_in text o opened n) (line_bytes text at end) ≡ added (stage_in text o opened n) (program (name_in text a) (name_in text b))
      → Named text a → Named text b → length (stage_in text o opened n).job.programs < 32
      → Walking text (closed_object o opened) (Some (opened_at a b (end + 1) o.reloc_count)) (n + 1) (end + 1)
  program_on a b e k l few =
      let c = closing text o opened n at w in
      let u = programs_counted text o opened n w.kept.sound in
      record {
        kept = c.kept;
        opening =
            record {
              section = k;
              symbol = l;
              here = refl;
              there = refl;
              frames = tt;
              code = refl;
              slots = add-zero o.reloc_count ∙ sym c.relocs;
              few_lines = omega arith;
              few_bytes = omega arith;
            };
        few = omega (arith, c.programs);
        inside = omega (arith, next.inside);
        counted = omega (arith, w.counted, next.framed.first);
        early = omega arith;
        whole =
            taken text o opened n at end w next _ _ (closed_object o opened) (Some (opened_at a b (end + 1) o.reloc_count)) e
            (ap (one_more (record { section = name_in text a; symbol = name_in text b; code = []; relocations = [] })) (sym c.job)) (sym c.relocs);
      }

-- ---- a line of the open program's body

module _ (text : List ℕ) (o : BpfObject) (p : Program) (n at end : ℕ) (w : Walking text o (Some p) n at) (next : Next text at end) where
  open_code : (k : ℕ)
      → take_bytes (stage_in text o (Some p) n) (line_bytes text at end)
      ≡ added (stage_in text o (Some p) n) (code (frame_code (frame_of (line_bytes text at end))))
      → length (frame_code (frame_of (line_bytes text at end))) ≡ k → k ≤ length (line_bytes text at end)
      → Walking text o (Some (code_added p k)) (n + 1) (end + 1)
  open_code k e l g =
      let q = w.opening in
      let m = more text o p at end q next in
      record {
        kept = w.kept;
        opening = record {
          section = q.section;
          symbol = q.symbol;
          here = m.here;
          there = m.there;
          frames = m.frames;
          code = ap length m.code ∙ length-append (code_of (body text p.from p.lines)) (frame_code (frame_of (line_bytes text at end))) ∙ omega (arith, q.code);
          slots = q.slots;
          few_lines = omega (arith, q.few_lines, next.framed.first);
          few_bytes = omega (arith, q.few_bytes, bytes_half);
        };
        few = w.few;
        inside = omega (arith, next.inside);
        counted = omega (arith, w.counted, next.framed.first);
        early = omega (arith, w.early);
        whole =
            taken text o (Some p) n at end w next _ _ o (Some (code_added p k)) e (job_code m) refl;
      }
    where
      bytes_half : end - at ≡ 2 * length (line_bytes text at end)
      bytes_half = line_length text at end (omega (arith, next.framed.first)) next.framed.last next.framed.hex

      job_code : More text p at end
          → with_programs_lem text o (on_last (with_code (frame_code (frame_of (line_bytes text at end)))) (stage_in text o (Some p) n).job.programs) ≡ (stage_in text o (Some (code_added p k)) (n + 1)).job
      job_code m =
          ap (with_programs_lem text o)
          (on_last_lem (with_code (frame_code (frame_of (line_bytes text at end)))) (programs_in text o.slots (take o.program_count o.programs)) (program_in text o.slots p)
          ∙ ap (λ (c : List ℕ). programs_in text o.slots (take o.program_count o.programs) ++ (coded c ∷ [])) (sym m.code))
        where
          coded : List ℕ → job.Program
          coded c =
              record {
                section = name_in text p.section;
                symbol = name_in text p.symbol;
                code = c;
                relocations = relocations_in text (take p.relocs (drop p.first o.slots));
              }

  open_reloc : (x : Slot)
      → take_bytes (stage_in text o (Some p) n) (line_bytes text at end)
      ≡ went (relocated (stage_in text o (Some p) n) (relocation_at text x.place x.len x.map))
      → Resolved text (declared_maps text o) x.place x.len x.map → o.reloc_count < 256
      → frame_code (frame_of (line_bytes text at end)) ≡ [] → Walking text (with_slot o x) (Some (reloc_added p)) (n + 1) (end + 1)
  open_reloc x e r few c =
      let q = w.opening in
      let m = more text o p at end q next in
      let s = w.kept.sound in
      let z : code_of (body text p.from (p.lines + 1)) ≡ code_of (body text p.from p.lines) =
      m.code ∙ ap (λ (y : List ℕ). code_of (body text p.from p.lines) ++ y) c ∙ append-nil (code_of (body text p.from p.lines)) in
      record {
        kept =
            record {
              sound =
                  record {
                    maps = s.maps;
                    programs = s.programs;
                    slots = length-set o.slots o.reloc_count (Some x) ∙ s.slots;
                    few_maps = s.few_maps;
                    few_programs = s.few_programs;
                    few_slots = omega arith;
                  };
              licence = w.kept.licence;
              maps = w.kept.maps;
              programs = kept_more text o.reloc_count (o.reloc_count + 1) (take o.program_count o.programs) (omega arith) w.kept.programs;
              slots = resolved (omega (arith, s.slots)) r;
            };
        opening = record {
          section = q.section;
          symbol = q.symbol;
          here = m.here;
          there = m.there;
          frames = m.frames;
          code = ap length z ∙ q.code;
          slots = omega (arith, q.slots);
          few_lines = omega (arith, q.few_lines, next.framed.first);
          few_bytes = omega (arith, q.few_bytes, next.framed.first);
        };
        few = w.few;
        inside = omega (arith, next.inside);
        counted = omega (arith, w.counted, next.framed.first);
        early = omega (arith, w.early);
        whole =
            taken text o (Some p) n at end w next _ _ (with_slot o x) (Some (reloc_added p)) e (job_reloc q z (omega (arith, s.slots))) refl;
      }
    where
      resolved : o.reloc_count < length o.slots → Resolved text (declared_maps text o) x.place x.len x.map → (i : ℕ) → i < o.reloc_count + 1
          → ResolvedSlot text (declared_maps text o) (get_or (set o.slots o.reloc_count (Some x)) i None)
      resolved l r i h = go (eqb i o.reloc_count) refl
        where
          go : (t : Bool) → eqb i o.reloc_count ≡ t → ResolvedSlot text (declared_maps text o) (get_or (set o.slots o.reloc_count (Some x)) i None)
          go true t = let e : i ≡ o.reloc_count = eqb-true i o.reloc_count t in rw (e, get_or-set_same o.slots o.reloc_count (Some x) None l) r
          go false t =
              let f = eqb-false i o.reloc_count t in
              rw (get_or-set_other o.slots o.reloc_count i (Some x) None f) (w.kept.slots i (omega (arith, f)))

      -- the open program with the relocation
      program_reloc : Opened text o p at → code_of (body text p.from (p.lines + 1)) ≡ code_of (body text p.from p.lines) → o.reloc_count < length o.slots
          → program_in text (set o.slots o.reloc_count (Some x)) (reloc_added p)
          ≡ with_relocation (relocation_at text x.place x.len x.map) (program_in text o.slots p)
      program_reloc q z l =
          let t : take (p.relocs + 1) (drop p.first (set o.slots (p.first + p.relocs) (Some x))) ≡ take p.relocs (drop p.first o.slots) ++ (Some x ∷ []) =
          rw (add-one p.relocs) (part_more o.slots p.first p.relocs (Some x) (omega (arith, q.slots))) in
          rw (← q.slots, t, relocations_snoc text (take p.relocs (drop p.first o.slots)) (Some x), z)

      job_reloc : Opened text o p at → code_of (body text p.from (p.lines + 1)) ≡ code_of (body text p.from p.lines) → o.reloc_count < length o.slots
          → with_programs_lem text o (on_last (with_relocation (relocation_at text x.place x.len x.map)) (stage_in text o (Some p) n).job.programs)
          ≡ (stage_in text (with_slot o x) (Some (reloc_added p)) (n + 1)).job
      job_reloc q z l =
          let ps = take o.program_count o.programs in
          let f = with_relocation (relocation_at text x.place x.len x.map) in
          ap (with_programs_lem text o)
          (on_last_lem f (programs_in text o.slots ps) (program_in text o.slots p)
          ∙ ap (λ (y : List job.Program). y ++ (f (program_in text o.slots p) ∷ [])) (sym (programs_kept text o.slots o.reloc_count (Some x) ps w.kept.programs))
          ∙ ap (λ (y : job.Program). programs_in text (set o.slots o.reloc_count (Some x)) ps ++ (y ∷ [])) (sym (program_reloc q z l)))

-- ---- the same, in a stage that has a program, so that one is open

module _ (text : List ℕ) (o : BpfObject) where
  -- with no program open there is none
  none_yet : (n at : ℕ) → Walking text o None n at → 0 < length (stage_in text o None n).job.programs → ⊥
  none_yet n at w h = omega (arith, programs_counted text o None n w.kept.sound, w.opening.0)

  pub code_on : (opened : Option Program) (n at end : ℕ) → Walking text o opened n at → Next text at end → (k : ℕ)
      → take_bytes (stage_in text o opened n) (line_bytes text at end)
      ≡ added (stage_in text o opened n) (code (frame_code (frame_of (line_bytes text at end))))
      → length (frame_code (frame_of (line_bytes text at end))) ≡ k → 0 < length (stage_in text o opened n).job.programs → k ≤ length (line_bytes text at end)
      → Walking text o (option_map (λ p. code_added p k) opened) (n + 1) (end + 1)
  code_on None n at end w next k e l h g = absurd (none_yet n at w h)
  code_on (Some p) n at end w next k e l h g = open_code text o p n at end w next k e l g

  pub reloc_on : (opened : Option Program) (n at end : ℕ) → Walking text o opened n at → Next text at end → (x : Slot)
      → take_bytes (stage_in text o opened n) (line_bytes text at end)
      ≡ went (relocated (stage_in text o opened n) (relocation_at text x.place x.len x.map))
      → Resolved text (declared_maps text o) x.place x.len x.map → o.reloc_count < 256 → 0 < length (stage_in text o opened n).job.programs
      → frame_code (frame_of (line_bytes text at end)) ≡ [] → Walking text (with_slot o x) (option_map reloc_added opened) (n + 1) (end + 1)
  reloc_on None n at end w next x e r few h c = absurd (none_yet n at w h)
  reloc_on (Some p) n at end w next x e r few h c = open_reloc text o p n at end w next x e r few c

  -- the open program's numbers have room for a line more
  pub line_room : (opened : Option Program) (n at end : ℕ) → Walking text o opened n at → Next text at end → IfSome opened (λ p. p.lines < 65535)
  line_room None n at end w next = tt
  line_room (Some p) n at end w next = omega (arith, w.opening.few_lines, next.inside, next.framed.first, next.framed.few)

  pub code_room : (opened : Option Program) (n at end : ℕ) → Walking text o opened n at → Next text at end → (k : ℕ) → k ≤ length (line_bytes text at end)
      → IfSome opened (λ p. p.code_len + k < 65536)
  code_room None n at end w next k g = tt
  code_room (Some p) n at end w next k g =
      let f = next.framed in
      omega (arith, w.opening.few_bytes, next.inside, f.few, f.first, line_length text at end (omega (arith, f.first)) f.last f.hex)

  pub reloc_room : (opened : Option Program) (n at : ℕ) → Walking text o opened n at → IfSome opened (λ p. p.relocs < 65535)
  reloc_room None n at w = tt
  reloc_room (Some p) n at w = omega (arith, w.opening.slots, w.kept.sound.few_slots)

-- ---- a declaration, as the code builds it

module _ (text : List ℕ) (o : BpfObject) (opened : Option Program) (n at end : ℕ) (w : Walking text o opened n at) (next : Next text at end) where
  built_license : (m : Name) (r : Built) → r ≡ built_of o opened (License m) (end + 1)
      → Walking text (with_license o m).object opened (n + 1) (end + 1) → (r.answer ≡ Ok tt) × Walking text r.object r.opened (n + 1) (end + 1)
  built_license m r e k = rw e (refl, k)

  built_map : (d : MapDecl) (m : Name) (r : Built) → r ≡ built_of o opened (MapOf d m) (end + 1) → o.map_count < 64
      → Walking text (with_map o d m) opened (n + 1) (end + 1) → (r.answer ≡ Ok tt) × Walking text r.object r.opened (n + 1) (end + 1)
  built_map d m r e h k =
      let a : added_map o d m ≡ done (with_map o d m) = simp (lt-ltb o.map_count 64 h) in
      rw (e ∙ ap (λ (x : Added). built_with x opened) a) (refl, k)

  built_program : (a b : Name) (r : Built) → r ≡ built_of o opened (ProgramOf a b) (end + 1)
      → Walking text (closed_object o opened) (Some (opened_at a b (end + 1) o.reloc_count)) (n + 1) (end + 1)
      → (r.answer ≡ Ok tt) × Walking text r.object r.opened (n + 1) (end + 1)
  built_program a b r e k =
      rw (e ∙ ap (λ (x : Added). built_with x (Some (opened_at a b (end + 1) o.reloc_count))) (closing text o opened n at w).done) (refl, k)

  pub declared_on : (d : Declaration) (r : Built) → r ≡ built_of o opened d (end + 1)
      → take_bytes (stage_in text o opened n) (line_bytes text at end) ≡ added (stage_in text o opened n) (declaration_frame text d)
      → Declared text (stage_in text o opened n) d → (r.answer ≡ Ok tt) × Walking text r.object r.opened (n + 1) (end + 1)
  declared_on (License m) r e t k = built_license m r e (license_on text o opened n at end w next m t k.0 k.1)
  declared_on (MapOf d m) r e t k =
      built_map d m r e (omega (arith, k.1, maps_counted text o w.kept.sound)) (map_on text o opened n at end w next d m t k.0 k.1 k.2)
  declared_on (ProgramOf a b) r e t k = built_program a b r e (program_on text o opened n at end w next a b t k.0 k.1 k.2)

-- ---- what the judge is told

pub names : (text : List ℕ) (o : BpfObject) → Kept text o → Names text (take o.map_count o.maps)
names text o k i h = record { inside = (k.maps i h).inside; hex = (k.maps i h).hex }

pub few_maps : (o : BpfObject) → Sound o → length (take o.map_count o.maps) ≤ 64
few_maps o s = omega (arith, length-take-le o.map_count o.maps (omega (arith, s.maps, s.few_maps)), s.few_maps)

-- ---- the end of the text

pub ended : (text : List ℕ) (o : BpfObject) (opened : Option Program) (n at : ℕ) → Walking text o opened n at → length text ≤ at
    → accepted (job_in text (closed_object o opened)) ≡ take_lines empty (lines text)
ended text o opened n at w h =
    sym (w.whole ∙ ap (λ (l : List ℕ). take_lines (stage_in text o opened n) (lines l)) (read_done text at h) ∙ ap accepted (sym (closing text o opened n at w).job))

-- the answer at the text's end is the definition's
pub finished : (text : List ℕ) (o : BpfObject) (opened : Option Program) (n at : ℕ) (r : Parsed) → Walking text o opened n at → length text ≤ at
    → r ≡ finished_of o opened n → (parsed_in text r ≡ take_lines empty (lines text)) × ParsedKept text r
finished text o opened n at r w h e =
    let k = closing text o opened n at w in
    let z : r ≡ parsed_as (Ok tt) (closed_object o opened) = e ∙ ap (λ (x : Added). finished_with x n) k.done in
    rw z (ended text o opened n at w h, k.kept)
