-- Writing sections one after the other: what is kept before each section, and what one section, or a row of them, does to it.
use mathlib.Core.Path.{◌≡◌, refl, sym, ◌∙◌, ap}
use mathlib.Core.Bool.{Bool, true, false, cond}
use mathlib.Core.List.{List, [], ◌∷◌, ◌++◌}
use Prim.Native.Nat.{ℕ, ◌+◌, ◌≤◌}
use native.Mathlib.Omega.{arith}
use lib.ListN.{length, take, drop}
use lib.Dec.{eqb}
use borrow.Author.Tests.{eq-eqb, ne_eqb}
use Rattle.std.specs.Prelude.{Option}
use Rattle.std.specs.Borrow.{MutBor}
use Rattle.std.specs.Fn.{Once}
use Rattle.octets.specs.Octets.{zeros}
use Rattle.octets.specs.Over.{over}
use Rattle.ast.specs.Job.{Map}
use Rattle.btf.specs.Btf.{btf_bytes}
use Rattle.btf.specs.Maps.{map_types, btf_types}
use Rattle.octets.specs.All.{All}
use Rattle.octets.proofs.Lists.{all_append}
use Rattle.octets.proofs.Going.{Going, over_nothing, go_start, go_as, go_on, go_done}
use Rattle.elf.specs.Elf.{Section, align_to, after, end_of, laid}
use Rattle.elf.specs.Added.{Alignment}
use Rattle.elf.proofs.Places.{Aligned, end_after, length-laid}
use Rattle.object.specs.declared.Slot.{Slot}
use Rattle.object.specs.declared.Program.{Program}
use Rattle.object.specs.Read.{code_of, body}
use Rattle.contents.specs.Slots.{slots_bytes}
use Rattle.sections.specs.Pieces.{bare, own_pieces, program_pieces, map_pieces, Fits, Room, Wrote}
use Rattle.sections.proofs.Laid.{laid-append, end_append, fits_room}

-- `all` are to be written from `start` on over `d`; they are written up to `end`, and `rest` is to come
pub record Turn (d : List ℕ) (start : ℕ) (all : List Section) (out : List ℕ) (end : ℕ) (rest : List Section) : Type 0 where
  pub going : Going d start (laid start all) out end (laid end rest)
  pub ends : end_of end rest ≡ end_of start all
  pub aligned : All Aligned rest

pub turn_start : (d : List ℕ) (start : ℕ) (all : List Section) → All Aligned all → end_of start all ≤ length d → Turn d start all d start all
turn_start d start all a h = record { going = go_start d start (laid start all) (omega (arith, length-laid start all a)); ends = refl; aligned = a }

module _ {d : List ℕ} {start : ℕ} {all : List Section} {out : List ℕ} {end : ℕ} where
  -- the next section has its place
  pub turn_fits : (size : ℕ) (s : Section) (rest : List Section) → Turn d start all out end (s ∷ rest) → Alignment s.align → size ≡ length s.contents → length d ≤ 200000000
      → Fits out end size s
  turn_fits size s rest t a n short =
      let later = end_after (after end s) rest t.aligned.1 in
      let l = length-laid end (s ∷ rest) t.aligned in
      record { aligned = a; long = n; room = omega (arith, n, t.going.left, t.going.room, t.going.same); short = omega (arith, t.going.same) }

  -- one section more
  pub turn_on : (s : Section) (rest : List Section) (out' : List ℕ) (end' : ℕ) → Turn d start all out end (s ∷ rest)
      → out' ≡ over out end (laid end (s ∷ [])) → end' ≡ end_of end (s ∷ []) → Turn d start all out' end' rest
  turn_on s rest out' end' t e g =
      let one : All Aligned (s ∷ []) = (t.aligned.0, tt) in
      let len : end' ≡ end + length (laid end (s ∷ [])) = g ∙ sym (length-laid end (s ∷ []) one) in
      rw g
      (record {
        going = go_on (laid end (s ∷ [])) (laid (after end s) rest) out' (after end s) (go_as _ (laid-append end (s ∷ []) rest) t.going) e (sym g ∙ len);
        ends = t.ends;
        aligned = t.aligned.1;
      })

  -- the same of a section that is laid: it has room, and then the bytes that were left are its contents
  pub turn_room : (size : ℕ) (s : Section) (rest : List Section) → Turn d start all out end (s ∷ rest) → Alignment s.align → size ≡ length s.contents → length d ≤ 200000000
      → Room out end s.align size
  turn_room size s rest t a n short = fits_room (turn_fits size s rest t a n short)

  pub turn_lay : {F : Type 0} {g : Once F (MutBor (List ℕ) × Unit {0}) (Unit {0} × (MutBor (List ℕ) × Unit {0}))} {write : F} {size : ℕ} {out' : List ℕ} {end' : ℕ} (s : Section) (rest : List Section)
      → Turn d start all out end (s ∷ rest) → size ≡ length s.contents → (w : Wrote g write out end s.align size out') → end' ≡ align_to s.align end + size → w.bytes ≡ s.contents → Turn d start all out' end' rest
  turn_lay {F} {g} {write} {size} {out'} {end'} s rest t n w e b =
      turn_on s rest out' end' t (w.is ∙ ap (λ (x : List ℕ). over out end (laid end (bare s.align x ∷ []))) b) (e ∙ ap (λ (k : ℕ). align_to s.align end + k) n)

  pub turn_done : Turn d start all out end [] → (out ≡ over d start (laid start all)) × (end ≡ end_of start all)
  turn_done t = ((go_done t.going).0, t.ends)

-- ---- programs

pub aligned_own : (text : List ℕ) (part : List (Option Slot)) (p : Program) → All Aligned (own_pieces text part p)
aligned_own text part p = (omega arith, go (eqb p.relocs 0))
  where
    go : (b : Bool) → All Aligned (cond b [] (bare 8 (slots_bytes text part) ∷ []))
    go true = tt
    go false = (omega arith, tt)

pub aligned_programs : (text : List ℕ) (slots : List (Option Slot)) (ps : List Program) → All Aligned (program_pieces text slots ps)
aligned_programs text slots [] = tt
aligned_programs text slots (p ∷ ps) =
    let part = take p.relocs (drop p.first slots) in
    all_append Aligned (own_pieces text part p) (program_pieces text slots ps) (aligned_own text part p) (aligned_programs text slots ps)

-- a program with relocations has them after its code
pub some_rels : (text : List ℕ) (part : List (Option Slot)) (p : Program) → (p.relocs ≡ 0 → ⊥)
    → own_pieces text part p ≡ bare 8 (code_of (body text p.from p.lines)) ∷ bare 8 (slots_bytes text part) ∷ []
some_rels text part p e = rw (ne_eqb p.relocs 0 e)

-- ---- maps

-- if no section is to be written, the output and the end stay as they are
pub nothing_laid : (out : List ℕ) (end : ℕ) (ss : List Section) → ss ≡ [] → (out ≡ over out end (laid end ss)) × (end ≡ end_of end ss)
nothing_laid out end ss e = (sym (ap (λ (x : List Section). over out end (laid end x)) e ∙ over_nothing out end), sym (ap (end_of end) e))

pub no_maps : (count : ℕ) (ms : List Map) → count ≡ 0 → map_pieces count ms ≡ []
no_maps count ms e = rw (eq-eqb count 0 e)

pub some_maps : (count : ℕ) (ms : List Map) → (count ≡ 0 → ⊥)
    → map_pieces count ms ≡ bare 8 (zeros (map_types 6 0 ms).size) ∷ bare 4 (btf_bytes (btf_types ms)) ∷ []
some_maps count ms e = rw (ne_eqb count 0 e)

-- ---- rows in a row

aligned_both : (xs ys : List Section) → All Aligned (xs ++ ys) → All Aligned xs × All Aligned ys
aligned_both [] ys a = (tt, a)
aligned_both (x ∷ xs) ys a = let r = aligned_both xs ys a.1 in ((a.0, r.0), r.1)

module _ {d : List ℕ} {start : ℕ} {all : List Section} {out : List ℕ} {end : ℕ} where
  -- a row has room
  pub row_room : (xs ys : List Section) → Turn d start all out end (xs ++ ys) → end_of end xs ≤ length out
  row_room xs ys t =
      let a = aligned_both xs ys t.aligned in
      let later = end_after (end_of end xs) ys a.1 in
      let l = length-laid end (xs ++ ys) t.aligned in
      omega (arith, t.going.left, t.going.room, t.going.same, end_append end xs ys)

  -- a row more
  pub row_on : (xs ys : List Section) (out' : List ℕ) (end' : ℕ) → Turn d start all out end (xs ++ ys)
      → out' ≡ over out end (laid end xs) → end' ≡ end_of end xs → Turn d start all out' end' ys
  row_on xs ys out' end' t e g =
      let a = aligned_both xs ys t.aligned in
      let len : end' ≡ end + length (laid end xs) = g ∙ sym (length-laid end xs a.0) in
      rw g
      (record {
        going = go_on (laid end xs) (laid (end_of end xs) ys) out' (end_of end xs) (go_as _ (laid-append end xs ys) t.going) e (sym g ∙ len);
        ends = sym (end_append end xs ys) ∙ t.ends;
        aligned = a.1;
      })
