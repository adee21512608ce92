-- The table of refusals for one frame: its reasons one after the other, and what they do with a frame.
use mathlib.Core.Path.{◌≡◌}
use mathlib.Core.Bool.{Bool, true, false}
use mathlib.Core.Option.{Option, none, some}
use mathlib.Core.List.{List, [], ◌∷◌}
use Prim.Native.Nat.{ℕ}
use Rattle.ast.specs.Job.{last_map}
use Rattle.frames.specs.Frames.{Frame, relocation, frame_of}
use Rattle.refusals.specs.Checked.{Stage, reason, reasons, first, take_frame, take_bytes, went, stopped, relocated, added}

-- ---- a frame that is refused, and one that is taken

module _ (s : Stage) (f : Frame) (bs : List ℕ) (says : frame_of bs ≡ some f) where
  pub stops : (n : ℕ) → first (reasons s f) ≡ some n → take_bytes s bs ≡ stopped n
  stops n q = rw (says, take_bytes) (rw (q, take_frame))

  pub goes : first (reasons s f) ≡ none → take_bytes s bs ≡ added s f
  goes q = rw (says, take_bytes) (rw (q, take_frame))

-- bytes that give no frame
pub unread : (s : Stage) (bs : List ℕ) → frame_of bs ≡ none → take_bytes s bs ≡ stopped 3
unread s bs e = rw (e, take_bytes)

-- a relocation that no reason refuses is taken with the number of its map, or refused 7
module _ (s : Stage) (offset : ℕ) (name : List ℕ) where
  pub found : (k : ℕ) → last_map name s.job.maps ≡ some k → added s (relocation offset name) ≡ went (relocated s (record { offset = offset; map = name; number = k }))
  found k e = rw e

  pub missing : last_map name s.job.maps ≡ none → added s (relocation offset name) ≡ stopped 7
  missing e = rw e

-- ---- the three reasons to refuse a frame; a frame that may come anywhere lacks the first

module _ (misplaced bad over : Bool) where
  abbrev pub table : Option ℕ
  table = first (reason 4 misplaced ∷ reason 5 bad ∷ reason 6 over ∷ [])

  pub at_4 : misplaced ≡ true → table ≡ some 4
  at_4 a = rw a

  pub at_5 : misplaced ≡ false → bad ≡ true → table ≡ some 5
  at_5 a b = rw (a, b)

  pub at_6 : misplaced ≡ false → bad ≡ false → over ≡ true → table ≡ some 6
  at_6 a b c = rw (a, b, c)

  pub at_none : misplaced ≡ false → bad ≡ false → over ≡ false → table ≡ none
  at_none a b c = rw (a, b, c)
