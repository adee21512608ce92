-- `judge::judge_frame` meets its contract: one arm for each kind of frame. Assumes nothing.
use mathlib.Core.Path.{refl, ◌∙◌, ap, subst}
use mathlib.Core.Option.{some}
use native.Mathlib.Omega.{arith}
use lib.ListN.{length, drop, length-drop}
use Rattle.object.proofs.Read.{maps_length}
use Rattle.lines.proofs.Parts.{line_length}
use Rattle.frames.specs.Shown.{shown, Placed}
use Rattle.frames.specs.declared.Frame.{Frame}
use Rattle.judge.specs.Judged.{line_bytes}
use Rattle.judge.proofs.judge_frame.Goals as goal

pub returns-in-Code : goal.returns-in-Code
returns-in-Code c =
    let bytes = line_bytes c.args.text.now c.args.at c.args.end in
    let half = (let f = c.requires.framed in line_length c.args.text.now c.args.at c.args.end (omega (arith, f.first)) f.last f.hex) in
    λ s e h. c.judge_code.ensures s c.args.text.now bytes (drop 1 bytes) e ((c.requires.says ∙ ap (λ (x : Frame). some (shown bytes x)) c.in-Code.is)) (length-drop 1 bytes ∙ omega (arith, half)) (omega (arith, half))

pub returns-in-Instruction : goal.returns-in-Instruction
returns-in-Instruction c =
    let bytes = line_bytes c.args.text.now c.args.at c.args.end in
    λ s e h. c.judge_code-in-Instruction.ensures s c.args.text.now bytes _ e ((c.requires.says ∙ ap (λ (x : Frame). some (shown bytes x)) c.in-Instruction.is)) refl (omega (arith, (subst (Placed bytes) c.in-Instruction.is c.requires.placed)))

pub returns-in-Map : goal.returns-in-Map
returns-in-Map c = λ s e h. c.judge_map.ensures s e (ap length h ∙ maps_length c.args.text.now c.args.maps.now)
