-- The code's answer as a frame of the definition: the answer has numbers and places, and the frame's lists are parts of the line's bytes
-- `bs`. `Placed` says that the places are within those bytes.
use Rattle.std.specs.Prelude.{Option, Some, None, ◌≡◌, List, ℕ, ◌-◌, ◌≤◌, length, take, drop, get_or}
use Rattle.octets.specs.Octets.{value}
use Rattle.octets.specs.Told.{Told, gives, refuses}
use Rattle.insn.specs.Insn.{insn_bytes}
use Rattle.frames.specs.Frames as model
use Rattle.frames.specs.declared.Frame.{Frame}
use Rattle.frames.specs.declared.Frame.TheVariants.{Licence, Map, Program, Code, Relocation, Instruction}

abbrev pub shown : List ℕ → Frame → model.Frame
shown bs Licence = model.licence (drop 1 bs)
shown bs (Map d at) = model.map_decl d.map_type d.key_type d.value_type d.max_entries (drop at bs)
shown bs (Program at) = model.program (take (at - 2) (drop 2 bs)) (drop at bs)
shown bs Code = model.code (drop 1 bs)
shown bs Relocation = model.relocation (value (take 8 (drop 1 bs))) (drop 9 bs)
shown bs Instruction =
    model.code (insn_bytes (get_or bs 1 0) (get_or bs 2 0) (get_or bs 3 0) (value (take 2 (drop 4 bs))) (value (drop 6 bs)))

-- the places are within the frame
abbrev pub Placed : List ℕ → Frame → Type 0
Placed bs Licence = 1 ≤ length bs
Placed bs (Map d at) = (3 ≤ at) × (at ≤ length bs)
Placed bs (Program at) = (2 ≤ at) × (at ≤ length bs)
Placed bs Code = 1 ≤ length bs
Placed bs Relocation = 9 ≤ length bs
Placed bs Instruction = length bs ≡ 10

-- what reading a line says: its frame, or refusal 3
abbrev pub frame_told : List ℕ → Option Frame → Told model.Frame
frame_told bs (Some f) = gives (shown bs f)
frame_told bs None = refuses 3

abbrev pub PlacedRead : List ℕ → Option Frame → Type 0
PlacedRead bs (Some f) = Placed bs f
PlacedRead bs None = Unit
