-- Frames: what the bytes of a line say. The first byte is the kind.
use Rattle.std.specs.Prelude.{Bool, true, false, cond, List, [], ◌∷◌, ℕ, ◌/◌, ◌%◌, length, take, drop, leb, eqb}
use Rattle.std.proofs.Math.Option.{Option, none, some}
use Rattle.octets.specs.Octets.{value}
use Rattle.insn.specs.Insn.{insn_bytes}
use Rattle.ast.specs.Numbers.{map_type_numbered, member_type_numbered}
use Rattle.ast.specs.declared.MapType.{MapType}
use Rattle.ast.specs.declared.Attr.{Attr}
use Rattle.ast.specs.declared.«Type».{«Type» as MemberType}
use Rattle.ast.specs.declared.Attr.TheVariants.{Absent, Present}

-- what a line says: `map_decl kind key value entries name`, `program section symbol`, `relocation offset map`
pub data Frame : Type 0 where
  licence : List ℕ → Frame
  map_decl : MapType → Attr MemberType → Attr MemberType → Attr ℕ → List ℕ → Frame
  program : List ℕ → List ℕ → Frame
  code : List ℕ → Frame
  relocation : ℕ → List ℕ → Frame

-- bit `b` of a presence byte, as 1, 2 or 4
abbrev pub bit : ℕ → ℕ → Bool
bit b p = eqb (p / b % 2) 1

-- an attribute read from the front of a frame, and what is left of the frame
pub record Read (A : Type 0) : Type 0 where
  pub attr : Attr A
  pub rest : List ℕ

-- a value at the front of what is left of a frame: a type, or a number of four bytes
abbrev pub take_type : List ℕ → Option (Read MemberType)
take_type [] = none
take_type (b ∷ bs) = elim (member_type_numbered b) [ none ↦ none | some t ↦ some (record { attr = Present t; rest = bs }) ]

abbrev pub take_count : List ℕ → Option (Read ℕ)
take_count bs = cond (leb 4 (length bs)) (some (record { attr = Present (value (take 4 bs)); rest = drop 4 bs })) none

-- an attribute, if it is there
abbrev pub attr_if : {A : Type 0} → (List ℕ → Option (Read A)) → Bool → List ℕ → Option (Read A)
attr_if taken true bs = taken bs
attr_if taken false bs = some (record { attr = Absent; rest = bs })

-- after a map's types: max_entries if it is present, then the name
abbrev pub map_entries : MapType → Attr MemberType → Attr MemberType → ℕ → List ℕ → Option Frame
map_entries t k v p bs =
    elim (attr_if take_count (bit 4 p) bs) [ none ↦ none | some n ↦ some (map_decl t k v n.attr n.rest) ]

-- those present, in the order key, value, max_entries; then the name
abbrev pub map_attrs : MapType → ℕ → List ℕ → Option Frame
map_attrs t p bs =
    elim (attr_if take_type (bit 1 p) bs) [
      | none ↦ none
      | some k ↦
          elim (attr_if take_type (bit 2 p) k.rest) [
            | none ↦ none
            | some v ↦ map_entries t k.attr v.attr p v.rest
          ]
    ]

-- a type number, a presence byte 0 to 7, and the rest
abbrev pub map_frame : List ℕ → Option Frame
map_frame [] = none
map_frame (t ∷ []) = none
map_frame (t ∷ p ∷ bs) = elim (map_type_numbered t) [ none ↦ none | some k ↦ cond (leb p 7) (map_attrs k p bs) none ]

-- the section name's length, the section name, the symbol's name
abbrev pub program_frame : List ℕ → Option Frame
program_frame [] = none
program_frame (n ∷ bs) = cond (leb n (length bs)) (some (program (take n bs) (drop n bs))) none

-- an offset of 8 bytes, and the map's name
abbrev pub relocation_frame : List ℕ → Option Frame
relocation_frame bs = cond (leb 8 (length bs)) (some (relocation (value (take 8 bs)) (drop 8 bs))) none

-- code, dst, src, 1 byte each; off 2; imm 4; exactly 9 bytes. A frame 06 counts as the code that it gives.
abbrev pub instruction_frame : List ℕ → Option Frame
instruction_frame [] = none
instruction_frame (c ∷ []) = none
instruction_frame (c ∷ d ∷ []) = none
instruction_frame (c ∷ d ∷ s ∷ bs) =
    cond (eqb (length bs) 6) (some (code (insn_bytes c d s (value (take 2 bs)) (value (drop 2 bs))))) none

-- the frame that bytes give, or none for an unknown kind, a wrong size, or a type or presence number that is not listed
abbrev pub frame_of : List ℕ → Option Frame
frame_of [] = none
frame_of (k ∷ bs) =
    cond (eqb k 1) (some (licence bs))
    (cond (eqb k 2) (map_frame bs)
    (cond (eqb k 3) (program_frame bs)
    (cond (eqb k 4) (some (code bs))
    (cond (eqb k 5) (relocation_frame bs)
    (cond (eqb k 6) (instruction_frame bs) none)))))
