-- A relocation's line: its offset and its name by their places in the text, and the lookup of its map.
use mathlib.Core.Path.{◌≡◌, sym, ◌∙◌, ap}
use mathlib.Core.Bool.{true}
use mathlib.Core.List.{List}
use Prim.Native.Nat.{ℕ, ◌+◌, ◌-◌, ◌/◌, ◌≤◌}
use native.Mathlib.Omega.{arith}
use lib.ListN.{take, drop}
use Rattle.std.specs.Prelude.{Option}
use Rattle.octets.specs.Told.{told}
use Rattle.lines.specs.Hex.{is_hex, bytes_in}
use Rattle.ast.specs.Job.{last_map}
use Rattle.ast.specs.declared.NamedMap.{NamedMap}
use Rattle.object.specs.Read.{bytes_at}
use Rattle.refusals.specs.Checked.{Stage}
use Rattle.lookup.specs.Names.{Finds, found_told}
use Rattle.judge.specs.Judged.{Framed, line_bytes, Held}
use Rattle.judge.proofs.Pieces.{middle, rest}

pub record Reading (text : List ℕ) (at end : ℕ) : Type 0 where
  pub offset : bytes_at text (at + 2) 8 ≡ take 8 (drop 1 (line_bytes text at end))
  pub hex : is_hex (take 16 (drop (at + 2) text)) ≡ true
  pub name : bytes_at text (at + 2 + 16) ((end - (at + 18)) / 2) ≡ drop 9 (line_bytes text at end)

pub reading : (text : List ℕ) (at end : ℕ) → Framed text at end → at + 18 ≤ end → Reading text at end
reading text at end f h =
    let o = middle text at end f 1 9 (at + 2) (at + 18) (omega arith) (omega arith) (omega arith) h in
    let n = rest text at end f 9 (at + 18) (omega arith) h in
    let e : (at + 18 - (at + 2)) / 2 ≡ 8 = omega arith in
    let p : at + 2 + 16 ≡ at + 18 = omega arith in
    let offset : bytes_at text (at + 2) 8 ≡ take 8 (drop 1 (line_bytes text at end)) = rw e at o.bytes in
    let name : bytes_at text (at + 2 + 16) ((end - (at + 18)) / 2) ≡ drop 9 (line_bytes text at end) = rw p n.bytes in
    record { offset = offset; hex = rw e at o.hex; name = name }

-- what a lookup finds among the maps is the last such map of the stage
pub looked : (text : List ℕ) (ms : List NamedMap) (part name : List ℕ) (r : Option ℕ) (s : Stage) → bytes_in part ≡ name → Held text ms s
    → Finds text ms (bytes_in part) r → found_told r ≡ told 7 (last_map name s.job.maps)
looked text ms part name r s b h f =
    f ∙ ap (told 7) (ap (last_map (bytes_in part)) (sym h) ∙ ap (λ (x : List ℕ). last_map x s.job.maps) b)
