-- A name in the text: its part of the text, its bytes and how many they are.
use mathlib.Core.Path.{◌≡◌, ap}
use mathlib.Core.Bool.{true}
use mathlib.Core.List.{List}
use Prim.Native.Nat.{ℕ, ◌+◌, ◌-◌, ◌*◌}
use native.Mathlib.Omega.{arith}
use lib.ListN.{length, take, drop, length-drop}
use lib.Seq.{length-take-le}
use Rattle.lines.specs.Hex.{is_hex, bytes_in}
use Rattle.lines.proofs.Bytes.{bytes_length}
use Rattle.ast.specs.declared.Name.{Name}
use Rattle.object.specs.Read.{name_in}
use Rattle.object.specs.Kept.{Named}

module _ (text : List ℕ) (n : Name) (known : Named text n) where
  ends : n.at + 2 * n.len - n.at ≡ 2 * n.len
  ends = omega arith

  pub part_hex : is_hex (take (n.at + 2 * n.len - n.at) (drop n.at text)) ≡ true
  part_hex = rw ends known.hex

  pub part_length : length (take (n.at + 2 * n.len - n.at) (drop n.at text)) ≡ 2 * n.len
  part_length = rw ends (length-take-le (2 * n.len) (drop n.at text) (rw length-drop (omega (arith, known.inside))))

  pub part_name : bytes_in (take (n.at + 2 * n.len - n.at) (drop n.at text)) ≡ name_in text n
  part_name = ap (λ (k : ℕ). bytes_in (take k (drop n.at text))) ends

  pub name_length : length (name_in text n) ≡ n.len
  name_length = omega (arith, bytes_length (take (n.at + 2 * n.len - n.at) (drop n.at text)) part_hex, part_length, ap length part_name)
