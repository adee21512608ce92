-- `types::add_ints` meets its contract: five pieces. Assumes nothing.
use mathlib.Core.List.{List, [], ◌++◌}
use Prim.Native.Nat.{ℕ}
use Rattle.octets.proofs.Going.{go_start, go_done}
use Rattle.btf.specs.declared.BtfBuilder.{BtfBuilder}
use Rattle.btf.specs.Maps.{int_types}
use Rattle.btf.specs.Builder.{new_builder, bytes_at}
use Rattle.types.proofs.Ints.{int_piece, Known, int_on}
use Rattle.types.proofs.add_ints.Goals as goal

-- the builder after `k` ints, and what is still to come
abbrev behind : ℕ → ℕ → ℕ → BtfBuilder
behind at strings next = record { at = at; strings = strings; next_type_id = next }

abbrev rest₄ : List ℕ
rest₄ = int_piece 17 8 1

abbrev rest₃ : List ℕ
rest₃ = int_piece 13 4 1 ++ rest₄

abbrev rest₂ : List ℕ
rest₂ = int_piece 9 8 0 ++ rest₃

abbrev rest₁ : List ℕ
rest₁ = int_piece 5 4 0 ++ rest₂

pub returns-clause-out_after : goal.returns-clause-out_after
returns-clause-out_after c =
    let d = c.args.out.now in
    let known₀ : Known d (bytes_at 1 int_types) d c.new-none.result new_builder (int_piece 1 4 1 ++ rest₁) =
    record { is = c.new-none.ensures; going = go_start d 0 (bytes_at 1 int_types) c.requires } in
    let known₁ = int_on new_builder 4 1 rest₁ known₀ _ c.add_int-int.result c.add_int-int.ensures.out_after c.add_int-int.ensures.value in
    let known₂ = int_on (behind 16 5 2) 4 0 rest₂ known₁ _ c.add_int-u32_int.result c.add_int-u32_int.ensures.out_after c.add_int-u32_int.ensures.value in
    let known₃ = int_on (behind 32 9 3) 8 0 rest₃ known₂ _ c.add_int-u64_int.result c.add_int-u64_int.ensures.out_after c.add_int-u64_int.ensures.value in
    let known₄ = int_on (behind 48 13 4) 4 1 rest₄ known₃ _ c.add_int-i32_int.result c.add_int-i32_int.ensures.out_after c.add_int-i32_int.ensures.value in
    (go_done (int_on (behind 64 17 5) 8 1 [] known₄ _ c.add_int.result c.add_int.ensures.out_after c.add_int.ensures.value).going).0
