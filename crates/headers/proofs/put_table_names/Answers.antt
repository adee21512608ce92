-- `headers::put_table_names` meets its contract: three names. Assumes nothing.
use mathlib.Core.List.{[], ◌∷◌, ◌++◌}
use Prim.Native.Nat.{◌≤◌}
use native.Mathlib.Omega.{arith}
use lib.ListN.{length}
use Rattle.octets.specs.Octets.{ascii}
use Rattle.octets.proofs.Filling.{over_two}
use Rattle.headers.proofs.put_table_names.Goals as goal

pub returns : goal.returns
returns c =
    let a = c.args in
    let first = ascii ".symtab" ++ (0 ∷ []) in
    let second = ascii ".strtab" ++ (0 ∷ []) in
    let third = ascii ".shstrtab" ++ (0 ∷ []) in
    let h : a.at ≤ length a.out.now = omega (arith, c.requires) in
    let e = over_two a.out.now a.at first second _ _ c.put_string_at-strtab.result h c.put_string_at-strtab.ensures.out_after c.put_string_at-strtab.ensures.value c.put_string_at-shstrtab.ensures.out_after in
    over_two a.out.now a.at (first ++ second) third _ _ c.put_string_at-shstrtab.result h e
    (omega (arith, c.put_string_at-strtab.ensures.value, c.put_string_at-shstrtab.ensures.value)) c.put_string_at.ensures.out_after
