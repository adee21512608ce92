-- `maker::build` meets its contract. Assumes nothing.
use mathlib.Core.Path.{◌≡◌, ◌∙◌, ap}
use mathlib.Core.List.{List}
use Prim.Native.Nat.{ℕ, ◌-◌, ◌*◌}
use native.Mathlib.Omega.{arith}
use lib.ListN.{take, drop}
use borrow.Rule.Slice.PartMut.{mid_len}
use Rattle.object.specs.Read.{job_in}
use Rattle.named.proofs.Names.{over-front}
use Rattle.elf.specs.Headers.{headers_bytes}
use Rattle.measure.specs.declared.Measured.{Measured}
use Rattle.measure.specs.Measured.{rows_of}
use Rattle.maker.proofs.Sizes.{few_headers, headers_long}
use Rattle.maker.proofs.build.Goals as goal

pub overflow_mul-headers : goal.overflow_mul-headers
overflow_mul-headers c =
    let is = c.measure-measured.ensures.value in
    let few = few_headers c.args.text.now c.args.object.now c.requires c.measure-measured.result is in
    omega (arith, few)

pub slice_bounds-encode-end-2 : goal.slice_bounds-encode-end-2
slice_bounds-encode-end-2 c =
    let is = c.measure-measured.ensures.value in
    let few = few_headers c.args.text.now c.args.object.now c.requires c.measure-measured.result is in
    omega (arith, few)

pub encode-requires : goal.encode-requires
encode-requires c =
    let is = c.measure-measured.ensures.value in
    let long = ap (λ (m : Measured). m.len) is in
    let a = c.args in
    let n = c.measure-measured.result.len in
    let k : n - 0 ≡ n = omega arith in
    let size = headers_long a.text.now a.object.now c.requires c.measure-measured.result is in
    let part = mid_len 0 n a.out.now (omega (arith, c.if-out-len.false)) ∙ k in record {
      kept = c.requires;
      sizes_of = c.weigh-weighed.ensures.sizes_of;
      small = c.weigh-weighed.ensures.small;
      types_value = c.weigh-weighed.ensures.types_value;
      measured_value = is;
      rows_value = ap (λ (l : List ℕ). take (64 * c.measure-measured.result.count - 0) (drop 0 l)) c.measure-measured.ensures.table_after ∙ over-front _ (headers_bytes (rows_of (job_in a.text.now a.object.now))) (64 * c.measure-measured.result.count) size;
      out_len = (part ∙ long, omega (arith, part, c.measure-measured.ensures.len_bound));
    }
