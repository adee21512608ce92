-- `job::walk` meets its contract: each arm is one law of Walking or Steps. Assumes nothing.
use mathlib.Core.Path.{◌≡◌, refl, sym, ◌∙◌, ap, subst}
use mathlib.Core.List.{List}
use Prim.Native.Nat.{ℕ}
use native.Mathlib.Omega.{arith}
use lib.ListN.{take}
use Rattle.std.specs.Prelude.{Option, Result, Ok, Err}
use Rattle.std.proofs.Common.{rules}
use Rattle.ast.specs.declared.NamedMap.{NamedMap}
use Rattle.object.specs.Read.{maps_in}
use Rattle.object.specs.declared.BpfObject.{BpfObject}
use Rattle.object.specs.declared.Program.{Program}
use Rattle.refusals.specs.Checked.{Stage}
use Rattle.refusals.specs.declared.Refusal.{Refusal}
use Rattle.judge.specs.Judged.{Agrees, Held, Ordered, line_bytes}
use Rattle.judge.specs.declared.Counts.{Counts}
use Rattle.judge.specs.declared.Order.{Order}
use Rattle.job.specs.declared.Said.{Said}
use Rattle.job.specs.Walked.{Next, Saying, counts_in, stage_in}
use Rattle.job.proofs.Walking.{Walking, programs_counted}
use Rattle.job.proofs.Steps.{code_on, reloc_on, declared_on, code_room, finished}
use Rattle.job.proofs.walk.Goals as goal

-- what the table says of a line, in the stage before it
module _ (text : List ℕ) (o : BpfObject) (p : Option Program) (n at : ℕ) (w : Walking text o p n at) (k : Counts) (e : k ≡ counts_in o p n) (ms : List NamedMap)
    (m : ms ≡ take o.map_count o.maps) where
  agrees : Agrees (stage_in text o p n) k
  agrees = rw e (record { lines = refl; programs = programs_counted text o p n w.kept.sound; relocs = refl })

  said_of : (r : Result Said Refusal) → ((s : Stage) → Agrees s k → Held text ms s → Saying text at s r) → Saying text at (stage_in text o p n) r
  said_of r f = f (stage_in text o p n) agrees (ap (maps_in text) (sym m))

  -- a line that is taken, with the order that it gives
  taken_as : (x : Said) → ((s : Stage) → Agrees s k → Held text ms s → Saying text at s (Ok x)) → (d : Order) → x.order ≡ d
      → Next text at x.end × Ordered text (stage_in text o p n) (line_bytes text at x.end) d
  taken_as x f d is =
      let t = said_of (Ok x) f in
      (t.0, subst (Ordered text (stage_in text o p n) (line_bytes text at x.end)) is t.1)

-- ---- a refusal

pub returns-in_default-clause-result_value : goal.returns-in_default-clause-result_value
returns-in_default-clause-result_value c =
    let l = c.loop-at in
    let said = said_of c.args.text.now l.object l.opened l.count l.at l.invariant _ c.counts_so_far-counts.ensures _ c.maps.ensures (Err c.in_default.field-0) c.in_default.ensures.saying in
    let m : c.map.result ≡ Err c.in_default.field-0 = search rules in
    rw (c.ended.ensures, m) (sym (l.invariant.whole ∙ said))

-- ---- a line that is taken

pub loop-at-preserved-in-Ok-step : goal.loop-at-preserved-in-Ok-step
loop-at-preserved-in-Ok-step c =
    let text = c.args.text.now in
    let l = c.loop-at in
    let end = c.in-Ok.said.end in
    let (next, ordered) = taken_as text l.object l.opened l.count l.at l.invariant _ c.counts_so_far-counts.ensures _ c.maps.ensures c.in-Ok.said c.in-Ok.ensures.saying _ c.in-Declares.is in
    (declared_on text l.object l.opened l.count l.at end l.invariant next c.in-Declares.declaration c.build-built.result c.build-built.ensures ordered.0 ordered.1).1

-- a table is never full here
pub returns-in_default-step-clause-result_value : goal.returns-in_default-step-clause-result_value
returns-in_default-step-clause-result_value c =
    let text = c.args.text.now in
    let l = c.loop-at in
    let end = c.in-Ok.said.end in
    let (next, ordered) = taken_as text l.object l.opened l.count l.at l.invariant _ c.counts_so_far-counts.ensures _ c.maps.ensures c.in-Ok.said c.in-Ok.ensures.saying _ c.in-Declares.is in
    let built = (declared_on text l.object l.opened l.count l.at end l.invariant next c.in-Declares.declaration c.build-built.result c.build-built.ensures ordered.0 ordered.1).0 in
    let f = c.in_default-step.is in
    cc

-- ---- code and relocations

pub add_code-requires-clause-n_bound : goal.add_code-requires-clause-n_bound
add_code-requires-clause-n_bound c =
    let text = c.args.text.now in
    let l = c.loop-at in
    let end = c.in-Ok.said.end in
    let (next, ordered) = taken_as text l.object l.opened l.count l.at l.invariant _ c.counts_so_far-counts.ensures _ c.maps.ensures c.in-Ok.said c.in-Ok.ensures.saying _ c.in-Code.is in
    code_room text l.object l.opened l.count l.at end l.invariant next _ (omega (arith, ordered.3))

pub loop-at-preserved-in-Code : goal.loop-at-preserved-in-Code
loop-at-preserved-in-Code c =
    let text = c.args.text.now in
    let l = c.loop-at in
    let end = c.in-Ok.said.end in
    let (next, ordered) = taken_as text l.object l.opened l.count l.at l.invariant _ c.counts_so_far-counts.ensures _ c.maps.ensures c.in-Ok.said c.in-Ok.ensures.saying _ c.in-Code.is in
    rw c.add_code.ensures
    (code_on text l.object l.opened l.count l.at end l.invariant next c.in-Code.n ordered.0 ordered.1 ordered.2 ordered.3)

pub bounds-object-n : goal.bounds-object-n
bounds-object-n c =
    let text = c.args.text.now in
    let l = c.loop-at in
    let (next, ordered) = taken_as text l.object l.opened l.count l.at l.invariant _ c.counts_so_far-counts.ensures _ c.maps.ensures c.in-Ok.said c.in-Ok.ensures.saying _ c.in-Reloc.is in
    omega (arith, ordered.2, l.invariant.kept.sound.slots)

pub loop-at-preserved : goal.loop-at-preserved
loop-at-preserved c =
    let text = c.args.text.now in
    let l = c.loop-at in
    let end = c.in-Ok.said.end in
    let (next, ordered) = taken_as text l.object l.opened l.count l.at l.invariant _ c.counts_so_far-counts.ensures _ c.maps.ensures c.in-Ok.said c.in-Ok.ensures.saying _ c.in-Reloc.is in
    rw c.add_reloc.ensures
    (reloc_on text l.object l.opened l.count l.at end l.invariant next c.in-Reloc.slot ordered.0 ordered.1 ordered.2 ordered.3 ordered.4)

-- ---- the end

pub returns : goal.returns
returns c =
    let l = c.loop-at in
    let both = finished c.args.text.now l.object l.opened l.count l.at c.finish.result l.invariant (omega arith) c.finish.ensures in record {
      result_value = both.0;
      parsed_kept = both.1;
    }
