-- `octets::get_le` meets its contract. Assumes nothing.
use native.Mathlib.Omega.{arith}
use Rattle.octets.specs.Octets.{value}
use Rattle.octets.proofs.Reading.{back_on, back_fits, back_done, value_below}
use Rattle.octets.proofs.get_le.Goals as goal

pub overflow_mul-v : goal.overflow_mul-v
overflow_mul-v c = omega (arith, back_fits c.args.s.now _ _ c.loop-b.v c.requires c.type_inv.s c.in-Some.ensures.steps c.loop-b.invariant)

pub overflow_add-v : goal.overflow_add-v
overflow_add-v c = omega (arith, back_fits c.args.s.now _ _ c.loop-b.v c.requires c.type_inv.s c.in-Some.ensures.steps c.loop-b.invariant)

pub loop-b-preserved : goal.loop-b-preserved
loop-b-preserved c = back_on (value c.args.s.now) _ _ c.loop-b.v c.in-Some.ensures.steps c.loop-b.invariant

pub returns-clause-value : goal.returns-clause-value
returns-clause-value c = back_done _ _ _ c.in-None.ensures.steps.0 c.loop-b.invariant

pub returns-clause-upper_bound : goal.returns-clause-upper_bound
returns-clause-upper_bound c =
    omega (arith, value_below c.args.s.now c.type_inv.s, back_done _ _ _ c.in-None.ensures.steps.0 c.loop-b.invariant)
