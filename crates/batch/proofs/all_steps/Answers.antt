-- `all_steps` meets its contract: before each turn the n steps from the start come to the n - done
-- steps from here. `stride_and_step` goes on by its steps, and ends the run where its last one is
-- refused or leaves a count past its limit, after which a step is refused with code 2.
use mathlib.Core.Path.{sym, ◌∙◌}
use native.Mathlib.Omega.{arith}
use Rattle.batch.proofs.StrideAndStep.{refused_end, gone_on, spoilt_end, none_left}
use Rattle.batch.proofs.StrideAndStep.{refused_summed, on_summed, spoilt_summed}
use Rattle.batch.proofs.StrideAndStep.{none_summed, sizes_still}
use Rattle.batch.proofs.all_steps.Goals as goal

pub in_limits-requires : goal.in_limits-requires
in_limits-requires c =
    let gone = c.stride_and_step-gone.ensures.1 in record {
      r_le_most_slots = (sizes_still _ _ _ _ _ _ c.loop-done.invariant.passes gone.m gone.r).0;
      r_bound = (sizes_still _ _ _ _ _ _ c.loop-done.invariant.passes gone.m gone.r).1;
    }

pub loop-done-preserved : goal.loop-done-preserved
loop-done-preserved c =
    let gone = c.stride_and_step-gone.ensures.1 in
    let lt = c.loop-done-test.true in
    let most = c.stride_and_step-gone.ensures.0 in
    let done = sym c.code.ensures ∙ c.if-code-ne0.false in record {
      made = omega (arith, lt, most);
      passes = gone.passes (sym c.if-not-in_limits.false ∙ c.in_limits.ensures);
      limit = rw (gone.m, gone.r) c.loop-done.invariant.limit;
      rest = c.loop-done.invariant.rest
          ∙ gone_on _ _ _ _ _ _ gone _ _ _ _ (omega (arith, lt, most)) done;
      few = omega (arith, gone.few, c.loop-done.invariant.few);
      sum = on_summed _ _ _ _ _ _ gone _ _ _ c.loop-done.invariant.sum _
          (omega (arith, lt, most)) done;
    }

pub returns-then-code-ne0 : goal.returns-then-code-ne0
returns-then-code-ne0 c =
    let gone = c.stride_and_step-gone.ensures.1 in record {
      rec_value = refused_end _ _ _ _ _ _ gone _ _ _
          (omega (arith, c.loop-done-test.true, c.stride_and_step-gone.ensures.0))
          (λ z. c.if-code-ne0.true (c.code.ensures ∙ z)) ∙ sym c.loop-done.invariant.rest;
      changed_value = refused_summed _ _ _ _ _ _ gone _ _ _ c.loop-done.invariant.sum
          (omega (arith, c.loop-done-test.true, c.stride_and_step-gone.ensures.0))
          (λ z. c.if-code-ne0.true (c.code.ensures ∙ z));
    }

pub returns-then-not-in_limits : goal.returns-then-not-in_limits
returns-then-not-in_limits c =
    let gone = c.stride_and_step-gone.ensures.1 in
    let spoilt = sym c.if-not-in_limits.true ∙ c.in_limits.ensures in
    let done = sym c.code.ensures
    ∙ c.if-code-ne0.false in record {
      rec_value = spoilt_end _ _ _ _ _ _ gone spoilt done _ _ _ _
          (omega (arith, c.loop-done-test.true, c.stride_and_step-gone.ensures.0))
          c.ended-answer.ensures.0 c.ended-answer.ensures.1 ∙ sym c.loop-done.invariant.rest;
      changed_value = spoilt_summed _ _ _ _ _ _ gone _ _ _ c.loop-done.invariant.sum spoilt done
          (omega (arith, c.loop-done-test.true, c.stride_and_step-gone.ensures.0));
    }

pub returns-after-loop-done : goal.returns-after-loop-done
returns-after-loop-done c = record {
  rec_value = none_left _ _ _ _ (omega arith) ∙ sym c.loop-done.invariant.rest;
  changed_value = none_summed _ _ _ _ c.loop-done.invariant.sum (omega arith);
}
