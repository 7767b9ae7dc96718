-- `collect_many` meets its contract: codes 1 and 2 are judged first, as in the definition, and from
-- a record that passes n steps of `more` are the schedule of n collector steps.
use mathlib.Core.Path.{sym, ◌∙◌}
use native.Mathlib.Omega.{arith}
use Rattle.rules.proofs.Checked.{good}
use Rattle.rules.proofs.Sums.{sum_none}
use Rattle.batch.proofs.Last.{scheduled, unscheduled}
use Rattle.batch.proofs.collect_many.Goals as goal

pub returns-then-code-ne0 : goal.returns-then-code-ne0
returns-then-code-ne0 c =
    let code = c.check-code.ensures in record {
      colour_value = rw c.refused.ensures (unscheduled _ _ _ code c.if-code-ne0.true);
      changed_value = sym (sum_none _ _ (λ z. c.if-code-ne0.true (code ∙ z)));
    }

pub bound-requires : goal.bound-requires
bound-requires c = let g =
    good _ _ _ _ (sym c.if-code-ne0.false
    ∙ c.check-code.ensures) in record {
      m_le_most_nodes = omega arith;
      r_le_most_slots = omega arith;
    }

pub returns-clause-colour_value : goal.returns-clause-colour_value
returns-clause-colour_value c =
    scheduled _ _ _ _ _ (record { code = sym c.if-code-ne0.false ∙ c.check-code.ensures })
    c.all_steps.ensures.rec_value
