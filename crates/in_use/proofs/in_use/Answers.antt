-- `in_use` meets its contract: a code of the check is answered as it is; where there is none, the
-- record is good, which is all that `count` asks.
use mathlib.Core.Path.{sym, ◌∙◌}
use native.Mathlib.Omega.{arith}
use Rattle.rules.proofs.Checked.{good}
use Rattle.in_use.proofs.Laws.{in_use_refused, in_use_counted}
use Rattle.in_use.proofs.in_use.Goals as goal

pub returns-then-code-ne0 : goal.returns-then-code-ne0
returns-then-code-ne0 c =
    rw c.refused.ensures (in_use_refused _ _ c.check-code.ensures c.if-code-ne0.true)

pub invariant_of-count : goal.invariant_of-count
invariant_of-count c =
    let g = good _ _ _ _ (sym c.if-code-ne0.false ∙ c.check-code.ensures) in
    record {
      m_le_most_nodes = omega arith;
      r_le_most_slots = omega arith;
      r_bound = omega arith;
      left_len = omega arith;
      right_len = omega arith;
    }

pub returns : goal.returns
returns c =
    in_use_counted _ _ c.check-code.ensures _ c.if-code-ne0.false c.count.ensures
