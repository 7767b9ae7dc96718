-- `free_count` meets its contract: a code of the check is answered as it is; where there is none,
-- the record's count is.
use Prim.Native.Nat.{ℕ}
use mathlib.Core.Path.{refl, ap}
use Rattle.base.proofs.Tests.{pick_yes, pick_no, code_yes, code_no}
use Rattle.rules.specs.Table.{refused}
use Rattle.rules.specs.FreeCount.{free_count}
use Rattle.free_count.proofs.free_count.Goals as goal

pub returns-then-code-ne0 : goal.returns-then-code-ne0
unfolding free_count
returns-then-code-ne0 c =
    let code = c.check-code.ensures in
    rw c.refused.ensures
    (pick_no _ _ _ _ (code_no _ _ _ code c.if-code-ne0.true)
    (ap (λ (k : ℕ). refused k 0) code))

pub returns : goal.returns
unfolding free_count
returns c =
    pick_yes _ _ _ _ (code_yes _ _ _ c.check-code.ensures c.if-code-ne0.false) refl
