-- [C 10] What the last of many steps answers has a code of five bits and a detail of three, so that
-- one byte holds both. By the cases of the collector's step.
use Prim.Native.Nat.{ℕ, zero, suc, ◌<◌}
use native.Mathlib.Omega.{arith}
use Rattle.base.proofs.Tests.{split}
use Rattle.rules.specs.Table.{State, Outcome}
use Rattle.rules.specs.Steps.{step, collecting, code_of, detail_of}
use Rattle.rules.specs.declared.Answer.{Answer}
use Rattle.rules.specs.declared.Answer.TheVariants.{Named}
use Rattle.rules.proofs.Refusals.{check_early}
use Rattle.rules.proofs.PhaseSteps.{collect_comes}
use Rattle.rules.proofs.Laws.{step_collecting}
use Rattle.batch.specs.Last.{answering, last_answer}

abbrev pub Small : Answer → Type 0
Small a = (code_of a < 32) × (detail_of a < 8)

collected : (s : State) → Small (step collecting s).answer
collected s = rw step_collecting (collect_comes s (λ (o : Outcome). Small o.answer) record {
  stays = λ a t. (omega (arith, t.2), omega (arith, t.3));
  shades = λ n p h k. (omega arith, omega arith);
  looks = λ i p h k. (omega arith, omega arith);
  marks = λ i k. (omega arith, omega arith);
  blackens = λ i h k. (omega arith, omega arith);
  whitens = λ i e h. (omega arith, omega arith);
  appends = λ i e l h w. (omega arith, omega arith);
})

answers : (n : ℕ) (a : Answer) (s : State) → Small a → Small (answering n a s)
unfolding answering
answers zero a s h = h
answers (suc n) a s h =
    split Small _ _ _ (λ q. answers n _ _ (collected s)) (λ q. collected s)

pub last_small : (n : ℕ) (s : State) → Small (last_answer n s)
unfolding last_answer
last_small n s =
    split Small _ _ _ (λ q. answers n (Named 0) s (omega arith, omega arith))
    (λ q. (omega (arith, (check_early s).0), omega arith))
