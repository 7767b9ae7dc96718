-- Many collector steps in one call: the section Many of docs/RULES.md.
use Rattle.base.specs.Choice.{pick}
use Rattle.std.specs.Prelude.{ℕ, zero, suc, List, eqb}
use Rattle.rules.specs.Table.{State, refused, state}
use Rattle.rules.specs.Check.{check}
use Rattle.rules.specs.Steps.{step, collecting, code_of, detail_of}
use Rattle.rules.specs.Schedules.{Followed, followed}
use Rattle.rules.specs.declared.Answer.{Answer}
use Rattle.rules.specs.declared.Answer.TheVariants.{Named}
use Rattle.batch.specs.declared.Many.{Many}

-- what `collect_many` hands back, with the three slices as it leaves them
abbrev pub many : Many → List ℕ → List ℕ → List ℕ → Followed
many d l r c =
    followed d.done (code_of d.answer) (detail_of d.answer) (state l r c d.rec)

-- [Many 2] what the last of n steps answers, or the one that is refused; a where none is made
unfoldable pub answering : ℕ → Answer → State → Answer
answering zero a s = a
answering (suc n) a s =
    pick (eqb (code_of (step collecting s).answer) 0)
    (answering n (step collecting s).answer (step collecting s).state)
    (step collecting s).answer

-- [Many 3] codes 1 and 2 first; for no steps the answer is `Named 0`
unfoldable pub last_answer : ℕ → State → Answer
last_answer n s = pick (eqb (check s) 0) (answering n (Named 0) s) (refused (check s) 0)
