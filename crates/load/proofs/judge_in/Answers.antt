-- `judge_in` meets its contract: the chain found is what is judged, by the first shared node; its
-- marks are as many zeros as there are nodes, or more.
use mathlib.Core.Path.{◌∙◌}
use native.Mathlib.Omega.{arith}
use Rattle.std.proofs.lemmas.Result.{err_from_is_err_and}
use Rattle.load.proofs.Answers.{judge_broken, judge_shared, judge_whole, judge_zeros}
use Rattle.load.proofs.judge_in.Goals as goal

pub returns-in_err-whole-clause-answer_value : goal.returns-in_err-whole-clause-answer_value
returns-in_err-whole-clause-answer_value g c =
    let p = err_from_is_err_and c.from_residual.result c.from_residual.ensures.1 in
    rw (p.1, p.2) (judge_broken _ _ _ _ _ _ c.in_err-whole.ensures.answer_value
    ∙ judge_zeros _ _ _ _ c.requires.below g.row.N (omega (arith, c.requires.m_in_bounds))
    (omega arith))

pub returns-in-Some-clause-answer_value : goal.returns-in-Some-clause-answer_value
returns-in-Some-clause-answer_value g c =
    judge_shared _ _ _ _ _ _ c.in_ok-whole.ensures.answer_value _ c.in-Some.ensures
    ∙ judge_zeros _ _ _ _ c.requires.below g.row.N (omega (arith, c.requires.m_in_bounds))
    (omega arith)

pub returns-in-None-clause-answer_value : goal.returns-in-None-clause-answer_value
returns-in-None-clause-answer_value g c =
    judge_whole _ _ _ _ _ _ c.in_ok-whole.ensures.answer_value c.in-None.ensures
    ∙ judge_zeros _ _ _ _ c.requires.below g.row.N (omega (arith, c.requires.m_in_bounds))
    (omega arith)
