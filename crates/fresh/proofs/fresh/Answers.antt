-- Where the sizes pass, M and R fit their widths and `fill` can be called; it leaves the
-- definition's table, and the record and the answer are the definition's.
use mathlib.Core.Path.{refl, ◌∙◌}
use Rattle.base.proofs.Tests.{facts, each, not_no, not_yes, pick_yes, pick_no}
use Rattle.rules.specs.Check.{size_ok}
use Rattle.rules.specs.Fresh.{fresh}
use Rattle.rules.proofs.Laws.{same}
use Rattle.fresh.proofs.fresh.Goals as goal

pub returns-then-not-size_ok : goal.returns-then-not-size_ok
unfolding fresh
returns-then-not-size_ok c =
    let bad = not_yes _ c.if-not-size_ok.true-raw ∙ c.size_ok.ensures in record { colour_value = rw (c.refusal.ensures, c.fresh.ensures) (pick_no _ _ _ _ bad refl); changed_value = rw c.refusal.ensures }

pub overflow_cast-nodes : goal.overflow_cast-nodes
unfolding size_ok
overflow_cast-nodes c = omega (facts, each _ (not_no _ c.if-not-size_ok.false-raw ∙ c.size_ok.ensures))

pub overflow_cast-slots : goal.overflow_cast-slots
unfolding size_ok
overflow_cast-slots c = omega (facts, each _ (not_no _ c.if-not-size_ok.false-raw ∙ c.size_ok.ensures))

pub fill-requires : goal.fill-requires
unfolding size_ok
fill-requires c =
    omega (
      facts,
      each _ (not_no _ c.if-not-size_ok.false-raw
          ∙ c.size_ok.ensures),
    )

pub last_of-last-requires : goal.last_of-last-requires
unfolding size_ok
last_of-last-requires c =
    omega (facts, each _ (not_no _ c.if-not-size_ok.false-raw ∙ c.size_ok.ensures))

pub overflow_add-free : goal.overflow_add-free
unfolding size_ok
overflow_add-free c =
    omega (facts, each _ (not_no _ c.if-not-size_ok.false-raw ∙ c.size_ok.ensures))

pub overflow_sub-free : goal.overflow_sub-free
unfolding size_ok
overflow_sub-free c =
    omega (facts, each _ (not_no _ c.if-not-size_ok.false-raw ∙ c.size_ok.ensures))

pub returns : goal.returns
unfolding fresh
returns c =
    record {
      colour_value = pick_yes _ _ _ _ (not_no _ c.if-not-size_ok.false-raw ∙ c.size_ok.ensures)
          (rw (← c.fill.ensures, ← c.last_of-last.ensures)
          (same _ _ _ _ _ _ _ _ refl c.fresh-2.ensures refl refl));
      changed_value = refl;
    }
