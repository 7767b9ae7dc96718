use mathlib.Core.Path.{refl, sym}
use Rattle.base.proofs.Tests.{pick_yes, pick_no}
use Rattle.record_words.specs.Words.{flagged}
use Rattle.record_words.proofs.flagged.Goals as goal

pub returns-then-told : goal.returns-then-told
unfolding flagged
returns-then-told c = pick_yes _ _ _ _ (sym c.if-told.true) c.if-told.true

pub returns-else-told : goal.returns-else-told
unfolding flagged
returns-else-told c = pick_no _ _ _ _ (sym c.if-told.false) refl
