-- Words that are no record's are refused with 2; else the sizes decide, and then the record's
-- tests.
use mathlib.Core.Path.{refl, sym, ◌∙◌}
use Rattle.base.proofs.Tests.{each, facts, pick_yes, pick_no}
use Rattle.rules.specs.Check.{size_ok, check_of}
use Rattle.record_words.specs.Words.{record_of, judged}
use Rattle.record_words.proofs.judge.Goals as goal

pub returns-then-not-is_record : goal.returns-then-not-is_record
unfolding judged check_of record_of
returns-then-not-is_record c =
    pick_no _ _ _ _ (sym c.if-not-is_record.true ∙ c.is_record.ensures) refl

pub returns-then-not-size_ok : goal.returns-then-not-size_ok
unfolding judged check_of record_of
returns-then-not-size_ok c =
    pick_yes _ _ _ _ (sym c.if-not-is_record.false ∙ c.is_record.ensures)
    (pick_no _ _ _ _ (sym c.if-not-size_ok.true ∙ c.size_ok.ensures) refl)

pub record_ok-requires : goal.record_ok-requires
unfolding size_ok
record_ok-requires c =
    let s = each _ (sym c.if-not-size_ok.false ∙ c.size_ok.ensures) in record {
      true_value = sym c.if-not-is_record.false ∙ c.is_record.ensures;
      w_bound = omega (facts, s);
      w_bound_2 = omega (facts, s);
      w_bound_3 = omega (facts, s);
    }

pub returns-then-not-record_ok : goal.returns-then-not-record_ok
unfolding judged check_of record_of
returns-then-not-record_ok c =
    pick_yes _ _ _ _ (sym c.if-not-is_record.false ∙ c.is_record.ensures)
    (pick_yes _ _ _ _ (sym c.if-not-size_ok.false ∙ c.size_ok.ensures)
    (pick_no _ _ _ _ (sym c.if-not-record_ok.true ∙ c.record_ok.ensures) refl))

pub returns : goal.returns
unfolding judged check_of record_of
returns c =
    pick_yes _ _ _ _ (sym c.if-not-is_record.false ∙ c.is_record.ensures)
    (pick_yes _ _ _ _ (sym c.if-not-size_ok.false ∙ c.size_ok.ensures)
    (pick_yes _ _ _ _ (sym c.if-not-record_ok.false ∙ c.record_ok.ensures) refl))
