-- The tests stand in the definition's order. An edge of the free list that is not bad leads into
-- the table, so both colours can be read and both nodes shaded.
use Prim.Native.Nat.{ℕ}
use mathlib.Core.Path.{refl, sym, ap, ◌∙◌}
use lib.ListN.{get_or}
use native.Mathlib.Omega.{arith}
use borrow.Author.Rules.{rules}
use Rattle.base.proofs.Tests.{tests, pick_yes, pick_no, eq_yes, lt_no, eq_no}
use Rattle.rules.specs.Editor.{take_next}
use Rattle.rules.specs.Records.{with_last}
use Rattle.rules.specs.declared.Record.{Record}
use Rattle.rules.proofs.Changes.{unchanged}
use Rattle.rules.proofs.Laws.{fine_free}
use Rattle.places.proofs.Arrivals.{leaves, leaves_shaded}
use Rattle.take.proofs.Shades.{at_most_one, summed}
use Rattle.take.proofs.take_next.Goals as goal

pub returns-then-bad_free : goal.returns-then-bad_free
unfolding take_next
returns-then-bad_free c = record {
  colour_value = rw c.refusal_with.ensures
      (pick_yes _ _ _ _ (sym c.if-bad_free.true ∙ c.bad_free.ensures) refl);
  changed_value = rw c.refusal_with.ensures (unchanged _);
}

pub returns-then-colour-from-gt-BLACK : goal.returns-then-colour-from-gt-BLACK
unfolding take_next
returns-then-colour-from-gt-BLACK c =
    record {
      colour_value = rw c.refusal.ensures
          (pick_no _ _ _ _ (sym c.if-bad_free.false ∙ c.bad_free.ensures)
          (search (tests, rules) depth 12));
      changed_value = rw c.refusal.ensures (unchanged _);
    }

pub returns-then-g-eq0 : goal.returns-then-g-eq0
unfolding take_next
returns-then-g-eq0 c =
    record {
      colour_value = pick_no _ _ _ _ (sym c.if-bad_free.false ∙ c.bad_free.ensures)
          (pick_no _ _ _ _ (rw (← ap (λ (k : ℕ). get_or c.args.colour.now k 0) c.from.ensures) (lt_no _ _ c.if-colour-from-gt-BLACK.false))
          (pick_yes _ _ _ _ (eq_yes _ _ c.if-g-eq0.true)
          (leaves _ c.args.x _ _ _ _ _ _
          (c.relink-changed.ensures.x_value c.args.x)
          (c.with_last.ensures ∙ ap (λ (y : Record). with_last y 1)
          c.less_free.ensures))));
      changed_value = c.relink-changed.ensures.value;
    }

pub bounds-colour-from-2 : goal.bounds-colour-from-2
bounds-colour-from-2 c = let h =
    fine_free _ _ _ (sym c.if-bad_free.false
    ∙ c.bad_free.ensures) in omega arith

pub returns-then-colour-from-gt-BLACK-2 : goal.returns-then-colour-from-gt-BLACK-2
unfolding take_next
returns-then-colour-from-gt-BLACK-2 c =
    record {
      colour_value = rw c.refusal-then-colour-from-gt-BLACK-2.ensures
          (pick_no _ _ _ _ (sym c.if-bad_free.false ∙ c.bad_free.ensures)
          (search (tests, rules) depth 12));
      changed_value = rw c.refusal-then-colour-from-gt-BLACK-2.ensures (unchanged _);
    }

pub shade_node-after-requires : goal.shade_node-after-requires
shade_node-after-requires c =
    let h =
    fine_free _ _ _ (sym c.if-bad_free.false ∙ c.bad_free.ensures) in omega arith

pub overflow_add-changed : goal.overflow_add-changed
overflow_add-changed c =
    let taken = c.relink-taken.ensures in
    let after = c.shade_node-after.ensures in
    let a = at_most_one _ _ _ _ taken.colour_value taken.value in
    let b = at_most_one _ _ _ _ after.colour_value after.value in omega arith

pub returns : goal.returns
unfolding take_next
returns c =
    let next = fine_free _ _ _ (sym c.if-bad_free.false ∙ c.bad_free.ensures) in
    let taken = c.relink-taken.ensures in
    let after = c.shade_node-after.ensures in record {
      colour_value = pick_no _ _ _ _ (sym c.if-bad_free.false ∙ c.bad_free.ensures)
          (pick_no _ _ _ _ (rw (← ap (λ (k : ℕ). get_or c.args.colour.now k 0) c.from.ensures) (lt_no _ _ c.if-colour-from-gt-BLACK.false))
          (pick_no _ _ _ _ (eq_no _ _ c.if-g-eq0.false)
          (pick_no _ _ _ _ (rw (← ap (λ (k : ℕ). get_or c.args.colour.now k 0) c.from-2.ensures) (lt_no _ _ c.if-colour-from-gt-BLACK-2.false))
          (rw c.less_free-2.ensures (leaves_shaded _ c.args.x _ _ _ _ _ _ _
          (taken.x_value c.args.x) after.colour_value)))));
      changed_value = summed _ _ _ _ _ _ _ (omega (arith, c.requires)) (omega (arith, c.requires))
          taken.colour_value after.colour_value taken.value after.value;
    }
