-- The tests stand in the definition's order. An edge of the free list that is not bad leads into
-- the table, so its node's own edge can be read.
use Prim.Native.Nat.{ℕ}
use mathlib.Core.Path.{refl, sym, ap, ◌∙◌}
use lib.ListN.{get_or}
use native.Mathlib.Omega.{arith}
use borrow.Author.Rules.{rules}
use Rattle.base.proofs.Tests.{tests, pick_yes, pick_no, eq_no}
use Rattle.rules.specs.Table.{edge_of}
use Rattle.rules.specs.Editor.{take_first}
use Rattle.rules.proofs.Changes.{unchanged}
use Rattle.rules.proofs.Laws.{fine_free}
use Rattle.take.proofs.take_first.Goals as goal

pub returns-then-bad_free : goal.returns-then-bad_free
unfolding take_first
returns-then-bad_free c = record {
  colour_value = rw c.refusal_with.ensures
      (pick_yes _ _ _ _ (sym c.if-bad_free.true ∙ c.bad_free.ensures) refl);
  changed_value = rw c.refusal_with.ensures (unchanged _);
}

pub returns-then-f-eq0 : goal.returns-then-f-eq0
unfolding take_first
returns-then-f-eq0 c =
    record {
      colour_value = rw c.refusal.ensures
          (pick_no _ _ _ _ (sym c.if-bad_free.false ∙ c.bad_free.ensures)
          (search (tests, rules) depth 12));
      changed_value = rw c.refusal.ensures (unchanged _);
    }

pub bounds-left-from : goal.bounds-left-from
bounds-left-from c =
    let h =
    fine_free _ _ _ (sym c.if-bad_free.false ∙ c.bad_free.ensures) in omega arith

pub take_next-requires : goal.take_next-requires
take_next-requires c =
    let h =
    fine_free _ _ _ (sym c.if-bad_free.false ∙ c.bad_free.ensures) in omega arith

pub returns : goal.returns
unfolding take_first edge_of
returns c =
    record {
      colour_value = pick_no _ _ _ _ (sym c.if-bad_free.false ∙ c.bad_free.ensures)
          (pick_no _ _ _ _ (eq_no _ _ c.if-f-eq0.false)
          (rw (← ap (λ (k : ℕ). get_or c.args.left.now k 0) c.from.ensures)
          c.take_next.ensures.colour_value));
      changed_value = c.take_next.ensures.changed_value;
    }
