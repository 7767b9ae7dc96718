-- `turns` meets its contract: before each turn the fold from the start comes to the fold from here.
-- A turn goes on by its steps, and ends the run where its last one is refused.
use mathlib.Core.Path.{sym, ◌∙◌}
use native.Mathlib.Omega.{arith}
use Rattle.freed.proofs.Gathers.{goes_on, ends_refused, ends_done, ends_full}
use Rattle.freed.proofs.Notes.{within, still, room_left, room_used}
use Rattle.freed.proofs.turns.Goals as goal

pub returns-then-code-ne0 : goal.returns-then-code-ne0
returns-then-code-ne0 c =
    let inv = c.loop-done.invariant in
    let code = c.code-code.ensures in
    let lt = room_left _ _ _ _ c.from.ensures c.if-from-list.true inv.3 in record {
      count_in_bounds = omega (arith, inv.3, inv.5);
      list_value = rw (c.detail.ensures, code) (ends_refused _ _ _ _ _ _ _ _ _ _ c.turn-gone.ensures
          lt _ (λ z. c.if-code-ne0.true (code ∙ z))
          ∙ sym inv.7);
      list_value_2 = inv.8;
    }

pub loop-done-preserved : goal.loop-done-preserved
loop-done-preserved c =
    let inv = c.loop-done.invariant in
    let turn = c.turn-gone.ensures in
    let lt = room_left _ _ _ _ c.from.ensures c.if-from-list.true inv.3 in
    let done = sym c.code-code.ensures ∙ c.if-code-ne0.false in
    let note = c.note-count.ensures in (
      omega arith,
      omega arith,
      omega arith,
      omega arith,
      omega (arith, inv.4, turn.most),
      within _ _ _ _ note.value lt,
      omega (arith, inv.6, turn.few),
      inv.7
          ∙ goes_on _ _ _ _ _ _ _ _ _ _ turn lt _ done _ _ note.value note.list_value,
      note.list_value_2 ∙ still _ _ _ _ _ note.value inv.8,
    )

pub returns-else-from-list : goal.returns-else-from-list
returns-else-from-list c =
    let inv = c.loop-done.invariant in
    let full = room_used _ _ _ _ c.from.ensures c.if-from-list.false inv.3 in record {
      count_in_bounds = omega (arith, inv.3, inv.5);
      list_value = ends_full _ _ _ _ _ _ _ full ∙ sym inv.7;
      list_value_2 = inv.8;
    }

pub returns-after-loop-done : goal.returns-after-loop-done
returns-after-loop-done c =
    let inv = c.loop-done.invariant in record {
      count_in_bounds = omega (arith, inv.3, inv.5);
      list_value = ends_done _ _ _ _ _ _ c.loop-done-test.false ∙ sym inv.7;
      list_value_2 = inv.8;
    }
