-- The bytes up to the newline are gathered, and with the newline the line is ended, as the
-- definition does for the bytes one by one.
use mathlib.Core.Path.{refl}
use native.Mathlib.Omega.{arith}
use Rattle.base.proofs.Tests.{pick_yes, pick_no, lt_yes, lt_no}
use Rattle.session.proofs.Feeds.{found}
use Rattle.serving.specs.Serving.{going, next_line}
use Rattle.serving.proofs.next_line.Goals as goal

pub slice_bounds-put_all-count : goal.slice_bounds-put_all-count
slice_bounds-put_all-count c =
    let h = found _ _ _ c.newline_from-end.ensures c.requires in omega arith

pub slice_bounds-put_all-start : goal.slice_bounds-put_all-start
slice_bounds-put_all-start c =
    let h = found _ _ _ c.newline_from-end.ensures c.requires in omega arith

pub slice_bounds-put_all-end : goal.slice_bounds-put_all-end
slice_bounds-put_all-end c =
    let h = found _ _ _ c.newline_from-end.ensures c.requires in omega arith

pub returns-then-end-input : goal.returns-then-end-input
unfolding next_line going
returns-then-end-input c =
    rw (← c.newline_from-end.ensures, ← c.put_all-at.ensures)
    (pick_yes _ _ _ _ (lt_yes _ _ c.if-end-input.true) (rw c.ended-run.ensures))

pub returns : goal.returns
unfolding next_line going
returns c =
    rw (
      ← c.newline_from-end.ensures,
      ←
          c.put_all-at.ensures,
    )
    (pick_no _ _ _ _ (lt_no _ _ c.if-end-input.false) refl)
