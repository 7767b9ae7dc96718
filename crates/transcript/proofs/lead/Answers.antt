-- `lead` meets its contract: the bytes up to the first newline go into the line, and what the
-- newline does follows; or the input ends before one.
use mathlib.Core.Path.{sym, ◌∙◌}
use native.Mathlib.Omega.{arith}
use Rattle.session.proofs.Feeds.{found, newline_at}
use Rattle.transcript.proofs.Stands.{leads_over, leads_on, leads_rest}
use Rattle.transcript.proofs.lead.Goals as goal

pub returns-then-is_over-clause-leads : goal.returns-then-is_over-clause-leads
returns-then-is_over-clause-leads c =
    leads_over _ _ _ _ _ _ _ _ _ _ _ c.requires (sym c.if-is_over.true ∙ c.is_over.ensures)

pub slice_bounds-bytes-count : goal.slice_bounds-bytes-count
slice_bounds-bytes-count c =
    let h = found _ _ _ c.newline_from-end.ensures c.requires in
    omega arith

pub slice_bounds-bytes-start : goal.slice_bounds-bytes-start
slice_bounds-bytes-start c =
    let h = found _ _ _ c.newline_from-end.ensures c.requires in
    omega arith

pub slice_bounds-bytes-end : goal.slice_bounds-bytes-end
slice_bounds-bytes-end c =
    let h = found _ _ _ c.newline_from-end.ensures c.requires in
    omega arith

pub end_line-requires : goal.end_line-requires
end_line-requires c =
    let h = newline_at _ _ _ c.newline_from-end.ensures c.requires in
    record { i_in_bounds = c.if-end-input.true; i_value = h c.if-end-input.true }

pub returns-then-end-input-clause-leads : goal.returns-then-end-input-clause-leads
returns-then-end-input-clause-leads c =
    leads_on _ _ _ _ _ _ _ _ _ _ _ _ _ _ c.newline_from-end.ensures c.requires
    (sym c.if-is_over.false ∙ c.is_over.ensures) c.put_all-s.ensures _ _ c.end_line.ensures.leads

pub returns-clause-leads : goal.returns-clause-leads
returns-clause-leads c =
    leads_rest _ _ _ _ _ _ _ _ _ _ _ _ _ _ c.newline_from-end.ensures c.requires
    (sym c.if-is_over.false ∙ c.is_over.ensures) c.put_all-s.ensures c.if-end-input.false
