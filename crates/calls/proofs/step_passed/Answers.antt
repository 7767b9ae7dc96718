-- For each kind, the call that is made has the definition's step of that kind by its own
-- contract; a kind above 4 is refused as the definition says.
use Rattle.calls.proofs.Named.{kind_take, kind_shade, kind_collect, kind_look}
use Rattle.rules.proofs.Changes.{told_none}
use Rattle.rules.proofs.Checked.{good, inside}
use Rattle.calls.proofs.Named.{kind_none, named, collected, none_read}
use native.Mathlib.Omega.{arith}
use Rattle.calls.proofs.step_passed.Goals as goal

pub returns-in-0 : goal.returns-in-0
returns-in-0 c =
    named _ _ _ _ _ c.take_passed.ensures
    (kind_take _ _ _ c.source.ensures c.in-0.is)

pub returns-in-2 : goal.returns-in-2
returns-in-2 c =
    named _ _ _ _ _ c.shade_passed.ensures (kind_shade _ _ c.in-2.is)

pub phase_step-requires : goal.phase_step-requires
phase_step-requires c =
    let code = c.requires in
    record { checked = good _ _ _ _ code; in_range = inside _ _ _ code }

pub returns-in-3 : goal.returns-in-3
returns-in-3 c =
    let code = c.requires in
    let done = c.phase_step.ensures in
    named _ _ _ _ _
    (collected c.phase_step.result _ _ _ _ code done.colour_value done.changed_value)
    (kind_collect _ _ c.in-3.is)

pub returns-in-4 : goal.returns-in-4
returns-in-4 c =
    named _ _ _ _ _ c.look_passed.ensures (kind_look _ _ _ c.source-in-4.ensures
    c.in-4.is)

pub returns-in_default : goal.returns-in_default
returns-in_default c =
    told_none _ _ _ _ _ (rw c.refusal.ensures
    (kind_none _ _ _ (none_read _ c.requires) (λ q. omega arith) (λ q. omega arith)
    (λ q. omega arith) (λ q. omega arith) (λ q. omega arith))) (rw c.refusal.ensures)
