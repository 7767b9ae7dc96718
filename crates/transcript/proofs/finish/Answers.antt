-- `finish` meets its contract: a line at hand is ended by a newline, and an export that is not
-- complete ends the run.
use mathlib.Core.Path.{sym, ◌∙◌}
use Rattle.transcript.proofs.Stands.{stage_of_lem, finish_bare, finish_line}
use Rattle.transcript.proofs.finish.Goals as goal

pub returns-then-bare : goal.returns-then-bare
returns-then-bare c =
    finish_bare _ _ _ _ _ _ _ _ _ _ _ _ (stage_of_lem _ _ _ _ _ _ _ _ _)
    (c.closed.ensures _ _ _ _ _ _)
    (sym c.if-bare.true ∙ c.bare.ensures)
    (c.emptied.ensures _ _ _ _ _ _ _)

pub returns : goal.returns
returns c =
    finish_line _ _ _ _ _ _ _ _ _ _ _ _ (stage_of_lem _ _ _ _ _ _ _ _ _)
    (c.closed-2.ensures _ _ _ _ _ _)
    (sym c.if-bare.false ∙ c.bare.ensures) c.block-t.ensures
