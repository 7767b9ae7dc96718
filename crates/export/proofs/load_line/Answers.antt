-- `load_line` meets its contract: `noting` goes by what the line says, as the code does.
use mathlib.Core.Path.{sym, ◌∙◌}
use Rattle.session.specs.Feeding.{noting}
use Rattle.export.proofs.Filled.{noted_more, noted_last}
use Rattle.export.proofs.load_line.Goals as goal

pub returns-in_default : goal.returns-in_default
unfolding noting
returns-in_default c =
    rw (← c.entry_of.ensures, c.in_default.is) (c.stop.ensures _ _ _ _ _ _)

pub returns-then-more : goal.returns-then-more
returns-then-more c =
    rw (← c.entry_of.ensures, c.in-Some.is)
    (noted_more _ _ _ _ _ _ _ _ _ _ _ _ _ c.note.ensures.left c.note.ensures.right
    (sym c.if-more.true ∙ c.more.ensures.value))

pub returns : goal.returns
returns c =
    rw (← c.entry_of.ensures, c.in-Some.is)
    (noted_last _ _ _ _ _ _ _ _ _ _ _ _ _ c.note.ensures.left c.note.ensures.right
    (sym c.if-more.false ∙ c.more.ensures.value) _ (c.fill.ensures _))
