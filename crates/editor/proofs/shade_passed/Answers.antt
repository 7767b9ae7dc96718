-- The node owed lies in the table, which is all that `pay` asks.
use mathlib.Core.Path.{refl}
use Rattle.rules.specs.Editor.{shade_owed}
use Rattle.rules.proofs.Changes.{told}
use Rattle.rules.proofs.Checked.{good, owable}
use Rattle.rules.proofs.Laws.{unless_done, step_shading}
use Rattle.editor.proofs.shade_passed.Goals as goal

pub pay-requires : goal.pay-requires
pay-requires c =
    let g = good _ _ _ _ c.requires in
    rw g.colours (owable _ _ _ c.requires)

pub returns : goal.returns
unfolding shade_owed
returns c =
    let done = c.pay.ensures in
    told _ _ _ _ _ _ (rw step_shading (unless_done _ _ _ 0 _
    c.requires refl (done.by_index _))) done.changed_value
