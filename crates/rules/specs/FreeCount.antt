-- The section Free count of docs/RULES.md: how many nodes are free, as the record has it.
use Rattle.base.specs.Choice.{pick}
use Rattle.std.specs.Prelude.{eqb}
use Rattle.rules.specs.Table.{State, refused}
use Rattle.rules.specs.Check.{check}
use Rattle.rules.specs.declared.Answer.{Answer}
use Rattle.rules.specs.declared.Answer.TheVariants.{Counted}

-- [Free count 1] the record's count; [Free count 2] first the codes 1 and 2
unfoldable pub free_count : State → Answer
free_count s = pick (eqb (check s) 0) (Counted s.rec.free) (refused (check s) 0)
