-- Each arm is a case of the definition; a node that may be owed lies in the table.
use mathlib.Core.Path.{subst}
use lib.ListN.{length}
use native.Mathlib.Omega.{arith}
use borrow.Author.Rules.{rules}
use Rattle.base.proofs.Tests.{tests}
use Rattle.rules.specs.Editor.{pay}
use Rattle.rules.specs.Facts.{Owable}
use Rattle.rules.proofs.Changes.{unchanged}
use Rattle.rules.proofs.Laws.{same}
use Rattle.editor.proofs.pay.Goals as goal

pub bounds-colour-from : goal.bounds-colour-from
bounds-colour-from c = let h =
    subst (Owable (length c.args.colour.now))
    c.in-Some.is c.requires in
    omega arith

pub returns-then-colour-from-gt-BLACK : goal.returns-then-colour-from-gt-BLACK
unfolding pay
returns-then-colour-from-gt-BLACK c = record {
  by_index = λ es. rw (c.refusal-then-colour-from-gt-BLACK.ensures, c.in-Some.is)
      (search (tests, rules) depth 12);
  changed_value = rw c.refusal-then-colour-from-gt-BLACK.ensures (unchanged _);
}

pub shade_node-changed-requires : goal.shade_node-changed-requires
shade_node-changed-requires c =
    let h =
    subst (Owable (length c.args.colour.now))
    c.in-Some.is c.requires in omega arith

pub returns-in-None : goal.returns-in-None
unfolding pay
returns-in-None c = record { by_index = λ es. rw (c.refusal.ensures, c.in-None.is); changed_value = rw c.refusal.ensures (unchanged _) }

pub returns-else-colour-from-gt-BLACK : goal.returns-else-colour-from-gt-BLACK
unfolding pay
returns-else-colour-from-gt-BLACK c =
    record { by_index = λ es. rw c.in-Some.is (search (same, tests, rules) depth 12); changed_value = search rules }
