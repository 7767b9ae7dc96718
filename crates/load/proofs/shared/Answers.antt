-- `shared` meets its contract: its tests are the definition's.
use Rattle.base.proofs.Tests.{tests}
use Rattle.rules.specs.Load.{is_shared}
use borrow.Author.Rules.{rules}
use Rattle.load.proofs.shared.Goals as goal

pub returns-then-free-at-ne0 : goal.returns-then-free-at-ne0
unfolding is_shared
returns-then-free-at-ne0 c =
    let free = rw c.from-at.ensures at c.if-free-at-ne0.true in
    rw c.from-at.ensures (search (tests, rules) depth 12)

pub returns-else-free-at-ne0 : goal.returns-else-free-at-ne0
unfolding is_shared
returns-else-free-at-ne0 c =
    let none = rw c.from-at.ensures at c.if-free-at-ne0.false in
    rw c.from-at.ensures (search (tests, rules) depth 12)
