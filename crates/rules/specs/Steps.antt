-- One step, of any kind; the answers' numbers: the sections Steps and Answers of docs/RULES.md.
use Rattle.base.specs.Choice.{pick, first}
use Rattle.std.specs.Prelude.{ℕ, List, [], ◌∷◌, eqb}
use Rattle.rules.specs.Table.{State, Outcome, refuse}
use Rattle.rules.specs.Check.{check}
use Rattle.rules.specs.Editor.{look, link, shade_owed, take}
use Rattle.rules.specs.Collector.{collect}
use Rattle.rules.specs.declared.Place.{Place}
use Rattle.rules.specs.declared.Step.{Step}
use Rattle.rules.specs.declared.Answer.{Answer}
use Rattle.rules.specs.declared.Answer.TheVariants.{Started, Named, Linked, Taken, Shaded}
use Rattle.rules.specs.declared.Answer.TheVariants.{Looked, Blackened, Whitened, Appended}
use Rattle.rules.specs.declared.Answer.TheVariants.{Counted, Refused}

-- [Steps 1] the source place, and the target's
abbrev pub source : Step → Place
source a = record { slot = a.slot; count = a.count; word = a.word }

abbrev pub target : Step → Place
target a = record { slot = a.toslot; count = a.tocount; word = a.toword }

-- [Steps 2] the kinds; [Steps 3] each is given the numbers that it needs; [Steps 4] any other kind
-- cannot be read [Codes 10]
unfoldable pub step : Step → State → Outcome
step a s =
    pick (eqb a.kind 0) (take (source a) a.side s)
    (pick (eqb a.kind 1) (link (source a) a.side (target a) s)
    (pick (eqb a.kind 2) (shade_owed s)
    (pick (eqb a.kind 3) (collect s)
    (pick (eqb a.kind 4) (look (source a) s)
    (refuse s (first (check s ∷ 10 ∷ [])) 0)))))

-- [Runs 1] a run: each step, one moment [Calls 2], is given what the one before left, refused ones
-- too
unfoldable pub run : List Step → State → State
run [] s = s
run (a ∷ rest) s = run rest (step a s).state

-- the step that each call makes
abbrev pub step_of : ℕ → Place → ℕ → Place → Step
step_of kind p side q =
    record {
      kind =
          kind;
      slot = p.slot;
      count = p.count;
      word = p.word;
      side = side;
      toslot = q.slot;
      tocount = q.count;
      toword = q.word;
    }

-- [Steps 3] numbers that a kind does not need
abbrev pub unread : Place
unread = record { slot = 0; count = 0; word = 0 }

abbrev pub taking : Place → ℕ → Step
taking p side = step_of 0 p side unread

abbrev pub linking : Place → ℕ → Place → Step
linking p side q = step_of 1 p side q

abbrev pub shading : Step
shading = step_of 2 unread 0 unread

abbrev pub collecting : Step
collecting = step_of 3 unread 0 unread

abbrev pub looking : Place → Step
looking p = step_of 4 p 0 unread

-- [Answers 2] the code of an answer, [Codes 0] 0 where the call was done
abbrev pub code_of : Answer → ℕ
code_of (Started n) = 0
code_of (Named n) = 0
code_of (Linked n) = 0
code_of (Taken n) = 0
code_of (Shaded n) = 0
code_of (Looked n) = 0
code_of (Blackened n) = 0
code_of (Whitened n) = 0
code_of (Appended n) = 0
code_of (Counted k) = 0
code_of (Refused code n detail) = code

-- [Answers 2] and the node, or the number of nodes counted
abbrev pub node_of : Answer → ℕ
node_of (Started n) = n
node_of (Named n) = n
node_of (Linked n) = n
node_of (Taken n) = n
node_of (Shaded n) = n
node_of (Looked n) = n
node_of (Blackened n) = n
node_of (Whitened n) = n
node_of (Appended n) = n
node_of (Counted k) = k
node_of (Refused code n detail) = n

-- [Answers 5] and the detail, 0 where the call was done
abbrev pub detail_of : Answer → ℕ
detail_of (Started n) = 0
detail_of (Named n) = 0
detail_of (Linked n) = 0
detail_of (Taken n) = 0
detail_of (Shaded n) = 0
detail_of (Looked n) = 0
detail_of (Blackened n) = 0
detail_of (Whitened n) = 0
detail_of (Appended n) = 0
detail_of (Counted k) = 0
detail_of (Refused code n detail) = detail
