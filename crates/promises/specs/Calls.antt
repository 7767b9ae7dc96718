-- The public calls in Rattle, by the definitions that their contracts name.
use Rattle.std.specs.Prelude.{ℕ, List, [], ◌∷◌, take}
use Rattle.rules.specs.Table.{State, state}
use Rattle.rules.specs.Fresh.{fresh}
use Rattle.rules.specs.Load.{load}
use Rattle.rules.specs.Steps.{step, taking, linking, shading, collecting, looking, code_of}
use Rattle.rules.specs.Schedules.{schedule, collects}
use Rattle.freed.specs.Freed.{run_in}
use Rattle.rules.specs.declared.Record.{Record}
use Rattle.rules.specs.declared.Place.{Place}
use Rattle.rules.specs.declared.Step.{Step}
use Rattle.promises.specs.CallRuns.{lend, Deed, starts, makes, Face}

pub data Call : Type 0 where
  -- fresh::fresh, given M and R
  Fresh : ℕ → ℕ → Call
  -- load::load, given M, R and the lists of left and right edges
  Load : ℕ → ℕ → List ℕ → List ℕ → Call
  -- editor::look, editor::link, editor::shade
  Look : Place → Call
  Link : Place → ℕ → Place → Call
  Shade : Call
  -- take::take
  Take : Place → ℕ → Call
  -- collector::collect
  Collect : Call
  -- calls::step
  Any : Step → Call
  -- in_place::collect_in_place
  CollectInPlace : Call
  -- schedule::schedule
  Schedule : List Step → Call
  -- batch::collect_many
  CollectMany : ℕ → Call
  -- freed::collect_freed, given n and the list
  CollectFreed : ℕ → List ℕ → Call
  -- in_use::in_use
  InUse : Call
  -- free_count::free_count
  FreeCount : Call

-- the state that a call leaves; [In use 3] In use leaves it as it is, and so does Free count
unfoldable pub left_by : Call → State → State
left_by (Fresh m r) s = (fresh m r s.edges s.colour).state
left_by (Load m r lefts rights) s =
    (load m r (lefts ∷ rights ∷ []) s.edges s.colour).state
left_by (Look p) s = (step (looking p) s).state
left_by (Link p side q) s = (step (linking p side q) s).state
left_by Shade s = (step shading s).state
left_by (Take p side) s = (step (taking p side) s).state
left_by Collect s = (step collecting s).state
left_by (Any a) s = (step a s).state
left_by CollectInPlace s = (step collecting s).state
left_by (Schedule cs) s = (schedule cs s).state
left_by (CollectMany n) s = (schedule (collects n) s).state
left_by (CollectFreed n list) s = (run_in n list s).state
left_by InUse s = s
left_by FreeCount s = s

-- the steps that a call makes: of many, as many as were done; a refused one is done by itself only
unfoldable pub deed_of : Call → State → Deed
deed_of (Fresh m r) s = starts m r (code_of (fresh m r s.edges s.colour).answer)
deed_of (Load m r lefts rights) s =
    starts m r (code_of (load m r (lefts ∷ rights ∷ []) s.edges s.colour).answer)
deed_of (Look p) s = makes (looking p ∷ [])
deed_of (Link p side q) s = makes (linking p side q ∷ [])
deed_of Shade s = makes (shading ∷ [])
deed_of (Take p side) s = makes (taking p side ∷ [])
deed_of Collect s = makes (collecting ∷ [])
deed_of (Any a) s = makes (a ∷ [])
deed_of CollectInPlace s = makes (collecting ∷ [])
deed_of (Schedule cs) s = makes (take (schedule cs s).done cs)
deed_of (CollectMany n) s = makes (take (schedule (collects n) s).done (collects n))
deed_of (CollectFreed n list) s = makes (take (run_in n list s).done (collects n))
deed_of InUse s = makes []
deed_of FreeCount s = makes []

abbrev pub rattle : Face Call Record
rattle = record {
  record_in = λ x. x;
  leaves = λ c h. lend (λ x. x) (left_by c (state h.left h.right h.colour h.kept));
  deed = deed_of;
}
