-- The calls for C, over words, by the definitions that their contracts name.
use Rattle.std.specs.Prelude.{ℕ, List, [], ◌∷◌, get_or, take}
use Rattle.rules.specs.Table.{State}
use Rattle.rules.specs.Fresh.{fresh}
use Rattle.rules.specs.Load.{load}
use Rattle.rules.specs.InUse.{in_use}
use Rattle.rules.specs.FreeCount.{free_count}
use Rattle.rules.specs.Steps.{step, taking, linking, shading, collecting, looking, code_of}
use Rattle.rules.specs.Schedules.{Followed, schedule, collects}
use Rattle.rules.specs.declared.Place.{Place}
use Rattle.rules.specs.declared.Step.{Step}
use Rattle.rules.specs.declared.Answer.{Answer}
use Rattle.freed.specs.Freed.{run_in}
use Rattle.record_words.specs.Words.{record_of}
use Rattle.jenturik_c.specs.Face.{Faced, face, shown, asking}
use Rattle.jenturik_c.specs.Flat.{steps_of, schedule_of}
use Rattle.jenturik_c.specs.Many.{FacedRun, face_run}
use Rattle.promises.specs.CallRuns.{Lent, lent, Deed, starts, makes, Face}

-- jenturik_fresh, jenturik_look, .., given what C gives; a schedule as words. Load is given M, R
-- and the lists of left and right edges; the steps that note the nodes that become free, the list.
pub data Call : Type 0 where
  Fresh : ℕ → ℕ → Call
  Load : ℕ → ℕ → List ℕ → List ℕ → Call
  Look : Place → Call
  InUse : Call
  FreeCount : Call
  Link : Place → ℕ → Place → Call
  Shade : Call
  Take : Place → ℕ → Call
  Collect : Call
  CollectMany : ℕ → Call
  CollectFreed : ℕ → List ℕ → Call
  Schedule : List ℕ → Call

-- the slices and the words that a call leaves
abbrev pub left_in : Faced → Lent (List ℕ)
left_in f = lent (get_or f.edges 0 []) (get_or f.edges 1 []) f.colour f.words

abbrev pub left_in_run : FacedRun → Lent (List ℕ)
left_in_run f = lent (get_or f.edges 0 []) (get_or f.edges 1 []) f.colour f.words

-- a call that is one step, and one that is many
abbrev pub once : Step → Lent (List ℕ) → Lent (List ℕ)
once a h = left_in (face (step a) h.left h.right h.colour h.kept)

abbrev pub many : (State → Followed) → Lent (List ℕ) → Lent (List ℕ)
many f h = left_in_run (face_run f h.left h.right h.colour h.kept)

-- and one that only answers
abbrev pub asked : (State → Answer) → Lent (List ℕ) → Lent (List ℕ)
asked f h = left_in (face (asking f) h.left h.right h.colour h.kept)

unfoldable pub left_by : Call → Lent (List ℕ) → Lent (List ℕ)
left_by (Fresh m r) h = left_in (shown (fresh m r (h.left ∷ h.right ∷ []) h.colour))
left_by (Load m r lefts rights) h =
    left_in (shown (load m r (lefts ∷ rights ∷ []) (h.left ∷ h.right ∷ []) h.colour))
left_by (Look p) h = once (looking p) h
left_by InUse h = asked in_use h
left_by FreeCount h = asked free_count h
left_by (Link p side q) h = once (linking p side q) h
left_by Shade h = once shading h
left_by (Take p side) h = once (taking p side) h
left_by Collect h = once collecting h
left_by (CollectMany n) h = many (schedule (collects n)) h
left_by (CollectFreed n list) h = many (run_in n list) h
left_by (Schedule v) h = many (schedule_of v) h

-- the steps that a call makes: of many, as many as were done. Words that are no record's make none;
-- of those nothing is known, since a start writes a record's.
unfoldable pub deed_of : Call → State → Deed
deed_of (Fresh m r) s = starts m r (code_of (fresh m r s.edges s.colour).answer)
deed_of (Load m r lefts rights) s =
    starts m r (code_of (load m r (lefts ∷ rights ∷ []) s.edges s.colour).answer)
deed_of (Look p) s = makes (looking p ∷ [])
deed_of InUse s = makes []
deed_of FreeCount s = makes []
deed_of (Link p side q) s = makes (linking p side q ∷ [])
deed_of Shade s = makes (shading ∷ [])
deed_of (Take p side) s = makes (taking p side ∷ [])
deed_of Collect s = makes (collecting ∷ [])
deed_of (CollectMany n) s = makes (take (schedule (collects n) s).done (collects n))
deed_of (CollectFreed n list) s = makes (take (run_in n list s).done (collects n))
deed_of (Schedule v) s = makes (take (schedule_of v s).done (steps_of v))

abbrev pub words : Face Call (List ℕ)
words = record { record_in = record_of; leaves = left_by; deed = deed_of }
