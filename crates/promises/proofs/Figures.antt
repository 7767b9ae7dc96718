-- The figures of docs/RULES.md but the last, as one table that the checker computes: what is
-- computed beside what is told.
use Prim.Native.Nat.{ℕ, ◌+◌}
use mathlib.Core.Path.{◌≡◌, refl}
use mathlib.Core.List.{List, [], ◌∷◌, map, ◌++◌}
use lib.Dec.{eqb}
use lib.ListN.{get_or}
use Rattle.base.specs.Choice.{pick, every, first}
use Rattle.rules.specs.Table.{State, Outcome, unless, edge_of, with_edge, cleared, shade_in, bad_edge}
use Rattle.rules.specs.Records.{one_more, after_append}
use Rattle.rules.specs.Check.{size_ok, position_ok, second_ok, phase_ok, owed_ok, last_ok, free_ok}
use Rattle.rules.specs.Check.{bound, cycle_ok, told_ok, counts_ok, record_ok, check_of}
use Rattle.rules.specs.Fresh.{tabulate, next_free, fresh_left, fresh_last, fresh_state, fresh}
use Rattle.rules.specs.Places.{sides_ok, turns_ok, place_code, walk_from, arrive}
use Rattle.rules.specs.Editor.{side_code, owed_code, look, depart, link_to, link, pay, shade_owed}
use Rattle.rules.specs.Editor.{bad_free, relink, take_next, take_first, take}
use Rattle.rules.specs.Collector.{shade_step, after_roots, scan_step, read_step, black_step, append}
use Rattle.rules.specs.Collector.{append_white, append_step, phase_step, collect}
use Rattle.rules.specs.Phases.{position}
use Rattle.rules.specs.Steps.{step, run, taking, linking, shading, collecting, looking, code_of}
use Rattle.rules.specs.Steps.{node_of}
use Rattle.rules.specs.Schedules.{collects}
use Rattle.rules.specs.Meet.{blank, visit, visit_slots, visit_edges, visit_from, meet, lowest, any_edge}
use Rattle.rules.specs.InUse.{is_hurt, first_hurt, count_met, in_use}
use Rattle.rules.specs.FreeCount.{free_count}
use Rattle.rules.specs.declared.Place.{Place}
use Rattle.rules.specs.declared.Step.{Step}
use Rattle.rules.specs.declared.Answer.{Answer}
use Rattle.rules.specs.declared.Answer.TheVariants.{Started, Named, Linked, Taken, Shaded, Looked}
use Rattle.rules.specs.declared.Answer.TheVariants.{Blackened, Whitened, Appended, Counted}
use Rattle.rules.specs.declared.Answer.TheVariants.{Refused}

-- code and node of an answer
abbrev shown : Answer → List ℕ
shown a = code_of a ∷ node_of a ∷ []

-- what each step of a run answers
abbrev answers : List Step → State → List (List ℕ)
answers [] s = []
answers (a ∷ rest) s = shown (step a s).answer ∷ answers rest (step a s).state

-- a place: so many turns from slot 0, by a word
abbrev pub at : ℕ → ℕ → Place
at count word = record { slot = 0; count = count; word = word }

-- Fresh on slices of M entries that hold something else
abbrev starts : ℕ → ℕ → Outcome
starts m r =
    fresh m r (tabulate (λ n. n + 7) m ∷ tabulate (λ n. n + 7) m ∷ []) (tabulate (λ n. n + 7) m)

abbrev pub three : State
three = (starts 3 1).state

abbrev pub five : State
five = (starts 5 1).state

-- after a cycle without an edit
abbrev quiet : State
quiet = run (collects 43) five

-- cycles completed, steps of this one, of the last one, nodes blackened by the last marking
abbrev counts : State → List ℕ
counts s = s.rec.cycles ∷ s.rec.steps ∷ s.rec.took ∷ s.rec.lastblackened ∷ []

-- how many of these edges lead to n
abbrev edges_to : ℕ → List ℕ → ℕ
edges_to n [] = 0
edges_to n (e ∷ es) = pick (eqb e n) 1 0 + edges_to n es

-- the worked listing's five lines before the collecting
abbrev edits : List Step
edits =
    taking (at 0 0) 0 ∷ taking (at 0 0) 1 ∷ taking (at 0 0) 0 ∷ linking (at 0 0) 0
    (at 1 1) ∷ shading ∷ []

-- the listing's state after them and so many collector steps
abbrev worked : ℕ → State
worked n = run (collects n) (run edits five)

-- the node appended, 0 where none was
abbrev appended : Answer → ℕ
appended (Started n) = 0
appended (Named n) = 0
appended (Linked n) = 0
appended (Taken n) = 0
appended (Shaded n) = 0
appended (Looked n) = 0
appended (Blackened n) = 0
appended (Whitened n) = 0
appended (Appended n) = n
appended (Counted k) = 0
appended (Refused code n detail) = 0

-- the position's i
pub record Figure : Type 0 where
  pub computed : List (List ℕ)
  pub told : List (List ℕ)

abbrev figure : List (List ℕ) → List (List ℕ) → Figure
figure c t = record { computed = c; told = t }

abbrev pub table : List Figure
table =
    -- [Figures 1] left edges, last, Take; the counts after 26, 27 and 54 steps; B
    figure
    (get_or three.edges 0 [] ∷ (three.rec.last ∷ []) ∷ answers (taking (at 0 0) 0 ∷ []) three ++
    counts (run (collects 26) three) ∷ counts (run (collects 27) three) ∷ counts
    (run (collects 54) three) ∷ (bound 2 3 1 ∷ []) ∷ [])
    ((0 ∷ 0 ∷ 0 ∷ []) ∷ (1 ∷ []) ∷ (9 ∷ 0 ∷ []) ∷ (0 ∷ 26 ∷ 0 ∷ 3 ∷ []) ∷ (1 ∷ 0 ∷ 27 ∷ 3 ∷ []) ∷
    (2 ∷ 0 ∷ 27 ∷ 3 ∷ []) ∷ (33 ∷ []) ∷ []) ∷
    -- [Figures 2] left edges, last, B; the counts after 42 and 43 steps
    figure
    (get_or five.edges 0 [] ∷ (five.rec.last ∷ []) ∷ (bound 2 5 1 ∷ []) ∷ counts
    (run (collects 42) five) ∷ counts (run (collects 43) five) ∷ [])
    ((0 ∷ 3 ∷ 0 ∷ 4 ∷ 0 ∷ []) ∷ (4 ∷ []) ∷ (63 ∷ []) ∷ (0 ∷ 42 ∷ 0 ∷ 5 ∷ []) ∷
    (1 ∷ 0 ∷ 43 ∷ 5 ∷ []) ∷ []) ∷
    -- [Figures 3] the first line, the five edits, collect (its code and node) and look
    figure
    (shown (starts 5 1).answer ∷ answers edits five ++
    (code_of (step collecting (worked 79)).answer ∷ position (worked 79).rec.phase ∷ []) ∷
    answers (looking (at 1 0) ∷ []) (worked 80))
    ((0 ∷ 4 ∷ []) ∷ (0 ∷ 3 ∷ []) ∷ (0 ∷ 4 ∷ []) ∷ (9 ∷ 0 ∷ []) ∷ (0 ∷ 4 ∷ []) ∷ (0 ∷ 4 ∷ []) ∷
    (0 ∷ 3 ∷ []) ∷ (0 ∷ 4 ∷ []) ∷ []) ∷
    -- [Figures 4] node 3 before the collecting: it is no root, no edge leads to it, and it is gray
    figure
    ((edges_to 3 (get_or (worked 0).edges 0 []) ∷ edges_to 3 (get_or (worked 0).edges 1 []) ∷ get_or
    (worked 0).colour 3 0 ∷ []) ∷ [])
    ((0 ∷ 0 ∷ 1 ∷ []) ∷ []) ∷
    -- [Figures 4] the counts and node 3's colour after the first cycle; the counts before step 80
    -- and the node that it appends; the counts after the second cycle
    figure
    (counts (worked 43) ∷ (get_or (worked 43).colour 3 0 ∷ []) ∷ counts
    (worked 79) ∷ (appended (step collecting (worked 79)).answer ∷ []) ∷ counts
    (worked 81) ∷ [])
    ((1 ∷ 0 ∷ 43 ∷ 5 ∷ []) ∷ (0 ∷ []) ∷ (1 ∷ 36 ∷ 43 ∷ 4 ∷ []) ∷ (3 ∷ []) ∷ (2 ∷ 0 ∷ 38 ∷ 4 ∷ []) ∷
    []) ∷
    -- [Figures 5]
    figure
    (answers (linking (at 0 0) 0 (at 0 0) ∷ taking (at 0 0) 0 ∷ shading ∷ shading ∷ []) five)
    ((0 ∷ 2 ∷ []) ∷ (5 ∷ 0 ∷ []) ∷ (0 ∷ 2 ∷ []) ∷ (6 ∷ 0 ∷ []) ∷ []) ∷
    -- [Figures 6]
    figure
    (map (λ (o : Outcome). code_of o.answer ∷ []) (starts 2 1 ∷ starts 66 64 ∷ starts 65 64 ∷ []))
    ((1 ∷ []) ∷ (0 ∷ []) ∷ (1 ∷ []) ∷ []) ∷
    -- [Figures 7]
    figure
    (answers (looking (at 12 0) ∷ looking (at 12 4095) ∷ looking (at 13 0) ∷ looking (at 1 2) ∷ [])
    five)
    ((0 ∷ 0 ∷ []) ∷ (0 ∷ 0 ∷ []) ∷ (4 ∷ 0 ∷ []) ∷ (4 ∷ 0 ∷ []) ∷ []) ∷
    -- [In use 1] where nothing was taken, after the first cycle of [Figures 2]: all five nodes were
    -- blackened, since FREE and the free nodes are too, and none is in use; after a Take one is
    figure
    ((quiet.rec.lastblackened ∷ []) ∷ shown (in_use quiet) ∷ shown
    (in_use (run (taking (at 0 0) 0 ∷ []) quiet)) ∷ [])
    ((5 ∷ []) ∷ (0 ∷ 0 ∷ []) ∷ (0 ∷ 1 ∷ []) ∷ []) ∷
    -- [Free count 1] in the table of [Figures 3]: when it is fresh, after the edits, which take both
    -- free nodes, and after the collector's step 80, which appends one; and of [Figures 1]
    figure
    (shown (free_count five) ∷ shown (free_count (worked 0)) ∷ shown (free_count (worked 80)) ∷ shown
    (free_count three) ∷ [])
    ((0 ∷ 2 ∷ []) ∷ (0 ∷ 0 ∷ []) ∷ (0 ∷ 1 ∷ []) ∷ (0 ∷ 0 ∷ []) ∷ []) ∷
    []

-- in each row what is computed is what is told
abbrev pub Agrees : List Figure → Type 0
Agrees [] = Unit {0}
Agrees (f ∷ fs) = (f.computed ≡ f.told) × Agrees fs

pub figures : Agrees table
unfolding pick every first unless edge_of with_edge cleared shade_in bad_edge one_more after_append size_ok
    position_ok second_ok phase_ok owed_ok last_ok free_ok bound cycle_ok told_ok counts_ok record_ok check_of
    tabulate next_free fresh_left fresh_last fresh_state fresh sides_ok turns_ok place_code walk_from arrive
    side_code owed_code look depart link_to link pay shade_owed bad_free relink take_next take_first take shade_step
    after_roots scan_step read_step black_step append append_white append_step phase_step collect step run
    collects blank visit visit_slots visit_edges visit_from meet lowest any_edge is_hurt first_hurt
    count_met in_use free_count
figures = (refl, (refl, (refl, (refl, (refl, (refl, (refl, (refl, (refl, (refl, tt))))))))))
