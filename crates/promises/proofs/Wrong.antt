-- What the promises rule out: wrong steps, each with a state and a step at which it does not do
-- what the promise says. One table that the checker computes.
use Prim.Native.Nat.{ℕ, ◌+◌, ◌-◌}
use mathlib.Core.Path.{◌≡◌, refl, sym, ap, ◌∙◌}
use mathlib.Core.Logic.{◌≢◌}
use mathlib.Core.Bool.{Bool, true, not}
use mathlib.Core.List.{List, [], ◌∷◌, map}
use lib.Dec.{ltb, leb, eqb}
use borrow.Author.Tests.{eqb-true, eqb-false}
use Rattle.base.proofs.Tests.{each, not_yes}
use Rattle.base.specs.Choice.{pick, every, first}
use Rattle.rules.specs.Table.{State, sides, Outcome, state, did, refused, refuse, unless, black}
use Rattle.rules.specs.Table.{left, right}
use Rattle.rules.specs.Table.{edge_of, edge, with_edge, cleared, colour_of, with_colour, shade_in, shade}
use Rattle.rules.specs.Table.{bad_edge}
use Rattle.rules.specs.Phases.{black_tag, append_tag, tag_of, position, second}
use Rattle.rules.specs.Records.{fresh_record, with_phase, with_owed, with_last, with_steps}
use Rattle.rules.specs.Records.{with_last_blackened, with_free, more_free, owing, moved, marked, rescan}
use Rattle.rules.specs.Records.{one_more, after_append}
use Rattle.rules.specs.Check.{size_ok, position_ok, second_ok, phase_ok, owed_ok, last_ok, free_ok}
use Rattle.rules.specs.Check.{bound, cycle_ok, told_ok, counts_ok, record_ok, check_of, check}
use Rattle.rules.specs.Fresh.{tabulate, next_free, fresh_left, fresh_last, fresh_state, fresh}
use Rattle.rules.specs.Places.{sides_ok, turns_ok, place_code, walk_from, walk, arrive}
use Rattle.rules.specs.Editor.{side_code, owed_code, look, depart, link_to, link, pay, shade_owed}
use Rattle.rules.specs.Editor.{bad_free, relink, take_next, take_first, take}
use Rattle.rules.specs.Collector.{shade_step, after_roots, scan_step, read_step, black_step, append}
use Rattle.rules.specs.Collector.{append_white, append_step, phase_step, collect}
use Rattle.rules.specs.Steps.{step, run, source, target, taking, linking, shading, collecting}
use Rattle.rules.specs.Steps.{looking, code_of, node_of, detail_of}
use Rattle.rules.specs.Schedules.{collects}
use Rattle.rules.specs.declared.Record.{Record}
use Rattle.rules.specs.declared.Place.{Place}
use Rattle.rules.specs.declared.Step.{Step}
use Rattle.rules.specs.declared.Phase.{Phase}
use Rattle.rules.specs.declared.Phase.TheVariants.{Roots, Scan, Append}
use Rattle.rules.specs.declared.Answer.{Answer}
use Rattle.rules.specs.declared.Answer.TheVariants.{Started, Named, Linked, Taken, Shaded, Looked}
use Rattle.rules.specs.declared.Answer.TheVariants.{Blackened, Whitened, Appended, Counted}
use Rattle.rules.specs.declared.Answer.TheVariants.{Refused}
use Rattle.promises.proofs.Figures.{at, three, five}
use Rattle.rules.specs.Records.{Owed}
use Rattle.std.specs.Prelude.{Some, None}

-- ---- wrong steps; `kind k f` is honest but for the kind k
abbrev kind : ℕ → (Step → State → Outcome) → Step → State → Outcome
kind k f a s = pick (eqb a.kind k) (f a s) (step a s)

-- [Mistakes 6]
abbrev refuses_all : Step → State → Outcome
refuses_all a s = refuse s 2 0

-- [Mistakes 7]
abbrev looks_only : Step → State → Outcome
looks_only =
    kind 3 (λ a s. record { answer = Looked (node_of (step a s).answer); state = (step a s).state })

-- [Mistakes 8] the record moves, the table stays
abbrev writes_nothing : Step → State → Outcome
writes_nothing = kind 3 (λ a s. did (step a s).answer s (step a s).state.rec)

-- [Mistakes 9]
abbrev honest_once : Step → State → Outcome
honest_once = kind 3 (λ a s. pick (eqb s.rec.cycles 0) (step a s) (writes_nothing a s))

abbrev in_record : (Record → Record) → Outcome → Outcome
in_record f o = did o.answer o.state (f o.state.rec)

-- [Mistakes 10] invented steps, and invented blackened last cycle
abbrev invents_steps : Step → State → Outcome
invents_steps = kind 3 (λ a s. in_record (λ x. with_steps x (x.steps + 1)) (step a s))

abbrev invents_last_blackened : Step → State → Outcome
invents_last_blackened = kind 3 (λ a s. in_record (λ x. with_last_blackened x x.m) (step a s))

-- [Mistakes 1] Link shades, and leaves the edge for later
abbrev shades_first : Step → State → Outcome
shades_first =
    kind 1 (λ a s. depart s (source a)
    (λ n. arrive s (walk s (target a)) (λ t. did (Linked t) (shade s t) (owing s.rec t))))

-- a collector step of its own in one phase, whose number is given, at the phase's position
abbrev in_phase : ℕ → (ℕ → State → Outcome) → State → Outcome
in_phase tag by s =
    pick (eqb (tag_of s.rec.phase) tag) (by (position s.rec.phase) s) (collect s)

-- [Mistakes 2] Black does not begin the pass again
abbrev one_pass : ℕ → State → Outcome
one_pass i s =
    did (Blackened i) (with_colour s i black)
    (pick (eqb (i + 1) s.rec.m) (marked s.rec)
    (moved (rescan s.rec i) (Scan (i + 1) (s.rec.m - (i + 1)))))

abbrev passes_once : Step → State → Outcome
passes_once = kind 3 (λ a s. in_phase black_tag one_pass s)

-- [Mistakes 3]
abbrev blackens_target : Step → State → Outcome
blackens_target =
    kind 1 (λ a s. did (step a s).answer
    (with_colour (step a s).state (node_of (step a s).answer) black) (step a s).state.rec)

-- [Mistakes 4]
abbrev keeps_right : Step → State → Outcome
keeps_right =
    kind 3
    (λ a s. record {
      answer = (step a s).answer;
      state = with_edge (step a s).state right
          (node_of (step a s).answer) (edge s right (node_of (step a s).answer));
    })

-- [Mistakes 5]
abbrev keeps_last : Step → State → Outcome
keeps_last = kind 0 (λ a s. in_record (λ x. with_last x s.rec.last) (step a s))

-- Take that leaves the free count [Take 10]
abbrev keeps_free : Step → State → Outcome
keeps_free = kind 0 (λ a s. in_record (λ x. with_free x s.rec.free) (step a s))

-- Take that leaves f, or g, unshaded: the colour is what it was
abbrev unshaded : State → Outcome → ℕ → Outcome
unshaded s o n = record { answer = o.answer; state = with_colour o.state n (colour_of s n) }

abbrev leaves_first : Step → State → Outcome
leaves_first = kind 0 (λ a s. unshaded s (step a s) (node_of (step a s).answer))

abbrev leaves_next : Step → State → Outcome
leaves_next = kind 0 (λ a s. unshaded s (step a s) (edge s left (node_of (step a s).answer)))

-- [Order 1] 5 judged before the second place's 3
abbrev owed_early : Step → State → Outcome
owed_early =
    kind 1
    (λ a s. unless
    (first (check s ∷ side_code (sides s) a.side ∷ place_code (sides s) s.rec.r
    (source a) ∷ owed_code s.rec.owed ∷ place_code (sides s) s.rec.r (target a) ∷ [])) s
    (step a s))

-- [Order 2] 8 judged after the second walk
abbrev absent_late : Step → State → Outcome
absent_late = kind 1 (λ a s. arrive s (walk s (target a)) (λ t. step a s))

-- Append that passes last if it is white [Damage 4]
abbrev appends_last : ℕ → State → Outcome
appends_last i s = pick (eqb i s.rec.last)
    (did (Appended i) (append s i) (after_append (more_free (with_last s.rec i)) i)) (collect s)

abbrev misses_last : Step → State → Outcome
misses_last = kind 3 (λ a s. in_phase append_tag appends_last s)

-- a collector that tells every damage as a bad edge [Codes 14] [Codes 15]
abbrev tells_edge : Step → State → Outcome
tells_edge =
    kind 3 (λ a s. pick (leb 14 (code_of (step a s).answer))
    (refuse s 7 (node_of (step a s).answer)) (step a s))

-- a step that tells no detail [Answers 5]
abbrev tells_less : Step → State → Outcome
tells_less a s =
    did (pick (eqb (code_of (step a s).answer) 0) (step a s).answer
    (refused (code_of (step a s).answer) (node_of (step a s).answer))) (step a s).state
    (step a s).state.rec

-- a record test that asks only for what is given
abbrev asks : (Record → Bool) → Step → State → Outcome
asks ok = kind 3 (λ a s. pick (ok s.rec) (phase_step s s.rec.phase) (step a s))

abbrev mild_owed : Owed → ℕ → Bool
mild_owed None m = leb 0 m
mild_owed (Some n) m = ltb n m

-- the tests of the phase and of the free count, and these others
abbrev besides : Record → List Bool → Bool
besides x others =
    every (phase_ok x.m x.r x.phase ∷ free_ok x.m x.r x.last x.free ∷ others)

-- without owed 1; without last in the slots; without steps at B; without any test of the free count
abbrev without_owed : Record → Bool
without_owed x =
    besides x (mild_owed x.owed x.m ∷ last_ok x.m x.r x.last ∷ counts_ok x
    (bound 2 x.m x.r) ∷ [])

abbrev without_last : Record → Bool
without_last x =
    besides x (owed_ok x.m x.owed ∷ ltb x.last x.m ∷ counts_ok x
    (bound 2 x.m x.r) ∷ [])

abbrev without_steps : Record → Bool
without_steps x =
    besides x (owed_ok x.m x.owed ∷ last_ok x.m x.r x.last ∷ counts_ok x
    (bound 2 x.m x.r + 1) ∷ [])

abbrev without_free : Record → Bool
without_free x =
    every (phase_ok x.m x.r x.phase ∷ owed_ok x.m x.owed ∷ last_ok x.m x.r
    x.last ∷ counts_ok x (bound 2 x.m x.r) ∷ [])

-- ---- states: runs from a fresh table where a run leads there, else invented
abbrev one : State
one = run (taking (at 0 0) 0 ∷ []) five

abbrev two : State
two = run (taking (at 0 0) 0 ∷ taking (at 0 0) 1 ∷ []) five

-- node 3 is garbage with a right edge, and is appended by the next step
abbrev litter : State
litter =
    run (collects 72)
    (run (taking (at 0 0) 0 ∷ taking (at 1 0) 1 ∷ linking (at 0 0) 0 (at 1 1) ∷ shading ∷ [])
    five)

-- a record of five nodes at a phase; its free count is 2
abbrev made : Phase → Owed → ℕ → ℕ → Record
made p o last steps = with_steps (with_owed (with_phase (fresh_record 5 1 last 2) p) o) steps

-- with this free count
abbrev frees : ℕ → Record
frees n = with_free (made (Roots 0) None 4 0) n

abbrev invented : Record → State
invented x = state (0 ∷ 3 ∷ 0 ∷ 4 ∷ 0 ∷ []) (0 ∷ 0 ∷ 9 ∷ 0 ∷ 0 ∷ []) (0 ∷ 0 ∷ 0 ∷ 0 ∷ 0 ∷ []) x

-- slot 9 is none
abbrev elsewhere : Place
elsewhere = record { slot = 9; count = 0; word = 0 }

-- ---- what is looked at in an outcome
abbrev code : Outcome → ℕ
code o = code_of o.answer

abbrev detail : Outcome → ℕ
detail o = detail_of o.answer

-- which case an answer is
abbrev deed : Answer → ℕ
deed (Started n) = 0
deed (Named n) = 1
deed (Linked n) = 2
deed (Taken n) = 3
deed (Shaded n) = 4
deed (Looked n) = 5
deed (Blackened n) = 6
deed (Whitened n) = 7
deed (Appended n) = 8
deed (Refused c n d) = 9
deed (Counted k) = 10

abbrev colour : ℕ → Outcome → ℕ
colour n o = colour_of o.state n

-- ---- the table: at this state this step is done wrong; what is seen gives one number, and the
-- promise another
pub record Row : Type 0 where
  pub wrong : Step → State → Outcome
  pub move : Step
  pub start : State
  pub seen : Outcome → ℕ
  pub gives : ℕ
  pub promised : ℕ

abbrev row : (Step → State → Outcome) → Step → State → (Outcome → ℕ) → ℕ → ℕ → Row
row w a s f g p = record { wrong = w; move = a; start = s; seen = f; gives = g; promised = p }

abbrev pub table : List Row
table =
    row refuses_all collecting three code 2 0 ∷
    row looks_only collecting three (λ o. deed o.answer) 5 4 ∷
    row writes_nothing collecting three (colour 0) 0 1 ∷
    row honest_once collecting (run (collects 27) three) (colour 0) 0 1 ∷
    row invents_steps collecting three (λ o. o.state.rec.steps) 2 1 ∷
    row invents_last_blackened collecting three (λ o. o.state.rec.lastblackened) 3 0 ∷
    row shades_first (linking (at 0 0) 0 (at 1 1)) two (λ o. edge o.state left 2) 3 4 ∷
    row passes_once collecting (run (collects 8) three) (λ o. second o.state.rec.phase) 2 3 ∷
    row blackens_target (linking (at 0 0) 0 (at 1 1)) two (colour 4) 2 1 ∷
    row keeps_right collecting litter (λ o. edge o.state right 3) 4 0 ∷
    row keeps_last (taking (at 0 0) 1) one (λ o. o.state.rec.last) 4 1 ∷
    row keeps_free (taking (at 0 0) 0) five (λ o. o.state.rec.free) 2 1 ∷
    row leaves_first (taking (at 0 0) 0) five (colour 3) 0 1 ∷
    row leaves_next (taking (at 0 0) 0) five (colour 4) 0 1 ∷
    row owed_early (linking (at 0 0) 0 elsewhere) (run (linking (at 0 0) 0 (at 0 0) ∷ []) five) code
    5 3 ∷
    row absent_late (linking (at 1 0) 0 (at 1 1)) (invented (made (Roots 0) None 4 0)) code 7 8 ∷
    row misses_last collecting (invented (made (Append 4) None 4 0)) code 0 15 ∷
    row tells_edge collecting (invented (made (Append 4) None 4 0)) code 7 15 ∷
    row tells_less collecting (invented (made (Append 4) None 4 0)) detail 0 2 ∷
    row tells_less (looking (at 1 1)) (invented (made (Roots 0) None 4 0)) detail 0 1 ∷
    row (asks without_owed) collecting (invented (made (Roots 0) (Some 1) 4 0)) code 0 2 ∷
    row (asks without_last) collecting (invented (made (Roots 0) None 2 0)) code 0 2 ∷
    row (asks without_steps) collecting (invented (made (Roots 0) None 4 63)) code 0 2 ∷
    row (asks without_free) collecting (invented (frees 3)) code 0 2 ∷
    row (asks without_free) collecting (invented (frees 0)) code 0 2 ∷
    []

-- whether in a row the wrong step gives the one number, the promised one the other, and they differ
abbrev pub caught : Row → Bool
caught r =
    every (eqb (r.seen (r.wrong r.move r.start)) r.gives ∷ eqb
    (r.seen (step r.move r.start)) r.promised ∷ not
    (eqb r.gives r.promised) ∷ [])

-- a step that is caught does not meet the promise
pub not_promised : (r : Row) → caught r ≡ true
    → r.wrong r.move r.start ≢ step r.move r.start
not_promised r c e =
    let t = each _ (sym c) in
    eqb-false r.gives r.promised (sym (not_yes _ t.1.1.0))
    (sym (eqb-true _ _ t.0) ∙ ap r.seen e ∙ eqb-true _ _ t.1.0)

pub ruled_out : every (map caught table) ≡ true
unfolding pick every first unless edge_of with_edge cleared shade_in bad_edge one_more after_append size_ok
    position_ok second_ok phase_ok owed_ok last_ok free_ok bound cycle_ok told_ok counts_ok record_ok check_of
    tabulate next_free fresh_left fresh_last fresh_state fresh sides_ok turns_ok place_code walk_from arrive
    side_code owed_code look depart link_to link pay shade_owed bad_free relink take_next take_first take shade_step
    after_roots scan_step read_step black_step append append_white append_step phase_step collect step run
    collects
ruled_out = refl
