-- What a call leaves as it was: Look, and a call that only answers, everything; a refused step
-- everything too, the words among it; many steps in one call leave what those that were done left;
-- a refused Fresh or Load leaves the slices.
use Prim.Native.Nat.{ℕ, ◌%◌}
use mathlib.Core.Bool.{true}
use mathlib.Core.List.{List, [], ◌∷◌}
use mathlib.Core.Path.{◌≡◌, refl, sym, ap, ◌∙◌}
use lib.Dec.{eqb}
use borrow.Author.Tests.{eqb-true}
use lib.ListN.{length, take}
use Rattle.base.specs.Choice.{first}
use Rattle.base.proofs.Tests.{pick_yes, split}
use Rattle.rules.specs.Table.{State, Outcome, state, outcome}
use Rattle.rules.specs.Check.{check}
use Rattle.rules.specs.Records.{fresh_record}
use Rattle.rules.specs.Fresh.{fresh}
use Rattle.rules.specs.Load.{load_by, load}
use Rattle.rules.specs.Steps.{step, run, looking, code_of}
use Rattle.rules.specs.Schedules.{Followed, followed, schedule, collects}
use Rattle.rules.specs.declared.Step.{Step}
use Rattle.rules.specs.declared.Place.{Place}
use Rattle.rules.specs.declared.Made.{Made}
use Rattle.rules.specs.declared.Record.{Record}
use Rattle.rules.specs.declared.Answer.{Answer}
use Rattle.rules.specs.Table.{unless}
use Rattle.rules.specs.Places.{arrive}
use Rattle.rules.specs.Editor.{look}
use Rattle.rules.specs.Places.{Walk}
use Rattle.std.specs.Prelude.{Ok, Err}
use Rattle.rules.proofs.Laws.{step_looking}
use Rattle.rules.proofs.Refused.{refused_stays}
use Rattle.schedule.proofs.PartOfRun.{schedule_run}
use Rattle.freed.specs.Freed.{asked_in, run_in}
use Rattle.freed.proofs.Laws.{steps_done}
use Rattle.record_words.specs.Words.{words_of, record_of, is_record}
use Rattle.record_words.proofs.RoundTrip.{words_back}
use Rattle.jenturik_c.specs.Face.{Answered, answered, Faced, told_of, shown, faced, face}
use Rattle.jenturik_c.specs.Face.{asking}
use Rattle.jenturik_c.specs.Flat.{steps_of, schedule_of, STEP_WORDS}
use Rattle.jenturik_c.specs.Many.{FacedRun, faced_run, shown_run, face_run}

module _ (s : State) where
  arrived : (w : Walk) (go : ℕ → Outcome) → ((n : ℕ) → (go n).state ≡ s) → (arrive s w go).state ≡ s
  unfolding arrive
  arrived (Ok n) go p = p n
  arrived (Err d) go p = refl

  pub look_stays : (p : Place) → (step (looking p) s).state ≡ s
  unfolding look unless
  look_stays p = rw step_looking
      (split (λ (o : Outcome). o.state ≡ s) _ _ _ (λ q. arrived _ _ (λ n. refl)) (λ q. refl))

-- a call f that makes the steps cs until one is refused leaves what those that were done lead to
abbrev pub Follows : (State → Followed) → List Step → Type 0
Follows f cs = (s : State) → (f s).state ≡ run (take (f s).done cs) s

pub schedule_follows : (cs : List Step) → Follows (schedule cs) cs
schedule_follows cs s = schedule_run cs s

-- the steps that note the nodes that become free: the first of n collector steps
pub freed_follows : (n : ℕ) (list : List ℕ) → Follows (run_in n list) (collects n)
freed_follows n list s =
    schedule_run (collects (asked_in n list s)) s
    ∙ ap (λ (cs : List Step). run cs s) (steps_done n list s)

-- a schedule of words: its whole steps, and none where words are left over
pub words_follow : (v : List ℕ) → Follows (schedule_of v) (steps_of v)
unfolding schedule_of run
words_follow v s =
    split (λ (z : Followed). z.state ≡ run (take z.done (steps_of v)) s)
    (eqb (length v % STEP_WORDS) 0) (schedule (steps_of v) s)
    (followed 0 (first (check s ∷ 10 ∷ [])) 0 s)
    (λ q. schedule_run (steps_of v) s) (λ q. refl)

module _ (l r c w : List ℕ) where
  abbrev here : State
  here = state l r c (record_of w)

  -- where the state stays, words that are a record's are told back as they were
  told_back : {A : Type 0} (tell : List (List ℕ) → List ℕ → List ℕ → A) (s : State)
      → is_record w ≡ true → s ≡ here
      → tell s.edges s.colour (words_of s.rec) ≡ tell (l ∷ r ∷ []) c w
  told_back tell s h e =
      ap (λ (s : State). tell s.edges s.colour (words_of s.rec)) e
      ∙ ap (λ (v : List ℕ). tell (l ∷ r ∷ []) c v) (words_back w (sym h))

  -- Look's contract over words that it does not write
  pub looked : true ≡ is_record w → (p : Place) (d : Made) (x : Record) (t : Answered)
      → x ≡ record_of w → outcome d l r c ≡ step (looking p) (state l r c x) → t ≡ told_of d.answer
      → faced t l r c w ≡ face (step (looking p)) l r c w
  unfolding face
  looked h p d x t e k v =
      let same = ap (λ (o : Outcome). o.state) k ∙ look_stays (state l r c x) p in
      let back = ap words_of (ap (λ (s : State). s.rec) same ∙ e) ∙ words_back w h in
      pick_yes _ _ _ _ h (rw (← e, ← k, back, v))

  -- the same of a call that only answers
  pub asked : true ≡ is_record w → (f : State → Answer) (a : Answer) (x : Record) (t : Answered)
      → x ≡ record_of w → a ≡ f (state l r c x) → t ≡ told_of a
      → faced t l r c w ≡ face (asking f) l r c w
  unfolding face
  asked h f a x t e k v =
      let back = ap words_of e ∙ words_back w h in
      pick_yes _ _ _ _ h (rw (← e, ← k, back, v))

  -- a call of one step that is refused changes neither the slices nor the words, whatever they are
  pub refused_kept : (a : Step) → ((face (step a) l r c w).told.code ≡ 0 → ⊥)
      → face (step a) l r c w ≡ faced (face (step a) l r c w).told l r c w
  unfolding face
  refused_kept a =
      split (λ (z : Faced). (z.told.code ≡ 0 → ⊥) → z ≡ faced z.told l r c w) (is_record w) _ _
      (λ h n.
      let o = step a here in
      told_back (λ es k v. record { told = told_of o.answer; edges = es; colour = k; words = v })
      o.state h (refused_stays here a n))
      (λ h n. refl)

  -- of many steps in one call those that were done stand, and no other changed anything
  pub done_kept : true ≡ is_record w → (f : State → Followed) (cs : List Step) → Follows f cs
      → face_run f l r c w
      ≡ shown_run (followed (f here).done (f here).code (f here).detail
      (run (take (f here).done cs) here))
  unfolding face_run
  done_kept h f cs k =
      sym (pick_yes _ _ _ _ h refl)
      ∙ ap (λ (s : State). shown_run (followed (f here).done (f here).code (f here).detail s))
      (k here)

  -- where none was done, neither the slices nor the words changed, whatever they are
  pub none_kept : (f : State → Followed) (cs : List Step) → Follows f cs
      → (face_run f l r c w).done ≡ 0
      → face_run f l r c w
      ≡ faced_run 0 (face_run f l r c w).code (face_run f l r c w).detail l r c w
  unfolding face_run run
  none_kept f cs k =
      split (λ (z : FacedRun). z.done ≡ 0 → z ≡ faced_run 0 z.code z.detail l r c w)
      (is_record w) _ _
      (λ h n.
      let z = f here in
      let same = k here ∙ ap (λ (d : ℕ). run (take d cs) here) n in
      told_back
      (λ es k v. record {
        done = z.done;
        code = z.code;
        detail = z.detail;
        edges = es;
        colour = k;
        words = v;
      })
      z.state h same
      ∙ ap (λ (d : ℕ). faced_run d z.code z.detail l r c w) n)
      (λ h n. refl)

-- a refused Fresh or Load leaves the slices, and writes the words of a table of no nodes
module _ (l r c : List ℕ) where
  abbrev pub Refused : Faced
  Refused = faced (answered 0 1 0 0) l r c (words_of (fresh_record 0 0 0 0))

  pub fresh_kept : (m slots : ℕ) → (code_of (fresh m slots (l ∷ r ∷ []) c).answer ≡ 0 → ⊥)
      → shown (fresh m slots (l ∷ r ∷ []) c) ≡ Refused
  unfolding fresh
  fresh_kept m slots =
      split (λ (o : Outcome). (code_of o.answer ≡ 0 → ⊥) → shown o ≡ Refused) _ _ _
      (λ q n. absurd (n refl)) (λ q n. refl)

  -- an outcome that leaves them so
  abbrev LeavesNone : Outcome → Type 0
  LeavesNone o =
      (code_of o.answer ≡ 0 → ⊥) → shown o
      ≡ faced (told_of o.answer) l r c (words_of (fresh_record 0 0 0 0))

  answered_kept : (m slots : ℕ) (given : List (List ℕ)) (a : Answer)
      → LeavesNone (load_by m slots given (l ∷ r ∷ []) c a)
  unfolding load_by
  answered_kept m slots given a =
      split LeavesNone (eqb (code_of a) 0) _ _ (λ q n. absurd (n (eqb-true (code_of a) 0 q)))
      (λ q n. refl)

  pub load_kept : (m slots : ℕ) (given : List (List ℕ))
      → (code_of (load m slots given (l ∷ r ∷ []) c).answer ≡ 0 → ⊥)
      → shown (load m slots given (l ∷ r ∷ []) c)
      ≡ faced (told_of (load m slots given (l ∷ r ∷ []) c).answer) l r c
      (words_of (fresh_record 0 0 0 0))
  unfolding load
  load_kept m slots given = answered_kept m slots given _
