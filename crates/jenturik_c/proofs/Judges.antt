-- A call that judges the words first. Where the code is not 0 the call is refused with it, be the
-- words no record's or a record that does not pass. Else it goes on with a record that passes.
use Prim.Native.Nat.{ℕ, ◌<◌, ◌≤◌}
use mathlib.Core.Bool.{Bool, true, false}
use mathlib.Core.List.{List, [], ◌∷◌}
use mathlib.Core.Path.{◌≡◌, refl, sym, ap, ◌∙◌}
use native.Mathlib.Omega.{arith}
use Rattle.base.specs.Choice.{pick}
use Rattle.base.proofs.Tests.{first_here, pick_no, eq_no, split}
use Rattle.rules.specs.Table.{State, Outcome, state, did, refuse, refused}
use Rattle.rules.specs.Check.{check_of, check}
use Rattle.rules.specs.FreeCount.{free_count}
use Rattle.rules.specs.Schedules.{schedule, collects}
use Rattle.rules.specs.Editor.{look, link, shade_owed, take}
use Rattle.rules.specs.Collector.{collect}
use Rattle.rules.specs.Steps.{step, code_of, taking, linking, shading, collecting, looking}
use Rattle.rules.specs.Changes.{changes, changes_all}
use Rattle.rules.specs.declared.Step.{Step}
use Rattle.rules.specs.declared.Record.{Record}
use Rattle.rules.specs.declared.Answer.{Answer}
use Rattle.rules.specs.declared.Place.{Place}
use Rattle.rules.proofs.Laws.{unless_refused, step_taking, step_linking, step_shading}
use Rattle.rules.proofs.Laws.{step_collecting, step_looking}
use Rattle.rules.proofs.Changes.{refused_none}
use Rattle.rules.proofs.Sums.{sum_none}
use Rattle.batch.specs.Last.{last_answer}
use Rattle.batch.proofs.Last.{unscheduled}
use Rattle.record_words.specs.Words.{record_of, is_record, judged}
use Rattle.record_words.proofs.RoundTrip.{words_back}
use Rattle.jenturik_c.specs.Face.{Answered, told_of, no_record, shown, faced, face, face_count}
use Rattle.jenturik_c.specs.Face.{asking, fitted}
use Rattle.jenturik_c.specs.Lent.{Barred}
use Rattle.jenturik_c.specs.Many.{faced_run, shown_run, face_run, last_told}

-- what a call answers to a record that does not pass
abbrev pub Refuses : (State → Outcome) → Type 0
Refuses f = (s : State) → (check s ≡ 0 → ⊥) → f s ≡ refuse s (check s) 0

pub collect_refuses : Refuses (step collecting)
unfolding collect
collect_refuses s h = step_collecting s ∙ sym (unless_refused _ s _ _ refl h)

pub shade_refuses : Refuses (step shading)
unfolding shade_owed
shade_refuses s h = step_shading s ∙ sym (unless_refused _ s _ _ refl h)

pub look_refuses : (p : Place) → Refuses (step (looking p))
unfolding look
look_refuses p s h =
    step_looking p s ∙ sym (unless_refused _ s _ _ (first_here _ _ _ _ refl h refl) h)

pub link_refuses : (p : Place) (side : ℕ) (q : Place) → Refuses (step (linking p side q))
unfolding link
link_refuses p side q s h =
    step_linking p side q s ∙ sym (unless_refused _ s _ _ (first_here _ _ _ _ refl h refl) h)

pub take_refuses : (p : Place) (side : ℕ) → Refuses (step (taking p side))
unfolding take
take_refuses p side s h =
    step_taking p side s ∙ sym (unless_refused _ s _ _ (first_here _ _ _ _ refl h refl) h)

pub count_refuses : Refuses (asking free_count)
unfolding free_count
count_refuses s h =
    ap (λ (a : Answer). did a s s.rec) (sym (pick_no _ _ _ _ (eq_no (check s) 0 h) refl))

-- what codes 1 and 2 being 0 tells, for slices of these lengths
module _ (ll rl cl : ℕ) (w : List ℕ) (code : ℕ) (j : code ≡ judged (ll ∷ rl ∷ []) cl w) where
  both : code ≡ 0 → (true ≡ is_record w) × (0 ≡ check_of (ll ∷ rl ∷ []) cl (record_of w))
  unfolding judged pick
  both e = go (is_record w) refl (sym e ∙ j)
    where
      go : (b : Bool) → is_record w ≡ b → 0 ≡ pick b (check_of (ll ∷ rl ∷ []) cl (record_of w)) 2
          → (true ≡ is_record w) × (0 ≡ check_of (ll ∷ rl ∷ []) cl (record_of w))
      go true h q = (sym h, q)
      go false h q = absurd (omega arith)

  pub a_record : code ≡ 0 → true ≡ is_record w
  a_record e = (both e).0

  pub passes : code ≡ 0 → (x : Record) → x ≡ record_of w → 0 ≡ check_of (ll ∷ rl ∷ []) cl x
  passes e x q = (both e).1 ∙ ap (λ (y : Record). check_of (ll ∷ rl ∷ []) cl y) (sym q)

  -- neither is larger
  pub small : code < 32
  unfolding judged check_of
  small =
      let most = split (λ (n : ℕ). n ≤ 2) (is_record w) (check_of (ll ∷ rl ∷ []) cl (record_of w)) 2
      (λ h. split (λ (n : ℕ). n ≤ 2) _ _ _
      (λ h. split (λ (n : ℕ). n ≤ 2) _ _ _ (λ h. omega arith) (λ h. omega arith))
      (λ h. omega arith))
      (λ h. omega arith) in
      omega arith

module _ (l r c w : List ℕ) (code : ℕ) (b : Barred l r c w code) where
  abbrev here : State
  here = state l r c (record_of w)

  pub refuses : (f : State → Outcome) → Refuses f → (t : Answered) → t ≡ told_of (refused code 0)
      → faced t l r c w ≡ face f l r c w
  unfolding judged face pick
  refuses f k t e = go (is_record w) refl b.told
    where
      go : (y : Bool) → is_record w ≡ y → code ≡ pick y (check here) 2
          → faced t l r c w ≡ pick y (shown (f here)) (faced no_record l r c w)
      go true h q = rw (k here (λ z. b.some (q ∙ z)), words_back w (sym h), e, q) refl
      go false h q = rw (e, q) refl

  pub refuses_count : (a : Step) → Refuses (step a) → (z : ℕ) → z ≡ 0
      → z ≡ face_count (changes a) l r c w
  unfolding judged face_count pick
  refuses_count a k z e = go (is_record w) b.told
    where
      go : (y : Bool) → code ≡ pick y (check here) 2 → z ≡ pick y (changes a here) 0
      go true q =
          e ∙ sym (refused_none a here
          (λ v. b.some (q ∙ sym (ap (λ (o : Outcome). code_of o.answer) (k here (λ y. b.some
          (q ∙ y)))) ∙ v)))
      go false q = e

  -- the same of n collector steps
  pub refuses_run : (k : ℕ)
      → faced_run 0 code 0 l r c w ≡ face_run (schedule (collects k)) l r c w
  unfolding judged face_run pick
  refuses_run k = go (is_record w) refl b.told
    where
      go : (y : Bool) → is_record w ≡ y → code ≡ pick y (check here) 2
          → faced_run 0 code 0 l r c w
          ≡ pick y (shown_run (schedule (collects k) here)) (faced_run 0 2 0 l r c w)
      go true h q = rw (← (unscheduled k code here q b.some).0, words_back w (sym h)) refl
      go false h q = rw q refl

  pub refuses_last : (k : ℕ) → told_of (refused code 0) ≡ last_told k l r c w
  unfolding judged last_told pick
  refuses_last k = go (is_record w) b.told
    where
      go : (y : Bool) → code ≡ pick y (check here) 2 → told_of (refused code 0)
          ≡ pick y (told_of (last_answer k here)) no_record
      go true q = ap told_of (unscheduled k code here q b.some).1
      go false q = rw q refl

  pub refuses_sum : (k : ℕ) → 0
      ≡ face_count (λ s. fitted (changes_all (collects k) s)) l r c w
  unfolding judged face_count fitted pick
  refuses_sum k = go (is_record w) b.told
    where
      go : (y : Bool) → code ≡ pick y (check here) 2
          → 0 ≡ pick y (fitted (changes_all (collects k) here)) 0
      go true q = ap fitted (sym (sum_none (collects k) here (λ y. b.some (q ∙ y))))
      go false q = refl
