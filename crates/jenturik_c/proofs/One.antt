-- One step of the collector over words: a refused one leaves the words; and it is what many steps
-- are if they are one.
use Prim.Native.Nat.{ℕ, ◌≤◌, ◌<◌}
use mathlib.Core.Bool.{Bool, true, false}
use mathlib.Core.List.{List, [], ◌∷◌}
use mathlib.Core.Path.{◌≡◌, refl, sym, ap, ap₂, ◌∙◌}
use native.Mathlib.Omega.{arith}
use lib.Dec.{eqb}
use borrow.Author.Tests.{eqb-true, eqb-false}
use Rattle.base.specs.Choice.{pick}
use Rattle.base.proofs.Tests.{pick_yes, eq_yes, lt_yes}
use Rattle.rules.specs.Table.{State, Outcome, state, outcome}
use Rattle.rules.specs.Check.{check}
use Rattle.rules.specs.Steps.{step, collecting, code_of, detail_of}
use Rattle.rules.specs.Schedules.{followed, follow, schedule, collects}
use Rattle.rules.specs.Changes.{changes, changes_all}
use Rattle.rules.specs.declared.Made.{Made}
use Rattle.rules.specs.declared.Record.{Record}
use Rattle.rules.specs.declared.Step.{Step}
use Rattle.rules.proofs.Changes.{refused_none}
use Rattle.rules.proofs.Damage.{done_plain}
use Rattle.rules.proofs.Refused.{refused_stays}
use Rattle.rules.proofs.Sums.{sum_done, sum_refused, most_one}
use Rattle.batch.specs.Last.{answering, last_answer}
use Rattle.batch.proofs.Small.{last_small}
use Rattle.record_words.specs.Words.{words_of, record_of, is_record}
use Rattle.record_words.proofs.RoundTrip.{words_back}
use Rattle.jenturik_c.specs.Face.{Answered, Faced, faced, face, face_count, told_of}
use Rattle.jenturik_c.specs.Face.{shown, fitted}
use Rattle.jenturik_c.specs.Lent.{Passing}
use Rattle.jenturik_c.specs.Many.{FacedRun, faced_run, shown_run, face_run, code_in, detail_in}
use Rattle.jenturik_c.specs.Many.{last_of, last_told}
use Rattle.jenturik_c.specs.declared.Last.{Last}

-- the words of the record that a refused step hands back are those that were given
pub refused_words : (l r c w l' r' c' : List ℕ) (x : Record) (a : Step) (d : Made)
    → true ≡ is_record w → x ≡ record_of w → outcome d l' r' c' ≡ step a (state l r c x)
    → (code_of d.answer ≡ 0 → ⊥) → w ≡ words_of d.rec
refused_words l r c w l' r' c' x a d h e q n =
    let s = state l r c x in
    let stays = refused_stays s a (λ z. n (ap (λ (o : Outcome). code_of o.answer) q ∙ z)) in
    let same = ap (λ (o : Outcome). o.state.rec) q ∙ ap (λ (t : State). t.rec) stays in
    sym (ap words_of (same ∙ e) ∙ words_back w h)

module _ (s : State) where
  abbrev made : Outcome
  made = step collecting s

  abbrev done : ℕ
  done = pick (eqb (code_of made.answer) 0) 1 0

  module _ (p : 0 ≡ check s) where
    one_run : followed done (code_of made.answer) (detail_of made.answer) made.state
        ≡ schedule (collects 1) s
    unfolding schedule follow collects pick
    one_run = pick_yes _ _ _ _ (eq_yes (check s) 0 (sym p))
        (go (eqb (code_of made.answer) 0) refl)
      where
        go : (b : Bool) → eqb (code_of made.answer) 0 ≡ b
            → followed (pick b 1 0) (code_of made.answer) (detail_of made.answer) made.state
            ≡ pick b (followed 1 0 0 made.state)
            (followed 0 (code_of made.answer) (detail_of made.answer) s)
        go true q =
            let z = eqb-true _ _ q in
            ap₂ (λ (k d : ℕ). followed 1 k d made.state) z (done_plain collecting s z)
        go false q =
            ap (followed 0 (code_of made.answer) (detail_of made.answer))
            (refused_stays s collecting (eqb-false _ _ q))

    one_answer : made.answer ≡ last_answer 1 s
    unfolding last_answer answering pick
    one_answer = pick_yes _ _ _ _ (eq_yes (check s) 0 (sym p))
        (go (eqb (code_of made.answer) 0))
      where
        go : (b : Bool) → made.answer ≡ pick b made.answer made.answer
        go true = refl
        go false = refl

  one_sum : changes collecting s ≡ changes_all (collects 1) s
  unfolding changes_all collects
  one_sum = go (eqb (code_of made.answer) 0) refl
    where
      go : (b : Bool) → eqb (code_of made.answer) 0 ≡ b → changes collecting s
          ≡ changes_all (collecting ∷ []) s
      go true q = let z = sum_done collecting [] s (eqb-true _ _ q) in omega (arith, z)
      go false q =
          let n = eqb-false _ _ q in
          refused_none collecting s n ∙ sym (sum_refused collecting [] s n)

few_fit : (n : ℕ) → n ≤ 1 → n ≡ fitted n
unfolding fitted
few_fit n h = pick_yes _ _ _ _ (lt_yes n 4294967295 (omega arith)) refl

-- what one step tells and leaves, as a run
abbrev run_of : Faced → FacedRun
run_of z =
    record {
      done = pick (eqb z.told.code 0) 1 0;
      code = z.told.code;
      detail = z.told.detail;
      edges = z.edges;
      colour = z.colour;
      words = z.words;
    }

module _ (l r c w : List ℕ) (x : Record) (g : Passing l r c w x) where
  abbrev here : State
  here = state l r c (record_of w)

  fine : 0 ≡ check here
  fine = g.code ∙ ap (λ (y : Record). check (state l r c y)) g.rec

  module _ (l' r' c' w' : List ℕ) (t : Answered)
      (k : faced t l' r' c' w' ≡ face (step collecting) l r c w) where
    is_shown : faced t l' r' c' w' ≡ shown (made here)
    unfolding face
    is_shown = k ∙ sym (pick_yes _ _ _ _ g.words refl)

    told_so : t ≡ told_of (made here).answer
    told_so = ap (λ (z : Faced). z.told) is_shown

    pub one_small : (t.code < 32) × (t.detail < 8)
    one_small = rw (told_so, one_answer here fine) (last_small 1 here)

    run_shown : faced_run (pick (eqb t.code 0) 1 0) t.code t.detail l' r' c' w'
        ≡ face_run (schedule (collects 1)) l r c w
    unfolding face_run
    run_shown = ap run_of is_shown ∙ pick_yes _ _ _ _ g.words (ap shown_run (one_run here fine))

    last_shown : t ≡ last_told 1 l r c w
    unfolding last_told
    last_shown = told_so ∙ pick_yes _ _ _ _ g.words (ap told_of (one_answer here fine))

    pub one_shown : (z : Last) → last_of z ≡ t → z.done ≡ pick (eqb t.code 0) 1 0
        → (faced_run z.done (code_in z.code) (detail_in z.code) l' r' c' w'
        ≡ face_run (schedule (collects 1)) l r c w) × (last_of z ≡ last_told 1 l r c w)
    one_shown z e d =
        let code = ap (λ (y : Answered). y.code) e in
        let detail = ap (λ (y : Answered). y.detail) e in
        (rw (d, code, detail) run_shown, e ∙ last_shown)

  pub one_count : (n : ℕ) → n ≡ face_count (changes collecting) l r c w
      → n ≡ face_count (λ s. fitted (changes_all (collects 1) s)) l r c w
  unfolding face_count
  one_count n e =
      let few = few_fit (changes collecting here) (most_one here) in
      e ∙ sym (pick_yes _ _ _ _ g.words refl)
      ∙ pick_yes _ _ _ _ g.words (few ∙ ap fitted (one_sum here))
