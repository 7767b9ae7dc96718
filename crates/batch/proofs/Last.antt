-- A run of steps is a schedule of collector steps.
use Prim.Native.Nat.{ℕ, zero, suc, ◌+◌}
use mathlib.Core.Path.{◌≡◌, refl, sym, ap, ◌∙◌}
use borrow.Author.Tests.{eqb-true}
use Rattle.base.proofs.Tests.{split, pick_yes, pick_no, eq_yes, eq_no}
use Rattle.rules.specs.declared.Answer.{Answer}
use Rattle.rules.specs.declared.Answer.TheVariants.{Named}
use Rattle.rules.specs.Table.{State, refused}
use Rattle.rules.specs.Check.{check}
use Rattle.rules.specs.Steps.{step, collecting, code_of, detail_of}
use Rattle.rules.specs.Schedules.{Followed, followed, follow, schedule, collects}
use Rattle.rules.proofs.Damage.{done_plain}
use Rattle.ahead.specs.Leads.{Lasted, lasted, more, Passes}
use Rattle.batch.specs.Last.{answering, last_answer}

-- what a run has come to, as a schedule
abbrev come : Lasted → Followed
come o = followed o.done (code_of o.answer) (detail_of o.answer) o.state

follows : (n e : ℕ) (a : Answer) (s : State) → code_of a ≡ 0 → detail_of a ≡ 0
    → come (more n e a s) ≡ follow (collects n) e s
unfolding more follow collects
follows zero e a s h k = rw (h, k)
follows (suc n) e a s h k =
    split (λ (o : Lasted). come o ≡ follow (collects (suc n)) e s) _ _ _
    (λ q. pick_yes _ _ _ _ (sym q) (follows n (e + 1) (step collecting s).answer
    (step collecting s).state (eqb-true _ _ q) (done_plain collecting s (eqb-true _ _ q))))
    (λ q. pick_no _ _ _ _ (sym q) refl)

answers : (n e : ℕ) (a : Answer) (s : State) → (more n e a s).answer ≡ answering n a s
unfolding more answering
answers zero e a s = refl
answers (suc n) e a s =
    split (λ (o : Lasted). o.answer ≡ answering (suc n) a s) _ _ _
    (λ q. pick_yes _ _ _ _ (sym q) (answers n (e + 1) (step collecting s).answer
    (step collecting s).state))
    (λ q. pick_no _ _ _ _ (sym q) refl)

-- n steps from a record that passes
pub scheduled : (n d : ℕ) (a : Answer) (s t : State) → Passes s → lasted d a t
    ≡ more n 0 (Named 0) s
    → (followed d (code_of a) (detail_of a) t ≡ schedule (collects n) s) × (a ≡ last_answer n s)
unfolding schedule last_answer
scheduled n d a s t p w =
    let z = eq_yes (check s) 0 (sym p.code) in (
      pick_yes _ _ _ _ z (ap come w ∙ follows n 0 (Named 0) s refl refl),
      pick_yes _ _ _ _ z
          (ap (λ (o : Lasted). o.answer) w ∙ answers n 0 (Named 0) s),
    )

-- from one that does not
pub unscheduled : (n code : ℕ) (s : State) → code ≡ check s → (code ≡ 0 → ⊥)
    → (followed 0 code 0 s ≡ schedule (collects n) s) × (refused code 0 ≡ last_answer n s)
unfolding schedule last_answer
unscheduled n code s e f =
    rw (← e) (pick_no _ _ _ _ (eq_no code 0 f) refl, pick_no _ _ _ _ (eq_no code 0 f) refl)
