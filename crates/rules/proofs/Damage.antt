-- What a step answers means what Damage says: each test of the definitions is the fact that its
-- refusal tells. So what is done has no detail.
use Prim.Native.Nat.{ℕ, zero, suc, ◌+◌}
use mathlib.Core.Bool.{true}
use mathlib.Core.Path.{◌≡◌, refl, sym}
use mathlib.Core.List.{List, [], ◌∷◌}
use mathlib.Core.Logic.{◌⊎◌, inl, inr}
use native.Mathlib.Omega.{arith}
use lib.Dec.{leb}
use borrow.Author.Tests.{ltb-true, leb-true, eqb-true, eqb-false}
use Rattle.base.specs.Choice.{every, first}
use Rattle.base.proofs.Tests.{split, each, zeros}
use Rattle.rules.specs.Table.{State, Outcome, unless, FREE, left, edge, bad_edge}
use Rattle.rules.specs.Check.{check}
use Rattle.rules.specs.Places.{place_code, walk_from, walk, arrive}
use Rattle.rules.specs.Editor.{side_code, owed_code, look, depart, link_to, link, pay}
use Rattle.rules.specs.Editor.{shade_owed, bad_free, take_next, take_first, take}
use Rattle.rules.specs.Collector.{collect}
use Rattle.rules.specs.Steps.{step, code_of, detail_of}
use Rattle.rules.specs.Damage.{BadFree, Means, done, edge_met, free_met, colour_met}
use Rattle.rules.specs.Damage.{gray_met, root_met, last_met, other, DamageMeant}
use Rattle.rules.specs.declared.Place.{Place}
use Rattle.rules.specs.declared.Step.{Step}
use Rattle.rules.specs.declared.Answer.{Answer}
use Rattle.rules.specs.declared.Answer.TheVariants.{Refused}
use Rattle.rules.specs.Places.{Walk}
use Rattle.std.specs.Prelude.{Ok, Err, Some, None}
use Rattle.rules.proofs.Checked.{m_low}
use Rattle.rules.proofs.Refusals.{Early, check_early, either, damaged}
use Rattle.rules.proofs.PhaseSteps.{collect_comes}
use Rattle.rules.specs.Records.{Owed}

place_early : (E r : ℕ) (p : Place) → Early (place_code E r p)
unfolding place_code
place_early E r p =
    split Early _ _ _
    (λ a. split Early _ _ _ (λ q. (omega arith, λ e. omega arith))
    (λ q. (omega arith, λ e. omega arith)))
    (λ a. (omega arith, λ e. omega arith))

side_early : (E side : ℕ) → Early (side_code E side)
unfolding side_code
side_early E side =
    split Early _ _ _ (λ q. (omega arith, λ e. omega arith)) (λ q. (omega arith, λ e. omega arith))

owed_early_lem : (o : Owed) → Early (owed_code o)
unfolding owed_code
owed_early_lem None = (omega arith, λ e. omega arith)
owed_early_lem (Some n) = (omega arith, λ e. omega arith)

first_none : Early (first [])
unfolding first
first_none = (omega arith, λ e. omega arith)

first_more : (c : ℕ) (cs : List ℕ) → Early c → Early (first cs) → Early (first (c ∷ cs))
unfolding first
first_more c cs p q = split Early _ _ _ (λ a. q) (λ a. p)

module _ (s : State) where
  abbrev Good : Outcome → Type 0
  Good o = Means s o.answer

  is_bad_free : (e : ℕ) → bad_free s.rec.m s.rec.r e ≡ true → BadFree s e
  unfolding bad_free
  is_bad_free e h = go (either _ _ h)
    where
      go : (leb s.rec.m e ≡ true) ⊎ (every (leb 1 e ∷ leb e (s.rec.r + 1) ∷ []) ≡ true)
          → BadFree s e
      go (inl a) = inl (leb-true _ _ a)
      go (inr a) = let w = each _ (sym a) in inr (leb-true _ _ w.0, leb-true _ _ w.1.0)

  judged : (code : ℕ) (o : Outcome) → Early code → (code ≡ 0 → Good o) → Good (unless code s o)
  unfolding unless
  judged code o e f =
      split Good _ _ _ (λ q. f (eqb-true _ _ q)) (λ q. other e.0 (eqb-false _ _ q) e.1)

  -- where code 1 is not given
  module _ (h : check s ≡ 0) where
    -- where a walk ends, and what it met there
    abbrev Fits : Walk → Type 0
    Fits (Ok n) = Unit {0}
    Fits (Err d) = bad_edge s.rec.m (edge s d.side d.node) ≡ true

    walks : (b k w n : ℕ) → Fits (walk_from b (edge s) s.rec.m k w n)
    unfolding walk_from
    walks b zero w n = tt
    walks b (suc k) w n =
        split Fits _ _ _ (λ z. tt) (λ z. split Fits _ _ _ (λ q. q) (λ q. walks b k _ _))

    arrives : (w : Walk) → Fits w → (go : ℕ → Outcome) → ((n : ℕ) → Good (go n))
        → Good (arrive s w go)
    unfolding arrive
    arrives (Ok n) f go p = p n
    arrives (Err d) f go p = damaged s (m_low _ _ s.rec (sym h)) d.side d.node f

    way : (p : Place) (go : ℕ → Outcome) → ((n : ℕ) → Good (go n)) → Good (arrive s (walk s p) go)
    way p go = arrives (walk s p) (walks _ _ _ _) go

    leaves : (p : Place) (go : ℕ → Outcome) → ((n : ℕ) → Good (go n)) → Good (depart s p go)
    unfolding depart
    leaves p go f =
        way p _ (λ n. split Good _ _ _
        (λ q. other (omega arith) (λ e. omega arith) (λ e. omega arith)) (λ q. f n))

    pays : (o : Owed) → Good (pay s o)
    unfolding pay
    pays None = other {code = 6} (omega arith) (λ e. omega arith) (λ e. omega arith)
    pays (Some n) = split Good _ _ _ (λ q. colour_met (ltb-true _ _ q)) (λ q. done refl refl)

    takes : (side n : ℕ) → Good (take_first s side (edge s left FREE) n)
    unfolding take_first take_next
    takes side n =
        split Good _ _ _ (λ q. free_met (inl refl) (is_bad_free _ q))
        (λ q. split Good _ _ _
        (λ a. other (omega arith) (λ e. omega arith) (λ e. omega arith))
        (λ a. split Good _ _ _ (λ b. free_met (inr refl) (is_bad_free _ b))
        (λ b. split Good _ _ _ (λ c. colour_met (ltb-true _ _ c))
        (λ c. split Good _ _ _ (λ d. done refl refl)
        (λ d. split Good _ _ _ (λ k. colour_met (ltb-true _ _ k)) (λ k. done refl refl))))))

  collects : Good (collect s)
  collects = collect_comes s Good record {
    stays = λ a t. t.0;
    shades = λ n p h k. done refl refl;
    looks = λ i p h k. done refl refl;
    marks = λ i k. done refl refl;
    blackens = λ i h k. done refl refl;
    whitens = λ i e h. done refl refl;
    appends = λ i e l h w. done refl refl;
  }

  -- the codes that need no array's content, in order
  early : (cs : List ℕ) (o : Outcome) → Early (first cs) → (check s ≡ 0 → Good o)
      → Good (unless (first (check s ∷ cs)) s o)
  early cs o e f =
      judged _ o (first_more _ cs (check_early s) e) (λ q. f (sym (zeros _ (sym q)).0))

  unreadable : Means s (Refused (first (check s ∷ 10 ∷ [])) 0 0)
  unreadable =
      let e = first_more (check s) _ (check_early s)
      (first_more 10 [] (omega arith, λ e. omega arith) first_none) in
      other e.0 (λ q. omega (arith, (zeros _ (sym q)).1.0)) e.1

pub damage_meant : DamageMeant
unfolding step take link link_to shade_owed look
damage_meant c s =
    split (Good s) _ _ _
    (λ k. early s _ _
    (first_more _ _ (side_early _ _) (first_more _ _ (place_early _ _ _)
    (first_more _ _ (owed_early_lem _) first_none)))
    (λ h. leaves s h _ _ (λ n. takes s h _ n)))
    (λ k. split (Good s) _ _ _
    (λ k. early s _ _
    (first_more _ _ (side_early _ _) (first_more _ _ (place_early _ _ _)
    (first_more _ _ (place_early _ _ _) (first_more _ _ (owed_early_lem _) first_none))))
    (λ h. leaves s h _ _ (λ n. way s h _ _ (λ t. done refl refl))))
    (λ k. split (Good s) _ _ _
    (λ k. judged s _ _ (check_early s) (λ h. pays s h _))
    (λ k. split (Good s) _ _ _
    (λ k. collects s)
    (λ k. split (Good s) _ _ _
    (λ k. early s _ _ (first_more _ _ (place_early _ _ _) first_none)
    (λ h. way s h _ _ (λ n. done refl refl)))
    (λ k. unreadable s)))))

-- [Answers 5] what is done has no detail
plain : (s : State) (a : Answer) → Means s a → code_of a ≡ 0 → detail_of a ≡ 0
plain s a (done p q) h = q
plain s _ (edge_met l b) h = absurd (omega arith)
plain s _ (free_met n b) h = absurd (omega arith)
plain s _ (colour_met b) h = absurd (omega arith)
plain s _ (gray_met p c) h = absurd (omega arith)
plain s _ (root_met p c l) h = absurd (omega arith)
plain s _ (last_met p c l e) h = absurd (omega arith)
plain s _ (other l n k) h = absurd (n h)

pub done_plain : (c : Step) (s : State) → code_of (step c s).answer ≡ 0
    → detail_of (step c s).answer ≡ 0
done_plain c s = plain s _ (damage_meant c s)
