-- The tests of the record that words are, as tests of the words.
use Prim.Native.Nat.{ℕ, ◌+◌, ◌<◌}
use native.Mathlib.Omega.{arith}
use mathlib.Core.Bool.{Bool, true, false, not}
use mathlib.Core.List.{List, [], ◌∷◌}
use mathlib.Core.Path.{◌≡◌, refl, sym}
use lib.Dec.{ltb, leb, eqb}
use borrow.Author.Tests.{eqb-true}
use Rattle.base.specs.Choice.{pick, every}
use Rattle.base.proofs.Tests.{each, split, eq_no, not_is, lt_yes, every_skip, every_last}
use Rattle.rules.specs.Table.{FREE}
use Rattle.rules.specs.Phases.{phase_of}
use Rattle.rules.specs.Check.{position_ok, second_ok, phase_ok, owed_ok}
use Rattle.rules.proofs.Phases.{phase_there}
use Rattle.record_words.specs.Words.{word, shade_of, is_record, PHASE, I, K, OWES, OWED}
use Rattle.record_words.proofs.Widths.{widths}
use Rattle.record_words.proofs.RoundTrip.{none_told}
use Rattle.rules.specs.Records.{Owed}

-- one test beside one that is passed
alone : (b : Bool) → b ≡ every (b ∷ true ∷ [])
unfolding every
alone true = refl
alone false = refl

-- Roots has no second number
pub roots_test : (m r tag i k : ℕ) → tag ≡ 0 → leb i (r + 1)
    ≡ every (position_ok m r tag i ∷ second_ok m tag k ∷ [])
unfolding position_ok second_ok pick
roots_test m r tag i k e = rw e (alone _)

module _ (w : List ℕ) (e : true ≡ is_record w) (m : ℕ) where
  pub phase_tests : (r : ℕ) → every (position_ok m r (word w PHASE) (word w I)
      ∷ second_ok m (word w PHASE) (word w K) ∷ [])
      ≡ phase_ok m r (phase_of (word w PHASE) (word w I) (word w K))
  unfolding is_record phase_ok
  phase_tests r =
      let t = each _ e in
      let f = widths w e in
      let p = phase_there (word w PHASE) (word w I) (word w K) (omega (arith, f))
      (none_told _ (word w K) (sym t.1.1.0)) in
      rw (p.tag_is, p.i_is, p.k_is) refl

  -- a node that is none's: 0, which passes
  none_passes : (n : ℕ) → 0 < m → 0 ≡ n → every (not (eqb n FREE) ∷ ltb n m ∷ []) ≡ true
  none_passes n h z =
      sym (every_skip _ _ _ (not_is _ (eq_no n FREE (λ q. omega arith)))
      (every_last _ _ (lt_yes n m (omega arith))))

  pub owed_tests : 0 < m → every (not (eqb (word w OWED) FREE) ∷ ltb (word w OWED) m ∷ [])
      ≡ owed_ok m (shade_of (word w OWES) (word w OWED))
  unfolding is_record shade_of owed_ok
  owed_tests h =
      let t = each _ e in
      let n = word w OWED in
      split (λ (o : Owed). every (not (eqb n FREE) ∷ ltb n m ∷ []) ≡ owed_ok m o)
      (eqb (word w OWES) 0) _ _
      (λ a. none_passes n h
      (none_told (eqb (word w OWES) 1) n (sym t.1.1.1.0)
      (sym (eq_no (word w OWES) 1 (λ z. omega (arith, eqb-true (word w OWES) 0 a))))))
      (λ a. refl)
