-- The left edges of a fresh table: of the free nodes, of FREE and of the other roots.
use Prim.Native.Nat.{ℕ, zero, suc, ◌+◌, ◌<◌, ◌≤◌}
use native.Mathlib.Omega.{arith}
use mathlib.Core.Path.{◌≡◌, refl, ◌∙◌}
use mathlib.Core.List.{List, ◌∷◌, ◌++◌}
use lib.ListN.{drop, set}
use Rattle.base.proofs.Tests.{lt_yes, lt_no, eq_yes, eq_no, pick_yes, pick_no}
use Rattle.rules.specs.Table.{FREE}
use Rattle.rules.specs.Fresh.{tabulate, next_free, fresh_left, no_edge}
use Rattle.fresh.proofs.Fills.{shift}

pub after_last : (m n : ℕ) → m ≤ n + 1 → 0 ≡ next_free m n
unfolding next_free
after_last m n h = pick_no _ _ _ _ (lt_no _ _ h) refl

pub after : (m n e : ℕ) → e ≡ n + 1 → e < m → e ≡ next_free m n
unfolding next_free
after m n e q h = pick_yes _ _ _ _ (lt_yes (n + 1) m (omega arith)) q

pub of_free : (m r n e : ℕ) → r + 2 ≤ n → e ≡ next_free m n → e ≡ fresh_left m r n
unfolding fresh_left
of_free m r n e h q =
    pick_no _ _ _ _ (eq_no n FREE (λ p. omega arith)) (pick_no _ _ _ _ (lt_no n (r + 2) h) q)

module _ (m r e : ℕ) (first : e ≡ next_free m (r + 1)) where
  of_FREE : e ≡ fresh_left m r FREE
  unfolding fresh_left
  of_FREE = pick_yes _ _ _ _ (eq_yes FREE FREE refl) first

  of_root : (n : ℕ) → (n ≡ FREE → ⊥) → n < r + 2 → 0 ≡ fresh_left m r n
  unfolding fresh_left
  of_root n p h = pick_no _ _ _ _ (eq_no n FREE p) (pick_yes _ _ _ _ (lt_yes n (r + 2) h) refl)

  two_roots : (l : List ℕ) → set (tabulate no_edge 2 ++ l) FREE e ≡ tabulate (fresh_left m r) 2 ++ l
  unfolding tabulate
  two_roots l = rw (← of_root 0 (λ p. omega arith) (omega arith), ← of_FREE)

  -- n roots, all without an edge but FREE
  roots : (n : ℕ) (l : List ℕ) → 2 ≤ n → n ≤ r + 2
      → set (tabulate no_edge n ++ l) FREE e ≡ tabulate (fresh_left m r) n ++ l
  roots zero l low high = absurd (omega arith)
  roots (suc zero) l low high = absurd (omega arith)
  roots (suc (suc zero)) l low high = two_roots l
  roots (suc (suc (suc k))) l low high =
      let root = of_root (suc (suc k)) (λ p. omega arith) (omega arith) in
      rw (shift no_edge, shift (fresh_left m r), ← root)
      (roots (suc (suc k)) (0 ∷ l) (omega arith) (omega arith))

  -- the free nodes' edges are there already: k has them
  pub with_roots : (k l : List ℕ)
      → tabulate (fresh_left m r) (r + 2) ++ drop (r + 2) k ≡ tabulate (fresh_left m r) m
      → l ≡ tabulate no_edge (r + 2) ++ drop (r + 2) k → set l FREE e ≡ tabulate (fresh_left m r) m
  with_roots k l free cleared =
      rw cleared (roots (r + 2) (drop (r + 2) k) (omega arith) (omega arith) ∙ free)
