-- Laws for Load's loops: one turn of the walk along the free chain.
use Prim.Native.Nat.{ℕ, suc, ◌+◌, ◌-◌, ◌≤◌, ◌<◌}
use mathlib.Core.Path.{◌≡◌, refl}
use mathlib.Core.Bool.{Bool, true, false, ◌||◌}
use mathlib.Core.List.{List, [], ◌∷◌}
use native.Mathlib.Omega.{arith}
use lib.ListN.{get_or, set}
use lib.Dec.{ltb, eqb}
use Rattle.base.specs.Choice.{pick}
use Rattle.base.proofs.Tests.{pick_yes, pick_no, eq_yes, eq_no}
use Rattle.rules.specs.Table.{edge_of}
use Rattle.rules.specs.Load.{chained, chain, chain_length}
use Rattle.rules.specs.declared.Answer.TheVariants.{Started, Refused}

module _ (r : ℕ) (l g : List ℕ) (m k : ℕ) (free : List ℕ) (n : ℕ) where
  pub chain_turn : k < m → chain r (l ∷ g ∷ []) (m - k) free n ≡
      pick (eqb (get_or g n 0) 0)
      (pick (eqb (get_or l n 0) 0) (chained free (Started n))
      (pick (ltb (get_or l n 0) (r + 2)) (chained free (Refused 12 n 0))
      (pick (eqb (get_or free (get_or l n 0) 0) 0)
      (chain r (l ∷ g ∷ []) (m - (k + 1)) (set free (get_or l n 0) 1) (get_or l n 0))
      (chained free (Refused 12 n 0)))))
      (chained free (Refused 12 n 0))
  unfolding chain edge_of
  chain_turn h =
      let q : m - k ≡ suc (m - (k + 1)) = omega arith in
      rw q

  pub chain_out : m ≤ k → chained free (Refused 12 n 0) ≡ chain r (l ∷ g ∷ []) (m - k) free n
  unfolding chain
  chain_out h =
      let q : m - k ≡ 0 = omega arith in
      rw q

-- the length of the chain: k nodes, and those that follow n
module _ (l g : List ℕ) (m k n : ℕ) where
  -- c is that length
  module _ (c : ℕ) (e : c ≡ k + chain_length (l ∷ g ∷ []) (m - k) n) (h : k < m) where
    length_turn : chain_length (l ∷ g ∷ []) (m - k) n
        ≡ pick (eqb (get_or l n 0) 0) 0 (chain_length (l ∷ g ∷ []) (m - (k + 1)) (get_or l n 0) + 1)
    unfolding chain_length edge_of
    length_turn =
        let q : m - k ≡ suc (m - (k + 1)) = omega arith in
        rw q

    pub length_end : get_or l n 0 ≡ 0 → k ≡ c
    length_end q =
        let z = pick_yes 0 _ (chain_length (l ∷ g ∷ []) (m - (k + 1)) (get_or l n 0) + 1) _
        (eq_yes _ _ q) refl in
        omega (arith, e, length_turn, z)

    pub length_next : (get_or l n 0 ≡ 0 → ⊥)
        → c ≡ k + 1 + chain_length (l ∷ g ∷ []) (m - (k + 1)) (get_or l n 0)
    length_next q =
        let z = pick_no (chain_length (l ∷ g ∷ []) (m - (k + 1)) (get_or l n 0) + 1) 0 _ _
        (eq_no _ _ q) refl in
        omega (arith, e, length_turn, z)

-- the last of some tests
pub or_last : (z b : Bool) → z ≡ b → z ≡ (b || false)
or_last z true h = h
or_last z false h = h
