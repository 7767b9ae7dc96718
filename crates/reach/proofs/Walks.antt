-- The walk along the free chain comes to the chain's end or to the first node that breaks the
-- chain. It ends, since each node that it comes to is marked, and there are m. And the turns along
-- a chain are as many as its nodes.
use Prim.Native.Nat.{ℕ, zero, suc, ◌+◌, ◌-◌, ◌≤◌, ◌<◌}
use mathlib.Core.List.{List, [], ◌∷◌}
use mathlib.Core.Path.{◌≡◌, refl, sym, ◌∙◌}
use mathlib.Core.Logic.{◌≢◌, inl, inr}
use native.Mathlib.Decide.{ℕ_discrete}
use native.Mathlib.Omega.{arith}
use lib.ListN.{length, get_or, set, length-set}
use lib.Seq.{get_or-set_same, get_or-set_other}
use borrow.Author.Tests.{ltb-true, ltb-false, eqb-true, eqb-false}
use Rattle.base.proofs.Tests.{eq_yes, eq_no, pick_yes, pick_no, split}
use Rattle.rules.specs.Table.{FREE, left, right, edge_of}
use Rattle.rules.specs.Load.{Chained, chained, chain, chain_length}
use Rattle.rules.specs.declared.Answer.TheVariants.{Started, Refused}
use Rattle.theory.specs.Free.{Chain, Mem}
use Rattle.reach.specs.Numbered.{nonzero}
use Rattle.reach.specs.Judged.{GoodEdges, Breaks, right_edge, to_slot, to_passed, Comes, next}
use Rattle.reach.proofs.Counts.{nonzero_le, nonzero_up}
use Rattle.reach.proofs.Chains.{Ends, whole_end, whole_next}

-- the marks are those of the nodes that the chain came to, FREE left out
pub record Agrees (free : List ℕ) (n : ℕ) (ps : List ℕ) : Type 0 where
  pub mark : (t : ℕ) → get_or free t 0 ≢ 0 → Mem t (n ∷ ps) × (t ≢ FREE)
  pub mem : (t : ℕ) → Mem t (n ∷ ps) → t ≢ FREE → get_or free t 0 ≢ 0

-- what a walk found
pub data Says (r : ℕ) (es : List (List ℕ)) : Chained → Type 0 where
  ends : {free : List ℕ} {n : ℕ} (d : Ends r es n) → Agrees free n d.passed
      → Says r es (chained free (Started n))
  breaks : {free ps : List ℕ} {n : ℕ} → Comes r es ps n → Breaks r es ps n
      → Says r es (chained free (Refused 12 n 0))

agrees_next : {free ps : List ℕ} {n t : ℕ} → t < length free → t ≢ FREE → Agrees free n ps
    → Agrees (set free t 1) t (n ∷ ps)
agrees_next {free} {ps} {n} {t} h f v = record {
  mark =
      λ k. mark k (ℕ_discrete k t);
  mem = λ k. mem k (ℕ_discrete k t);
}
  where
    mark : (k : ℕ) → Dec (k ≡ t) → get_or (set free t 1) k 0 ≢ 0 → Mem k (t ∷ n ∷ ps) × (k ≢ FREE)
    mark k (yes q) x = (inl q, rw q f)
    mark k (no q) x =
        let w = v.mark k (λ z. x (get_or-set_other free t k 1 0 q ∙ z)) in
        (inr w.0, w.1)

    mem : (k : ℕ) → Dec (k ≡ t) → Mem k (t ∷ n ∷ ps) → k ≢ FREE → get_or (set free t 1) k 0 ≢ 0
    mem k (yes q) x ne = rw q (λ z. omega (arith, get_or-set_same free t 1 0 h))
    mem k (no q) (inl x) ne = absurd (q x)
    mem k (no q) (inr x) ne = λ z. v.mem k x ne (sym (get_or-set_other free t k 1 0 q) ∙ z)

module _ {r : ℕ} {es : List (List ℕ)} where
  -- f is enough for the nodes without a mark
  pub walks : {m : ℕ} → GoodEdges m es → (f : ℕ) (free : List ℕ) (n : ℕ) (ps : List ℕ)
      → Comes r es ps n → m ≤ length free → Agrees free n ps
      → m - (r + 2) < f + nonzero (λ t. get_or free t 0) (r + 2) (m - (r + 2))
      → Says r es (chain r es f free n)
  unfolding chain
  walks {m} g zero free n ps c hp v h =
      absurd (omega (arith, nonzero_le (λ t. get_or free t 0) (r + 2) (m - (r + 2))))
  walks {m} g (suc f) free n ps c hp v h = split (Says r es) _ _ _
      (λ a. split (Says r es) _ _ _
      (λ b. ends
      (record {
        passed = ps;
        comes = c;
        whole = whole_end c (eqb-true _ _ a) (eqb-true _ _ b);
        stop = eqb-true _ _ b;
      }) v)
      (λ b. split (Says r es) _ _ _
      (λ d. breaks c (to_slot (some (eqb-false _ _ b), ltb-true _ _ d)))
      (λ d. split (Says r es) _ _ _
      (λ e. let k = on (eqb-true _ _ a) (eqb-false _ _ b) (ltb-false _ _ d) (eqb-true _ _ e) in
      walks g f (set free (edge_of es left n) 1) (edge_of es left n) (n ∷ ps) k.0
      (simp length-set hp) k.1 k.2)
      (λ e. breaks c (to_passed (v.mark _ (eqb-false _ _ e)).0)))))
      (λ a. breaks c (right_edge (eqb-false _ _ a)))
    where
      t : ℕ
      t = edge_of es left n

      inside : t < m
      inside = (g.good left n).0

      some : t ≢ 0 → 2 ≤ t
      some ne = omega (arith, (g.good left n).1)

      -- one mark more
      on : edge_of es right n ≡ 0 → t ≢ 0 → r + 2 ≤ t → get_or free t 0 ≡ 0
          → Comes r es (n ∷ ps) t × Agrees (set free t 1) t (n ∷ ps) ×
          (m - (r + 2) < f + nonzero (λ k. get_or (set free t 1) k 0) (r + 2) (m - (r + 2)))
      on z ne lo q =
          let up =
          nonzero_up (λ k. get_or free k 0) (λ k. get_or (set free t 1) k 0) (r + 2) (m - (r + 2)) t
          q (λ x. omega (arith, get_or-set_same free t 1 0 (omega (arith, inside))))
          (λ k x. get_or-set_other free t k 1 0 x) lo (omega (arith, inside)) in (
            next c (whole_next z lo (λ x. v.mem t x (omega arith) q)) refl ne,
            agrees_next
                (omega (arith, inside)) (omega arith) v,
            omega (arith, up),
          )

-- f turns are enough for the nodes of the chain
pub turns_along : (es : List (List ℕ)) (f n : ℕ) (fs : List ℕ) → Chain (edge_of es) n fs
    → length fs ≤ f → chain_length es f n ≡ length fs
unfolding chain_length
turns_along es zero n [] c h = refl
turns_along es zero n (t ∷ ts) c h = absurd (omega arith)
turns_along es (suc f) n [] c h = sym (pick_yes 0 _ _ _ (eq_yes _ 0 c) refl)
turns_along es (suc f) n (t ∷ ts) c h =
    sym (pick_no _ _ _ _ (eq_no _ 0 (λ q. c.0 (sym c.1 ∙ q)))
    (rw c.1 (omega (arith, turns_along es f t ts c.2 (omega arith)))))
