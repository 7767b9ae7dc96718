-- How many nodes are free: Append makes them one more, Take one less, and no other step changes
-- their number. There are as many as the table has room for at most, and none exactly while last
-- is FREE.
use mathlib.Core.Path.{◌≡◌, sym, ap, subst, ◌∙◌}
use mathlib.Core.Logic.{◌≢◌, ◌⊎◌, inl, inr}
use mathlib.Core.List.{List, [], ◌∷◌}
use Prim.Native.Nat.{ℕ, ◌+◌, ◌-◌, ◌≤◌}
use native.Mathlib.Omega.{arith}
use lib.ListN.{length, length-append}
use Rattle.theory.specs.Reach.{Graph}
use Rattle.theory.specs.Free.{Chain, Mem, last_of}
use Rattle.theory.proofs.Chains.{chain_unique, chain_distinct, distinct_few, mem_last}
use Rattle.theory.proofs.Steps.{State, edges, Act, appends, other, Tick, CStep, root}
use Rattle.theory.proofs.Steps.{last_root, look, find, no_gray, edge, read, shade, blacken}
use Rattle.theory.proofs.Steps.{whiten, append, Deed, links, pays, takes, nothing, EStep}
use Rattle.theory.proofs.Steps.{link, pay, take, rest}
use Rattle.theory.proofs.Invariant.{Sizes, Spare, Shape, Inv, at_append}
use Rattle.theory.proofs.Shapes.{shape_link, list_link}
use Rattle.theory.proofs.Taking.{shape_take, next_last}
use Rattle.theory.proofs.Adding.{shape_append, list_append}

-- n nodes are free: so many does the chain from FREE have
abbrev pub FreeCount : Graph → ℕ → Type 0
FreeCount s n = (fs : List ℕ) × Chain s 1 fs × (n ≡ length fs)

-- how many are free after a step of a collector, and after one of an editor, if n were before
abbrev pub free_after : Act → ℕ → ℕ
free_after (appends i) n = n + 1
free_after other n = n

abbrev pub free_edited : Deed → ℕ → ℕ
free_edited (links e p t) n = n
free_edited (pays t) n = n
free_edited (takes e p f g) n = n - 1
free_edited nothing n = n

module _ {E M T : ℕ} {s : Graph} {l : ℕ} (h : Shape E M T s l) where
  -- the free list has as many nodes
  pub count_listed : {n : ℕ} → FreeCount s n → n ≡ length h.free.list
  count_listed c =
      c.2 ∙ ap length (chain_unique s 1 c.0 h.free.list c.1 h.free.chain)

  listed_count : {n : ℕ} → n ≡ length h.free.list → FreeCount s n
  listed_count q = (h.free.list, h.free.chain, q)

  pub count_room : T ≤ M → {n : ℕ} → FreeCount s n → n + T ≤ M
  count_room room c =
      omega (
        arith,
        count_listed c,
        distinct_few T (M - T) h.free.list
            (chain_distinct s 1 h.free.list h.free.chain).1
            (λ f m. omega (arith, (h.free.spare f m).low, (h.free.spare f m).high)),
      )

  pub count_none : 2 ≤ T → {n : ℕ} → FreeCount s n → ((l ≡ 1) × (n ≡ 0)) ⊎ ((l ≢ 1) × (n ≢ 0))
  count_none fixed {n} c = go h.free.list h.free.end h.free.spare (count_listed c)
    where
      go : (fs : List ℕ) → l ≡ last_of 1 fs → ((f : ℕ) → Mem f fs → Spare E M T s f)
          → n ≡ length fs → ((l ≡ 1) × (n ≡ 0)) ⊎ ((l ≢ 1) × (n ≢ 0))
      go [] e sp q = inl (e, q)
      go (f ∷ fs) e sp q =
          let m : Mem l (f ∷ fs) = subst (λ x. Mem x (f ∷ fs)) (sym e) (mem_last f fs) in
          inr (omega (arith, (sp l m).low), omega (arith, q))

module _ {E M T : ℕ} (sz : Sizes E M T) where
  pub count_collector : {σ σ' : State} {a : Act} {tk : Tick} → CStep E M T σ σ' a tk → Inv E M T σ
      → {n : ℕ} → FreeCount (edges σ) n → FreeCount (edges σ') (free_after a n)
  count_collector (root l h) v c = c
  count_collector (last_root q h) v c = c
  count_collector look v c = c
  count_collector (find g) v c = c
  count_collector (no_gray g) v c = c
  count_collector (edge l h) v c = c
  count_collector (read l) v c = c
  count_collector (shade h) v c = c
  count_collector (blacken u) v c = c
  count_collector (whiten g u a) v c = c
  count_collector (append {i = i} g k a) v c =
      let p = at_append v.in_phase in
      let un = p.dead i (omega arith) g in
      listed_count (shape_append sz v.shape p.pos un k) (omega (
        arith,
        count_listed v.shape c,
        ap length (list_append sz v.shape p.pos un k),
        length-append v.shape.free.list (i ∷ []),
      ))

  pub count_editor : {d : Deed} {σ σ' : State} → EStep E T d σ σ' → Inv E M T σ → {n : ℕ}
      → FreeCount (edges σ) n → FreeCount (edges σ') (free_edited d n)
  count_editor (link k) v c =
      listed_count (shape_link sz v.shape k)
      (count_listed v.shape c ∙ sym (ap length (list_link sz v.shape k)))
  count_editor (pay h) v c = c
  count_editor (take k h n) v c =
      let w = shape_take sz k (next_last n).0 (next_last n).1 v.shape in
      listed_count w.0 (omega (arith, count_listed v.shape c, ap length w.1))
  count_editor rest v c = c
