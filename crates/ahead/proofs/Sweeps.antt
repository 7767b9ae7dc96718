-- Steps of Roots and Append that do not end their phase.
use Prim.Native.Nat.{ℕ, ◌+◌, ◌-◌, ◌≤◌, ◌<◌}
use mathlib.Core.Path.{◌≡◌, refl, sym, ap, ◌∙◌}
use mathlib.Core.Bool.{true}
use mathlib.Core.List.{List}
use lib.ListN.{get_or, set}
use native.Mathlib.Omega.{arith}
use Rattle.base.proofs.Tests.{pick_yes, pick_no, lt_no, le_yes, le_no, eq_yes, eq_no}
use Rattle.base.proofs.Tests.{every_skip, every_last, not_is}
use Rattle.rules.specs.declared.Record.{Record}
use Rattle.rules.specs.declared.Phase.TheVariants.{Roots, Append}
use Rattle.rules.specs.declared.Answer.TheVariants.{Shaded, Whitened, Appended}
use Rattle.rules.specs.Table.{State, state, did, with_edge, cleared, shade_in}
use Rattle.rules.specs.Records.{with_last, more_free, moved, after_append}
use Rattle.rules.specs.Check.{free_ok, bound}
use Rattle.rules.specs.Collector.{shade_step, after_roots, append, append_white, append_step}
use Rattle.rules.specs.Collector.{phase_step}
use Rattle.rules.specs.Changes.{differing}
use Rattle.rules.proofs.Changes.{unchanged, one_whitened}
use Rattle.rules.proofs.Checked.{good}
use Rattle.ahead.specs.Leads.{Passes, Leads}
use Rattle.ahead.proofs.Strides.{free_fits, step_on}

-- after Append i, before the last node
onward : (x : Record) (i : ℕ) → i + 1 < x.m → moved x (Append (i + 1)) ≡ after_append x i
unfolding after_append
onward x i h = pick_no _ _ _ _ (eq_no (i + 1) x.m (λ z. omega arith)) refl

-- after Roots i, before the last root
rootward : (m r i : ℕ) → i ≤ r → Roots (i + 1) ≡ after_roots m r i
unfolding after_roots
rootward m r i h = pick_no _ _ _ _ (eq_no i (r + 1) (λ z. omega arith)) refl

-- one more is free, where that may be
more_fits : (m r last n : ℕ) → r + 1 < last → n < m - (r + 2) → true ≡ free_ok m r last (n + 1)
unfolding free_ok
more_fits m r last n h k =
    every_skip _ _ _ (le_yes (n + 1) (m - (r + 2)) (omega arith)) (every_last _ _
    (pick_no _ _ _ _ (eq_no last 1 (λ z. omega arith))
    (not_is _ (eq_no (n + 1) 0 (λ z. omega arith)))))

module _ (l r c : List ℕ) (x : Record) (i : ℕ) (p : Passes (state l r c x))
    (b : x.steps + 1 < bound 2 x.m x.r) where
  abbrev s : State
  s = state l r c x

  -- a root is shaded
  pub roots : (n : ℕ) → x.phase ≡ Roots i → i ≤ x.r → get_or c i 0 ≤ 2
      → n ≡ differing c (shade_in c i)
      → Leads s 1 n (state l r (shade_in c i) (moved x (Roots (i + 1))))
  unfolding phase_step shade_step
  roots n h q v e =
      let g = good _ _ _ x p.code in
      let o = did (Shaded i) (state l r (shade_in c i) x) (moved x (Roots (i + 1))) in
      let w : o ≡ phase_step s (Roots i) = pick_no _ _ _ _ (lt_no 2 (get_or c i 0) v)
      (rw (rootward x.m x.r i q)) in
      step_on s o n p (w ∙ ap (phase_step s) (sym h)) refl g.blackened b (free_fits p) e

  -- a black node becomes white
  pub whitens : x.phase ≡ Append i → i + 1 < x.m → get_or c i 0 ≡ 2
      → Leads s 1 1 (state l r (set c i 0) (moved x (Append (i + 1))))
  unfolding phase_step append_step
  whitens h q v =
      let g = good _ _ _ x p.code in
      let o = did (Whitened i) (state l r (set c i 0) x) (moved x (Append (i + 1))) in
      let w : o ≡ phase_step s (Append i) = pick_yes _ _ _ _ (eq_yes _ _ v) (rw (onward x i q)) in
      step_on s o 1 p (w ∙ ap (phase_step s) (sym h)) refl g.blackened b (free_fits p)
      (one_whitened c i (omega (arith, g.colours)) v)

  -- a white node goes to the end of the free list
  pub appends : x.phase ≡ Append i → i + 1 < x.m → get_or c i 0 ≡ 0 → x.r + 1 < i
      → (i ≡ x.last → ⊥) → x.free < x.m - (x.r + 2)
      → Leads s 1 0 (state (set (set l i 0) x.last i) (set r i 0) c
      (moved (more_free (with_last x i)) (Append (i + 1))))
  unfolding phase_step append_step append_white append with_edge cleared
  appends h q v root last free =
      let g = good _ _ _ x p.code in
      let o =
      did (Appended i) (state (set (set l i 0) x.last i) (set r i 0) c x)
      (moved (more_free (with_last x i)) (Append (i + 1))) in
      let w : o ≡ phase_step s (Append i) =
      pick_no _ _ _ _ (eq_no (get_or c i 0) 2 (λ z. omega arith)) (pick_yes _ _ _ _ (eq_yes _ _ v)
      (pick_no _ _ _ _ (le_no _ _ root) (pick_no _ _ _ _ (eq_no _ _ last)
      (rw (onward (more_free (with_last x i)) i q))))) in
      step_on s o 0 p (w ∙ ap (phase_step s) (sym h)) refl g.blackened b
      (more_fits x.m x.r i x.free root free) (unchanged c)
