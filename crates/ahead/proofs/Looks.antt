-- d looks that find nothing are one move by d.
use Prim.Native.Nat.{ℕ, zero, suc, ◌+◌, ◌-◌, ◌%◌, ◌<◌}
use mathlib.Core.Path.{◌≡◌, refl}
use mathlib.Core.List.{List}
use native.Mathlib.Omega.{arith}
use native.Mathlib.Nat.{mod-eq_of_lt, mod-add-mod}
use Rattle.base.proofs.Tests.{pick_no, lt_no, eq_no}
use Rattle.rules.specs.declared.Record.{Record}
use Rattle.rules.specs.declared.Phase.TheVariants.{Scan}
use Rattle.rules.specs.declared.Answer.TheVariants.{Looked}
use Rattle.rules.specs.Table.{State, state, did, colour_of}
use Rattle.rules.specs.Records.{with_phase, with_steps, moved, next}
use Rattle.rules.specs.Check.{bound}
use Rattle.rules.specs.Collector.{scan_step, phase_step}
use Rattle.rules.proofs.Changes.{unchanged}
use Rattle.rules.proofs.Checked.{good, inside}
use Rattle.skim.specs.Stops.{stop, NoStop}
use Rattle.skim.proofs.Counts.{still}
use Rattle.ahead.specs.Leads.{Passes, Leads}
use Rattle.ahead.proofs.Strides.{stay, then, free_fits, step_on}

-- the record after d looks from Scan i, k on
abbrev pub leapt : Record → ℕ → ℕ → ℕ → Record
leapt x i k d = with_phase (with_steps x (x.steps + d)) (Scan ((i + d) % x.m) (k - d))

-- one look
look : (s : State) (i k : ℕ) → 0 ≡ stop (colour_of s i) → 1 < k
    → did (Looked i) s (moved s.rec (Scan (next s.rec i) (k - 1))) ≡ phase_step s (Scan i k)
unfolding phase_step scan_step
look s i k h q =
    let v = still _ h in
    pick_no _ _ _ _ (lt_no _ _ v.0)
    (pick_no _ _ _ _ (eq_no _ _ v.1) (pick_no _ _ _ _ (eq_no k 1 (λ z. omega arith)) refl))

module _ (l r c : List ℕ) (x : Record) (i k : ℕ) (p : Passes (state l r c x))
    (h : x.phase ≡ Scan i k) where
  leapt_none : leapt x i k 0 ≡ x
  leapt_none =
      let g = rw h at (inside _ _ x p.code) in
      let a : i + 0 ≡ i = omega arith in
      let b : k - 0 ≡ k = omega arith in
      let s : x.steps + 0 ≡ x.steps = omega arith in
      rw (a, b, s, mod-eq_of_lt g.0, ← h)

  leapt_more : (d : ℕ) → moved (leapt x i k d) (Scan (next x ((i + d) % x.m)) (k - d - 1))
      ≡ leapt x i k (suc d)
  leapt_more d =
      let a : i + d + 1 ≡ i + suc d = omega arith in
      let b : k - d - 1 ≡ k - suc d = omega arith in
      let s : x.steps + d + 1 ≡ x.steps + suc d = omega arith in
      rw (mod-add-mod, a, b, s)

  pub looks : (d : ℕ) → d < k → x.steps + d < bound 2 x.m x.r → NoStop c x.m i d
      → Leads (state l r c x) d 0 (state l r c (leapt x i k d))
  looks zero q b m = rw leapt_none (stay _ 0 0 refl refl p)
  looks (suc d) q b m =
      let g = good _ _ _ x p.code in
      let t = state l r c (leapt x i k d) in
      let w =
      looks d (omega arith) (omega arith) (record { none = λ j z. m.none j (omega arith) }) in
      let n = look t ((i + d) % x.m) (k - d) (m.none d (omega arith)) (omega arith) in
      then _ t _ d 1 _ 0 0 0 (omega arith) refl w (rw (leapt_more d) at
      (step_on t _ 0 w.passes n refl g.blackened (omega arith) (free_fits w.passes)
      (unchanged c)))
