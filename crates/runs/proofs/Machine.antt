-- Runs of anything whose steps are the theory's, whatever its states: its counts are those of the
-- run, its cycles end within B collector steps, and it appends garbage within 3 × B, and nothing
-- else. Nothing here knows a list, a window or a record.
use Prim.Native.Nat.{ℕ, zero, suc, ◌+◌, ◌*◌, ◌≤◌, ◌<◌}
use mathlib.Core.Bool.{true, false, true≢false}
use mathlib.Core.Path.{◌≡◌, refl, sym, ap, ◌∙◌}
use mathlib.Core.Logic.{◌⊎◌, inl, inr}
use mathlib.Core.List.{List, [], ◌∷◌}
use native.Mathlib.Omega.{arith}
use Rattle.rules.specs.declared.Step.{Step}
use Rattle.theory.specs.Reach.{Reach, Slot, Garbage}
use Rattle.theory.proofs.Steps.{State, edges, Act, appends, other, Tick, goes, ends, Deed, CStep}
use Rattle.theory.proofs.Steps.{EStep}
use Rattle.theory.proofs.Invariant.{Sizes, Inv}
use Rattle.theory.proofs.Due as D
use D.{Due, due_garbage, due_left, due_editor, due_collector}
use Rattle.theory.proofs.Safe as A
use A.{untouched}
use Rattle.runs.specs.Runs.{Some, now, later, collector, collector_steps, Count, Told, going}
use Rattle.runs.specs.Runs.{closing, counted, count_by, run_by}
use Rattle.runs.proofs.Picks.{if_yes, if_no}

pub record Machine (S : Type 0) : Type 0 where
  pub after : Step → S → S
  pub told : Step → S → Told
  pub act : Step → S → Act
  pub abs : S → State
  pub counts : S → Count

-- a step is one of three
pub data Stepped {S : Type 0} (w : Machine S) (E M T : ℕ) (c : Step) (s : S) : Type 0 where
  goes_on : collector c ≡ true → (w.told c s).completes ≡ false
      → CStep E M T (w.abs s) (w.abs (w.after c s)) (w.act c s) goes → Stepped w E M T c s
  closes : collector c ≡ true → (w.told c s).completes ≡ true
      → CStep E M T (w.abs s) (w.abs (w.after c s)) (w.act c s) ends → Stepped w E M T c s
  edits : {d : Deed} → collector c ≡ false → (w.told c s).completes ≡ false
      → w.act c s ≡ other → EStep E T d (w.abs s) (w.abs (w.after c s))
      → Stepped w E M T c s

pub other≢appends : {x : ℕ} → other ≡ appends x → ⊥
other≢appends q = let z : ◌≡◌ {A = ℕ} 0 1 = cc in omega arith

-- an invariant of all steps
pub record Runs {S : Type 0} (w : Machine S) (E M T B : ℕ) (Sound : S → Type 0) : Type 0 where
  pub sizes : Sizes E M T
  pub inv : (s : S) → Sound s → Inv E M T (w.abs s)
  pub below : (s : S) → Sound s → (w.counts s).since < B
  pub stepped : (c : Step) (s : S) → Sound s → Stepped w E M T c s
  pub sound : (c : Step) (s : S) → Sound s → Sound (w.after c s)
  pub counts : (c : Step) (s : S) → Sound s → w.counts (w.after c s)
      ≡ counted (w.told c s) c (w.counts s)

-- one collector step more in a list, or none
pub one_more_lem : (c : Step) (cs : List Step) → collector c ≡ true → collector_steps (c ∷ cs)
    ≡ suc (collector_steps cs)
unfolding collector_steps
one_more_lem c cs h =
    if_yes (λ (n : ℕ). n + collector_steps cs ≡ suc (collector_steps cs)) _ _ _ (sym h)
    (omega arith)

pub no_more : (c : Step) (cs : List Step) → collector c ≡ false → collector_steps (c ∷ cs)
    ≡ collector_steps cs
unfolding collector_steps
no_more c cs h =
    if_no (λ (n : ℕ). n + collector_steps cs ≡ collector_steps cs) _ _ _ (sym h) (omega arith)

-- what holds of some step
pub some_map : {S : Type 0} {after : Step → S → S} {P Q : Step → S → Type 0}
    → ((c : Step) (s : S) → P c s → Q c s) → {cs : List Step} {s : S} → Some after P cs s
    → Some after Q cs s
some_map f (now {c = c} {s = s} p) = now (f c s p)
some_map f (later k) = later (some_map f k)

-- what the three kinds of steps count
module _ (t : Told) (c : Step) (n : Count) where
  pub counted_on : t.completes ≡ false → collector c ≡ true → counted t c n ≡ going t n
  unfolding counted
  counted_on e h =
      if_no (λ (k : Count). k ≡ going t n) _ _ _ (sym e)
      (if_yes (λ (k : Count). k ≡ going t n) _ _ _ (sym h) refl)

  pub counted_over : t.completes ≡ true → counted t c n ≡ closing n
  unfolding counted
  counted_over e = if_yes (λ (k : Count). k ≡ closing n) _ _ _ (sym e) refl

  pub counted_not : t.completes ≡ false → collector c ≡ false → counted t c n ≡ n
  unfolding counted
  counted_not e h =
      if_no (λ (k : Count). k ≡ n) _ _ _ (sym e) (if_no (λ (k : Count). k ≡ n) _ _ _ (sym h) refl)

module _ {S : Type 0} {w : Machine S} {E M T B : ℕ} {Sound : S → Type 0} (v : Runs w E M T B Sound)
  where
    -- the steps of the cycle after a step
    since_is : (c : Step) (s : S) → Sound s → {n : Count} → counted (w.told c s) c (w.counts s)
        ≡ n
        → (w.counts (w.after c s)).since ≡ n.since
    since_is c s g q = ap (λ (n : Count). n.since) (v.counts c s g ∙ q)

    -- the steps that are left of B complete the cycle
    pub ends_soon : (cs : List Step) (s : S) → Sound s → B ≤ (w.counts s).since + collector_steps cs
        → Some w.after (λ c s. (w.told c s).completes ≡ true) cs s
    unfolding collector_steps
    ends_soon [] s g l = absurd (omega (arith, v.below s g))
    ends_soon (c ∷ cs) s g l = go (v.stepped c s g) (ends_soon cs (w.after c s) (v.sound c s g))
      where
        go : Stepped w E M T c s
            → (B ≤ (w.counts (w.after c s)).since + collector_steps cs
            → Some w.after (λ c s. (w.told c s).completes ≡ true) cs (w.after c s))
            → Some w.after (λ c s. (w.told c s).completes ≡ true) (c ∷ cs) s
        go (goes_on k e d) f = later
            (f (omega (arith, l, one_more_lem c cs k, since_is c s g (counted_on _ c _ e k))))
        go (closes k e d) f = now e
        go (edits k e a d) f = later
            (f (omega (arith, l, no_more c cs k, since_is c s g (counted_not _ c _ e k))))

    -- of the steps until x is appended at most d are left
    module _ (x : ℕ) (hx : x < M) where
      abbrev Appends : List Step → S → Type 0
      Appends = Some w.after (λ c s. w.act c s ≡ appends x)

      abbrev Later : List Step → Type 0
      Later cs = (d : ℕ) (s : S) → Sound s → Due E T B x d (w.counts s).since (w.abs s)
          → d ≤ collector_steps cs → Appends cs s

      after_collect : {tk : Tick} (c : Step) (cs : List Step) (d : ℕ) (s : S) → Sound s
          → CStep E M T (w.abs s) (w.abs (w.after c s)) (w.act c s) tk
          → (w.counts (w.after c s)).since ≡ D.counted tk (w.counts s).since
          → Due E T B x d (w.counts s).since (w.abs s) → d ≤ suc (collector_steps cs) → Later cs
          → Appends (c ∷ cs) s
      after_collect c cs zero s g k q u l f = absurd (omega (arith, due_left (v.below s g) u))
      after_collect {tk} c cs (suc d) s g k q u l f = go
          (due_collector v.sizes hx (v.below s g) k (v.inv s g) u)
        where
          go : (w.act c s ≡ appends x) ⊎ Due E T B x d (D.counted tk (w.counts s).since)
              (w.abs (w.after c s)) → Appends (c ∷ cs) s
          go (inl e) = now e
          go (inr z) = later (f d (w.after c s) (v.sound c s g) (rw q z) (omega arith))

      due_run : (cs : List Step) → Later cs
      unfolding collector_steps
      due_run [] d s g u l = absurd (omega (arith, due_left (v.below s g) u))
      due_run (c ∷ cs) d s g u l = go (v.stepped c s g) (due_run cs)
        where
          go : Stepped w E M T c s → Later cs → Appends (c ∷ cs) s
          go (goes_on k e m) f =
              after_collect c cs d s g m (omega (arith, since_is c s g (counted_on _ c _ e k))) u
              (omega (arith, l, one_more_lem c cs k)) f
          go (closes k e m) f = after_collect c cs d s g m (since_is c s g (counted_over _ c _ e)) u
              (omega (arith, l, one_more_lem c cs k)) f
          go (edits k e a m) f =
              later (f d (w.after c s) (v.sound c s g)
              (rw (since_is c s g (counted_not _ c _ e k))
              (due_editor v.sizes m (v.inv s g) u))
              (omega (arith, l, no_more c cs k)))

      pub appended_soon : (cs : List Step) (s : S) → Sound s → Garbage E T (edges (w.abs s)) x
          → 3 * B ≤ collector_steps cs → Appends cs s
      appended_soon cs s g u l = due_run cs _ s g (due_garbage _ _ (w.abs s) u) l

    -- no root reaches what a step appends
    pub only_garbage : (c : Step) (s : S) (x : ℕ) → Sound s → w.act c s ≡ appends x
        → Garbage E T (edges (w.abs s)) x
    only_garbage c s x g q = go (v.stepped c s g)
      where
        go : Stepped w E M T c s → Garbage E T (edges (w.abs s)) x
        go (goes_on k e d) = A.appends_garbage (rw q at d) (v.inv s g)
        go (closes k e d) = A.appends_garbage (rw q at d) (v.inv s g)
        go (edits k e a d) = absurd (other≢appends (sym a ∙ q))

    -- the collector changes no edge of a node that a slot reaches
    pub leaves_edges : (c : Step) (s : S) → Sound s → collector c ≡ true → (p e : ℕ)
        → Reach E (Slot T) (edges (w.abs s)) p
        → edges (w.abs (w.after c s)) e p ≡ edges (w.abs s) e p
    leaves_edges c s g h p e r = go (v.stepped c s g)
      where
        go : Stepped w E M T c s → edges (w.abs (w.after c s)) e p ≡ edges (w.abs s) e p
        go (goes_on k t d) = untouched v.sizes d (v.inv s g) p e r
        go (closes k t d) = untouched v.sizes d (v.inv s g) p e r
        go (edits k t a d) = absurd (true≢false (sym h ∙ k))

-- the counts are those of the run
pub record Carried {S : Type 0} (w : Machine S) (Sound : S → Type 0) (n : Count) (s : S) : Type 0
  where
    pub sound : Sound s
    pub counts : w.counts s ≡ n

module _ {S : Type 0} {w : Machine S} {E M T B : ℕ} {Sound : S → Type 0} (v : Runs w E M T B Sound)
  where
    pub carried_run : (cs : List Step) (s : S) (n : Count) → Carried w Sound n s
        → Carried w Sound (count_by w.after w.told cs s n) (run_by w.after cs s)
    carried_run [] s n k = k
    carried_run (c ∷ cs) s n k = carried_run cs (w.after c s) (counted (w.told c s) c n) record {
      sound = v.sound c s k.sound;
      counts = v.counts c s k.sound ∙ ap (counted (w.told c s) c) k.counts;
    }
