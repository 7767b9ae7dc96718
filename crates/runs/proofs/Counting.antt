-- The collector is a machine whose steps are the theory's: so its counts are those of the run, a
-- cycle takes at most B collector steps, and garbage is appended within 3 × B.
use Prim.Native.Nat.{ℕ, suc, ◌+◌, ◌*◌, ◌≤◌, ◌<◌}
use mathlib.Core.Bool.{true}
use mathlib.Core.Path.{◌≡◌, refl, sym, ap, ◌∙◌, subst, subst₂}
use mathlib.Core.List.{List, [], ◌∷◌}
use native.Mathlib.Omega.{arith}
use Rattle.rules.specs.Table.{State, edge}
use Rattle.rules.specs.Check.{bound}
use Rattle.rules.specs.Steps.{step, run}
use Rattle.rules.specs.declared.Step.{Step}
use Rattle.rules.specs.declared.Answer.TheVariants.{Appended}
use Rattle.theory.specs.Reach.{Reach, Slot, Garbage}
use Rattle.theory.proofs.Steps.{Tick, CStep, EStep}
use Rattle.theory.proofs.Invariant.{Sizes, Inv}
use Rattle.runs.specs.Runs.{after, collector, collector_steps, Completes}
use Rattle.runs.specs.Runs.{Appends, Count, counted, told, count, run_by}
use Rattle.runs.proofs.Ready.{abs, top, sizes}
use Rattle.runs.proofs.Sound.{Sound, cycle_goes}
use Rattle.runs.proofs.Answers.{act, counts, is_appended_lem}
use Rattle.runs.proofs.Edited.{made_there}
use Rattle.runs.proofs.AnyStep as A
use A.{Collected, stepped, sound_step}
use Rattle.runs.proofs.Machine as M
use M.{Machine, Stepped, goes_on, closes, edits, Runs, counted_on, counted_over, counted_not}
use M.{some_map, ends_soon, appended_soon, only_garbage, leaves_edges}

abbrev machine : ℕ → Machine State
machine E = record {
  after = after;
  told = told;
  act = λ c s. act (step c s).answer;
  abs = abs E;
  counts = λ s. counts s.rec;
}

run_is : (cs : List Step) (s : State) → run cs s ≡ run_by after cs s
unfolding run
run_is [] s = refl
run_is (c ∷ cs) s = run_is cs (after c s)

-- a sound state with these M and R
record Held (E m r : ℕ) (s : State) : Type 0 where
  sound : Sound E s
  nodes : s.rec.m ≡ m
  slots : s.rec.r ≡ r

-- what is carried along a run: the state is sound, M and R are the start's, and the record's counts
-- are those counted
pub record Carried (E m r : ℕ) (n : Count) (s : State) : Type 0 where
  pub sound : Sound E s
  pub nodes : s.rec.m ≡ m
  pub slots : s.rec.r ≡ r
  pub counts : counts s.rec ≡ n

module _ {E m r : ℕ} where
  turn : (c : Step) (s : State) → Held E m r s → Stepped (machine E) E m (suc (suc r)) c s
  turn c s v = go (stepped c s v.sound)
    where
      there : {t : Tick} → Collected E c s t
          → CStep E m (suc (suc r)) (abs E s) (abs E (after c s)) (act (step c s).answer) t
      there {t} k =
          subst₂ (λ m r. CStep E m (suc (suc r)) (abs E s) (abs E (after c s))
          (act (step c s).answer) t) v.nodes v.slots k.made

      go : A.Stepped E c s → Stepped (machine E) E m (suc (suc r)) c s
      go (A.goes_on e a k) = goes_on k.kind e (there k)
      go (A.closes e a k) = closes k.kind e (there k)
      go (A.edits e h k) = edits h e k.appends (subst
          (λ r. EStep E (suc (suc r)) k.deed (abs E s) (abs E (after c s))) v.slots
          (made_there k))

  tally : (c : Step) (s : State) → Held E m r s → counts (after c s).rec
      ≡ counted (told c s) c (counts s.rec)
  tally c s v = go (stepped c s v.sound)
    where
      go : A.Stepped E c s → counts (after c s).rec ≡ counted (told c s) c (counts s.rec)
      go (A.goes_on e a k) = a ∙ sym (counted_on _ c _ e k.kind)
      go (A.closes e a k) = a ∙ sym (counted_over _ c _ e)
      go (A.edits e h k) = k.same.counts ∙ sym (counted_not _ c _ e h)

  held_step : (c : Step) (s : State) → Held E m r s → Held E m r (after c s)
  held_step c s v = record {
    sound =
        sound_step c s v.sound;
    nodes = (go (stepped c s v.sound)).0;
    slots = (go
        (stepped c s v.sound)).1;
  }
    where
      go : A.Stepped E c s → ((after c s).rec.m ≡ m) × ((after c s).rec.r ≡ r)
      go (A.goes_on e a k) = (k.nodes ∙ v.nodes, k.slots ∙ v.slots)
      go (A.closes e a k) = (k.nodes ∙ v.nodes, k.slots ∙ v.slots)
      go (A.edits e h k) = (k.same.m ∙ v.nodes, k.same.r ∙ v.slots)

  runs : {s : State} → Held E m r s → Runs (machine E) E m (suc (suc r)) (bound E m r) (Held E m r)
  runs {s} h = record {
    sizes = subst₂ (λ m r. Sizes E m (suc (suc r))) h.nodes h.slots (sizes h.sound.fits);
    inv =
        λ s v. subst₂ (λ m r. Inv E m (suc (suc r)) (abs E s)) v.nodes v.slots
        v.sound.inv;
    below =
        λ s v. subst₂ (λ m r. s.rec.steps < bound E m r) v.nodes v.slots
        (cycle_goes v.sound);
    stepped = turn;
    sound = held_step;
    counts = tally;
  }

  held : {n : Count} {s : State} → Carried E m r n s → Held E m r s
  held v = record { sound = v.sound; nodes = v.nodes; slots = v.slots }

  pub carried_run : (cs : List Step) (s : State) (n : Count) → Carried E m r n s
      → Carried E m r (count cs s n) (run cs s)
  carried_run cs s n v =
      let k = M.carried_run (runs (held v)) cs s n record { sound = held v; counts = v.counts } in
      rw (run_is cs s) record {
        sound = k.sound.sound;
        nodes = k.sound.nodes;
        slots = k.sound.slots;
        counts = k.counts;
      }

  pub ends_within : {n : Count} {s : State} → Carried E m r n s → (cs : List Step)
      → bound E m r ≤ n.since + collector_steps cs → Completes cs s
  ends_within {s = s} v cs l =
      ends_soon (runs (held v)) cs s (held v)
      (omega (arith, ap (λ (n : Count). n.since) v.counts))

  pub appended_within : {n : Count} {s : State} → Carried E m r n s → (x : ℕ) → x < m
      → Garbage E (suc (suc r)) (edge s) x → (cs : List Step)
      → 3 * bound E m r ≤ collector_steps cs → Appends x cs s
  appended_within {s = s} v x hx u cs l =
      some_map (λ c s q. is_appended_lem x (step c s).answer q)
      (appended_soon (runs (held v)) x hx cs s (held v) u l)

module _ {E : ℕ} {s : State} (g : Sound E s) where
  itself : Held E s.rec.m s.rec.r s
  itself = record { sound = g; nodes = refl; slots = refl }

  -- what a step appends, and what the collector leaves
  pub appends_garbage : (c : Step) (x : ℕ) → (step c s).answer ≡ Appended x
      → Garbage E (top s) (edge s) x
  appends_garbage c x q = only_garbage (runs itself) c s x itself (ap act q)

  pub leaves : (c : Step) → collector c ≡ true → (side x : ℕ) → Reach E (Slot (top s)) (edge s) x
      → edge (after c s) side x ≡ edge s side x
  leaves c h side x a = leaves_edges (runs itself) c s itself h x side a

-- a sound state stays so, with its M and R, whatever was counted before
pub carried_from : {E : ℕ} (cs : List Step) (s : State) → Sound E s
    → (n : Count) × Carried E s.rec.m s.rec.r n (run cs s)
carried_from cs s g = (
  count cs s (counts s.rec),
  carried_run cs s _
      (record { sound = g; nodes = refl; slots = refl; counts = refl }),
)
