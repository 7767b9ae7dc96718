-- Demand 3: each of its claims, of a sound state, and all of them of every run from a start.
use Prim.Native.Nat.{ℕ, suc}
use mathlib.Core.Bool.{true, false, true≢false}
use mathlib.Core.Path.{◌≡◌, refl, sym, ap, ◌∙◌, subst}
use mathlib.Core.Logic.{◌≢◌, ◌⊎◌}
use mathlib.Core.Option.{some}
use native.Mathlib.Omega.{arith}
use Rattle.rules.specs.Table.{State, FREE, left, edge}
use Rattle.rules.specs.Check.{bound}
use Rattle.rules.specs.Steps.{step, code_of}
use Rattle.rules.specs.declared.Step.{Step}
use Rattle.rules.specs.declared.Answer.TheVariants.{Appended}
use Rattle.theory.specs.Reach.{Garbage}
use Rattle.theory.specs.Free.{Mem}
use Rattle.theory.proofs.Steps as S
use S.{Tick}
use Rattle.theory.proofs.Marking.{none≢some}
use Rattle.runs.specs.Runs.{after, collector, Count, begun}
use Rattle.runs.specs.Demand.{RootReaches, SlotReaches, Used, Allowed, Demand, Demand3}
use Rattle.runs.proofs.Codes.{allowed}
use Rattle.runs.proofs.Tables.{reach_from}
use Rattle.runs.proofs.Phases.{view, is_append}
use Rattle.runs.proofs.Ready.{owes}
use Rattle.runs.proofs.Sound.{Sound, ready}
use Rattle.runs.proofs.Answers.{named}
use Rattle.runs.proofs.Edited.{walked, walked_at}
use Rattle.runs.proofs.AnyStep.{Collected, Stepped, goes_on, closes, edits, stepped}
use Rattle.runs.proofs.Counting.{Carried, carried_run, ends_within, appended_within}
use Rattle.runs.proofs.Counting.{appends_garbage, leaves}
use Rattle.runs.proofs.Starts.{starts}
use Rattle.runs.proofs.Claims.{slot_there, slot_here, root_there, garbage_there}
use Rattle.runs.proofs.Claims.{no_black_to_white, free_nodes, counts_free, counts_used}
use Rattle.runs.proofs.Claims.{changed}

module _ {E : ℕ} {s : State} (g : Sound E s) where
  accepts : (c : Step) → collector c ≡ true → code_of (step c s).answer ≡ 0
  accepts c h = go (stepped c s g)
    where
      go : Stepped E c s → code_of (step c s).answer ≡ 0
      go (goes_on e a k) = k.code
      go (closes e a k) = k.code
      go (edits e q k) = absurd (true≢false (sym h ∙ q))

  answers : (c : Step) → Allowed (code_of (step c s).answer)
  answers c = go (stepped c s g)
    where
      go : Stepped E c s → Allowed (code_of (step c s).answer)
      go (goes_on e a k) = rw k.code (allowed refl)
      go (closes e a k) = rw k.code (allowed refl)
      go (edits e q k) = k.code

  names : (c : Step) (x : ℕ) → named (step c s).answer ≡ some x → SlotReaches s x
  names c x q = go (stepped c s g)
    where
      by : {tk : Tick} → Collected E c s tk → SlotReaches s x
      by k = absurd (none≢some (sym k.named ∙ q))

      go : Stepped E c s → SlotReaches s x
      go (goes_on e y k) = by k
      go (closes e y k) = by k
      go (edits e h k) = slot_here s g.rows (k.named x q)

  changes : (c : Step) → collector c ≡ false → (side x : ℕ)
      → edge (after c s) side x ≢ edge s side x
      → SlotReaches s x ⊎ ((side ≡ left) × ((x ≡ FREE) ⊎ (x ≡ edge s left FREE)))
  changes c h side x ne = go (stepped c s g)
    where
      go : Stepped E c s → SlotReaches s x ⊎ ((side ≡ left) × ((x ≡ FREE) ⊎ (x ≡ edge s left FREE)))
      go (goes_on e y k) = absurd (true≢false (sym k.kind ∙ h))
      go (closes e y k) = absurd (true≢false (sym k.kind ∙ h))
      go (edits e q k) = changed (ready g) k.made side x ne

pub demand : {E m r : ℕ} {n : Count} {s : State} → Carried E m r n s → Demand E m r n s
demand {E} {m} {r} {n} {s} v = record {
  edges = v.sound.rows.count;
  nodes = v.nodes;
  slots = v.slots;
  accepted = λ c h. omega (arith, accepts v.sound c h);
  allowed = answers v.sound;
  unchanged = λ c h side x a. leaves v.sound c h side x (slot_there s v.sound.rows a);
  spares = λ c x q a. appended_garbage c x q (reach_from (λ n h. omega arith) a);
  garbage = appended_garbage;
  ends = λ cs l. ends_within v cs (omega (arith, l));
  within =
      omega (
        arith,
        ap (λ (n : Count). n.took) v.counts,
        v.sound.fits.told.took,
        same_bound,
      );
  steps = omega (arith, ap (λ (n : Count). n.since) v.counts);
  took = omega (arith, ap (λ (n : Count). n.took) v.counts);
  cycles = omega (arith, ap (λ (n : Count). n.cycles) v.counts);
  blackened = omega (arith, ap (λ (n : Count). n.blackened) v.counts);
  lastblackened = omega (arith, ap (λ (n : Count). n.marked) v.counts);
  appended = λ x hx a cs l.
      let u =
      subst (λ r. Garbage E (suc (suc r)) (edge s) x) v.slots
      (garbage_there s v.sound.rows a) in
      appended_within v x hx u cs (omega (arith, l));
  free = free_nodes (ready v.sound);
  nil = v.sound.inv.shape.nil;
  head = v.sound.inv.shape.bare;
  named =
      λ p x e q. slot_here s v.sound.rows
      (walked_at (rw q at (walked (ready v.sound) p (sym e))));
  looks = λ c x q. names v.sound c x (ap named q);
  links = λ c x q. names v.sound c x (ap named q);
  edits = changes v.sound;
  no_black_to_white = λ h o side x l b.
      no_black_to_white s _ v.sound.inv
      (λ i q. h i (is_append (view v.sound.fits.few s.rec.phase) q)) (ap owes o) side x
      (omega (arith, l, v.sound.rows.count)) b;
  in_use = counts_used (ready v.sound);
  free_count = counts_free (ready v.sound);
}
  where
    same_bound : bound E s.rec.m s.rec.r ≡ bound E m r
    same_bound = rw (v.nodes, v.slots) refl

    appended_garbage : (c : Step) (x : ℕ) → (step c s).answer ≡ Appended x → ¬ RootReaches s x
    appended_garbage c x q a =
        appends_garbage v.sound c x q (root_there s v.sound.rows a)

-- [In use 4] no free node is used
pub free_not_used : {E m r : ℕ} {n : Count} {s : State} → (d : Demand E m r n s) → (x : ℕ)
    → Mem x d.free.list → ¬ Used s x
free_not_used d x i u = d.free.away x i u.1

pub demand_3 : Demand3
demand_3 e m r s k cs = demand (carried_run cs s begun (starts k))
