-- The claims of demand 3 about a state that is ready, whatever the collector.
use Prim.Native.Nat.{ℕ, ◌≤◌, ◌<◌}
use mathlib.Core.Path.{◌≡◌, refl, sym, ap}
use mathlib.Core.Logic.{◌≢◌, ◌⊎◌, inl, inr}
use mathlib.Core.Option.{none}
use native.Mathlib.Omega.{arith}
use lib.ListN.{length}
use Rattle.base.proofs.Tests.{eq_yes, pick_yes}
use Rattle.rules.specs.Table.{State, FREE, left, edge, colour_of}
use Rattle.rules.specs.Check.{check}
use Rattle.rules.specs.InUse.{in_use}
use Rattle.rules.specs.FreeCount.{free_count}
use Rattle.rules.specs.declared.Answer.{Answer}
use Rattle.rules.specs.declared.Answer.TheVariants.{Counted}
use Rattle.theory.specs.Reach.{Reach, Root, Slot, Garbage}
use Rattle.theory.proofs.Steps as S
use Rattle.theory.proofs.Safe as A
use A.{Edits, of_slot, of_free, of_first, edit_where}
use Rattle.theory.proofs.Facts as F
use Rattle.theory.proofs.FreeCount.{count_listed}
use Rattle.theory.proofs.Invariant.{Inv, Free, at_roots}
use Rattle.reach.specs.Counted.{Number, HurtNode, Counts, bad_size, bad_record, damaged, counted}
use Rattle.reach.specs.Counted.{Reached}
use Rattle.reach.proofs.Counts.{number_on}
use Rattle.reach.proofs.InUse.{in_use_counted, in_use_reached}
use Rattle.runs.specs.Demand.{RootReaches, SlotReaches, Used, FreeNodes}
use Rattle.runs.proofs.Tables.{Rows, reach_from}
use Rattle.runs.proofs.Ready.{owes, state_in, top, Ready}

-- what slots and roots reach, and garbage, as the theory has them
module _ {E m : ℕ} (s : State) (w : Rows E m s.edges) {x : ℕ} where
  pub slot_there : SlotReaches s x → Reach E (Slot (top s)) (edge s) x
  slot_there a = reach_from (λ n h. omega arith) (rw w.count at a)

  pub slot_here : Reach E (Slot (top s)) (edge s) x → SlotReaches s x
  slot_here a = rw w.count (reach_from (λ n h. omega arith) a)

  pub root_there : RootReaches s x → Reach E (Root (top s)) (edge s) x
  root_there a = reach_from (λ n h. omega arith) (rw w.count at a)

  pub garbage_there : ¬ RootReaches s x → Garbage E (top s) (edge s) x
  garbage_there h a = h (rw w.count (reach_from (λ n h. omega arith) a))

-- up to the appending; while the roots are shaded no node is black
pub no_black_to_white : {E : ℕ} (s : State) (ph : S.Phase)
    → Inv E s.rec.m (top s) (state_in s ph) → ((i : ℕ) → ph ≢ S.Appending i)
    → owes s.rec.owed ≡ none → (e x : ℕ) → e < E → colour_of s x ≡ 2
    → colour_of s (edge s e x) ≢ 0
no_black_to_white s (S.Rooting i) v h o e x he b = absurd ((at_roots v.in_phase).no_black x b)
no_black_to_white s S.Seeking v h o e x he b = F.no_black_to_white v F.seeking o x e he b
no_black_to_white s (S.Working i j) v h o e x he b = F.no_black_to_white v F.working o x e he b
no_black_to_white s (S.Holding i j n) v h o e x he b = F.no_black_to_white v F.holding o x e he b
no_black_to_white s (S.Appending i) v h o e x he b = absurd (h i refl)

-- The free list, what is in use, and what an editor changes, whatever the collector.
module _ {E : ℕ} {s : State} {ph : S.Phase} (g : Ready E s ph) where
  pub free_nodes : FreeNodes s
  free_nodes = record {
    list = f.list;
    chained = record {
      chain = f.chain;
      distinct = (F.free_list g.inv).distinct;
    };
    only = λ fs c. F.free_only g.inv fs c;
    end = f.end;
    number = count_listed g.inv.shape g.free;
    bare = λ x i. (f.spare x i).bare;
    inside = λ x i. omega (arith, (f.spare x i).low, (f.spare x i).high);
    away = λ x i a. F.free_unreached g.inv x i (slot_there s g.rows a);
  }
    where
      f : Free E s.rec.m (top s) (edge s) s.rec.last
      f = g.inv.shape.free

  pub counts_free : free_count s ≡ Counted (length free_nodes.list)
  unfolding free_count
  counts_free = sym (pick_yes _ _ _ _ (eq_yes _ 0 (sym g.good))
      (ap Counted (sym free_nodes.number)))

  -- no edge is bad
  none_hurt : (x : ℕ) → ¬ HurtNode s x
  none_hurt x h = go h.3.1.1
    where
      go : (s.rec.m ≤ edge s h.3.0 x) ⊎ (edge s h.3.0 x ≡ FREE) → ⊥
      go (inl q) = omega (arith, g.inv.shape.bound h.3.0 x)
      go (inr q) = g.inv.shape.not_free h.3.0 x q

  pub counts_used : (k : ℕ) × (in_use s ≡ Counted k) × Number (Used s) s.rec.m k
  counts_used = go (in_use_counted s)
    where
      good : check s ≡ 0
      good = sym g.good

      at : (x : ℕ) → Reached s.rec.r s.edges x
      at = in_use_reached s.rec.r s.edges g.inv.shape.nil

      go : {a : Answer} → Counts s a → (k : ℕ) × (a ≡ Counted k) × Number (Used s) s.rec.m k
      go (bad_size q) = absurd (omega (arith, good))
      go (bad_record q) = absurd (omega (arith, good))
      go (damaged {n = n} q l d) = absurd (none_hurt n l.0)
      go (counted q h v) = (
        _,
        refl,
        number_on (λ x u. (u.0, (at x).reached u)) (λ x u. (at x).in_use u.0 u.1) v,
      )

  pub changed : {d : S.Deed} {σ : S.State} → S.EStep E (top s) d (state_in s ph) σ → (side x : ℕ)
      → S.edges σ side x ≢ edge s side x
      → SlotReaches s x ⊎ ((side ≡ left) × ((x ≡ FREE) ⊎ (x ≡ edge s left FREE)))
  changed {σ = σ} k side x ne = go (edit_where k g.inv side x)
    where
      go : (S.edges σ side x ≡ edge s side x) ⊎ Edits E (top s) (edge s) side x
          → SlotReaches s x ⊎ ((side ≡ left) × ((x ≡ FREE) ⊎ (x ≡ edge s left FREE)))
      go (inl q) = absurd (ne q)
      go (inr (of_slot a)) = inl (slot_here s g.rows a)
      go (inr (of_free a b)) = inr (a, inl b)
      go (inr (of_first a b)) = inr (a, inr b)
