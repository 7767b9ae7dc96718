-- A table that Load accepts is started: what is judged of its lists is the shape of a table.
use Prim.Native.Nat.{ℕ, zero, suc, ◌+◌, ◌≤◌, ◌<◌}
use mathlib.Core.Bool.{true}
use mathlib.Core.Path.{◌≡◌, refl, sym, ap, ap₂, ◌∙◌, subst}
use mathlib.Core.Logic.{◌⊎◌, inl, inr}
use mathlib.Core.List.{List, [], ◌∷◌, map}
use native.Mathlib.Decide.{ℕ_discrete, dec_lt}
use native.Mathlib.Omega.{arith}
use lib.ListN.{length, replicate, length-map}
use lib.Dec.{eqb}
use borrow.Author.Tests.{eqb-true}
use Rattle.base.specs.Choice.{every}
use Rattle.rules.specs.Table.{FREE, edge_of}
use Rattle.rules.specs.Steps.{code_of}
use Rattle.rules.specs.Load.{load}
use Rattle.rules.specs.declared.Answer.{Answer}
use Rattle.theory.specs.Reach.{Graph, Reach, start, along, Slot}
use Rattle.theory.specs.Free.{Mem}
use Rattle.theory.proofs.Reaches.{Named, Start, reach_ind}
use Rattle.theory.proofs.Chains.{chain_inside}
use Rattle.theory.proofs.Invariant.{Bare, Shape, Spare}
use Rattle.reach.specs.Judged.{Accepted, Judged, bad_size, edge_met, bad_chain, shared}
use Rattle.reach.specs.Judged.{accepted}
use Rattle.reach.proofs.Given.{Sizes, sizes, every_two, outside}
use Rattle.reach.proofs.Judges.{load_judged, load_leaves}
use Rattle.runs.specs.Start.{Served}
use Rattle.runs.proofs.Started.{opened, Started, started}

-- lengths that are all m
all_same : (m : ℕ) (ns : List ℕ) → every (map (λ n. eqb n m) ns) ≡ true → ns
    ≡ replicate (length ns) m
all_same m [] h = refl
all_same m (n ∷ ns) h =
    let w = every_two _ _ h in
    ap₂ (λ (k : ℕ) (ks : List ℕ). k ∷ ks) (eqb-true n m w.0) (all_same m ns w.1)

-- what an editor can name is NIL, or a slot reaches it
named_slot : {E r : ℕ} {s : Graph} → ((e : ℕ) → s e 0 ≡ 0) → {n : ℕ} → Named E (suc (suc r)) s n
    → (n ≡ 0) ⊎ Reach E (Slot (r + 2)) s n
named_slot {E} {r} {s} nil x = reach_ind (λ n. (n ≡ 0) ⊎ Reach E (Slot (r + 2)) s n) first next x
  where
    first : (n : ℕ) → Start (suc (suc r)) n → (n ≡ 0) ⊎ Reach E (Slot (r + 2)) s n
    first n h = go (ℕ_discrete n 0)
      where
        go : Dec (n ≡ 0) → (n ≡ 0) ⊎ Reach E (Slot (r + 2)) s n
        go (yes q) = inl q
        go (no q) = inr (start {n = n} (omega arith))

    next : (p e : ℕ) → e < E → (p ≡ 0) ⊎ Reach E (Slot (r + 2)) s p
        → (s e p ≡ 0) ⊎ Reach E (Slot (r + 2)) s (s e p)
    next p e h (inl q) = inl (rw q (nil e))
    next p e h (inr a) = inr (along e h refl a)

module _ {E m r last : ℕ} {es : List (List ℕ)} (few : Served E) (q : length es ≡ E)
    (z : Sizes m r es) (a : Accepted m r es last) where
  -- a node without a right edge has a left one only
  bare : (n : ℕ) → edge_of es 1 n ≡ 0 → Bare (edge_of es) n
  bare n h zero e0 = absurd (e0 refl)
  bare n h (suc zero) e0 = h
  bare n h (suc (suc e)) e0 = outside m es z.rows (suc (suc e)) n (inl (omega arith))

  spare : (f : ℕ) → Mem f a.free → Spare E m (suc (suc r)) (edge_of es) f
  spare f i = record {
    low = low;
    high =
        chain_inside (edge_of es) m (λ n. (a.edges.good 0 n).0) FREE a.free
        a.chain.chained.chain f i;
    bare = bare f (a.chain.bare f (inr i));
    away = λ x. away (named_slot a.edges.nil x);
  }
    where
      low : suc (suc r) ≤ f
      low = go (dec_lt f (r + 2))
        where
          go : Dec (f < r + 2) → suc (suc r) ≤ f
          go (yes h) = absurd (a.chain.no_root f i h)
          go (no h) = omega arith

      away : (f ≡ 0) ⊎ Reach E (Slot (r + 2)) (edge_of es) f → ⊥
      away (inl e) = omega (arith, low)
      away (inr x) = a.away f i (subst (λ k. Reach k (Slot (r + 2)) (edge_of es) f) (sym q) x)

  load_shape : Shape E m (suc (suc r)) (edge_of es) last
  load_shape = record {
    bound = λ e n. (a.edges.good e n).0;
    not_free = λ e n. (a.edges.good e n).1;
    nil = a.edges.nil;
    bare = bare FREE (a.chain.bare FREE (inl refl));
    free = record { list = a.free; chain = a.chain.chained.chain; end = a.end; spare = spare };
  }

  load_starts : Started E m r (opened m r es last (length a.free))
  load_starts = started record {
    few = few;
    m_low = z.low;
    m_high = z.high;
    r_low = z.slots.0;
    r_high = z.slots.1;
    room = z.room;
    rows = record {
      count =
          q;
      lengths = all_same m (map length es) z.rows
          ∙ ap (λ (k : ℕ). replicate k m) (length-map es length ∙ q);
    };
    shape = load_shape;
    free = (a.free, a.chain.chained.chain, refl);
  }

pub load_started : {E : ℕ} (m r : ℕ) (given edges : List (List ℕ)) (colours : List ℕ) → Served E
    → length given ≡ E
    → code_of (load m r given edges colours).answer ≡ 0
    → Started E m r (load m r given edges colours).state
load_started {E} m r given edges colours few q h =
    go (load m r given edges colours).answer refl (load_judged m r given edges colours) h
  where
    go : (a : Answer) → (load m r given edges colours).answer ≡ a → Judged m r given edges colours a
        → code_of a ≡ 0
        → Started E m r (load m r given edges colours).state
    go _ e (accepted {last = last} p a) h =
        rw ((load_leaves m r given edges colours).done last e a.free a.chain)
        (load_starts few q (sizes m r given (map length edges) (length colours) p) a)
    go _ e (bad_size p) h = absurd (omega arith)
    go _ e (edge_met p b d) h = absurd (omega arith)
    go _ e (bad_chain p g c b) h = absurd (omega arith)
    go _ e (shared p g c l) h = absurd (omega arith)
