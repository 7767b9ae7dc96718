-- A step of a record that passes leaves one that passes again, but for the counts that `in_limits`
-- looks at. Here by the cases of the collector's step; `AnyStep.antt` has the editor's.
use Prim.Native.Nat.{ℕ, ◌+◌, ◌≤◌, ◌<◌}
use mathlib.Core.Path.{◌≡◌, refl, sym, ◌∙◌}
use mathlib.Core.Bool.{Bool, true, false, true≢false}
use mathlib.Core.List.{List, [], ◌∷◌, map}
use lib.ListN.{length, length-set}
use borrow.Author.Tests.{ltb-true, leb-true, eqb-false}
use native.Mathlib.Omega.{arith}
use native.Mathlib.Nat.{mod-lt}
use Rattle.base.specs.Choice.{every}
use Rattle.base.proofs.Tests.{each, split, pick_yes, pick_no, eq_no, lt_yes, le_yes, or_skip}
use Rattle.base.proofs.Tests.{every_skip, every_none}
use Rattle.rules.specs.declared.Record.{Record}
use Rattle.rules.specs.declared.Phase.{Phase}
use Rattle.rules.specs.declared.Phase.TheVariants.{Append}
use Rattle.rules.specs.Table.{State, Outcome, cleared}
use Rattle.rules.specs.Records.{with_last, with_free, moved, marked, rescan, after_append}
use Rattle.rules.specs.Check.{size_ok, phase_ok, owed_ok, last_ok, free_ok, bound, cycle_ok, told_ok}
use Rattle.rules.specs.Check.{in_limits, counts_ok, record_ok, check_of, check}
use Rattle.rules.specs.Collector.{append, phase_step}
use Rattle.rules.specs.Facts.{Tells}
use Rattle.rules.proofs.Changes.{shaded_length}
use Rattle.rules.proofs.Checked.{passes, tells, tells_ok}
use Rattle.rules.proofs.PhaseSteps.{roots_ok, node_ok, scan_ok, phase_comes}
use Rattle.rules.proofs.Rows.{edge_lengths, cleared_lengths, clear_colour}

-- y passes wherever x does, but for its free, its steps and its blackened
pub record Steady (E : ℕ) (x y : Record) : Type 0 where
  pub m : y.m ≡ x.m
  pub r : y.r ≡ x.r
  pub owed : true ≡ owed_ok x.m y.owed
  pub phase : true ≡ phase_ok x.m x.r y.phase
  pub last : true ≡ last_ok x.m x.r y.last
  pub told : Tells y (bound E x.m x.r)

-- the number of edges of a node
abbrev pub count : State → ℕ
count s = length (map length s.edges)

pub record Kept (s : State) (o : Outcome) : Type 0 where
  pub rec : Steady (count s) s.rec o.state.rec
  pub edges : map length o.state.edges ≡ map length s.edges
  pub colours : length o.state.colour ≡ length s.colour

last_ok_lem : (m r n : ℕ) → r + 1 < n → n < m → true ≡ last_ok m r n
unfolding last_ok
last_ok_lem m r n h k =
    or_skip _ _ _ (eq_no n 1 (λ z. omega arith))
    (every_skip _ _ _ (le_yes (r + 2) n (omega arith))
    (every_skip _ _ _ (lt_yes _ _ k) every_none))

-- a record that passes
pub record Passed (E : ℕ) (x : Record) : Type 0 where
  pub low : 3 ≤ x.m
  pub room : x.r + 2 ≤ x.m
  pub self : Steady E x x
  pub blackened : x.blackened ≤ x.m
  pub steps : x.steps < bound E x.m x.r

pub passed : (ls : List ℕ) (cl : ℕ) (x : Record) → 0 ≡ check_of ls cl x → Passed (length ls) x
unfolding size_ok record_ok counts_ok cycle_ok
passed ls cl x e =
    let g = each _ (passes ls cl x e).0 in
    let f = each _ (passes ls cl x e).1 in
    let n = each _ (sym f.1.1.1.1.0) in
    let k = each _ (sym n.0) in
    record {
      low = leb-true _ _ g.0;
      room = leb-true _ _ g.1.1.1.1.0;
      self = record {
        m =
            refl;
        r = refl;
        owed = sym f.1.0;
        phase = sym f.0;
        last = sym f.1.1.0;
        told = tells x _
            (sym n.1.0);
      };
      blackened = leb-true _ _ k.0;
      steps = ltb-true _ _ k.1.0;
    }

pub steps_below : (ls : List ℕ) (cl : ℕ) (x : Record) → 0 ≡ check_of ls cl x
    → x.steps < bound (length ls) x.m x.r
steps_below ls cl x e = (passed ls cl x e).steps

pub free_passes : (ls : List ℕ) (cl : ℕ) (x : Record) → 0 ≡ check_of ls cl x
    → true ≡ free_ok x.m x.r x.last x.free
unfolding record_ok
free_passes ls cl x e = sym (each _ (passes ls cl x e).1).1.1.1.0

module _ (s : State) (g : Passed (count s) s.rec) where
  abbrev E : ℕ
  E = count s

  abbrev x : Record
  x = s.rec

  moved_steady : (p : Phase) → true ≡ phase_ok x.m x.r p → Steady E x (moved x p)
  moved_steady p h = record {
    m =
        refl;
    r = refl;
    owed = g.self.owed;
    phase = h;
    last = g.self.last;
    told = omega (arith, g);
  }

  marked_steady : Steady E x (marked x)
  marked_steady =
      record {
        m =
            refl;
        r = refl;
        owed = g.self.owed;
        phase = node_ok _ _ (Append 0) (omega arith) refl (omega (arith, g));
        last =
            g.self.last;
        told = omega (arith, g);
      }

  rescan_steady : (i : ℕ) → i < x.m → Steady E x (rescan x i)
  rescan_steady i h =
      record {
        m =
            refl;
        r = refl;
        owed = g.self.owed;
        phase = scan_ok _ _ _ _ (mod-lt (i + 1) (omega arith))
            (omega arith) (omega arith);
        last = g.self.last;
        told = omega (arith, g);
      }

  after_steady : (i n free : ℕ) → i < x.m → true ≡ last_ok x.m x.r n
      → Steady E x (after_append (with_free (with_last x n) free) i)
  unfolding after_append
  after_steady i n free h k =
      split (Steady E x) _ _ _
      (λ e. record {
        m = refl;
        r = refl;
        owed = g.self.owed;
        phase = roots_ok x.m x.r 0 (omega arith);
        last = k;
        told = omega (arith, g);
      })
      (λ e. let q = eqb-false (i + 1) x.m e in
      record {
        m = refl;
        r = refl;
        owed = g.self.owed;
        phase = node_ok _ _ (Append (i + 1)) (omega arith) refl (omega arith);
        last = k;
        told = omega (arith, g);
      })

  edges_kept : (i : ℕ) → map length (append s i).edges ≡ map length s.edges
  unfolding append
  edges_kept i = edge_lengths (cleared s i) 0 x.last i ∙ cleared_lengths s i

  colours_kept : (i : ℕ) → length (append s i).colour ≡ length s.colour
  unfolding append
  colours_kept i = clear_colour s i

pub kept : (s : State) → 0 ≡ check s → Kept s (phase_step s s.rec.phase)
kept s e = phase_comes s (Kept s) e record {
  stays = λ a t. record { rec = g.self; edges = refl; colours = refl };
  shades = λ n p h k. record {
    rec = moved_steady s g p h;
    edges = refl;
    colours = shaded_length s.colour n;
  };
  looks = λ i p h k. record { rec = moved_steady s g p h; edges = refl; colours = refl };
  marks = λ i k. record { rec = marked_steady s g; edges = refl; colours = refl };
  blackens = λ i h k. record {
    rec = rescan_steady s g i h;
    edges = refl;
    colours = length-set s.colour i 2;
  };
  whitens = λ i q h. record {
    rec = after_steady s g i s.rec.last s.rec.free h g.self.last;
    edges = refl;
    colours = length-set s.colour i 0;
  };
  appends = λ i q l h v. record {
    rec = after_steady s g i i (s.rec.free + 1) h (last_ok_lem _ _ _ l h);
    edges = edges_kept s g i;
    colours = colours_kept s g i;
  };
}
  where
    g : Passed (count s) s.rec
    g = passed _ _ s.rec e

-- the third test is passed
but_two : (z a b c : Bool) → z ≡ every (a ∷ b ∷ []) → true ≡ c → z
    ≡ every (a ∷ every (b ∷ c ∷ []) ∷ [])
unfolding every
but_two z true true true h k = h
but_two z true false true h k = h
but_two z false b true h k = h
but_two z a b false h k = absurd (true≢false k)

-- the code of what a step leaves, by the counts that it can bring past their limits
module _ (s : State) (e : 0 ≡ check s) (o : Outcome) (k : Kept s o) where
  abbrev y : Record
  y = o.state.rec

  abbrev B : ℕ
  B = bound (count s) s.rec.m s.rec.r

  sizes_kept : true ≡ size_ok y.m y.r (map length s.edges) (length o.state.colour)
  sizes_kept = rw (k.rec.m, k.rec.r, k.colours) (passes _ _ s.rec e).0

  owed_still : true ≡ owed_ok y.m y.owed
  owed_still = rw k.rec.m k.rec.owed

  phase_still : true ≡ phase_ok y.m y.r y.phase
  phase_still = rw (k.rec.m, k.rec.r) k.rec.phase

  last_still : true ≡ last_ok y.m y.r y.last
  last_still = rw (k.rec.m, k.rec.r) k.rec.last

  same_bound : bound (count s) y.m y.r ≡ B
  same_bound = rw (k.rec.m, k.rec.r) refl

  told_still : true ≡ told_ok y (bound (count s) y.m y.r)
  told_still = rw same_bound (tells_ok y B k.rec.told)

  record_fine : (z : Bool) → z ≡ in_limits y B → z ≡ record_ok (count s) y
  unfolding record_ok counts_ok in_limits
  record_fine z h =
      every_skip _ _ _ phase_still (every_skip _ _ _ owed_still
      (every_skip _ _ _ last_still (but_two _ _ _ _ (rw same_bound h) told_still)))

  pub passes_again : true ≡ in_limits y B → 0 ≡ check o.state
  unfolding check_of
  passes_again h =
      rw k.edges (pick_yes _ _ _ _ sizes_kept (pick_yes _ _ _ _ (record_fine true h) refl))

  pub now_spoilt : false ≡ in_limits y B → 2 ≡ check o.state
  unfolding check_of
  now_spoilt h =
      rw k.edges (pick_yes _ _ _ _ sizes_kept (pick_no _ _ _ _ (record_fine false h) refl))
