-- What is said of an outcome of an editor's step: it is a step of the theory's editor, or changes
-- nothing, its code is allowed, and the free count falls by one where it takes. Codes before the
-- walk, and the walk: from a ready state they refuse with an allowed code, or the place names a
-- node.
use Prim.Native.Nat.{ℕ, zero, suc, ◌/◌, ◌%◌}
use mathlib.Core.Bool.{true, false}
use mathlib.Core.Path.{◌≡◌, refl, sym}
use mathlib.Core.Option.{none, some}
use mathlib.Core.List.{List, [], ◌∷◌, map}
use lib.ListN.{length}
use native.Mathlib.Omega.{arith}
use borrow.Author.Tests.{eqb-true, ltb-true}
use Rattle.base.specs.Choice.{first}
use Rattle.base.proofs.Tests.{each, split, Zeros, zeros}
use Rattle.rules.specs.Table.{State, sides, Outcome, refuse, unless, edge}
use Rattle.rules.specs.Records.{with_owed, with_last, with_free}
use Rattle.rules.specs.Check.{check}
use Rattle.rules.specs.Places.{base, sides_ok, turns_ok, place_code, start, walk_from, walk, arrive}
use Rattle.rules.specs.Editor.{owed_code}
use Rattle.rules.specs.Steps.{code_of}
use Rattle.rules.specs.declared.Record.{Record}
use Rattle.rules.specs.declared.Place.{Place}
use Rattle.rules.specs.Places.{Walk}
use Rattle.std.specs.Prelude.{Ok, Some, None}
use Rattle.rules.proofs.Walks.{slot_below}
use Rattle.theory.specs.Reach as R
use R.{Reach, Slot}
use Rattle.theory.proofs.Marking.{none≢some}
use Rattle.theory.proofs.Steps as S
use S.{other, Deed, nothing, EStep, rest}
use Rattle.theory.proofs.FreeCount.{free_edited}
use Rattle.runs.specs.Runs.{kind, blackens}
use Rattle.runs.specs.Demand.{Allowed}
use Rattle.runs.proofs.Picks.{if_no}
use Rattle.runs.proofs.Codes.{allowed, AllAllowed, allowed_first}
use Rattle.runs.proofs.Ready.{owes, state_in, abs, top, InLimits, Ready, good_edge_lem}
use Rattle.runs.proofs.Answers.{act, named, counts}
use Rattle.rules.specs.Records.{Owed}

-- an editor's step leaves the collector's part of the record
pub record Same (x y : Record) : Type 0 where
  pub m : y.m ≡ x.m
  pub r : y.r ≡ x.r
  pub phase : y.phase ≡ x.phase
  pub counts : counts y ≡ counts x

pub record Edited (E : ℕ) (s : State) (ph : S.Phase) (o : Outcome) : Type 0 where
  pub deed : Deed
  pub made : EStep E (top s) deed (state_in s ph) (state_in o.state ph)
  pub free : o.state.rec.free ≡ free_edited deed s.rec.free
  pub code : Allowed (code_of o.answer)
  pub named : (x : ℕ) → named o.answer ≡ some x → Reach E (Slot (top s)) (edge s) x
  pub appends : act o.answer ≡ other
  pub blackens : blackens o.answer ≡ false
  pub fits : InLimits E o.state
  pub lengths : map length o.state.edges ≡ map length s.edges
  pub same : Same s.rec o.state.rec

pub some_same : {x y : ℕ} → some x ≡ some y → x ≡ y
some_same q = cc

-- another node owed, another last, and another free count
pub same : (x : Record) (o : Owed) (n k : ℕ) → Same x (with_free (with_last (with_owed x o) n) k)
same x o n k = record { m = refl; r = refl; phase = refl; counts = refl }

pub refused : {E : ℕ} {s : State} {ph : S.Phase} → InLimits E s → (code node : ℕ) → Allowed code
    → Edited E s ph (refuse s code node)
refused {E} {s} f code node h = record {
  deed = nothing;
  made = rest;
  free = refl;
  code = h;
  named = λ x q. absurd (none≢some q);
  appends = refl;
  blackens = refl;
  fits = f;
  lengths = refl;
  same = same s.rec s.rec.owed s.rec.last s.rec.free;
}

-- the codes given before the walk
pub unless_edited : {E : ℕ} {s : State} {ph : S.Phase} → Ready E s ph → (cs : List ℕ) (o : Outcome)
    → AllAllowed cs → (Zeros cs → Edited E s ph o)
    → Edited E s ph (unless (first (check s ∷ cs)) s o)
unfolding unless
unless_edited {E} {s} {ph} g cs o h k =
    split (Edited E s ph) _ _ _ (λ q. k (zeros (check s ∷ cs) (sym (eqb-true _ _ q))).1)
    (λ q. refused g.fits _ 0 (allowed_first (check s ∷ cs) (rw (← g.good) (allowed refl), h)))

pub none_owed : (o : Owed) → 0 ≡ owed_code o → owes o ≡ none
unfolding owed_code
none_owed None e = refl
none_owed (Some n) e = absurd (omega arith)

-- a walk comes to a node that a slot reaches
pub data Walked (E : ℕ) (s : State) : Walk → Type 0 where
  at : {n : ℕ} → Reach E (Slot (top s)) (edge s) n → Walked E s (Ok n)

pub walked_at : {E : ℕ} {s : State} {n : ℕ} → Walked E s (Ok n) → Reach E (Slot (top s)) (edge s) n
walked_at (at a) = a

-- a place that passes its tests turns to sides that the table has
turns_fit : (E r : ℕ) (p : Place) → 0 ≡ place_code E r p → true ≡ sides_ok E p.count p.word
unfolding place_code turns_ok
turns_fit E r p = split (λ (n : ℕ). 0 ≡ n → true ≡ sides_ok E p.count p.word) _ _ _
    (λ a. split (λ (n : ℕ). 0 ≡ n → true ≡ sides_ok E p.count p.word) _ _ _
    (λ b e. sym (each (_ ∷ sides_ok E p.count p.word ∷ _ ∷ []) (sym b)).1.0)
    (λ b e. absurd (omega arith)))
    (λ a e. absurd (omega arith))

module _ {E : ℕ} {s : State} {ph : S.Phase} (g : Ready E s ph) where
  walk_on : (k w n : ℕ) → true ≡ sides_ok E k w → Reach E (Slot (top s)) (edge s) n
      → Walked E s (walk_from (base E) (edge s) s.rec.m k w n)
  unfolding walk_from sides_ok
  walk_on zero w n h a = at a
  walk_on (suc k) w n h a =
      let d = w % base E in
      let fine =
      good_edge_lem s.rec.m (edge s d n) (g.inv.shape.bound d n)
      (g.inv.shape.not_free d n) in
      let t = each _ h in
      split (Walked E s) _ _ _ (λ z. at (rw (eqb-true n 0 z) at a))
      (λ z. if_no (Walked E s) _ _ _ fine
      (walk_on k (w / base E) (edge s d n) (sym t.1.0)
      (R.along d (ltb-true _ _ t.0) refl a)))

  pub walked : (p : Place) → 0 ≡ place_code (sides s) s.rec.r p → Walked E s (walk s p)
  walked p e =
      rw g.rows.count (walk_on p.count p.word (start p)
      (rw g.rows.count at (turns_fit (sides s) s.rec.r p e))
      (R.start {n = start p} (omega (arith, slot_below (sides s) s.rec.r p e))))

  pub arrived : {w : Walk} (go : ℕ → Outcome) → Walked E s w
      → ((n : ℕ) → Reach E (Slot (top s)) (edge s) n → Edited E s ph (go n))
      → Edited E s ph (arrive s w go)
  unfolding arrive
  arrived go (at {n = n} a) k = k n a

-- the editor's step leaves the phase: it is one of the theory's state
pub made_there : {E : ℕ} {s : State} {o : Outcome} (e : Edited E s (kind E s.rec.phase) o)
    → EStep E (top s) e.deed (abs E s) (abs E o.state)
made_there e = rw e.same.phase e.made
