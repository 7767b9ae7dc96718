-- What follows a walk: v is what the walk answered, w what it should.
use Prim.Native.Nat.{ℕ, ◌<◌}
use mathlib.Core.Bool.{Bool, true, false}
use mathlib.Core.Path.{◌≡◌, refl, sym, ap, subst, ◌∙◌}
use mathlib.Core.List.{List, [], ◌∷◌}
use lib.Dec.{eqb}
use Rattle.base.specs.Choice.{pick, first}
use Rattle.base.proofs.Tests.{split}
use Rattle.rules.specs.Table.{State, Outcome, state, refuse_with, refuse, NIL, did, shade_in, shade}
use Rattle.rules.specs.Places.{place_code, walk_from, walk, arrive}
use Rattle.rules.specs.Editor.{side_code, owed_code, depart}
use Rattle.rules.specs.declared.Place.{Place}
use Rattle.rules.specs.declared.Record.{Record}
use Rattle.rules.specs.declared.Answer.{Answer}
use Rattle.rules.specs.Places.{Walk}
use Rattle.std.specs.Prelude.{Result, Ok, Err}
use Rattle.rules.proofs.Walks.{Below, below}
use Rattle.rules.specs.declared.Damaged.{Damaged}
use Rattle.places.specs.declared.Refusal.{Refusal}
use Rattle.places.specs.Sources.{edit_code, source_of}

module _ (s : State) (w v : Walk) (go : ℕ → Outcome) where
  pub arrives : (n : ℕ) (z : Outcome) → v ≡ w → v ≡ Ok n → z ≡ go n → z ≡ arrive s w go
  unfolding arrive
  arrives n z e q h = rw (← e, q) h

  pub stops : (d : Damaged) → v ≡ w → v ≡ Err d → refuse_with s 7 d.node d.side ≡ arrive s w go
  unfolding arrive
  stops d e q = rw (← e, q)

-- and a walk to a source: v is what it answered
module _ (s : State) (p : Place) (v : Result ℕ Refusal) (go : ℕ → Outcome) where
  abbrev leave : Result ℕ Refusal → Outcome
  leave (Ok n) = go n
  leave (Err q) = refuse_with s q.code q.node q.detail

  either : (b : Bool) (n : ℕ) → leave (pick b (Err (record { code = 8; node = 0; detail = 0 })) (Ok n))
      ≡ pick b (refuse s 8 0) (go n)
  unfolding pick
  either true n = refl
  either false n = refl

  sources : (w : Walk) → leave (source_of w)
      ≡ arrive s w (λ n. pick (eqb n NIL) (refuse s 8 0) (go n))
  unfolding source_of arrive
  sources (Ok n) = either (eqb n NIL) n
  sources (Err d) = refl

  pub departs : (n : ℕ) (z : Outcome) → v ≡ source_of (walk s p) → v ≡ Ok n → z ≡ go n
      → z ≡ depart s p go
  unfolding depart
  departs n z e q h = h ∙ ap leave (sym q ∙ e) ∙ sources (walk s p)

  pub absent : (d : Refusal) → v ≡ source_of (walk s p) → v ≡ Err d
      → refuse_with s d.code d.node d.detail ≡ depart s p go
  unfolding depart
  absent d e q = ap leave (sym q ∙ e) ∙ sources (walk s p)

-- a source that is found lies in the table
abbrev Lies : ℕ → Result ℕ Refusal → Type 0
Lies m (Ok n) = n < m
Lies m (Err d) = Unit {0}

lies : (m : ℕ) (w : Walk) → Below m w → Lies m (source_of w)
unfolding source_of
lies m (Ok n) h = split (Lies m) _ _ _ (λ q. tt) (λ q. h)
lies m (Err d) h = tt

pub found_below : (b : ℕ) (edges : ℕ → ℕ → ℕ) (m k w n t : ℕ) (v : Result ℕ Refusal)
    → v ≡ source_of (walk_from b edges m k w n) → v ≡ Ok t → n < m → t < m
found_below b edges m k w n t v e q h =
    subst (Lies m) (sym e ∙ q) (lies m _ (below b edges m k w n h))

-- the codes of a step without a target
pub no_target : (x : Record) (p : Place) (side : ℕ) → edit_code x p side 0
    ≡ first (side_code 2 side ∷ place_code 2 x.r p ∷ owed_code x.owed ∷ [])
unfolding edit_code first pick
no_target x p side = refl

-- a table that is known to be u's, with an answer and a record
module _ (a : Answer) (x : Record) (l r c : List ℕ) (u : State) where
  pub leaves : (y z : Record) → state l r c x ≡ u → y ≡ z
      → ◌≡◌ {A = Outcome} (record { answer = a; state = state l r c y }) (did a u z)
  leaves y z e q = rw (← e, q)

  pub leaves_shaded : (y : Record) (d : List ℕ) (n : ℕ) → state l r c x ≡ u → d ≡ shade_in c n
      → ◌≡◌ {A = Outcome} (record { answer = a; state = state l r d y }) (did a (shade u n) y)
  leaves_shaded y d n e q = rw (← e, q)
