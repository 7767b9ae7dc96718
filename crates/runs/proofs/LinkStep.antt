-- From a ready state Look and Link each do a step of the theory's editor, or are refused with an
-- allowed code and change nothing.
use Prim.Native.Nat.{ℕ, ◌<◌}
use mathlib.Core.Path.{◌≡◌, refl, subst}
use mathlib.Core.Logic.{◌≢◌}
use mathlib.Core.Option.{none}
use native.Mathlib.Omega.{arith}
use borrow.Author.Tests.{eqb-false}
use Rattle.base.proofs.Tests.{split}
use Rattle.rules.specs.Table.{State, sides, Outcome, edge, with_edge}
use Rattle.rules.specs.Editor.{look, depart, link_to, link}
use Rattle.rules.specs.Places.{place_code}
use Rattle.rules.specs.declared.Place.{Place}
use Rattle.rules.proofs.Walks.{side_below}
use Rattle.theory.specs.Reach.{Reach, Slot}
use Rattle.theory.proofs.Reaches.{Named, named_reached, slot_named}
use Rattle.theory.proofs.Steps as S
use S.{nothing, links, rest}
use Rattle.theory.proofs.Shapes.{reached_inside}
use Rattle.runs.proofs.Codes.{allowed, allowed_place, allowed_side, allowed_owed}
use Rattle.runs.proofs.Tables.{EdgeMoved, edge_moved}
use Rattle.runs.proofs.Ready.{owes, top, Ready, sizes}
use Rattle.runs.proofs.Edited.{some_same, Edited, same, refused, unless_edited, none_owed}
use Rattle.runs.proofs.Edited.{walked, arrived}
use Rattle.std.specs.Prelude.{Some}

module _ {E : ℕ} {s : State} {ph : S.Phase} (g : Ready E s ph) where
  pub look_edited : (p : Place) → Edited E s ph (look p s)
  unfolding look
  look_edited p =
      unless_edited g _ _ (allowed_place (sides s) s.rec.r p, tt)
      (λ z. arrived g _ (walked g p z.0) (λ n a. record {
        deed = nothing;
        made = rest;
        free = refl;
        code = allowed refl;
        named = λ x q. subst (Reach E (Slot (top s)) (edge s)) (some_same q) a;
        appends = refl;
        blackens = refl;
        fits = g.fits;
        lengths = refl;
        same = same s.rec s.rec.owed s.rec.last s.rec.free;
      }))

  -- a node that the editor can name is in the table
  inside : {n : ℕ} → Named E (top s) (edge s) n → n < s.rec.m
  inside a = reached_inside (sizes g.fits) g.inv.shape (named_reached a)

  -- its edge is moved
  pub moves : (side n t : ℕ) → side < E → Named E (top s) (edge s) n
      → EdgeMoved s (with_edge s side n t) side n t
  moves side n t h a = edge_moved s side n t g.rows h (inside a)

  -- the source is no NIL
  pub departed : (p : Place) (go : ℕ → Outcome) → 0 ≡ place_code (sides s) s.rec.r p
      → ((n : ℕ) → Named E (top s) (edge s) n → n ≢ 0 → Edited E s ph (go n))
      → Edited E s ph (depart s p go)
  unfolding depart
  departed p go z k =
      arrived g _ (walked g p z) (λ n a. split (Edited E s ph) _ _ _
      (λ e. refused g.fits 8 0 (allowed refl)) (λ e. k n (slot_named a) (eqb-false n 0 e)))

  linked : (side n : ℕ) (q : Place) → side < E → 0 ≡ place_code (sides s) s.rec.r q
      → owes s.rec.owed ≡ none → Named E (top s) (edge s) n → n ≢ 0
      → Edited E s ph (link_to s side q n)
  unfolding link_to
  linked side n q h z o a n0 =
      arrived g _ (walked g q z) (λ t b. let em = moves side n t h a in record {
        deed = links side n t;
        made =
            rw (o, em.colour) (S.link record
            { side = h; source = a; present = n0; target = slot_named b; moved = em.moved });
        free = refl;
        code = allowed refl;
        named = λ x q. subst (Reach E (Slot (top s)) (edge s)) (some_same q) b;
        appends = refl;
        blackens = refl;
        fits = rw em.colour (omega (arith, g.fits));
        lengths = em.lengths;
        same = same s.rec (Some t) s.rec.last s.rec.free;
      })

  pub link_edited : (p : Place) (side : ℕ) (q : Place) → Edited E s ph (link p side q s)
  unfolding link
  link_edited p side q =
      unless_edited g _ _ (
        allowed_side (sides s) side,
        (
          allowed_place (sides s) s.rec.r p,
          (allowed_place (sides s) s.rec.r q, (allowed_owed s.rec.owed, tt)),
        ),
      )
      (λ z. departed p _ z.1.0 (λ n a n0. linked side n q
      (omega (arith, side_below (sides s) side z.0, g.rows.count)) z.1.1.0
      (none_owed _ z.1.1.1.0) a n0))
