-- From a ready state Shade and Take each do a step of the theory's editor, or are refused with an
-- allowed code and change nothing.
use Prim.Native.Nat.{ℕ, suc, ◌+◌, ◌-◌, ◌≤◌, ◌<◌}
use mathlib.Core.Bool.{false}
use mathlib.Core.Path.{◌≡◌, refl, sym, ◌∙◌}
use mathlib.Core.Logic.{◌≢◌, ◌⊎◌, inl, inr}
use mathlib.Core.Option.{none}
use mathlib.Core.List.{map}
use native.Mathlib.Omega.{arith}
use lib.ListN.{length, get_or}
use borrow.Author.Tests.{eqb-true, eqb-false}
use Rattle.base.proofs.Tests.{le_yes, le_no, eq_yes, every_here, every_skip, every_last, or_skip}
use Rattle.base.proofs.Tests.{split}
use Rattle.rules.specs.Table.{State, did, unless, FREE, sides, edge, with_edge, colour_of, shade_in}
use Rattle.rules.specs.Table.{shade}
use Rattle.rules.specs.Records.{with_last, less_free}
use Rattle.rules.specs.Editor.{pay, shade_owed, bad_free, relink, take_next, take_first, take}
use Rattle.rules.specs.declared.Place.{Place}
use Rattle.rules.specs.declared.Answer.TheVariants.{Taken}
use Rattle.rules.proofs.Walks.{side_below}
use Rattle.theory.proofs.Update.{Shaded}
use Rattle.theory.proofs.Reaches.{Named}
use Rattle.theory.proofs.Marking.{none≢some}
use Rattle.theory.proofs.Steps as S
use S.{pays, takes, Takes, shaded, emptied}
use Rattle.theory.proofs.Facts.{owed_lies, first_lies, next_lies}
use Rattle.runs.proofs.Picks.{if_yes, if_no}
use Rattle.runs.proofs.Codes.{allowed, allowed_place, allowed_side, allowed_owed}
use Rattle.runs.proofs.Tables.{rows_kept, shade_is, length_shade, EdgeMoved, edge_moved}
use Rattle.runs.proofs.Ready.{owes, top, Ready, sizes, good_colour}
use Rattle.runs.proofs.Edited.{Edited, same, refused, unless_edited, none_owed}
use Rattle.runs.proofs.LinkStep.{moves, departed}
use Rattle.rules.specs.Records.{Owed}
use Rattle.std.specs.Prelude.{Some, None}

-- an edge of the free chain that is good
good_free : (m r e : ℕ) → (e ≡ 0) ⊎ ((suc (suc r) ≤ e) × (e < m)) → 0 < m → false ≡ bad_free m r e
unfolding bad_free
good_free m r e (inl q) h = or_skip _ _ _ (le_no m e (omega arith))
    (every_here _ _ (le_no 1 e (omega arith)))
good_free m r e (inr q) h =
    or_skip _ _ _ (le_no m e q.1) (every_skip _ _ _ (le_yes 1 e (omega arith))
    (every_last _ _ (le_no e (r + 1) (omega arith))))

module _ {E : ℕ} {s : State} {ph : S.Phase} (g : Ready E s ph) where
  paid : (o : Owed) → owes s.rec.owed ≡ owes o → Edited E s ph (pay s o)
  unfolding pay
  paid None q = refused g.fits 6 0 (allowed refl)
  paid (Some t) q = if_no (Edited E s ph) _ _ _ (good_colour s g.inv.hues t) record {
    deed = pays t;
    made =
        rw q
        (S.pay
        (shade_is s.colour t
        (omega (arith, g.fits.colours, owed_lies (sizes g.fits) g.inv q))));
    free = refl;
    code = allowed refl;
    named = λ x q. absurd (none≢some q);
    appends = refl;
    blackens = refl;
    fits = omega (arith, g.fits, length_shade s.colour t);
    lengths = refl;
    same = same s.rec None s.rec.last s.rec.free;
  }

  pub shade_edited : Edited E s ph (shade_owed s)
  unfolding shade_owed unless
  shade_edited =
      if_yes (Edited E s ph) _ _ _ (eq_yes _ _ (sym g.good)) (paid s.rec.owed refl)

  -- Take, from node n: f is the first free node and y the next
  module _ (side n : ℕ) (h : side < E) (o : owes s.rec.owed ≡ none)
      (a : Named E (top s) (edge s) n) (n0 : n ≢ 0) where
    abbrev f : ℕ
    f = edge s 0 1

    abbrev y : ℕ
    y = edge s 0 f

    -- the three edges
    abbrev s₁ : State
    s₁ = with_edge s side n f

    abbrev s₂ : State
    s₂ = with_edge s₁ 0 1 y

    abbrev s₃ : State
    s₃ = with_edge s₂ 0 f 0

    f_inside : f < s.rec.m
    f_inside = g.inv.shape.bound 0 1

    e₁ : EdgeMoved s s₁ side n f
    e₁ = moves g side n f h a

    e₂ : EdgeMoved s₁ s₂ 0 1 y
    e₂ =
        edge_moved s₁ 0 1 y (rows_kept e₁.lengths g.rows) (omega (arith, g.fits))
        (omega (arith, g.fits))

    e₃ : EdgeMoved s₂ s₃ 0 f 0
    e₃ =
        edge_moved s₂ 0 f 0 (rows_kept (e₂.lengths ∙ e₁.lengths) g.rows)
        (omega (arith, g.fits)) f_inside

    colour₃ : s₃.colour ≡ s.colour
    colour₃ = e₃.colour ∙ e₂.colour ∙ e₁.colour

    lengths : map length s₃.edges ≡ map length s.edges
    lengths = e₃.lengths ∙ e₂.lengths ∙ e₁.lengths

    three : f ≢ 0 → Takes E (top s) (edge s) (edge s₃) side n f y
    three f0 = record {
      side = h;
      source = a;
      present = n0;
      first = refl;
      some_free = f0;
      next = refl;
      with_place = edge s₁;
      with_head = edge s₂;
      place = e₁.moved;
      head = e₂.moved;
      taken = e₃.moved;
    }

    shaded_f : Shaded (colour_of s) (λ x. get_or (shade_in s.colour f) x 0) f
    shaded_f = shade_is s.colour f (omega (arith, g.fits.colours, f_inside))

    y_inside : y < length (shade_in s.colour f)
    y_inside = omega (arith, g.fits.colours, length_shade s.colour f, g.inv.shape.bound 0 f)

    -- there is no next
    took_last : f ≢ 0 → y ≡ 0 → Edited E s ph
        (did (Taken f) (relink s n side f y) (with_last (less_free s.rec) FREE))
    unfolding relink
    took_last f0 y0 = record {
      deed = takes side n f y;
      made = rw (o, colour₃) (S.take (three f0) shaded_f (emptied y0));
      free = refl;
      code = allowed refl;
      named = λ x q. absurd (none≢some q);
      appends = refl;
      blackens = refl;
      fits = rw colour₃ (omega (arith, g.fits, length_shade s.colour f));
      lengths = lengths;
      same = same s.rec s.rec.owed FREE (s.rec.free - 1);
    }

    took : f ≢ 0 → y ≢ 0 → Edited E s ph
        (did (Taken f) (shade (relink s n side f y) y) (less_free s.rec))
    unfolding relink
    took f0 y0 = record {
      deed = takes side n f y;
      made =
          rw (o, colour₃) (S.take (three f0) shaded_f
          (shaded y0 (shade_is (shade_in s.colour f) y y_inside)));
      free = refl;
      code = allowed refl;
      named = λ x q. absurd (none≢some q);
      appends = refl;
      blackens = refl;
      fits =
          rw colour₃
          (omega (
            arith,
            g.fits,
            length_shade s.colour f,
            length_shade
                (shade_in s.colour f) y,
          ));
      lengths = lengths;
      same = same s.rec s.rec.owed s.rec.last (s.rec.free - 1);
    }

    taken : Edited E s ph (take_first s side f n)
    unfolding take_first take_next
    taken =
        if_no (Edited E s ph) _ _ _ (good_free _ _ f (first_lies g.inv)
        (omega (arith, g.fits.m_low))) (split (Edited E s ph) _ _ _
        (λ e. refused g.fits 9 0 (allowed refl))
        (λ e. let f0 = eqb-false f 0 e in
        if_no (Edited E s ph) _ _ _ (good_free _ _ y (next_lies g.inv f0)
        (omega (arith, g.fits.m_low)))
        (if_no (Edited E s ph) _ _ _ (good_colour s g.inv.hues f)
        (split (Edited E s ph) _ _ _ (λ z. took_last f0 (eqb-true y 0 z))
        (λ z. if_no (Edited E s ph) _ _ _ (good_colour s g.inv.hues y)
        (took f0 (eqb-false y 0 z)))))))

  pub take_edited : (p : Place) (side : ℕ) → Edited E s ph (take p side s)
  unfolding take
  take_edited p side =
      unless_edited g _ _ (
        allowed_side (sides s) side,
        (allowed_place (sides s) s.rec.r p, (allowed_owed s.rec.owed, tt)),
      )
      (λ z. departed g p _ z.1.0 (λ n a n0. taken side n
      (omega (arith, side_below (sides s) side z.0, g.rows.count))
      (none_owed _ z.1.1.0) a n0))
