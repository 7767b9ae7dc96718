-- A collector step brings the next node that is appended nearer by one step at most. By what a step
-- comes to.
use Prim.Native.Nat.{ℕ, suc, ◌+◌, ◌-◌, ◌≤◌, ◌<◌}
use mathlib.Core.Path.{◌≡◌, refl, sym}
use mathlib.Core.Bool.{true, false}
use mathlib.Core.List.{List, []}
use native.Mathlib.Omega.{arith}
use lib.ListN.{set}
use lib.Dec.{eqb}
use Rattle.base.specs.Choice.{pick}
use Rattle.base.proofs.Tests.{split, pick_no}
use Rattle.rules.specs.Table.{State, Outcome, did, white, colour_of, with_colour}
use Rattle.rules.specs.Records.{more_free, with_last, after_append}
use Rattle.rules.specs.Collector.{append}
use Rattle.rules.specs.Steps.{step, collecting, code_of}
use Rattle.rules.specs.Facts.{quiet, Nears}
use Rattle.rules.specs.declared.Answer.{Answer}
use Rattle.rules.specs.declared.Answer.TheVariants.{Shaded, Looked, Blackened, Whitened, Appended}
use Rattle.rules.specs.declared.Record.{Record}
use Rattle.rules.specs.declared.Phase.{Phase}
use Rattle.rules.specs.declared.Phase.TheVariants.{Roots, Append}
use Rattle.rules.proofs.PhaseSteps.{collect_comes}
use Rattle.rules.proofs.Laws.{step_collecting}
use Rattle.freed.specs.Freed.{is_appended, appended_by}
use Rattle.freed.specs.Gathers.{dark, far}
use Rattle.freed.proofs.Colours.{dark_most, dark_white, dark_next, dark_set, far_dark}
use Rattle.freed.proofs.Colours.{far_quiet}

-- how far the next node that is appended is, at least
abbrev pub far_in : State → ℕ
far_in s = far s.rec.m s.colour s.rec.phase

-- what a step that is done comes to, from a phase p
pub record Brings (s : State) (p : Phase) (o : Outcome) : Type 0 where
  pub near : code_of o.answer ≡ 0 → far s.rec.m s.colour p ≤ suc (far_in o.state)
  pub none : code_of o.answer ≡ 0 → 1 ≤ far s.rec.m s.colour p
      → appended_by o.answer ≡ []

other : (a : Answer) → is_appended a ≡ false → appended_by a ≡ []
unfolding appended_by
other a e = sym (pick_no _ _ _ _ (sym e) refl)

quiet_roots : (m i : ℕ) → quiet m (Roots i) ≡ m
unfolding quiet pick
quiet_roots m i = refl

module _ (s : State) where
  -- a step before Append, from q to p
  before : (q p : Phase) (c : List ℕ) → Nears s.rec.m q p
      → far s.rec.m s.colour q ≤ suc (far s.rec.m c p)
  before q p c k = omega (arith, k.1, far_quiet s.rec.m s.colour q k.0)

  in_append : (p : Phase) (i : ℕ) → p ≡ Append i
      → far s.rec.m s.colour p ≡ dark (s.rec.m - i) i s.colour
  in_append p i e = rw e (far_dark s.rec.m i s.colour)

  -- Append: black is made white, and white is 0 steps away
  whitens : (p : Phase) (i : ℕ) → p ≡ Append i → i < s.rec.m
      → Brings s p (did (Whitened i) (with_colour s i white) (after_append s.rec i))
  unfolding after_append
  whitens p i q h =
      split (λ (x : Record). Brings s p (did (Whitened i) (with_colour s i white) x)) _ _ _
      (λ e. record {
        near = λ z.
            let y = dark_most (s.rec.m - i) i s.colour in
            omega (arith, in_append p i q, quiet_roots s.rec.m 0, y);
        none = λ z k. other (Whitened i) refl;
      })
      (λ e. record {
        near = λ z.
            let y = dark_set (s.rec.m - (i + 1)) (i + 1) i white s.colour (omega arith) in
            let there = far_dark s.rec.m (i + 1) (set s.colour i white) in
            let next = dark_next s.rec.m i s.colour h in
            omega (arith, in_append p i q, there, next, y);
        none = λ z k. other (Whitened i) refl;
      })

  appends : (p : Phase) (i : ℕ) → p ≡ Append i → eqb (colour_of s i) white ≡ true
      → Brings s p
      (did (Appended i) (append s i) (after_append (more_free (with_last s.rec i)) i))
  appends p i q w =
      let none = dark_white (s.rec.m - i) i s.colour w in
      record {
        near = λ z. omega (arith, in_append p i q, none);
        none = λ z k. absurd (omega (arith, in_append p i q, none));
      }

  pub nears : Brings s s.rec.phase (step collecting s)
  nears =
      rw step_collecting (collect_comes s (Brings s s.rec.phase) record {
        stays = λ a t. record {
          near = λ z. absurd (omega (arith, t.1));
          none = λ z. absurd (omega (arith, t.1));
        };
        shades = λ n p h k. record {
          near = λ z. before _ p _ k;
          none = λ z l. other (Shaded n) refl;
        };
        looks = λ i p h k. record {
          near = λ z. before _ p _ k;
          none = λ z l. other (Looked i) refl;
        };
        marks = λ i k. record { near = λ z. before _ _ _ k; none = λ z l. other (Looked i) refl };
        blackens = λ i h k. record {
          near = λ z. before _ _ _ k;
          none = λ z l. other (Blackened i) refl;
        };
        whitens = λ i e h. whitens _ i e h;
        appends = λ i e l h w. appends _ i e w;
      })
