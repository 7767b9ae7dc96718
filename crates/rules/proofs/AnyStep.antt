-- Any step of a record that passes leaves one that passes again, but for the counts that `in_limits`
-- looks at: by the cases of the definitions.
use Prim.Native.Nat.{ℕ, ◌<◌}
use mathlib.Core.Bool.{true}
use mathlib.Core.Path.{◌≡◌, refl, sym, ◌∙◌}
use mathlib.Core.List.{[], ◌∷◌, map}
use mathlib.Core.Logic.{◌≢◌}
use native.Mathlib.Omega.{arith}
use lib.ListN.{length}
use borrow.Author.Tests.{eqb-true}
use Rattle.base.proofs.Tests.{split, zeros, eq_no, lt_yes, not_is, every_skip, every_last}
use Rattle.rules.specs.Table.{State, sides, Outcome, unless, left, FREE, edge, with_edge}
use Rattle.rules.specs.Check.{owed_ok, last_ok, check}
use Rattle.rules.specs.Places.{place_code, walk, arrive}
use Rattle.rules.specs.Editor.{side_code, owed_code, look, depart, link_to, link, pay, shade_owed}
use Rattle.rules.specs.Editor.{relink, take_next, take_first, take}
use Rattle.rules.specs.Collector.{collect}
use Rattle.rules.specs.Steps.{step}
use Rattle.rules.specs.declared.Answer.{Answer}
use Rattle.rules.specs.declared.Place.{Place}
use Rattle.rules.specs.declared.Record.{Record}
use Rattle.rules.specs.declared.Step.{Step}
use Rattle.rules.specs.Places.{Walk}
use Rattle.std.specs.Prelude.{Ok, Err, Some, None}
use Rattle.rules.proofs.Changes.{shaded_length}
use Rattle.rules.proofs.Rows.{edge_lengths}
use Rattle.rules.proofs.Steady.{count, Kept, Passed, passed, kept}
use Rattle.rules.proofs.Walks.{Ends, ends, slot_below}
use Rattle.rules.specs.Records.{Owed}

owes_ok : (m n : ℕ) → n ≢ FREE → n < m → true ≡ owed_ok m (Some n)
unfolding owed_ok
owes_ok m n f h =
    every_skip _ _ _ (not_is _ (eq_no n FREE f)) (every_last _ _ (lt_yes _ _ h))

none_last : (m r : ℕ) → true ≡ last_ok m r FREE
unfolding last_ok
none_last m r = refl

edge_colour : (s : State) (side n t : ℕ) → length (with_edge s side n t).colour ≡ length s.colour
unfolding with_edge
edge_colour s side n t = refl

module _ (s : State) (e : 0 ≡ check s) where
  abbrev x : Record
  x = s.rec

  g : Passed (count s) x
  g = passed _ _ x e

  stays : (a : Answer) → Kept s (record { answer = a; state = s })
  stays a = record { rec = g.self; edges = refl; colours = refl }

  judged : (code : ℕ) (o : Outcome) → (0 ≡ code → Kept s o) → Kept s (unless code s o)
  unfolding unless
  judged code o p =
      split (Kept s) _ _ _ (λ q. p (sym (eqb-true _ _ q))) (λ q. stays _)

  arrives : (w : Walk) (go : ℕ → Outcome) → Ends x.m w
      → ((n : ℕ) → n ≢ FREE → n < x.m → Kept s (go n)) → Kept s (arrive s w go)
  unfolding arrive
  arrives (Ok n) go h p = p n h.0 h.1
  arrives (Err d) go h p = stays _

  -- a walk from a slot
  walks : (p : Place) → 0 ≡ place_code (sides s) x.r p → Ends x.m (walk s p)
  walks p z =
      let low = slot_below _ _ p z in
      ends _ _ _ _ _ _ (λ q. omega arith) (omega (arith, g))

  departs : (p : Place) (go : ℕ → Outcome) → 0 ≡ place_code (sides s) x.r p
      → ((n : ℕ) → Kept s (go n)) → Kept s (depart s p go)
  unfolding depart
  departs p go z h =
      arrives _ _ (walks p z) (λ n f l. split (Kept s) _ _ _ (λ q. stays _) (λ q. h n))

  links : (side : ℕ) (q : Place) → 0 ≡ place_code (sides s) x.r q → (n : ℕ)
      → Kept s (link_to s side q n)
  unfolding link_to
  links side q z n = arrives _ _ (walks q z) (λ t f h. record {
    rec = record {
      m = refl;
      r = refl;
      owed = owes_ok _ _ f h;
      phase = g.self.phase;
      last = g.self.last;
      told = omega (arith, g);
    };
    edges = edge_lengths s side n t;
    colours = edge_colour s side n t;
  })

  pays : (o : Owed) → Kept s (pay s o)
  unfolding pay owed_ok
  pays None = stays _
  pays (Some n) = split (Kept s) _ _ _ (λ q. stays _) (λ q. record {
    rec = record {
      m = refl;
      r = refl;
      owed = refl;
      phase = g.self.phase;
      last = g.self.last;
      told = omega (arith, g);
    };
    edges = refl;
    colours = shaded_length s.colour n;
  })

  module _ (n side f h : ℕ) where
    relink_edges : map length (relink s n side f h).edges ≡ map length s.edges
    unfolding relink
    relink_edges =
        edge_lengths (with_edge (with_edge s side n f) left FREE h) left f 0
        ∙ edge_lengths (with_edge s side n f) left FREE h ∙ edge_lengths s side n f

    relink_colours : length (relink s n side f h).colour ≡ length s.colour
    unfolding relink
    relink_colours =
        shaded_length _ f
        ∙ edge_colour (with_edge (with_edge s side n f) left FREE h) left f 0
        ∙ edge_colour (with_edge s side n f) left FREE h ∙ edge_colour s side n f

    takes_next : Kept s (take_next s n side f h)
    unfolding take_next
    takes_next =
        split (Kept s) _ _ _ (λ q. stays _) (λ q.
        split (Kept s) _ _ _ (λ q. stays _) (λ q.
        split (Kept s) _ _ _ (λ q. record {
          rec = record {
            m = refl;
            r = refl;
            owed = g.self.owed;
            phase = g.self.phase;
            last = none_last _ _;
            told = omega (arith, g);
          };
          edges = relink_edges;
          colours = relink_colours;
        }) (λ q.
        split (Kept s) _ _ _ (λ q. stays _) (λ q. record {
          rec = record {
            m = refl;
            r = refl;
            owed = g.self.owed;
            phase = g.self.phase;
            last = g.self.last;
            told = omega (arith, g);
          };
          edges = relink_edges;
          colours = shaded_length _ h ∙ relink_colours;
        }))))

  takes : (side f n : ℕ) → Kept s (take_first s side f n)
  unfolding take_first
  takes side f n =
      split (Kept s) _ _ _ (λ q. stays _) (λ q.
      split (Kept s) _ _ _ (λ q. stays _) (λ q. takes_next n side f (edge s left f)))

  take_kept : (p : Place) (side : ℕ) → Kept s (take p side s)
  unfolding take
  take_kept p side =
      judged _ _ (λ z. let codes =
      zeros (check s ∷ side_code (sides s) side ∷ place_code (sides s) x.r p ∷ owed_code
      x.owed ∷ []) z in
      departs p _ codes.1.1.0 (takes side _))

  link_kept : (p : Place) (side : ℕ) (q : Place) → Kept s (link p side q s)
  unfolding link
  link_kept p side q =
      judged _ _ (λ z. let codes =
      zeros (check s ∷ side_code (sides s) side ∷ place_code (sides s) x.r p ∷ place_code
      (sides s) x.r q ∷ owed_code x.owed ∷ []) z in
      departs p _ codes.1.1.0 (links side q codes.1.1.1.0))

  look_kept : (p : Place) → Kept s (look p s)
  unfolding look
  look_kept p =
      judged _ _ (λ z. let codes =
      zeros (check s ∷ place_code (sides s) x.r p ∷ []) z in
      arrives _ _ (walks p codes.1.0) (λ n f l. stays _))

  pub step_kept : (a : Step) → Kept s (step a s)
  unfolding step shade_owed collect
  step_kept a =
      split (Kept s) _ _ _ (λ q. take_kept _ _)
      (λ q. split (Kept s) _ _ _ (λ q. link_kept _ _ _)
      (λ q. split (Kept s) _ _ _ (λ q. judged _ _ (λ z. pays _))
      (λ q. split (Kept s) _ _ _ (λ q. judged _ _ (λ z. kept s e))
      (λ q. split (Kept s) _ _ _ (λ q. look_kept _) (λ q. stays _)))))
