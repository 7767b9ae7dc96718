-- What a step changes of the record: by the cases of the definitions.
use Prim.Native.Nat.{ℕ, zero, suc}
use mathlib.Core.Bool.{Bool, true, false}
use mathlib.Core.List.{List}
use mathlib.Core.Path.{◌≡◌, refl, sym, subst, ◌∙◌}
use Rattle.base.specs.Choice.{pick}
use Rattle.base.proofs.Tests.{split}
use Rattle.rules.specs.Table.{State, Outcome, outcome, FREE, unless}
use Rattle.rules.specs.Records.{with_owed, with_last, with_free, less_free, owing, paid}
use Rattle.rules.specs.Records.{after_append}
use Rattle.rules.specs.Places.{arrive}
use Rattle.rules.specs.Editor.{depart, link_to, link, pay, shade_owed, take_next, take_first, take}
use Rattle.rules.specs.Steps.{step, linking, shading, taking, collecting}
use Rattle.rules.specs.Schedules.{Followed, followed, follow, schedule, collects}
use Rattle.rules.specs.declared.Made.{Made}
use Rattle.rules.specs.declared.Place.{Place}
use Rattle.rules.specs.declared.Record.{Record}
use Rattle.rules.specs.Places.{Walk}
use Rattle.std.specs.Prelude.{Ok, Err, Some, None}
use Rattle.record_words.specs.Words.{record_of}
use Rattle.rules.proofs.Laws.{step_taking, step_linking, step_shading, step_collecting}
use Rattle.rules.proofs.PhaseSteps.{collect_comes}
use Rattle.rules.specs.Records.{Owed}

-- what holds of the record of s, and of each record that a step can leave instead
module _ (s : State) (P : Record → Type 0) (same : P s.rec) where
  abbrev Leaves : Outcome → Type 0
  Leaves o = P o.state.rec

  either : (b : Bool) (x y : Outcome) → Leaves x → Leaves y → Leaves (pick b x y)
  unfolding pick
  either true x y p q = p
  either false x y p q = q

  judged : (code : ℕ) (o : Outcome) → Leaves o → Leaves (unless code s o)
  unfolding unless
  judged code o p = either _ _ _ p same

  arrives : (w : Walk) (go : ℕ → Outcome) → ((n : ℕ) → Leaves (go n)) → Leaves (arrive s w go)
  unfolding arrive
  arrives (Ok n) go p = p n
  arrives (Err d) go p = same

  links : ((n : ℕ) → P (owing s.rec n)) → (p : Place) (side : ℕ) (q : Place)
      → Leaves (step (linking p side q) s)
  unfolding link depart link_to
  links h p side q =
      rw step_linking
      (judged _ _ (arrives _ _ (λ n. either _ _ _ same (arrives _ _ (λ t. h t)))))

  pays : P (paid s.rec) → (owed : Owed) → Leaves (pay s owed)
  unfolding pay
  pays h None = same
  pays h (Some n) = either _ _ _ same h

  shades : P (paid s.rec) → Leaves (step shading s)
  unfolding shade_owed
  shades h = rw step_shading (judged _ _ (pays h _))

  takes : P (with_last (less_free s.rec) FREE) → P (less_free s.rec) → (p : Place) (side : ℕ)
      → Leaves (step (taking p side) s)
  unfolding take depart take_first take_next
  takes h k p side =
      rw step_taking
      (judged _ _ (arrives _ _ (λ n. either _ _ _ same
      (either _ _ _ same (either _ _ _ same (either _ _ _ same
      (either _ _ _ same (either _ _ _ h (either _ _ _ same k)))))))))

-- nothing but what is owed, and nothing but the last free node and how many are free
abbrev OwedOnly : Record → Record → Type 0
OwedOnly x y = y ≡ with_owed x y.owed

abbrev FreeOnly : Record → Record → Type 0
FreeOnly x y = y ≡ with_free (with_last x y.last) y.free

-- d is what a call over the record that words are hands back
module _ (w : List ℕ) (x : Record) (e : x ≡ record_of w) (l r c : List ℕ) (d : Made) (s : State)
    (k : s.rec ≡ x) where
  -- P says how the record differs from the one before
  differs : (P : Record → Record → Type 0) (o : Outcome) → outcome d l r c ≡ o
      → P s.rec o.state.rec → P (record_of w) d.rec
  differs P o q h =
      subst (λ (y : Record). P y d.rec) (k ∙ e)
      (subst (λ (z : Outcome). P s.rec z.state.rec) (sym q) h)

  pub link_owed : (p : Place) (side : ℕ) (q : Place)
      → outcome d l r c ≡ step (linking p side q) s → OwedOnly (record_of w) d.rec
  link_owed p side q h =
      differs OwedOnly _ h (links s (OwedOnly s.rec) refl (λ n. refl) p side q)

  pub shade_owed_lem : outcome d l r c ≡ step shading s → OwedOnly (record_of w) d.rec
  shade_owed_lem h = differs OwedOnly _ h (shades s (OwedOnly s.rec) refl refl)

  pub take_free : (p : Place) (side : ℕ) → outcome d l r c ≡ step (taking p side) s
      → FreeOnly (record_of w) d.rec
  take_free p side h = differs FreeOnly _ h (takes s (FreeOnly s.rec) refl refl refl p side)

-- y differs from x neither in M and R nor in what is owed
pub record Moves (x y : Record) : Type 0 where
  pub m : y.m ≡ x.m
  pub r : y.r ≡ x.r
  pub owed : y.owed ≡ x.owed

unmoved : (x : Record) → Moves x x
unmoved x = record { m = refl; r = refl; owed = refl }

onward : (x y z : Record) → Moves x y → Moves y z → Moves x z
onward x y z h k = record { m = k.m ∙ h.m; r = k.r ∙ h.r; owed = k.owed ∙ h.owed }

appended : (x y : Record) (i : ℕ) → Moves x y → Moves x (after_append y i)
unfolding after_append
appended x y i h =
    split (Moves x) _ _ _ (λ q. record { m = h.m; r = h.r; owed = h.owed })
    (λ q. record { m = h.m; r = h.r; owed = h.owed })

-- a step of the collector
pub collect_moves : (s : State) → Moves s.rec (step collecting s).state.rec
collect_moves s =
    rw step_collecting
    (collect_comes s (λ (o : Outcome). Moves s.rec o.state.rec) record {
      stays = λ a w. unmoved _;
      shades = λ n p h k. record { m = refl; r = refl; owed = refl };
      looks = λ i p h k. record { m = refl; r = refl; owed = refl };
      marks = λ i k. record { m = refl; r = refl; owed = refl };
      blackens = λ i h k. record { m = refl; r = refl; owed = refl };
      whitens = λ i q h. appended _ _ i (unmoved _);
      appends = λ i q l h e. appended _ _ i record { m = refl; r = refl; owed = refl };
    })

-- the same over the record that words are
pub step_moves : (w : List ℕ) (l r c : List ℕ) (d : Made) (s : State)
    → outcome d l r c ≡ step collecting s → s.rec ≡ record_of w → Moves (record_of w) d.rec
step_moves w l r c d s q e =
    subst (λ (x : Record). Moves x d.rec) e
    (subst (λ (o : Outcome). Moves s.rec o.state.rec) (sym q) (collect_moves s))

follow_moves : (n k : ℕ) (s : State) → Moves s.rec (follow (collects n) k s).state.rec
unfolding follow collects
follow_moves zero k s = unmoved _
follow_moves (suc n) k s =
    split (λ (z : Followed). Moves s.rec z.state.rec) _ _ _
    (λ q. onward _ _ _ (collect_moves s) (follow_moves n _ _)) (λ q. unmoved _)

-- n of its steps, over the record that words are
pub many_moves : (w : List ℕ) (n d code detail : ℕ) (s t : State)
    → followed d code detail t ≡ schedule (collects n) s → s.rec ≡ record_of w
    → Moves (record_of w) t.rec
unfolding schedule
many_moves w n d code detail s t q e =
    let all = split (λ (z : Followed). Moves s.rec z.state.rec) _ _ _
    (λ h. follow_moves n 0 s) (λ h. unmoved _) in
    subst (λ (x : Record). Moves x t.rec) e
    (subst (λ (z : Followed). Moves s.rec z.state.rec) (sym q) all)
