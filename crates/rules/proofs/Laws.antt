-- Laws of the definitions that callers cite: what a good edge is, what `unless` picks, and which
-- call each kind of step is.
use Prim.Native.Nat.{ℕ, ◌<◌}
use mathlib.Core.Bool.{Bool, true, false, ◌||◌, false≢true}
use mathlib.Core.Path.{◌≡◌, refl, sym, ◌∙◌}
use mathlib.Core.List.{List, [], ◌∷◌}
use mathlib.Core.Logic.{◌≢◌}
use native.Mathlib.Omega.{arith}
use lib.ListN.{get_or, set}
use lib.Dec.{leb}
use borrow.Author.Tests.{leb-false, eqb-false}
use Rattle.base.specs.Choice.{pick}
use Rattle.base.proofs.Tests.{pick_yes, pick_no, eq_yes, eq_no}
use Rattle.rules.specs.Table.{State, Outcome, table, state, refuse, unless, edge_of, with_edge}
use Rattle.rules.specs.Table.{bad_edge, FREE}
use Rattle.rules.specs.Editor.{look, link, shade_owed, bad_free, take}
use Rattle.rules.specs.Collector.{collect}
use Rattle.rules.specs.Steps.{step, taking, linking, shading, collecting, looking}
use Rattle.rules.specs.declared.Place.{Place}
use Rattle.rules.specs.declared.Record.{Record}
use Rattle.rules.specs.declared.Answer.{Answer}

first_no : (a b : Bool) → false ≡ a || b → a ≡ false
first_no true b q = absurd (false≢true q)
first_no false b q = refl

-- an edge that is not bad leads into the table
pub fine_edge : (m e : ℕ) → false ≡ bad_edge m e → e < m
unfolding bad_edge
fine_edge m e h = leb-false m e (first_no (leb m e) _ h)

second_no : (a b : Bool) → false ≡ a || b → b ≡ false
second_no true b q = absurd (false≢true q)
second_no false b q = sym q

-- and not to FREE
pub not_free : (m e : ℕ) → false ≡ bad_edge m e → e ≢ FREE
unfolding bad_edge
not_free m e h = eqb-false e FREE (second_no (leb m e) _ h)

pub fine_free : (m r e : ℕ) → false ≡ bad_free m r e → e < m
unfolding bad_free
fine_free m r e h = leb-false m e (first_no (leb m e) _ h)

-- the edge on a side of a table of two edges, and a write to it
pub on_left : (l r : List ℕ) (side n : ℕ) → side ≡ 0 → get_or l n 0 ≡ edge_of (l ∷ r ∷ []) side n
unfolding edge_of
on_left l r side n e = rw e refl

pub on_right : (l r : List ℕ) (side n : ℕ) → side < 2 → (side ≡ 0 → ⊥) → get_or r n 0
    ≡ edge_of (l ∷ r ∷ []) side n
unfolding edge_of
on_right l r side n h e =
    let q : side ≡ 1 = omega arith in
    rw q refl

pub set_left : (l r c : List ℕ) (x : Record) (side n t : ℕ) → side ≡ 0 → state (set l n t) r c x
    ≡ with_edge (state l r c x) side n t
unfolding with_edge
set_left l r c x side n t e = rw e refl

pub set_right : (l r c : List ℕ) (x : Record) (side n t : ℕ) → side < 2 → (side ≡ 0 → ⊥)
    → state l (set r n t) c x ≡ with_edge (state l r c x) side n t
unfolding with_edge
set_right l r c x side n t h e =
    let q : side ≡ 1 = omega arith in
    rw q refl

-- two outcomes are the same where their answers, records and lists are
pub same : (a b : Answer) (x y : Record) (es es' : List (List ℕ)) (c c' : List ℕ) → a ≡ b → x ≡ y
    → es ≡ es' → c ≡ c'
    → ◌≡◌ {A = Outcome} (record { answer = a; state = table es c x })
    (record { answer = b; state = table es' c' y })
same a b x y es es' c c' h p q s = cc

-- r is the code that a call answered
pub unless_done : (z o : Outcome) (s : State) (r code : ℕ) → r ≡ code → r ≡ 0 → z ≡ o → z
    ≡ unless code s o
unfolding unless
unless_done z o s r code e h q = pick_yes _ _ _ _ (eq_yes code 0 (sym e ∙ h)) q

pub unless_refused : (o : Outcome) (s : State) (r code : ℕ) → r ≡ code → (r ≡ 0 → ⊥) → refuse s r 0
    ≡ unless code s o
unfolding unless
unless_refused o s r code e h = pick_no _ _ _ _ (eq_no code 0 (λ q. h (e ∙ q))) (cc)

pub step_taking : (p : Place) (side : ℕ) (s : State) → step (taking p side) s ≡ take p side s
unfolding step pick
step_taking p side s = refl

pub step_linking : (p : Place) (side : ℕ) (q : Place) (s : State) → step (linking p side q) s
    ≡ link p side q s
unfolding step pick
step_linking p side q s = refl

pub step_shading : (s : State) → step shading s ≡ shade_owed s
unfolding step pick
step_shading s = refl

pub step_collecting : (s : State) → step collecting s ≡ collect s
unfolding step pick
step_collecting s = refl

pub step_looking : (p : Place) (s : State) → step (looking p) s ≡ look p s
unfolding step pick
step_looking p s = refl
