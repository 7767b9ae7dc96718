-- How many colours a step changes: none where it is refused, at most two, and the collector at most
-- one. And what a call that counts them has to show.
use Prim.Native.Nat.{ℕ, zero, suc, ◌+◌, ◌≤◌, ◌<◌}
use mathlib.Core.Bool.{Bool, true, false}
use mathlib.Core.Path.{◌≡◌, refl, sym, ap, ◌∙◌}
use mathlib.Core.List.{List, [], ◌∷◌}
use native.Mathlib.Omega.{arith}
use lib.ListN.{length, get_or, set, length-set}
use lib.Seq.{get_or-set_same, get_or-set_other, set-get_or}
use lib.Dec.{eqb}
use borrow.Author.Tests.{eqb-true, eqb-false}
use Rattle.base.proofs.Tests.{split, pick_yes, pick_no, eq_yes, eq_no}
use Rattle.rules.specs.Table.{State, Outcome, outcome, shade_in}
use Rattle.rules.specs.Steps.{step, code_of}
use Rattle.rules.specs.Changes.{differs, differing, changes}
use Rattle.rules.specs.declared.Step.{Step}
use Rattle.rules.specs.declared.Made.{Made}
use Rattle.rules.proofs.Refused.{refused_stays}

pub differs_not : (x y : ℕ) → x ≡ y → 0 ≡ differs x y
unfolding differs
differs_not x y h = pick_yes _ _ _ _ (eq_yes x y h) refl

pub differs_so : (x y : ℕ) → (x ≡ y → ⊥) → 1 ≡ differs x y
unfolding differs
differs_so x y h = pick_no _ _ _ _ (eq_no x y h) refl

pub differs_most : (x y : ℕ) → differs x y ≤ 1
unfolding differs
differs_most x y = split (λ (n : ℕ). n ≤ 1) _ _ _ (λ e. omega arith) (λ e. omega arith)

-- a list and itself
pub unchanged : (c : List ℕ) → 0 ≡ differing c c
unfolding differing
unchanged [] = refl
unchanged (x ∷ c) = rw (← unchanged c, ← differs_not x x refl)

-- an entry that was as in c is written
pub one_more_lem : (c d : List ℕ) (i v : ℕ) → i < length c → i < length d → get_or c i 0 ≡ get_or d i 0
    → differing c (set d i v) ≡ differing c d + differs (get_or c i 0) v
unfolding differing
one_more_lem [] d i v h k e = absurd (omega arith)
one_more_lem (x ∷ c) [] i v h k e = absurd (omega arith)
one_more_lem (x ∷ c) (y ∷ d) zero v h k e = let z = differs_not x y e in omega arith
one_more_lem (x ∷ c) (y ∷ d) (suc i) v h k e =
    let z = one_more_lem c d i v (omega arith) (omega arith) e in omega arith

-- one write
pub one_set : (c : List ℕ) (i v : ℕ) → i < length c
    → differing c (set c i v) ≡ differs (get_or c i 0) v
one_set c i v h = let z = one_more_lem c c i v h h refl in let y = unchanged c in omega arith

-- a write changes at most one entry
pub most_more : (c d : List ℕ) (i v : ℕ) → differing c (set d i v) ≤ differing c d + 1
unfolding differing
most_more [] d i v = omega arith
most_more (x ∷ c) [] i v = omega arith
most_more (x ∷ c) (y ∷ d) zero v = let z = differs_most x v in omega arith
most_more (x ∷ c) (y ∷ d) (suc i) v = let z = most_more c d i v in omega arith

pub shaded_length : (c : List ℕ) (n : ℕ) → length (shade_in c n) ≡ length c
unfolding shade_in
shaded_length c n =
    split (λ (l : List ℕ). length l ≡ length c) _ _ _ (λ h. length-set c n 1) (λ h. refl)

-- shading changes at most one colour
pub shaded_most : (c : List ℕ) (n : ℕ) → differing c (shade_in c n) ≤ 1
unfolding shade_in
shaded_most c n =
    let z = unchanged c in
    split (λ (d : List ℕ). differing c d ≤ 1) _ _ _ (λ q. omega (arith, most_more c c n 1))
    (λ q. omega arith)

-- a white node is made gray
pub one_grayed : (c : List ℕ) (n : ℕ) → n < length c → get_or c n 0 ≡ 0 → 1 ≡ differing c (set c n 1)
one_grayed c n h e =
    let z = one_set c n 1 h in let y = differs_so (get_or c n 0) 1 (λ q. omega arith) in omega arith

-- a node is made black
pub one_blackened : (c : List ℕ) (n : ℕ) → n < length c → (get_or c n 0 ≡ 2 → ⊥)
    → 1 ≡ differing c (set c n 2)
one_blackened c n h e =
    let z = one_set c n 2 h in let y = differs_so (get_or c n 0) 2 e in omega arith

pub black_already : (c : List ℕ) (n : ℕ) → get_or c n 0 ≡ 2 → c ≡ set c n 2
black_already c n e = sym (rw e at (set-get_or c n 0))

-- a black node is made white
pub one_whitened : (c : List ℕ) (n : ℕ) → n < length c → get_or c n 0 ≡ 2
    → 1 ≡ differing c (set c n 0)
one_whitened c n h e =
    let z = one_set c n 0 h in let y = differs_so (get_or c n 0) 0 (λ q. omega arith) in omega arith

-- shading leaves no other node white
white_before : (c : List ℕ) (f g : ℕ) → f < length c → get_or (shade_in c f) g 0 ≡ 0 → get_or c g 0 ≡ 0
unfolding shade_in
white_before c f g h =
    split (λ (d : List ℕ). get_or d g 0 ≡ 0 → get_or c g 0 ≡ 0) _ _ _ (λ q. go (eqb g f) refl)
    (λ q e. e)
  where
    go : (b : Bool) → eqb g f ≡ b → get_or (set c f 1) g 0 ≡ 0 → get_or c g 0 ≡ 0
    go true q e =
        let y = get_or-set_same c f 1 0 h in
        let z = rw (eqb-true g f q) at e in
        absurd (omega arith)
    go false q e = rw (get_or-set_other c f g 1 0 (eqb-false g f q)) at e

-- two nodes shaded one after the other, which may be the same
pub two_shaded : (c : List ℕ) (f g : ℕ) → f < length c → g < length c
    → differing c (shade_in c f) + differing (shade_in c f) (shade_in (shade_in c f) g)
    ≡ differing c (shade_in (shade_in c f) g)
unfolding shade_in
two_shaded c f g h k =
    let len = shaded_length c f in
    split (λ (d : List ℕ). differing c (shade_in c f) + differing (shade_in c f) d ≡ differing c d)
    _ _ _
    (λ q.
    let w = eqb-true _ _ q in
    let v = white_before c f g h w in
    let a = one_more_lem c (shade_in c f) g 1 k (omega arith) (omega arith) in
    let b = one_set (shade_in c f) g 1 (omega arith) in
    rw (a, b, v, w))
    (λ q. let z = unchanged (shade_in c f) in omega arith)

-- the two clauses of a call that does a step of the definition and counts the colours it changes
abbrev pub Tells : Outcome → ℕ → Step → State → Type 0
Tells o n a s = record { colour_value : o ≡ step a s; changed_value : n ≡ changes a s }

-- what a call has to show that counts the colours it changed
pub told : (d : Made) (l r c : List ℕ) (a : Step) (s : State) → outcome d l r c ≡ step a s
    → d.changed ≡ differing s.colour c
    → Tells (outcome d l r c) d.changed a s
unfolding changes
told d l r c a s e h = record {
  colour_value = e;
  changed_value = h ∙ ap (λ (o : Outcome). differing s.colour o.state.colour) e;
}

-- and one that changed none
pub told_none : (d : Made) (l r : List ℕ) (a : Step) (s : State)
    → outcome d l r s.colour ≡ step a s → d.changed ≡ 0
    → Tells (outcome d l r s.colour) d.changed a s
told_none d l r a s e h = told d l r s.colour a s e (h ∙ unchanged s.colour)

-- [Changes 3] a refused step changes none
pub refused_none : (a : Step) (s : State) → (code_of (step a s).answer ≡ 0 → ⊥) → changes a s ≡ 0
unfolding changes
refused_none a s h = rw (refused_stays s a h) (sym (unchanged s.colour))
