-- Rules by which `search` reads a test in a goal and asks for the fact about numbers: no proof
-- names a path into `c`.
use Prim.Native.Nat.{ℕ, ◌<◌, ◌≤◌}
use mathlib.Core.Bool.{Bool, true, false, false≢true, true≢false, ◌||◌, not}
use mathlib.Core.Path.{◌≡◌, refl, sym, ◌∙◌}
use mathlib.Core.List.{List, [], ◌∷◌}
use Rattle.base.specs.Choice.{every, pick, first}
use lib.Dec.{ltb, leb, eqb}
use native.Mathlib.Omega.{arith}
use borrow.Author.Tests.{eqb-false, ltb-true, leb-true, eqb-true, lt-ltb, le-ltb, le-leb, lt-leb}
use borrow.Author.Tests.{eq-eqb, ne_eqb}

pub lt_yes : (a b : ℕ) → a < b → true ≡ ltb a b
lt_yes a b h = sym (lt-ltb a b h)

pub lt_no : (a b : ℕ) → b ≤ a → false ≡ ltb a b
lt_no a b h = sym (le-ltb a b h)

pub le_yes : (a b : ℕ) → a ≤ b → true ≡ leb a b
le_yes a b h = sym (le-leb a b h)

pub le_no : (a b : ℕ) → b < a → false ≡ leb a b
le_no a b h = sym (lt-leb a b h)

pub eq_yes : (a b : ℕ) → a ≡ b → true ≡ eqb a b
eq_yes a b h = sym (eq-eqb a b h)

pub eq_no : (a b : ℕ) → (a ≡ b → ⊥) → false ≡ eqb a b
eq_no a b h = sym (ne_eqb a b h)

pub every_here : (b : Bool) (bs : List Bool) → false ≡ b → false ≡ every (b ∷ bs)
unfolding every
every_here true bs h = absurd (false≢true h)
every_here false bs h = refl

pub every_skip : (z b : Bool) (bs : List Bool) → true ≡ b → z ≡ every bs → z ≡ every (b ∷ bs)
unfolding every
every_skip z true bs h k = k
every_skip z false bs h k = absurd (true≢false h)

pub every_none : true ≡ every []
unfolding every
every_none = refl

pub every_last : (z b : Bool) → z ≡ b → z ≡ every (b ∷ [])
unfolding every
every_last z true h = h
every_last z false h = h

pub or_first : (a b : Bool) → true ≡ a → true ≡ a || b
or_first true b h = refl
or_first false b h = absurd (true≢false h)

pub or_skip : (z a b : Bool) → false ≡ a → z ≡ b → z ≡ a || b
or_skip z true b h k = absurd (false≢true h)
or_skip z false b h k = k

pub pick_yes : {A : Type 0} (z x y : A) (b : Bool) → true ≡ b → z ≡ x → z ≡ pick b x y
unfolding pick
pick_yes z x y true h k = k
pick_yes z x y false h k = absurd (true≢false h)

pub pick_no : {A : Type 0} (z x y : A) (b : Bool) → false ≡ b → z ≡ y → z ≡ pick b x y
unfolding pick
pick_no z x y true h k = absurd (false≢true h)
pick_no z x y false h k = k

-- what a call answered, from its contract and from the branch on it
pub called : (z r b : Bool) → r ≡ b → z ≡ r → z ≡ b
called z r b e h = h ∙ e

pub not_yes : (t : Bool) → not t ≡ true → false ≡ t
not_yes true e = e
not_yes false e = refl

pub not_no : (t : Bool) → not t ≡ false → true ≡ t
not_no true e = refl
not_no false e = e

pub not_is : (b : Bool) → false ≡ b → true ≡ not b
not_is true e = absurd (false≢true e)
not_is false e = refl

pub is_not : (b : Bool) → true ≡ b → false ≡ not b
is_not true e = refl
is_not false e = absurd (true≢false e)

-- r is what a call answered for the number c
pub code_yes : (r c k : ℕ) → r ≡ c → r ≡ k → true ≡ eqb c k
code_yes r c k e h = eq_yes c k (sym e ∙ h)

pub code_no : (r c k : ℕ) → r ≡ c → (r ≡ k → ⊥) → false ≡ eqb c k
code_no r c k e h = eq_no c k (λ q. h (e ∙ q))

pub ruleset tests = (
  lt_yes,
  lt_no,
  le_yes,
  le_no,
  eq_yes,
  eq_no,
  every_here,
  every_skip,
  every_none,
  every_last,
  or_first,
  or_skip,
  pick_yes,
  pick_no,
  called,
  not_yes,
  not_no,
  not_is,
  is_not,
)

-- what passed tests tell: each is `test ≡ true`
abbrev pub Each : List Bool → Type 0
Each [] = Unit {0}
Each (b ∷ bs) = (b ≡ true) × Each bs

pub each : (bs : List Bool) → true ≡ every bs → Each bs
unfolding every
each [] h = tt
each (true ∷ bs) h = (refl, each bs h)
each (false ∷ bs) h = absurd (true≢false h)

-- for `omega`: what the tests say of numbers
pub ruleset facts = (ltb-true, leb-true, eqb-true, arith)

-- r is what a call answered for the code c
pub first_here : (z r c : ℕ) (cs : List ℕ) → r ≡ c → (r ≡ 0 → ⊥) → z ≡ r → z ≡ first (c ∷ cs)
unfolding first
first_here z r c cs e h k = pick_no _ _ _ _ (eq_no c 0 (λ q. h (e ∙ q))) (k ∙ e)

pub first_skip : (z r c : ℕ) (cs : List ℕ) → r ≡ c → r ≡ 0 → z ≡ first cs → z ≡ first (c ∷ cs)
unfolding first
first_skip z r c cs e h k = pick_yes _ _ _ _ (eq_yes c 0 (sym e ∙ h)) k

pub first_last : (z c : ℕ) → z ≡ c → z ≡ first (c ∷ [])
unfolding first pick
first_last z c e = go (eqb c 0) refl
  where
    go : (b : Bool) → eqb c 0 ≡ b → z ≡ pick b 0 c
    go true q = e ∙ eqb-true c 0 q
    go false q = e

pub ruleset firsts = (first_here, first_skip, first_last)

-- all codes are 0
abbrev pub Zeros : List ℕ → Type 0
Zeros [] = Unit {0}
Zeros (c ∷ cs) = (0 ≡ c) × Zeros cs

pub zeros : (cs : List ℕ) → 0 ≡ first cs → Zeros cs
unfolding first pick
zeros [] e = tt
zeros (c ∷ cs) e = go (eqb c 0) refl (zeros cs) e
  where
    go : (b : Bool) → eqb c 0 ≡ b → (0 ≡ first cs → Zeros cs) → 0 ≡ pick b (first cs) c
        → (0 ≡ c) × Zeros cs
    go true q z h = (sym (eqb-true c 0 q), z h)
    go false q z h = absurd (eqb-false c 0 q (sym h))

-- to show P of what a test picks, show it of both
pub split : {A : Type 0} (P : A → Type 0) (b : Bool) (x y : A) → (b ≡ true → P x)
    → (b ≡ false → P y) → P (pick b x y)
unfolding pick
split P true x y f g = f refl
split P false x y f g = g refl
