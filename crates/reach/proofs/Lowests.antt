-- The lowest number that passes a test, and an edge that does.
use Prim.Native.Nat.{ℕ, zero, suc, ◌+◌, ◌-◌, ◌≤◌, ◌<◌}
use mathlib.Core.Bool.{Bool, true, false, true≢false, false≢true, ◌||◌}
use mathlib.Core.List.{List, [], ◌∷◌}
use mathlib.Core.Path.{◌≡◌, refl, sym, ◌∙◌}
use mathlib.Core.Logic.{◌⊎◌, inl, inr}
use native.Mathlib.Decide.{ℕ_discrete, dec_lt}
use native.Mathlib.Omega.{arith}
use lib.ListN.{length, get_or}
use Rattle.base.proofs.Tests.{pick_yes, pick_no, split}
use Rattle.rules.specs.Table.{edge_of}
use Rattle.rules.specs.Meet.{lowest, any_edge, first_side}
use Rattle.reach.proofs.Kept.{neither}

-- x is the lowest from b to below e that passes, and e where none does
pub record Passes (f : ℕ → Bool) (b e x : ℕ) : Type 0 where
  pub from : b ≤ x
  pub to : x ≤ e
  pub passes : x < e → f x ≡ true
  pub below : (n : ℕ) → b ≤ n → n < x → f n ≡ false

passes_later : {f : ℕ → Bool} {b e x : ℕ} → b < e → f b ≡ false → Passes f (b + 1) e x
    → Passes f b e x
passes_later {f} {b} {x = x} h q w = record {
  from = omega (arith, w.from);
  to = w.to;
  passes = w.passes;
  below = λ n a c. go n a c (ℕ_discrete n b);
}
  where
    go : (n : ℕ) → b ≤ n → n < x → Dec (n ≡ b) → f n ≡ false
    go n a c (yes p) = rw p q
    go n a c (no p) = w.below n (omega arith) c

passes_lowest : (f : ℕ → Bool) (k n : ℕ) → Passes f n (n + k) (lowest f k n)
unfolding lowest
passes_lowest f zero n = record {
  from =
      omega arith;
  to = omega arith;
  passes = λ h. absurd (omega arith);
  below = λ i a b. absurd
      (omega arith);
}
passes_lowest f (suc k) n = split (Passes f n (n + suc k)) _ _ _
    (λ q. record {
      from = omega arith;
      to = omega arith;
      passes = λ h. q;
      below = λ i a b. absurd
          (omega arith);
    })
    (λ q. let e : n + 1 + k ≡ n + suc k = omega arith in
    passes_later (omega arith) q (rw e at (passes_lowest f k (n + 1))))

pub lowest_passes : (f : ℕ → Bool) (m : ℕ) → Passes f 0 m (lowest f m 0)
lowest_passes f m =
    let e : 0 + m ≡ m = omega arith in
    rw e at (passes_lowest f m 0)

-- tests that are passed alike
pub lowest_same : (f g : ℕ → Bool) (k n : ℕ) → ((i : ℕ) → f i ≡ g i) → lowest f k n ≡ lowest g k n
unfolding lowest
lowest_same f g zero n e = refl
lowest_same f g (suc k) n e = rw (e n, lowest_same f g k (n + 1) e)

-- for the loops that look for it, at n
pub lowest_here : (f : ℕ → Bool) (m n : ℕ) → n < m → f n ≡ true → n ≡ lowest f (m - n) n
unfolding lowest
lowest_here f m n h q =
    let z : m - n ≡ suc (m - (n + 1)) = omega arith in
    rw z (pick_yes _ _ _ _ (sym q) refl)

pub lowest_next : (f : ℕ → Bool) (m n : ℕ) → n < m → f n ≡ false → lowest f (m - n) n
    ≡ lowest f (m - (n + 1)) (n + 1)
unfolding lowest
lowest_next f m n h q =
    let z : m - n ≡ suc (m - (n + 1)) = omega arith in
    rw z (sym (pick_no _ _ _ _ (sym q) refl))

pub lowest_none : (f : ℕ → Bool) (m n : ℕ) → m ≤ n → n ≡ lowest f (m - n) n
unfolding lowest
lowest_none f m n h =
    let z : m - n ≡ 0 = omega arith in
    rw z

pub lowest_start : (f : ℕ → Bool) (m : ℕ) → lowest f m 0 ≡ lowest f (m - 0) 0
lowest_start f m =
    let z : m - 0 ≡ m = omega arith in
    rw z

pub either : (a b : Bool) → (a || b) ≡ true → (a ≡ true) ⊎ (b ≡ true)
either true b h = inl refl
either false b h = inr h

-- some edge of n passes
abbrev Some : (ℕ → Bool) → List (List ℕ) → ℕ → Type 0
Some f es n = (side : ℕ) × (side < length es) × (f (edge_of es side n) ≡ true)

pub any_yes : (f : ℕ → Bool) (es : List (List ℕ)) (n : ℕ) → any_edge f es n ≡ true → Some f es n
unfolding any_edge edge_of
any_yes f [] n h = absurd (false≢true h)
any_yes f (row ∷ rows) n h =
    go (either (f (get_or row n 0)) (any_edge f rows n) h) (any_yes f rows n)
  where
    go : (f (get_or row n 0) ≡ true) ⊎ (any_edge f rows n ≡ true)
        → (any_edge f rows n ≡ true → Some f rows n) → Some f (row ∷ rows) n
    go (inl a) rec = (0, omega arith, a)
    go (inr a) rec =
        let w = rec a in
        (suc w.0, omega (arith, w.1), w.2)

-- then the first side whose edge passes is one
pub first_passes : (f : ℕ → Bool) (es : List (List ℕ)) (n : ℕ) → any_edge f es n ≡ true
    → (first_side f es n < length es)
    × Passes (λ side. f (edge_of es side n)) 0 (length es) (first_side f es n)
unfolding first_side
first_passes f es n h = (go (dec_lt (first_side f es n) (length es)), w)
  where
    w : Passes (λ side. f (edge_of es side n)) 0 (length es) (first_side f es n)
    w = lowest_passes _ (length es)

    go : Dec (first_side f es n < length es) → first_side f es n < length es
    go (yes l) = l
    go (no l) =
        let k = any_yes f es n h in
        absurd (true≢false (sym k.2 ∙ w.below k.0 (omega arith) (omega (arith, k.1))))

-- of two edges: the left one, where it passes, and else the right one
module _ (f : ℕ → Bool) (l r : List ℕ) (n : ℕ) where
  pub first_left : true ≡ f (get_or l n 0) → 0 ≡ first_side f (l ∷ r ∷ []) n
  unfolding first_side lowest edge_of
  first_left h = pick_yes _ _ _ _ h refl

  other : (a b : Bool) → false ≡ a → true ≡ a || (b || false) → true ≡ b
  other true b h k = absurd (false≢true h)
  other false true h k = refl
  other false false h k = k

  pub first_right : false ≡ f (get_or l n 0) → true ≡ any_edge f (l ∷ r ∷ []) n
      → 1 ≡ first_side f (l ∷ r ∷ []) n
  unfolding first_side lowest edge_of any_edge
  first_right h k = pick_no _ _ _ _ h (pick_yes _ _ _ _ (other _ _ h k) refl)

pub any_no : (f : ℕ → Bool) (es : List (List ℕ)) (n : ℕ) → any_edge f es n ≡ false → (side : ℕ)
    → side < length es → f (edge_of es side n) ≡ false
unfolding any_edge edge_of
any_no f [] n h side l = absurd (omega arith)
any_no f (row ∷ rows) n h zero l = (neither (f (get_or row n 0)) (any_edge f rows n) h).0
any_no f (row ∷ rows) n h (suc side) l = any_no f rows n
    (neither (f (get_or row n 0)) (any_edge f rows n) h).1 side (omega arith)
