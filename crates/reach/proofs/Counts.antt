-- Laws of how many numbers have a value that is not 0, and of how many have P.
use mathlib.Core.Path.{◌≡◌, refl, ap}
use mathlib.Core.Logic.{◌≢◌}
use Prim.Native.Nat.{ℕ, zero, suc, ◌+◌, ◌≤◌, ◌<◌}
use native.Mathlib.Decide.{ℕ_discrete}
use native.Mathlib.Omega.{arith}
use Rattle.reach.specs.Numbered.{one, nonzero}
use Rattle.reach.specs.Counted as C
use C.{Number, none, skip}

pub one_le : (x : ℕ) → one x ≤ 1
unfolding one
one_le zero = omega arith
one_le (suc x) = omega arith

pub one_no : (x : ℕ) → x ≡ 0 → one x ≡ 0
unfolding one
one_no zero h = refl
one_no (suc x) h = absurd (omega arith)

pub one_yes : (x : ℕ) → x ≢ 0 → one x ≡ 1
unfolding one
one_yes zero h = absurd (h refl)
one_yes (suc x) h = refl

pub nonzero_le : (f : ℕ → ℕ) (b k : ℕ) → nonzero f b k ≤ k
unfolding nonzero
nonzero_le f b zero = omega arith
nonzero_le f b (suc k) = omega (arith, nonzero_le f b k, one_le (f (b + k)))

nonzero_same : (f g : ℕ → ℕ) (b k : ℕ) → ((n : ℕ) → b ≤ n → n < b + k → g n ≡ f n) → nonzero g b k
    ≡ nonzero f b k
unfolding nonzero
nonzero_same f g b zero h = refl
nonzero_same f g b (suc k) h = omega (
  arith,
  nonzero_same f g b k (λ n p q. h n p (omega arith)),
  ap one
      (h (b + k) (omega arith) (omega arith)),
)

pub nonzero_none : (f : ℕ → ℕ) (b k : ℕ) → ((n : ℕ) → b ≤ n → n < b + k → f n ≡ 0) → nonzero f b k
    ≡ 0
unfolding nonzero
nonzero_none f b zero h = refl
nonzero_none f b (suc k) h = omega (
  arith,
  nonzero_none f b k (λ n p q. h n p (omega arith)),
  one_no
      (f (b + k)) (h (b + k) (omega arith) (omega arith)),
)

-- one more
pub nonzero_up : (f g : ℕ → ℕ) (b k i : ℕ) → f i ≡ 0 → g i ≢ 0 → ((n : ℕ) → n ≢ i → g n ≡ f n)
    → b ≤ i → i < b + k → nonzero g b k ≡ suc (nonzero f b k)
unfolding nonzero
nonzero_up f g b zero i z y o p q = absurd (omega arith)
nonzero_up f g b (suc k) i z y o p q = go (ℕ_discrete (b + k) i) (nonzero_up f g b k i z y o p)
  where
    go : Dec (b + k ≡ i) → (i < b + k → nonzero g b k ≡ suc (nonzero f b k)) → nonzero g b (suc k)
        ≡ suc (nonzero f b (suc k))
    go (yes a) ih = omega (
      arith,
      one_no (f (b + k)) (rw a z),
      one_yes (g (b + k)) (rw a y),
      nonzero_same f g b k (λ n u v. o n (omega arith)),
    )
    go (no a) ih = omega (arith, ih (omega arith), ap one (o (b + k) a))

pub nonzero_lt : (f : ℕ → ℕ) (b k i : ℕ) → f i ≡ 0 → b ≤ i → i < b + k → nonzero f b k < k
unfolding nonzero
nonzero_lt f b zero i z p q = absurd (omega arith)
nonzero_lt f b (suc k) i z p q = go (ℕ_discrete (b + k) i) (nonzero_lt f b k i z p)
  where
    go : Dec (b + k ≡ i) → (i < b + k → nonzero f b k < k) → nonzero f b (suc k) < suc k
    go (yes a) ih = omega (arith, one_no (f (b + k)) (rw a z), nonzero_le f b k)
    go (no a) ih = omega (arith, ih (omega arith), one_le (f (b + k)))

-- those of two runs of numbers
pub nonzero_split : (f : ℕ → ℕ) (b j k : ℕ) → nonzero f b (j + k)
    ≡ nonzero f b j + nonzero f (b + j) k
unfolding nonzero
nonzero_split f b j zero =
    let z : j + 0 ≡ j = omega arith in
    rw z (omega arith)
nonzero_split f b j (suc k) =
    let z : j + suc k ≡ suc (j + k) = omega arith in
    let y : b + (j + k) ≡ b + j + k = omega arith in
    rw z (omega (arith, nonzero_split f b j k, ap (λ (n : ℕ). one (f n)) y))

pub nonzero_all : (f : ℕ → ℕ) (b k : ℕ) → ((n : ℕ) → b ≤ n → n < b + k → f n ≢ 0) → nonzero f b k
    ≡ k
unfolding nonzero
nonzero_all f b zero h = refl
nonzero_all f b (suc k) h = omega (
  arith,
  nonzero_all f b k (λ n p q. h n p (omega arith)),
  one_yes
      (f (b + k)) (h (b + k) (omega arith) (omega arith)),
)

-- P is had by the numbers from b on whose value is not 0, and by no other below b + k
module _ (P : ℕ → Type 0) (f : ℕ → ℕ) (b : ℕ) (below : (n : ℕ) → n < b → ¬ P n) where
  number_below : (k : ℕ) → k ≤ b → Number P k 0
  number_below zero h = none
  number_below (suc k) h = skip (below k (omega arith)) (number_below k (omega arith))

  pub number_from : (k : ℕ) → ((n : ℕ) → b ≤ n → n < b + k → (f n ≢ 0 → P n) × (P n → f n ≢ 0))
      → Number P (b + k) (nonzero f b k)
  unfolding nonzero
  number_from zero h =
      let z : b + 0 ≡ b = omega arith in
      rw z (number_below b (omega arith))
  number_from (suc k) h =
      let z : b + suc k ≡ suc (b + k) = omega arith in
      rw z (go (ℕ_discrete (f (b + k)) 0) (h (b + k) (omega arith) (omega arith))
      (number_from k (λ n p q. h n p (omega arith))))
    where
      go : Dec (f (b + k) ≡ 0) → (f (b + k) ≢ 0 → P (b + k)) × (P (b + k) → f (b + k) ≢ 0)
          → Number P (b + k) (nonzero f b k)
          → Number P (suc (b + k)) (one (f (b + k)) + nonzero f b k)
      go (yes a) w v =
          let q : one (f (b + k)) + nonzero f b k ≡ nonzero f b k =
          omega (arith, one_no (f (b + k)) a) in
          rw q (skip (λ p. w.1 p a) v)
      go (no a) w v =
          let q : one (f (b + k)) + nonzero f b k ≡ suc (nonzero f b k) =
          omega (arith, one_yes (f (b + k)) a) in
          rw q (C.one (w.0 a) v)

-- there is one such number
pub number_once : {P : ℕ → Type 0} {m j k : ℕ} → Number P m j → Number P m k → j ≡ k
number_once none none = refl
number_once (C.one p a) (C.one q b) = ap suc (number_once a b)
number_once (C.one p a) (skip q b) = absurd (q p)
number_once (skip p a) (C.one q b) = absurd (p q)
number_once (skip p a) (skip q b) = number_once a b

-- and it is that of whatever is had by the same numbers
pub number_on : {P Q : ℕ → Type 0} → ((n : ℕ) → P n → Q n) → ((n : ℕ) → Q n → P n) → {m k : ℕ}
    → Number P m k → Number Q m k
number_on f g none = none
number_on f g (C.one {m = m} p v) = C.one (f m p) (number_on f g v)
number_on f g (skip {m = m} p v) = skip (λ q. p (g m q)) (number_on f g v)
