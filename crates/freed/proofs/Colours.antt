-- Laws of `dark`: the colours from a node on, in a row, that are not white.
use Prim.Native.Nat.{ℕ, zero, suc, ◌+◌, ◌-◌, ◌≤◌, ◌<◌}
use mathlib.Core.Path.{◌≡◌, refl, sym}
use mathlib.Core.Bool.{Bool, true, false}
use mathlib.Core.List.{List}
use native.Mathlib.Omega.{arith}
use lib.ListN.{get_or, set}
use lib.Seq.{get_or-set_other}
use lib.Dec.{eqb}
use Rattle.base.specs.Choice.{pick}
use Rattle.base.proofs.Tests.{split, pick_yes, pick_no, eq_no}
use Rattle.rules.specs.Table.{white}
use Rattle.rules.specs.Phases.{append_tag, tag_of}
use Rattle.rules.specs.Facts.{quiet}
use Rattle.freed.specs.Gathers.{dark, dark_in, far}
use Rattle.rules.specs.declared.Phase.{Phase}
use Rattle.rules.specs.declared.Phase.TheVariants.{Roots, Scan, Left, ShadeLeft, Right}
use Rattle.rules.specs.declared.Phase.TheVariants.{ShadeRight, Black, Append}

pub dark_most : (n i : ℕ) (c : List ℕ) → dark n i c ≤ n
unfolding dark
dark_most zero i c = omega arith
dark_most (suc n) i c =
    split (λ (k : ℕ). k ≤ suc n) _ _ _ (λ e. omega arith)
    (λ e. let z = dark_most n (i + 1) c in omega arith)

-- of more colours it is no less
pub dark_more : (n k i : ℕ) (c : List ℕ) → n ≤ k → dark n i c ≤ dark k i c
unfolding dark pick
dark_more zero k i c h = omega arith
dark_more (suc n) zero i c h = absurd (omega arith)
dark_more (suc n) (suc k) i c h =
    go (dark n (i + 1) c) (dark k (i + 1) c) (dark_more n k (i + 1) c (omega arith))
    (eqb (get_or c i 0) white)
  where
    go : (x y : ℕ) → x ≤ y → (b : Bool) → pick b 0 (suc x) ≤ pick b 0 (suc y)
    go x y q true = omega arith
    go x y q false = omega arith

pub dark_white : (n i : ℕ) (c : List ℕ) → eqb (get_or c i 0) white ≡ true → dark n i c ≡ 0
unfolding dark
dark_white zero i c e = refl
dark_white (suc n) i c e = sym (pick_yes _ _ _ _ (sym e) refl)

-- one colour, and those behind it
pub dark_next : (m i : ℕ) (c : List ℕ) → i < m
    → dark (m - i) i c ≤ suc (dark (m - (i + 1)) (i + 1) c)
unfolding dark
dark_next m i c h =
    let z : m - i ≡ suc (m - (i + 1)) = omega arith in
    rw z (split (λ (k : ℕ). k ≤ suc (dark (m - (i + 1)) (i + 1) c)) _ _ _ (λ e. omega arith)
    (λ e. omega arith))

-- a colour before them does not matter
pub dark_set : (n i j v : ℕ) (c : List ℕ) → j < i → dark n i (set c j v) ≡ dark n i c
unfolding dark
dark_set zero i j v c h = refl
dark_set (suc n) i j v c h =
    rw (get_or-set_other c j i v 0 (λ e. omega arith), dark_set n (i + 1) j v c (omega arith))

-- the loop: n colours are not white, and k is all
pub dark_start : (m i : ℕ) (c : List ℕ) → dark m i c ≡ 0 + dark (m - 0) (i + 0) c
dark_start m i c =
    let z : m - 0 ≡ m = omega arith in let y : i + 0 ≡ i = omega arith in rw (z, y) (omega arith)

pub dark_on : (m n i k : ℕ) (c : List ℕ) → n < m → (get_or c (i + n) 0 ≡ 0 → ⊥)
    → k ≡ n + dark (m - n) (i + n) c → k ≡ n + 1 + dark (m - (n + 1)) (i + (n + 1)) c
unfolding dark
dark_on m n i k c h f e =
    let z : m - n ≡ suc (m - (n + 1)) = omega arith in
    let y : i + (n + 1) ≡ i + n + 1 = omega arith in
    let x = rw z at e in
    let w = pick_no (suc (dark (m - (n + 1)) (i + n + 1) c)) 0 _ _
    (eq_no (get_or c (i + n) 0) white f) refl in
    rw y (omega (arith, x, w))

-- a number that is at most that of fewer colours
pub dark_within : (n k e i : ℕ) (c : List ℕ) → n ≤ dark k i c → k ≤ e → n ≤ dark e i c
dark_within n k e i c h g = let z = dark_more k e i c g in omega arith

-- how far it is in Append, and in any other phase
pub far_dark : (m i : ℕ) (c : List ℕ) → far m c (Append i) ≡ dark (m - i) i c
unfolding quiet dark_in pick
far_dark m i c = omega arith

pub far_quiet : (m : ℕ) (c : List ℕ) (p : Phase) → eqb (tag_of p) append_tag ≡ false
    → dark_in m c p ≡ 0
unfolding dark_in
far_quiet m c p e = sym (pick_no _ _ _ _ (sym e) refl)

pub far_append : (n e m i : ℕ) (c : List ℕ) → n ≤ dark (e - i) i c → e ≤ m
    → n ≤ far m c (Append i)
far_append n e m i c h g =
    omega (arith, far_dark m i c, dark_more (e - i) (m - i) i c (omega arith))

-- a phase that is neither Scan nor Append
pub quiet_other : (m : ℕ) (p : Phase) → ((i k : ℕ) → p ≡ Scan i k → ⊥)
    → ((i : ℕ) → p ≡ Append i → ⊥) → m ≡ quiet m p
unfolding quiet pick
quiet_other m (Roots i) f g = refl
quiet_other m (Scan i k) f g = absurd (f i k refl)
quiet_other m (Left i) f g = refl
quiet_other m (ShadeLeft i n) f g = refl
quiet_other m (Right i) f g = refl
quiet_other m (ShadeRight i n) f g = refl
quiet_other m (Black i) f g = refl
quiet_other m (Append i) f g = absurd (g i refl)

pub quiet_scan : (m i k : ℕ) → k ≡ quiet m (Scan i k)
unfolding quiet pick
quiet_scan m i k = refl

pub quiet_append : (m i : ℕ) → 0 ≡ quiet m (Append i)
unfolding quiet pick
quiet_append m i = refl
