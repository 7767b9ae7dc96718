-- A part that is lent: the first n elements of a list, or all where it has fewer.
use Prim.Native.Nat.{ℕ, ◌≤◌, min}
use mathlib.Core.Bool.{Bool, true, false}
use mathlib.Core.Path.{◌≡◌, refl, ap, ◌∙◌}
use mathlib.Core.List.{List, ◌++◌, append-nil}
use native.Mathlib.Omega.{arith}
use borrow.Author.Tests.{leb-true, leb-false}
use lib.ListN.{length, take, drop, drop_of_length-le}
use lib.Seq.{take_at, drop_at, take_all, length-take-le}
use lib.Dec.{leb}
use Rattle.std.proofs.lemmas.List.{take_min, drop_min}

-- the part comes back as p
module _ (n : ℕ) (l p : List ℕ) (e : length p ≡ length (take n l)) where
  same_front : take n (p ++ drop n l) ≡ p
  same_front = go (leb n (length l)) refl
    where
      go : (b : Bool) → leb n (length l) ≡ b → take n (p ++ drop n l) ≡ p
      go true q = take_at p (drop n l) n (e ∙ length-take-le n l (leb-true n (length l) q))
      go false q =
          let h = leb-false n (length l) q in
          let p₁ : length l ≤ n = omega arith in
          rw (drop_of_length-le l {i = n} p₁, append-nil)
          (take_all n p (omega (arith, ap length (take_all n l (omega arith)))))

  same_back : drop n (p ++ drop n l) ≡ drop n l
  same_back = go (leb n (length l)) refl
    where
      go : (b : Bool) → leb n (length l) ≡ b → drop n (p ++ drop n l) ≡ drop n l
      go true q = drop_at p (drop n l) n (e ∙ length-take-le n l (leb-true n (length l) q))
      go false q =
          let h = leb-false n (length l) q in
          let p₁ : length l ≤ n = omega arith in
          rw (drop_of_length-le l {i = n} p₁, append-nil)
          (drop_of_length-le p {i = n} (omega (arith, ap length (take_all n l (omega arith)))))

-- a is how many were lent, and p what came back: the whole is the part and what lay behind it
pub record Lent (n a : ℕ) (l p : List ℕ) : Type 0 where
  pub given : take a l ≡ take n l
  pub first : take n (p ++ drop a l) ≡ p
  pub rest : drop n (p ++ drop a l) ≡ drop n l

pub lent : (n a : ℕ) (l p : List ℕ) → a ≡ min n (length l) → length p ≡ length (take a l)
    → Lent n a l p
lent n a l p e h =
    let k : length p ≡ length (take n l) = h ∙ rw (e, take_min n l) in
    record {
      given = rw e (take_min n l);
      first = rw (e, drop_min n l) (same_front n l p k);
      rest = rw (e, drop_min n l) (same_back n l p k);
    }
