-- A line at once is as good as its bytes.
use Prim.Native.Nat.{ℕ, suc, ◌+◌, ◌-◌, ◌<◌, ◌≤◌}
use mathlib.Core.Bool.{Bool, true, false}
use mathlib.Core.Path.{◌≡◌, refl, ◌∙◌}
use mathlib.Core.List.{List, [], ◌∷◌}
use native.Mathlib.Omega.{arith}
use native.Mathlib.Nat.{sub_self}
use native.Mathlib.Numerals.{add-one}
use lib.ListN.{length, get_or, take, drop, drop_of_length-le, length-drop}
use lib.Seq.{drop-cons, drop-drop, get_or-drop}
use lib.Dec.{eqb}
use borrow.Author.Tests.{eqb-true}
use Rattle.base.specs.Choice.{pick}
use Rattle.base.proofs.Tests.{split}
use Rattle.text.specs.Answers.{put_all}
use Rattle.session.specs.Feeding.{newline, fold, Going, gathered, newline_from}

pub newline_turn : (input : List ℕ) (i : ℕ) → i < length input
    → newline_from (drop i input) i ≡ pick (eqb (get_or input i 0) 10) i
    (newline_from (drop (i + 1) input) (i + 1))
unfolding newline_from
newline_turn input i h = rw (drop-cons input i 0 h, add-one i)

pub newline_none : (input : List ℕ) (i : ℕ) → length input ≤ i → i ≡ newline_from (drop i input) i
unfolding newline_from
newline_none input i h = rw (drop_of_length-le input h)

pub behind : (input : List ℕ) (i : ℕ) → i ≤ newline_from input i
unfolding newline_from
behind [] i = omega arith
behind (b ∷ input) i = split (λ (n : ℕ). i ≤ n) _ _ _ (λ _. omega arith)
    (λ _. let h = behind input (i + 1) in omega arith)

within : (input : List ℕ) (i : ℕ) → newline_from input i ≤ i + length input
unfolding newline_from
within [] i = omega arith
within (b ∷ input) i = split (λ (n : ℕ). n ≤ i + suc (length input)) _ _ _ (λ _. omega arith)
    (λ _. let h = within input (i + 1) in omega arith)

-- e is what `newline_from` found
pub found : (input : List ℕ) (i e : ℕ) → e ≡ newline_from (drop i input) i → i < length input
    → (i ≤ e) × (e ≤ length input)
found input i e q h =
    omega (arith, behind (drop i input) i, within (drop i input) i, length-drop i input)

-- a newline stands where one is found
stands : (input : List ℕ) (i : ℕ) → newline_from input i - i < length input
    → get_or input (newline_from input i - i) 0 ≡ newline
unfolding newline_from pick
stands [] i h = absurd (omega arith)
stands (b ∷ input) i h = go (eqb b newline) refl (stands input (i + 1)) (behind input (i + 1)) h
  where
    go : (t : Bool) → eqb b newline ≡ t
        → (newline_from input (i + 1) - (i + 1) < length input
        → get_or input (newline_from input (i + 1) - (i + 1)) 0 ≡ newline)
        → i + 1 ≤ newline_from input (i + 1) → newline_from (b ∷ input) i - i < length (b ∷ input)
        → get_or (b ∷ input) (newline_from (b ∷ input) i - i) 0 ≡ newline
    go true e f l h = rw (e, sub_self) (eqb-true b newline e)
    go false e f l h =
        let n : newline_from input (i + 1) - i
        ≡ suc (newline_from input (i + 1) - (i + 1)) = omega arith in
        let k = rw e at h in
        rw (e, n) (f (omega arith))

pub newline_at : (input : List ℕ) (i e : ℕ) → e ≡ newline_from (drop i input) i → i < length input
    → e < length input → get_or input e 0 ≡ newline
newline_at input i e q b h =
    let l = behind (drop i input) i in
    let s = stands (drop i input) i (rw length-drop (omega arith)) in
    let sum : i + (newline_from (drop i input) i - i) ≡ e = omega arith in
    rw (get_or-drop, sum) at s

-- f is a byte's turn, h g where the lines stand at g: while no newline comes, bytes only go into
-- the line at hand
module _ {B : Type 0} (f : B → ℕ → B) (h : Going → B)
    (one : (g : Going) (b : ℕ) → eqb b newline ≡ false → f (h g) b ≡ h (gathered g (b ∷ []))) where
  over : (input : List ℕ) (i : ℕ) (g : Going)
      → fold f input (h g) ≡ fold f (drop (newline_from input i - i) input)
      (h (gathered g (take (newline_from input i - i) input)))
  unfolding fold newline_from pick put_all
  over [] i g = rw sub_self
  over (b ∷ input) i g = go (eqb b newline) refl (over input (i + 1) (gathered g (b ∷ [])))
      (behind input (i + 1))
    where
      go : (t : Bool) → eqb b newline ≡ t
          → fold f input (h (gathered g (b ∷ [])))
          ≡ fold f (drop (newline_from input (i + 1) - (i + 1)) input)
          (h (gathered (gathered g (b ∷ []))
          (take (newline_from input (i + 1) - (i + 1)) input)))
          → i + 1 ≤ newline_from input (i + 1)
          → fold f (b ∷ input) (h g) ≡ fold f (drop (newline_from (b ∷ input) i - i) (b ∷ input))
          (h (gathered g (take (newline_from (b ∷ input) i - i) (b ∷ input))))
      go true e k l = rw (e, sub_self)
      go false e k l =
          let n : newline_from input (i + 1) - i
          ≡ suc (newline_from input (i + 1) - (i + 1)) = omega arith in
          rw (one g b e, e, n) k

  module _ (input : List ℕ) (i : ℕ) (g : Going) where
    end : ℕ
    end = newline_from (drop i input) i

    lined : Going
    lined = gathered g (take (end - i) (drop i input))

    sum : i + (end - i) ≡ end
    unfolding end
    sum = let l = behind (drop i input) i in omega arith

    -- up to the first newline from position i on
    pub to_end : fold f (drop i input) (h g) ≡ fold f (drop (newline_from (drop i input) i) input)
        (h (gathered g (take (newline_from (drop i input) i - i) (drop i input))))
    unfolding end
    to_end = rw (drop-drop, sum) at (over (drop i input) i g)

    pub line_fold : newline_from (drop i input) i < length input
        → fold f (drop i input) (h g) ≡ fold f (drop (newline_from (drop i input) i + 1) input)
        (f (h (gathered g (take (newline_from (drop i input) i - i) (drop i input)))) newline)
    unfolding fold end lined
    line_fold p =
        let l = behind (drop i input) i in
        let s = stands (drop i input) i (rw length-drop (omega arith)) in
        to_end ∙ rw (drop-cons input end 0 p, rw (get_or-drop, sum) at s, add-one end)

    pub rest_fold : length input ≤ newline_from (drop i input) i
        → fold f (drop i input) (h g) ≡ h
        (gathered g (take (newline_from (drop i input) i - i) (drop i input)))
    unfolding fold end lined
    rest_fold p = to_end ∙ rw (drop_of_length-le input p)
