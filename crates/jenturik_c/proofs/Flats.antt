-- A schedule of words: its steps among the words.
use Prim.Native.Nat.{ℕ, zero, suc, ◌+◌, ◌-◌, ◌*◌, ◌<◌, ◌≤◌, ◌/◌}
use native.Mathlib.Omega.{arith}
use native.Mathlib.Nat.{add-zero}
use native.Mathlib.Numerals.{add-one}
use mathlib.Core.Path.{◌≡◌, refl, sym, ap, ap₂, subst, ◌∙◌}
use mathlib.Core.List.{List, ◌∷◌}
use lib.ListN.{length, get_or, take, drop}
use lib.Seq.{drop-cons, get_or-take, get_or-drop}
use Rattle.record_words.specs.Words.{word}
use Rattle.rules.specs.declared.Step.{Step}
use Rattle.jenturik_c.specs.Flat.{step_at, steps_from, steps_of, STEP_WORDS, UNUSED, zeros}
use Rattle.jenturik_c.specs.Flat.{kind_at, at as word_at}

-- a step that is read from its own words
module _ (w : List ℕ) (i k : ℕ) (e : k ≡ STEP_WORDS) where
  own : (n m : ℕ) → n < STEP_WORDS → m ≡ STEP_WORDS * i + n
      → word (take k (drop (STEP_WORDS * i) w)) n ≡ word w m
  own n m h q = get_or-take k _ n 0 (omega (arith, e)) ∙ get_or-drop (STEP_WORDS * i) w n 0
      ∙ ap (word w) (sym q)

  pub own_step : step_at (take k (drop (STEP_WORDS * i) w)) 0 ≡ step_at w i
  unfolding kind_at zeros
  own_step =
      rw (
        own 0 (word_at i 0) (omega arith) refl,
        own 1 (word_at i 1) (omega arith) refl,
        own 2 (word_at i 2) (omega arith) refl,
        own 3 (word_at i 3) (omega arith) refl,
        own 4 (word_at i 4) (omega arith) refl,
        own 5 (word_at i 5) (omega arith) refl,
        own 6 (word_at i 6) (omega arith) refl,
        own 7 (word_at i 7) (omega arith) refl,
        own 8 (word_at i UNUSED) (omega arith) refl,
        own 9 (word_at i UNUSED + 1) (omega arith) (omega arith),
        own 10 (word_at i UNUSED + 2) (omega arith) (omega arith),
        own 11 (word_at i UNUSED + 3) (omega arith) (omega arith),
      ) refl

module _ (w : List ℕ) where
  many : (n i : ℕ) → length (steps_from w i n) ≡ n
  unfolding steps_from
  many zero i = refl
  many (suc n) i = ap suc (many n (suc i))

  pub count : length (steps_of w) ≡ length w / STEP_WORDS
  unfolding steps_of
  count = many (length w / STEP_WORDS) 0

  among : (n i j : ℕ) (b : Step) → j < n → get_or (steps_from w i n) j b ≡ step_at w (i + j)
  unfolding steps_from
  among zero i j b lt = absurd (omega (arith, lt))
  among (suc n) i zero b lt = ap (step_at w) (sym (add-zero i))
  among (suc n) i (suc j) b lt = among n (suc i) j b (omega (arith, lt))
      ∙ ap (step_at w) (omega arith)

  at : (j : ℕ) (b : Step) → j < length w / STEP_WORDS → get_or (steps_of w) j b ≡ step_at w j
  unfolding steps_of
  at j b lt = among (length w / STEP_WORDS) 0 j b lt ∙ ap (step_at w) (omega arith)

  pub fits : (j : ℕ) → j < length (steps_of w) → STEP_WORDS * j + STEP_WORDS ≤ length w
  fits j lt = let n = count in omega (arith, lt, n)

  -- what is left of the steps from the j-th on begins with it
  pub from_here : (j : ℕ) (a : Step) → j < length (steps_of w) → a ≡ step_at w j
      → drop j (steps_of w) ≡ a ∷ drop (j + 1) (steps_of w)
  from_here j a lt e =
      drop-cons (steps_of w) j a lt
      ∙ ap₂ (λ (b : Step) (n : ℕ). b ∷ drop n (steps_of w))
      (at j a (subst (λ (n : ℕ). j < n) count lt) ∙ sym e) (sym (add-one j))
