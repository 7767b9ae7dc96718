-- The pieces of a line, byte by byte.
use Prim.Native.Nat.{ℕ, zero, suc, ◌+◌, ◌-◌, ◌*◌, ◌%◌, ◌^◌, ◌<◌, ◌≤◌}
use mathlib.Core.Bool.{Bool, true, false, true≢false, false≢true, ◌&&◌}
use mathlib.Core.Path.{◌≡◌, refl, sym, ◌∙◌}
use mathlib.Core.List.{List, [], ◌∷◌}
use native.Mathlib.Omega.{arith}
use native.Mathlib.Nat.{pow-suc, pow-le-pow_right, zero-mul, one-mul}
use native.Mathlib.Numerals.{sub-one}
use denote.Ref.{Bor}
use lib.ListN.{length, take, drop}
use lib.Dec.{eqb, leb}
use Rattle.std.specs.Char.{is_ascii_digit}
use Rattle.std.specs.Cmp.Lexicographic.{pointwise}
use Rattle.std.specs.Prelude.{Option, Some, None, MatchOption, option_copied}
use Rattle.base.specs.Choice.{pick, every}
use Rattle.base.proofs.Tests.{pick_yes, pick_no, facts, each}
use Rattle.text.specs.Grammar.{after, is_digit, digits_at, side_at, letters_at, turns}
use Rattle.text.specs.Grammar.{many_words, longest}
use Rattle.text.specs.Grammar.{whole, or_else}
use Rattle.text.specs.declared.Said.{Said}

missed : (s p : List ℕ) → pointwise eqb (take (length p) s) p ≡ false → None ≡ after s p
unfolding after pick
missed s [] h = absurd (true≢false h)
missed [] (b ∷ p) h = refl
missed (c ∷ s) (b ∷ p) h = go (eqb c b) (missed s p) h
  where
    go : (t : Bool) → (pointwise eqb (take (length p) s) p ≡ false → None ≡ after s p)
        → (t && pointwise eqb (take (length p) s) p) ≡ false
        → None ≡ pick t (after s p) None
    go true f h = f h
    go false f h = refl

stood : (s p : List ℕ) → pointwise eqb (take (length p) s) p ≡ true
    → Some (drop (length p) s) ≡ after s p
unfolding after pick
stood s [] h = refl
stood [] (b ∷ p) h = absurd (false≢true h)
stood (c ∷ s) (b ∷ p) h = go (eqb c b) (stood s p) h
  where
    go : (t : Bool)
        → (pointwise eqb (take (length p) s) p ≡ true → Some (drop (length p) s) ≡ after s p)
        → (t && pointwise eqb (take (length p) s) p) ≡ true
        → Some (drop (length p) s) ≡ pick t (after s p) None
    go true f h = f h
    go false f h = absurd (false≢true h)

-- what the library strips is the word of the definition
pub stripped : (s p : List ℕ) (r : Option (Bor (List ℕ)))
    → MatchOption r (pointwise eqb (take (length p) s) p ≡ false)
    (λ x. (pointwise eqb (take (length p) s) p ≡ true) × (x.now ≡ drop (length p) s)
    × (length x.now + length p ≡ length s))
    → option_copied r ≡ after s p
stripped s p None h = missed s p h
stripped s p (Some x) h = rw h.1 (stood s p h.0)

-- a number of as many digits as were read
pub small : (k n : ℕ) → k < 7 → n < 10 ^ k → n < 1000000
small k n h e =
    let p = pow-le-pow_right {n = 10} (omega arith) {i = k} {j = 6} (omega arith) in omega arith

pub longer : (k n d : ℕ) → n < 10 ^ k → d ≤ 9 → n * 10 + d < 10 ^ (k + 1)
longer k n d e s =
    let q : k + 1 ≡ suc k = omega arith in rw (q, pow-suc) (omega arith)

-- a side's part of the word
pub part : (s bit : ℕ) → s ≤ 1 → bit < many_words → s * bit < many_words
part zero bit h k = rw zero-mul (omega arith)
part (suc s) bit h k =
    let q : s ≡ 0 = omega arith in
    rw (q, one-mul) k

pub no_bytes : (s : List ℕ) → length s ≡ 0 → s ≡ []
no_bytes [] h = refl
no_bytes (b ∷ s) h = absurd (omega arith)

-- the library's test of a digit is the definition's
digit_tested : (b : ℕ) → is_ascii_digit b ≡ is_digit b
unfolding is_digit every
digit_tested b = go (leb 48 b) (leb b 57)
  where
    go : (s t : Bool) → (s && t) ≡ (s && (t && true))
    go true true = refl
    go true false = refl
    go false t = refl

pub no_digit : (r : Bool) (b : ℕ) → r ≡ is_ascii_digit b → r ≡ false → false ≡ is_digit b
no_digit r b e h = sym h ∙ e ∙ digit_tested b

pub a_digit : (r : Bool) (b : ℕ) → r ≡ is_ascii_digit b → r ≡ true → true ≡ is_digit b
a_digit r b e h = sym h ∙ e ∙ digit_tested b

pub digit_is : (b : ℕ) → true ≡ is_digit b → (48 ≤ b) × (b ≤ 57)
unfolding is_digit
digit_is b e = omega (facts, each _ e)

pub digits_out : (more n : ℕ) → (n, []) ≡ digits_at [] more n
unfolding digits_at
digits_out zero n = refl
digits_out (suc more) n = refl

pub digits_stop : (more n b : ℕ) (line : List ℕ) → false ≡ is_digit b
    → (n, b ∷ line) ≡ digits_at (b ∷ line) more n
unfolding digits_at
digits_stop zero n b line h = refl
digits_stop (suc more) n b line h = pick_no _ _ _ _ h refl

digits_turn : (more n b : ℕ) (line : List ℕ) → 0 < more → true ≡ is_digit b
    → digits_at (b ∷ line) more n ≡ digits_at line (more - 1) (n * 10 + (b - 48))
unfolding digits_at
digits_turn zero n b line h e = absurd (omega arith)
digits_turn (suc more) n b line h e = rw sub-one (sym (pick_yes _ _ _ _ e refl))

-- d is digit k of seven
pub digits_next : (k n b d : ℕ) (line : List ℕ) → k < 7 → true ≡ is_digit b → d ≡ b - 48
    → digits_at (b ∷ line) (7 - k) n ≡ digits_at line (7 - (k + 1)) (n * 10 + d)
digits_next k n b d line h e q =
    let z : 7 - k - 1 ≡ 7 - (k + 1) = omega arith in
    digits_turn (7 - k) n b line (omega arith) e ∙ rw (z, q) refl

pub digits_done : (more n : ℕ) (line : List ℕ) → more ≤ 0 → (n, line) ≡ digits_at line more n
unfolding digits_at
digits_done zero n line h = refl
digits_done (suc more) n line h = absurd (omega arith)

pub side_small : (line : List ℕ) (s : ℕ × List ℕ) → Some s ≡ side_at line → s.0 ≤ 1
unfolding side_at pick
side_small [] s h = absurd (cc)
side_small (b ∷ line) s h = go (eqb b 76) (eqb b 82) h
  where
    go : (t u : Bool) → Some s ≡ pick t (Some (0, line)) (pick u (Some (1, line)) None)
        → s.0 ≤ 1
    go true u h = let e : s ≡ (0, line) = cc in rw e (omega arith)
    go false true h = let e : s ≡ (1, line) = cc in rw e (omega arith)
    go false false h = absurd (cc)

pub letters_stop : (more n word bit : ℕ) (line : List ℕ) → None ≡ side_at line
    → (turns n word, line) ≡ letters_at line more n word bit
unfolding letters_at
letters_stop zero n word bit line h = refl
letters_stop (suc more) n word bit line h = rw (← h)

letters_turn : (more n word bit s : ℕ) (line rest : List ℕ) → 0 < more
    → Some (s, rest) ≡ side_at line
    → letters_at line more n word bit
    ≡ letters_at rest (more - 1) (n + 1) ((word + s * bit) % many_words) (bit * 2 % many_words)
unfolding letters_at
letters_turn zero n word bit s line rest h e = absurd (omega arith)
letters_turn (suc more) n word bit s line rest h e = rw (sub-one, ← e)

-- s is turn k
pub letters_next : (k n word bit s : ℕ) (line rest : List ℕ) → k < longest
    → Some (s, rest) ≡ side_at line
    → letters_at line (longest - k) n word bit
    ≡ letters_at rest (longest - (k + 1)) (n + 1) ((word + s * bit) % many_words)
    (bit * 2 % many_words)
letters_next k n word bit s line rest h e =
    let z : longest - k - 1 ≡ longest - (k + 1) = omega arith in
    letters_turn (longest - k) n word bit s line rest (omega arith) e ∙ rw z refl

pub letters_done : (more n word bit : ℕ) (line : List ℕ) → more ≤ 0
    → (turns n word, line) ≡ letters_at line more n word bit
unfolding letters_at
letters_done zero n word bit line h = refl
letters_done (suc more) n word bit line h = absurd (omega arith)

-- a form is read where it stands, and else the next
pub ended : {A : Type 0} (r : Option A) (t o : Option (A × List ℕ)) → t ≡ o → r ≡ whole t
    → r ≡ whole o
ended r t o q e = rw (← q) e

pub said_here : {A : Type 0} (z : Said) (r o : Option A) (x : A) (f : A → Said) (other : Said)
    → r ≡ o → r ≡ Some x → z ≡ f x → z ≡ or_else o f other
said_here z r o x f other e h k = rw (← e, h) k

pub said_next : {A : Type 0} (z : Said) (r o : Option A) (f : A → Said) (other : Said)
    → r ≡ o → r ≡ None → z ≡ other → z ≡ or_else o f other
said_next z r o f other e h k = rw (← e, h) k

pub ruleset forms = (ended, said_here, said_next)
