-- Words that are a record's: each has its width. And the other way round: a record whose numbers
-- have their widths has a record's words.
use Prim.Native.Nat.{ℕ, zero, suc, ◌^◌, ◌<◌, ◌≤◌}
use native.Mathlib.Omega.{arith}
use mathlib.Core.Bool.{Bool, true, false}
use mathlib.Core.List.{List, [], ◌∷◌}
use mathlib.Core.Path.{◌≡◌, refl, sym, subst, ◌∙◌}
use lib.Dec.{eqb, leb}
use lib.Bits.{bit_or, or_lt, or_add_and, and_le_l, and_le_r}
use borrow.Author.Tests.{leb-true, eqb-true}
use Rattle.base.specs.Choice.{every}
use Rattle.base.proofs.Tests.{each, every_skip, every_last, eq_yes, le_yes, pick_no, tests}
use Rattle.rules.specs.declared.Record.{Record}
use Rattle.rules.specs.Phases.{most_tag}
use Rattle.rules.proofs.Phases.{no_second}
use Rattle.record_words.specs.Words.{word, owes_of, owed_of, words_of, most, within, joined}
use Rattle.record_words.specs.Words.{narrows, spares, narrow, spare, flagged, is_record}
use Rattle.record_words.specs.Words.{Within, WORDS, NODES, PHASE, OWES, STEPS, CYCLES, TOOK}
use Rattle.record_words.specs.Words.{USED}
use Rattle.rules.specs.Records.{Owed}
use Rattle.std.specs.Prelude.{Some, None}

none_within : (w : List ℕ) → true ≡ within w 0
unfolding within
none_within w = refl

one_more_lem : (w : List ℕ) (n : ℕ) → true ≡ within w n → word w n ≤ word most n → true
    ≡ within w (suc n)
unfolding within
one_more_lem w n h k = every_skip _ _ _ h (every_last _ _ (le_yes _ _ k))

-- the tests as facts
facts_of : (w : List ℕ) (n : ℕ) → true ≡ within w n → Within w n
unfolding within
facts_of w zero e = tt
facts_of w (suc n) e = let f = each _ e in (facts_of w n (sym f.0), leb-true _ _ f.1.0)

tests_of : (w : List ℕ) (n : ℕ) → Within w n → true ≡ within w n
tests_of w zero e = none_within w
tests_of w (suc n) e = one_more_lem w n (tests_of w n e.0) e.1

-- numbers below 2 to the k
abbrev Below : ℕ → List ℕ → Type 0
Below k [] = Unit {0}
Below k (n ∷ ns) = (n < 2 ^ k) × Below k ns

-- all bits of numbers are below 2 to the k where each number is, and only there
joined_below : (k n : ℕ) (ns : List ℕ) → n < 2 ^ k → Below k ns → joined n ns < 2 ^ k
joined_below k n [] h b = h
joined_below k n (m ∷ ns) h b = joined_below k (bit_or n m) ns (or_lt k n m h b.0) b.1

each_below : (k n : ℕ) (ns : List ℕ) → joined n ns < 2 ^ k → Below k (n ∷ ns)
each_below k n [] h = (h, tt)
each_below k n (m ∷ ns) h =
    let f = each_below k (bit_or n m) ns h in
    let sum = or_add_and n m in
    let left = and_le_l n m in
    let right = and_le_r n m in
    (omega (arith, f.0, sum, right), (omega (arith, f.0, sum, left), f.1))

-- for `search`
at_most : (k n : ℕ) → n < suc k → n ≤ k
at_most k n h = omega arith

below : (k n : ℕ) → n ≤ k → n < suc k
below k n h = omega arith

-- the words' widths as they are tested
abbrev pub tested : List ℕ → List Bool
tested w =
    leb (word w PHASE) most_tag ∷ leb (word w OWES) 1 ∷ leb (narrow w) 65535 ∷ eqb (spare w) 0 ∷ []

-- each word has 32 bits
abbrev Sized : List ℕ → Type 0
Sized w = (i : ℕ) → word w i < 4294967296

all_pass : (w : List ℕ) → Sized w → true ≡ every (tested w) → true ≡ within w WORDS
all_pass w f e =
    let t = each _ e in
    let p = leb-true (word w PHASE) most_tag t.0 in
    let o = leb-true (word w OWES) 1 t.1.0 in
    let n = each_below 16 (word w NODES) (narrows w) (below 65535 _ (leb-true _ _ t.1.1.0)) in
    let s = each_below 0 (word w USED) (spares w) (omega (arith, eqb-true _ _ t.1.1.1.0)) in
    let l : (word w STEPS ≤ 4294967295) × (word w CYCLES ≤ 4294967295)
    × (word w TOOK ≤ 4294967295) =
    (omega (arith, f STEPS), omega (arith, f CYCLES), omega (arith, f TOOK)) in
    let a : Within w 6 = search (at_most, p, o, n) depth 30 in
    let b : Within w 14 = search (at_most, a, n, l) depth 30 in
    let d : Within w 20 = search (at_most, b, s) depth 30 in
    let e : Within w WORDS = search (at_most, d, s) depth 30 in
    tests_of w WORDS e

passed : (w : List ℕ) → Within w WORDS → true ≡ every (tested w)
passed w h =
    let n : Below 16 (narrows w) = search (below, h) depth 30 in
    let s : Below 0 (spares w) = search (below, h) depth 30 in
    every_skip _ _ _ (le_yes _ _ (omega arith))
    (every_skip _ _ _ (le_yes _ _ (omega arith))
    (every_skip _ _ _
    (le_yes _ _ (at_most 65535 _ (joined_below 16 (word w NODES) (narrows w) (omega arith) n)))
    (every_last _ _
    (eq_yes _ _ (omega (arith, joined_below 0 (word w USED) (spares w) (omega arith) s))))))

-- the tests pass just where each word has its width
pub tests_are : (w : List ℕ) → Sized w → every (tested w) ≡ within w WORDS
tests_are w f = go (every (tested w)) refl (within w WORDS) refl
  where
    go : (a : Bool) → every (tested w) ≡ a → (b : Bool) → within w WORDS ≡ b → a ≡ b
    go true p b q = all_pass w f (sym p) ∙ q
    go false p true q = sym p ∙ sym (passed w (facts_of w WORDS (sym q)))
    go false p false q = refl

pub widths : (w : List ℕ) → true ≡ is_record w → Within w WORDS
unfolding is_record
widths w e = facts_of w WORDS (sym (each _ e).1.0)

-- a phase's and a shade's words
pub owes_most : (o : Owed) → owes_of o ≤ 1
owes_most None = omega arith
owes_most (Some n) = omega arith

flagged_ok : (told : Bool) (n : ℕ) → (told ≡ false → n ≡ 0) → true ≡ flagged told n
unfolding flagged
flagged_ok true n h = search tests
flagged_ok false n h = pick_no _ _ _ _ refl (eq_yes _ _ (h refl))

owed_flagged : (o : Owed) → true ≡ flagged (eqb (owes_of o) 1) (owed_of o)
unfolding flagged
owed_flagged None = search tests
owed_flagged (Some n) = search tests

pub words_are : (x : Record) (w : List ℕ) → w ≡ words_of x → Within (words_of x) WORDS
    → (w ≡ words_of x) × (true ≡ is_record w)
unfolding is_record
words_are x w q h = (q, subst (λ (v : List ℕ). true ≡ is_record v) (sym q) all)
  where
    all : true ≡ is_record (words_of x)
    all =
        every_skip _ _ _ (eq_yes WORDS WORDS refl) (every_skip _ _ _ (tests_of _ WORDS h)
        (every_skip _ _ _ (flagged_ok _ _ (no_second x.phase))
        (every_last _ _ (owed_flagged x.owed))))
