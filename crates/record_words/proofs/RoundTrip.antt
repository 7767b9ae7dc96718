-- Words and records correspond: a record's words give the record back, and words that are a
-- record's are that record's words.
use Prim.Native.Nat.{ℕ, zero, suc, ◌+◌, ◌-◌, ◌≤◌}
use native.Mathlib.Omega.{arith}
use mathlib.Core.Bool.{Bool, true, false, true≢false}
use mathlib.Core.List.{List, [], ◌∷◌}
use mathlib.Core.Path.{◌≡◌, refl, sym, subst, ap, ◌∙◌}
use lib.Dec.{eqb}
use lib.ListN.{length, set, take, drop}
use lib.Seq.{drop-cons, take_all, set-get_or}
use borrow.Author.Tests.{eqb-true, eqb-false}
use Rattle.base.specs.Choice.{pick}
use Rattle.base.proofs.Tests.{each, facts, split, eq_no}
use Rattle.rules.proofs.Phases.{phase_back, phase_there}
use Rattle.rules.specs.Phases.{tag_of, position, second}
use Rattle.rules.specs.Records.{with_owed, with_last, with_free}
use Rattle.rules.specs.declared.Record.{Record}
use Rattle.record_words.specs.Words.{word, owes_of, owed_of, laid_out, words_of, moved}
use Rattle.record_words.specs.Words.{shade_of}
use Rattle.record_words.specs.Words.{record_of, flagged, is_record, Within, WORDS, USED, unused}
use Rattle.record_words.specs.Words.{NODES, SLOTS, PHASE, I, K, OWES, OWED, LAST}
use Rattle.record_words.specs.Words.{STEPS, CYCLES, TOOK, BLACKENED, LASTBLACKENED, FREECOUNT}
use Rattle.record_words.proofs.Widths.{widths, words_are, owes_most}
use Rattle.rules.specs.Records.{Owed}
use Rattle.std.specs.Prelude.{Some, None}

owed_back : (o : Owed) → shade_of (owes_of o) (owed_of o) ≡ o
unfolding shade_of pick
owed_back None = refl
owed_back (Some n) = refl

pub record_back : (x : Record) → record_of (words_of x) ≡ x
unfolding record_of
record_back x = rw (phase_back x.phase, owed_back x.owed)

-- a number is 0 where it is not told
pub none_told : (told : Bool) (n : ℕ) → true ≡ flagged told n → told ≡ false → 0 ≡ n
unfolding flagged pick
none_told true n e q = absurd (true≢false q)
none_told false n e q = sym (eqb-true _ _ (sym e))

-- the words of a shade that is read from words
pub record SameOwed (owes n : ℕ) (o : Owed) : Type 0 where
  pub owes_is : owes_of o ≡ owes
  pub n_is : owed_of o ≡ n

owed_there : (owes n : ℕ) → owes ≤ 1 → true ≡ flagged (eqb owes 1) n → SameOwed owes n
    (shade_of owes n)
unfolding shade_of
owed_there owes n one e =
    split (SameOwed owes n) (eqb owes 0) _ _
    (λ a. record {
      owes_is = sym (eqb-true _ _ a);
      n_is = none_told (eqb owes 1) n e (sym (eq_no owes 1 (λ z. omega
          (facts, eqb-true owes 0 a))));
    })
    (λ a. record { owes_is = omega (arith, one, eqb-false owes 0 a); n_is = refl })

-- the k words of w from the n-th on
abbrev pub part : List ℕ → ℕ → ℕ → List ℕ
part w n zero = []
part w n (suc k) = word w n ∷ part w (suc n) k

pub parts : (w : List ℕ) (k n : ℕ) → n + k ≤ length w → take k (drop n w) ≡ part w n k
parts w zero n h = refl
parts w (suc k) n h =
    rw (drop-cons w n 0 (omega arith))
    (ap (λ (v : List ℕ). word w n ∷ v) (parts w k (suc n) (omega arith)))

-- all words
pub whole_words : (w : List ℕ) (n : ℕ) → length w ≡ n → w ≡ part w 0 n
whole_words w n e = sym (take_all n w (omega (arith, e))) ∙ parts w n 0 (omega (arith, e))

-- a word that has no use
none : (n : ℕ) → n ≤ 0 → 0 ≡ n
none n h = omega arith

-- the words that have no use
idle : (w : List ℕ) → true ≡ is_record w → unused ≡ part w USED (WORDS - USED)
idle w e = let f = widths w e in search (none, f) depth 16

pub words_back : (w : List ℕ) → true ≡ is_record w → words_of (record_of w) ≡ w
unfolding record_of is_record
words_back w e =
    let t = each _ e in
    let f = widths w e in
    let p = phase_there (word w PHASE) (word w I) (word w K) (omega (arith, f))
    (none_told _ (word w K) (sym t.1.1.0)) in
    let o = owed_there (word w OWES) (word w OWED) (omega (arith, f)) (sym t.1.1.1.0) in
    let all = whole_words w WORDS (eqb-true (length w) WORDS t.0) in
    let u = idle w e in
    let same : words_of (record_of w) ≡ part w 0 WORDS = search (u, p, o) depth 16 in
    same ∙ sym all

-- a word that is left as it is
pub same_stored : (w : List ℕ) (n v : ℕ) → word w n ≡ v → w ≡ set w n v
same_stored w n v e = sym (rw (← e) (set-get_or w n 0))

-- the stores of a record that differs from the words' only in some fields
module _ (w : List ℕ) (e : true ≡ is_record w) (x : Record) where
  -- the widths of the words that stay
  old : Within (words_of (record_of w)) WORDS
  old = subst (λ (v : List ℕ). Within v WORDS) (sym (words_back w e)) (widths w e)

  pub owed_put : x ≡ with_owed (record_of w) x.owed → (owes n : ℕ) → owes ≡ owes_of x.owed
      → n ≡ owed_of x.owed → n ≤ 65535 → (set (set w OWES owes) OWED n ≡ words_of x)
      × (true ≡ is_record (set (set w OWES owes) OWED n))
  owed_put h owes n p q k =
      let one = owes_most x.owed in
      let y = with_owed (record_of w) x.owed in
      let new : Within (words_of y) WORDS = omega (arith, old, one, k, q) in
      words_are x _
      (rw (p, q)
      (ap (λ (v : List ℕ). set (set v OWES (owes_of x.owed)) OWED (owed_of x.owed))
      (sym (words_back w e)) ∙ ap words_of (sym h)))
      (subst (λ (y : Record). Within (words_of y) WORDS) (sym h) new)

  pub free_put : x ≡ with_free (with_last (record_of w) x.last) x.free → x.last ≤ 65535
      → x.free ≤ 65535 → (set (set w LAST x.last) FREECOUNT x.free ≡ words_of x)
      × (true ≡ is_record (set (set w LAST x.last) FREECOUNT x.free))
  free_put h l k =
      let y = with_free (with_last (record_of w) x.last) x.free in
      let new : Within (words_of y) WORDS = omega (arith, old, l, k) in
      words_are x _
      (ap (λ (v : List ℕ). set (set v LAST x.last) FREECOUNT x.free) (sym (words_back w e))
      ∙ ap words_of (sym h))
      (subst (λ (y : Record). Within (words_of y) WORDS) (sym h) new)

  pub owed_most : x.owed ≡ (record_of w).owed → owed_of x.owed ≤ 65535
  owed_most h = omega (arith, old, ap owed_of h)

  pub step_stored : x.m ≡ (record_of w).m → x.r ≡ (record_of w).r → x.owed ≡ (record_of w).owed
      → moved w x ≡ words_of x
  step_stored m r o =
      ap (λ (v : List ℕ). moved v x) (sym (words_back w e)) ∙ kept (sym m) (sym r) (sym o)
    where
      all : ℕ → ℕ → Owed → List ℕ
      all nodes slots owed =
          nodes ∷ slots ∷ tag_of x.phase ∷ position x.phase ∷ second x.phase ∷ owes_of owed
          ∷ owed_of owed ∷ x.last ∷ x.steps ∷ x.cycles ∷ x.took ∷ x.blackened
          ∷ x.lastblackened ∷ x.free ∷ unused

      kept : {a b c d : ℕ} {f g : Owed} → a ≡ b → c ≡ d → f ≡ g → all a c f ≡ all b d g
      kept h i j = rw (h, i, j) refl

-- the words where M and R are stored
placed : (w w₁ w₂ : List ℕ) → true ≡ is_record w → (x : Record) → w₁ ≡ set w NODES x.m
    → w₂ ≡ set w₁ SLOTS x.r → w₂ ≡ x.m ∷ x.r ∷ part w PHASE (WORDS - PHASE)
unfolding is_record
placed w w₁ w₂ e x p q =
    let all = whole_words w WORDS (eqb-true (length w) WORDS (each _ e).0) in
    let nodes = p ∙ ap (λ (v : List ℕ). set v NODES x.m) all in
    q ∙ ap (λ (v : List ℕ). set v SLOTS x.r) nodes

-- the words in use from the phase on, stored one after the other
abbrev stored : List ℕ → Record → ℕ → ℕ → ℕ → ℕ → ℕ → List ℕ
stored w x tag i k owes n =
    set (set (set (set (set (set (set (set (set (set (set (set w PHASE tag) I i) K k) OWES owes)
    OWED n) LAST x.last) STEPS x.steps) CYCLES x.cycles) TOOK x.took) BLACKENED
    x.blackened) LASTBLACKENED x.lastblackened) FREECOUNT x.free

pub all_stored : (w w₁ w₂ : List ℕ) → true ≡ is_record w → (x : Record) (tag i k owes n : ℕ)
    → w₁ ≡ set w NODES x.m → w₂ ≡ set w₁ SLOTS x.r
    → stored w₂ x tag i k owes n ≡ laid_out x tag i k owes n
all_stored w w₁ w₂ e x tag i k owes n p q =
    ap (λ (v : List ℕ). stored v x tag i k owes n) (placed w w₁ w₂ e x p q)
    ∙ ap
    (λ (v : List ℕ). x.m ∷ x.r ∷ tag ∷ i ∷ k ∷ owes ∷ n ∷ x.last ∷ x.steps ∷ x.cycles
    ∷ x.took ∷ x.blackened ∷ x.lastblackened ∷ x.free ∷ v)
    (sym (idle w e))

-- the same in the order of put: what is owed, and then what a step can change
pub all_put : (w w₁ w₂ : List ℕ) → true ≡ is_record w → (x : Record) (owes n : ℕ)
    → w₁ ≡ set w NODES x.m → w₂ ≡ set w₁ SLOTS x.r → owes ≡ owes_of x.owed → n ≡ owed_of x.owed
    → moved (set (set w₂ OWES owes) OWED n) x ≡ words_of x
all_put w w₁ w₂ e x owes n p q o d =
    let slots = placed w w₁ w₂ e x p q in
    rw (o, d)
    (ap (λ (v : List ℕ). moved (set (set v OWES (owes_of x.owed)) OWED (owed_of x.owed)) x) slots
    ∙ sym
    (ap
    (λ (v : List ℕ). stored v x (tag_of x.phase) (position x.phase) (second x.phase)
    (owes_of x.owed) (owed_of x.owed)) slots)
    ∙ all_stored w w₁ w₂ e x (tag_of x.phase) (position x.phase) (second x.phase)
    (owes_of x.owed) (owed_of x.owed) p q)
