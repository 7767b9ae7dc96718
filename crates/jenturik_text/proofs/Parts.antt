-- Words that are copied one by one.
use Prim.Native.Nat.{ℕ, ◌+◌, ◌<◌}
use mathlib.Core.List.{List, ◌++◌}
use mathlib.Core.Path.{◌≡◌, sym, ap, ◌∙◌}
use native.Mathlib.Omega.{arith}
use lib.ListN.{length, get_or, set, take, drop, replicate, take-append-drop}
use lib.Seq.{take_all}
use Rattle.std.proofs.lemmas.List.{take_more, take_more_set, drop-drop, drop-set-lt}
use Rattle.record_words.specs.Words as record-words
use Rattle.jenturik_text.specs.Words.{WORDS, record_part}

module _ (words v : List ℕ) (k : ℕ) where
  -- one word more
  pub one_more : k < length words → k < length v → take k words ≡ take k v
      → take (k + 1) (set words k (get_or v k 0)) ≡ take (k + 1) v
  one_more h g e =
      take_more_set words k (get_or v k 0) h ∙ rw e (sym (take_more v k 0 g))

  -- what stands behind it is as it was
  pub behind : (b : ℕ) (before : List ℕ) → drop k words ≡ drop k before
      → drop (k + 1) (set words k b) ≡ drop (k + 1) before
  behind b before e =
      drop-set-lt (k + 1) words k b (omega arith) ∙ sym (drop-drop 1 k words)
      ∙ ap (drop 1) e ∙ drop-drop 1 k before

  -- the words of a record, and 0 behind them
  pub with_zeros : (before : List ℕ) → k ≡ record-words.WORDS → length v ≡ record-words.WORDS
      → before ≡ replicate WORDS 0 → take k words ≡ take k v → drop k words ≡ drop k before
      → words ≡ v ++ replicate 8 0
  with_zeros before e n i p q =
      sym (take-append-drop k words)
      ∙ rw (p, q, e, i)
      (ap (λ (u : List ℕ). u ++ replicate 8 0) (take_all record-words.WORDS v (omega (arith, n))))

  pub first_words : k ≡ record-words.WORDS → length words ≡ record-words.WORDS
      → take k words ≡ take k v → words ≡ record_part v
  first_words e n p =
      sym (take_all k words (omega (arith, e, n))) ∙ p ∙ ap (λ (j : ℕ). take j v) e
