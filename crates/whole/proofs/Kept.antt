-- Of a line 81 bytes are kept: a longer one is as unreadable as they are, and begins an export
-- where they do.
use Prim.Native.Nat.{ℕ, zero, suc, ◌<◌, ◌≤◌}
use mathlib.Core.Bool.{Bool, true, false}
use mathlib.Core.Path.{◌≡◌, refl, sym, ap, ◌∙◌}
use mathlib.Core.List.{List, [], ◌∷◌, ◌++◌}
use native.Mathlib.Omega.{arith}
use borrow.Author.Tests.{leb-true, leb-false, ne_eqb}
use lib.ListN.{length, take}
use lib.Seq.{take_all, take-take, take-append-le, length-take-le}
use lib.Dec.{leb, eqb}
use Rattle.base.proofs.Tests.{pick_yes, lt_yes}
use Rattle.text.specs.Bytes.{bytes}
use Rattle.text.specs.declared.Said.TheVariants.{Unreadable}
use Rattle.std.specs.Prelude.{None, is_some}
use Rattle.base.specs.Choice.{pick}
use Rattle.text.specs.Grammar.{longest, after, read, is_export, entry}
use Rattle.whole.specs.Transcript.{Awaits, opening, second, export, steps, nothing}
use Rattle.whole.specs.Transcript.{answer, bare, reads}
use Rattle.session.specs.Feeding.{keeps}

pub long : (w : List ℕ) → longest < length w → Unreadable ≡ read w
unfolding read
long w h = pick_yes _ _ _ _ (lt_yes _ _ h) refl

long_entry : (w : List ℕ) (n : ℕ) → longest < length w → None ≡ entry w n
unfolding entry
long_entry w n h = pick_yes _ _ _ _ (lt_yes _ _ h) refl

-- by the length
cases : (P : List ℕ → Type 0) (w : List ℕ) → (length w ≤ keeps → P w) → (keeps < length w → P w)
    → P w
cases P w f g = go (leb (length w) keeps) refl
  where
    go : (b : Bool) → leb (length w) keeps ≡ b → P w
    go true q = f (leb-true _ _ q)
    go false q = g (leb-false _ _ q)

-- f takes every line over 80 bytes for the same
same_kept : {A : Type 0} (f : List ℕ → A) (z : A)
    → ((w : List ℕ) → longest < length w → z ≡ f w)
    → (w : List ℕ) → f (take keeps w) ≡ f w
same_kept f z k w =
    cases (λ w. f (take keeps w) ≡ f w) w (λ h. rw (take_all keeps w h)) (λ h.
    let n = length-take-le keeps w (omega arith) in
    sym (k (take keeps w) (omega arith)) ∙ k w (omega arith))

read_kept : (w : List ℕ) → read (take keeps w) ≡ read w
read_kept w = same_kept read Unreadable long w

entry_kept : (w : List ℕ) (n : ℕ) → entry (take keeps w) n ≡ entry w n
entry_kept w n = same_kept (λ w. entry w n) None (λ w. long_entry w n) w

-- a word stands in so many bytes of a line where it stands in the line
word_kept : (k : ℕ) (w word : List ℕ) → length word ≤ k
    → is_some (after (take k w) word) ≡ is_some (after w word)
unfolding after pick
word_kept k w [] h = refl
word_kept zero w (b ∷ word) h = absurd (omega arith)
word_kept (suc k) [] (b ∷ word) h = refl
word_kept (suc k) (c ∷ w) (b ∷ word) h = go (eqb c b) (word_kept k w word (omega arith))
  where
    go : (t : Bool) → is_some (after (take k w) word) ≡ is_some (after w word)
        → is_some (pick t (after (take k w) word) None) ≡ is_some (pick t (after w word) None)
    go true e = e
    go false e = refl

export_kept : (w : List ℕ) → is_export (take keeps w) ≡ is_export w
unfolding is_export
export_kept w = word_kept keeps w (bytes "node=") (omega arith)

empty_kept : (w : List ℕ) → eqb (length (take keeps w)) 0 ≡ eqb (length w) 0
empty_kept w =
    same_kept (λ w. eqb (length w) 0) false (λ w h. sym (ne_eqb (length w) 0 (λ q. omega arith))) w

one_more_lem : (w : List ℕ) (b : ℕ) → take keeps (take keeps w ++ (b ∷ [])) ≡ take keeps (w ++ (b ∷ []))
one_more_lem w b =
    cases (λ w. take keeps (take keeps w ++ (b ∷ [])) ≡ take keeps (w ++ (b ∷ []))) w
    (λ h. rw (take_all keeps w h)) (λ h.
    let n = length-take-le keeps w (omega arith) in
    take-append-le keeps (take keeps w) (b ∷ []) (omega arith)
    ∙ take-take keeps keeps w (omega arith)
    ∙ sym (take-append-le keeps w (b ∷ []) (omega arith)))

answer_kept : (a : Awaits) (w : List ℕ) → answer a (take keeps w) ≡ answer a w
unfolding answer
answer_kept opening w = rw (read_kept w)
answer_kept (second s) w = rw (export_kept w, entry_kept w 0, read_kept w)
answer_kept (export s ls rs) w = rw (entry_kept w (length ls))
answer_kept (steps s) w = rw (read_kept w)
answer_kept nothing w = refl

bare_kept : (a : Awaits) (w : List ℕ) → bare a (take keeps w) ≡ bare a w
bare_kept opening w = refl
bare_kept (second s) w = empty_kept w
bare_kept (export s ls rs) w = empty_kept w
bare_kept (steps s) w = empty_kept w
bare_kept nothing w = refl

pub kept : (a : Awaits) (w input : List ℕ) → reads a (take keeps w) input ≡ reads a w input
unfolding reads
kept a w [] = rw (answer_kept a w, bare_kept a w)
kept a w (b ∷ input) =
    let e =
    sym (kept a (take keeps w ++ (b ∷ [])) input)
    ∙ ap (λ (l : List ℕ). reads a l input) (one_more_lem w b)
    ∙ kept a (w ++ (b ∷ [])) input in
    rw (answer_kept a w, e)
