-- A line at once is as good as its bytes.
use Prim.Native.Nat.{ℕ, ◌+◌, ◌-◌, ◌<◌}
use mathlib.Core.Bool.{Bool, true, false}
use mathlib.Core.Path.{◌≡◌, refl, ◌∙◌}
use mathlib.Core.List.{List, [], ◌∷◌}
use native.Mathlib.Omega.{arith}
use lib.ListN.{length, take, drop, drop_of_length-le}
use lib.Dec.{eqb, ltb}
use borrow.Author.Tests.{ltb-true, ltb-false}
use Rattle.base.specs.Choice.{pick}
use Rattle.base.proofs.Tests.{split}
use Rattle.session.specs.Feeding.{newline, fold, Going, gathered, ended, newline_from}
use Rattle.session.proofs.Feeds.{behind, line_fold, rest_fold}
use Rattle.serving.specs.Serving.{Taken, next_byte, taken, next_line}

module _ (input : List ℕ) (i : ℕ) (g : Going) (f : Taken) (e : f ≡ next_line input i g) where
  pub line_gains : i < length input → i < f.next
  unfolding next_line
  line_gains h =
      let l = behind (drop i input) i in
      rw e (split (λ (f : Taken). i < f.next) _ _ _ (λ _. omega arith)
      (λ q. omega (arith, ltb-false (newline_from (drop i input) i) (length input) q)))

  gathers : (g : Going) (b : ℕ) → eqb b newline ≡ false → next_byte g b ≡ gathered g (b ∷ [])
  unfolding next_byte pick
  gathers g b q = rw q

  pub line_turn : fold next_byte (drop i input) g ≡ fold next_byte (drop f.next input) f.going
  unfolding fold next_line next_byte pick
  line_turn = rw e (go (ltb n (length input)) refl)
    where
      n : ℕ
      n = newline_from (drop i input) i

      lines : Going
      lines = gathered g (take (n - i) (drop i input))

      go : (t : Bool) → ltb n (length input) ≡ t
          → fold next_byte (drop i input) g
          ≡ fold next_byte (drop (pick t (taken (n + 1) (ended lines)) (taken n lines)).next
          input) (pick t (taken (n + 1) (ended lines)) (taken n lines)).going
      go true q = line_fold next_byte (λ g. g) gathers input i g (ltb-true n (length input) q)
      go false q =
          let p = ltb-false n (length input) q in
          rest_fold next_byte (λ g. g) gathers input i g p ∙ rw (drop_of_length-le input p)
