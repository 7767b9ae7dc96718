-- Where a session stands, by its parts; where a run is over, it stays so.
use Prim.Native.Nat.{ℕ}
use mathlib.Core.Bool.{true}
use mathlib.Core.Path.{◌≡◌, refl, sym, ap, ◌∙◌}
use mathlib.Core.List.{List, [], ◌∷◌}
use Rattle.base.proofs.Tests.{pick_yes}
use Rattle.session.specs.Feeding.{fold, Going, Stand, is_over, eaten, eats}
use Rattle.session.specs.declared.Stage.{Stage}

abbrev pub stands : Stage → List ℕ → List ℕ → List ℕ → List ℕ → List ℕ → Going → Stand
stands stage l k c ls rs g = record {
  stage =
      stage;
  going = g;
  left = l;
  right = k;
  colour = c;
  lefts = ls;
  rights = rs;
}

-- a run that is over stays so
stays : (s : Stand) (b : ℕ) → is_over s.stage ≡ true → s ≡ eats s b
unfolding eaten
stays s b q = pick_yes _ _ _ _ (sym q) refl

pub over : (input : List ℕ) (s : Stand) → is_over s.stage ≡ true → s ≡ fold eats input s
unfolding fold
over [] s q = refl
over (b ∷ input) s q = over input s q ∙ ap (fold eats input) (stays s b q)
