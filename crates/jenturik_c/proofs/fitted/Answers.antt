-- A number of 32 bits is what `try_from` answers, and no other is below the largest.
use Prim.Native.Nat.{ℕ, ◌<◌}
use native.Mathlib.Omega.{arith}
use mathlib.Core.Path.{◌≡◌, refl, ◌∙◌}
use Rattle.std.specs.Prelude.{OkIff}
use Rattle.std.specs.Result.{result_unwrap_or}
use Rattle.std.specs.declared.result.Result.{Result}
use Rattle.std.specs.declared.result.Result.TheVariants.{Ok, Err}
use Rattle.base.proofs.Tests.{split}
use Rattle.jenturik_c.specs.Face.{fitted}
use Rattle.jenturik_c.proofs.fitted.Goals as goal

fits : {E : Type 0} (r : Result ℕ E) (n : ℕ) → OkIff r (n < 4294967296) n
    → result_unwrap_or r 4294967295 ≡ fitted n
unfolding fitted
fits (Ok x) n h =
    split (λ (m : ℕ). x ≡ m) _ _ _ (λ q. h.1) (λ q. grind arith)
fits (Err e) n h =
    split (λ (m : ℕ). 4294967295 ≡ m) _ _ _ (λ q. grind arith) (λ q. refl)

pub returns : goal.returns
returns c = c.unwrap_or.ensures ∙ fits _ _ c.try_from.ensures
