-- What is said of an outcome of the collector's step: it is a step of the theory's collector, it is
-- not refused, the counts go on by one, and the free count by one where it appends.
use Prim.Native.Nat.{ℕ}
use mathlib.Core.Path.{◌≡◌}
use mathlib.Core.Option.{none}
use mathlib.Core.List.{map}
use lib.ListN.{length}
use Rattle.rules.specs.Table.{State, Outcome, colour_of}
use Rattle.rules.specs.Steps.{code_of}
use Rattle.rules.specs.declared.Phase.{Phase}
use Rattle.theory.proofs.Steps.{Tick, CStep}
use Rattle.theory.proofs.FreeCount.{free_after}
use Rattle.runs.specs.Runs.{kind}
use Rattle.runs.proofs.Bill.{Bill}
use Rattle.runs.proofs.Ready.{state_at, abs, top, InLimits}
use Rattle.runs.proofs.Answers.{act, named, Ticked}

pub record Simulates (E : ℕ) (s : State) (ph : Phase) (o : Outcome) : Type 0 where
  pub tick : Tick
  pub made : CStep E s.rec.m (top s) (state_at E s ph) (abs E o.state) (act o.answer) tick
  pub code : code_of o.answer ≡ 0
  pub named : named o.answer ≡ none
  pub free : o.state.rec.free ≡ free_after (act o.answer) s.rec.free
  pub fits : InLimits E o.state
  pub bill : Bill E s.rec.m s.rec.r (colour_of o.state) o.state.rec.steps
      o.state.rec.blackened o.state.rec.phase
      (kind E o.state.rec.phase)
  pub nodes : o.state.rec.m ≡ s.rec.m
  pub lengths : map length o.state.edges ≡ map length s.edges
  pub slots : o.state.rec.r ≡ s.rec.r
  pub ticked : Ticked s.rec o.state.rec (kind E ph) (kind E o.state.rec.phase)
      o.answer tick
