-- What the inner functions rely on and do where edges are good. No promise rests on this file.
use Rattle.std.specs.Prelude.{ℕ, ◌<◌, List, get_or, ltb, Option, Some, None, Result, Ok, Err}
use Rattle.base.specs.Choice.{pick}
use Rattle.rules.specs.Table.{Outcome, FREE, refused}
use Rattle.rules.specs.Meet.{blank}
use Rattle.rules.specs.Load.{chain, judge_free, load_by}
use Rattle.rules.specs.declared.Answer.{Answer}
use Rattle.rules.specs.declared.Answer.TheVariants.{Started}
use Rattle.load.specs.declared.FreeChain.{FreeChain}
use Rattle.load.specs.declared.Fault.{Fault}
use Rattle.load.specs.declared.Fault.TheVariants.{Broken, Shared}

-- every edge of the list is below m
abbrev pub Below : ℕ → List ℕ → Type 0
Below m es = (n : ℕ) → get_or es n 0 < m

-- what Load does after code 11
abbrev pub load_good : ℕ → ℕ → List (List ℕ) → List (List ℕ) → List ℕ → Outcome
load_good m r given edges colours =
    load_by m r given edges colours (judge_free m r given (chain r given m blank FREE))

-- a node below m, if n is one
abbrev pub found : ℕ → ℕ → Option ℕ
found m n = pick (ltb n m) (Some n) None

-- what is answered of lists whose edges are good
abbrev pub fault_answer : Fault → Answer
fault_answer (Broken n) = refused 12 n
fault_answer (Shared n) = refused 13 n

abbrev pub answer_of : Result FreeChain Fault → Answer
answer_of (Ok c) = Started c.last
answer_of (Err f) = fault_answer f
