-- Words of the inner functions' contracts. No promise rests on this file.
use Rattle.base.specs.Choice.{pick}
use Rattle.std.specs.Prelude.{◌+◌, ◌<◌, ◌≡◌, map, length, eqb}
use Rattle.rules.specs.Table.{State}
use Rattle.rules.specs.Check.{bound, in_limits, check}
use Rattle.rules.specs.Steps.{code_of, detail_of}
use Rattle.rules.specs.declared.Made.{Made}
use Rattle.rules.specs.declared.Ran.{Ran}

-- after a step that is done
abbrev pub gone : Ran → Made → Ran
gone g d = record {
  done = g.done + 1;
  code = g.code;
  detail = g.detail;
  changed = g.changed + d.changed;
  rec = d.rec;
}

-- after a step that is refused, which ends the run
abbrev pub ended : Ran → Made → Ran
ended g d = record {
  done = g.done;
  code = code_of d.answer;
  detail = detail_of d.answer;
  changed = g.changed;
  rec = d.rec;
}

-- after the next step: one more is done, or its code ends the run
unfoldable pub after : Ran → Made → Ran
after g d = pick (eqb (code_of d.answer) 0) (gone g d) (ended g d)

-- where a run stands, code 2 is given only for a count past its limit
abbrev pub Settled : State → Type 0
Settled s =
    check s ≡ pick (in_limits s.rec (bound (length (map length s.edges)) s.rec.m
    s.rec.r)) 0 2

-- at the state s another step, and the colours that it changes, can be counted
pub record Goes (g : Ran) (s : State) : Type 0 where
  pub done : g.done + 1 < 18446744073709551616
  pub fits : g.changed + 2 < 18446744073709551616
  pub code : Settled s
