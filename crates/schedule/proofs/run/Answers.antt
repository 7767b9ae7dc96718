-- `run` meets its contract: what `Loop.antt` says of the loop, at what `check`, `at` and `advance`
-- ensure. The colours are at most twice as many as the steps.
use mathlib.Core.Path.{refl}
use native.Mathlib.Omega.{arith}
use Rattle.rules.specs.Table.{state}
use Rattle.rules.proofs.Sums.{most_all}
use Rattle.schedule.proofs.Loop.{begins, spurned, turns, leaves}
use Rattle.schedule.proofs.run.Goals as goal

pub returns-then-judged-ne0 : goal.returns-then-judged-ne0
returns-then-judged-ne0 g c =
    let a = c.args in
    let over = spurned (g.S.Steps.list a.steps.now) a.left.now a.right.now a.colour.now a.rec
    c.check-judged.result c.check-judged.ensures c.if-judged-ne0.true in
    record { colour_value = over.0; changed_value = over.1 }

pub loop-i-init : goal.loop-i-init
loop-i-init g c =
    let a = c.args in (
      refl,
      begins (g.S.Steps.list a.steps.now) a.left.now a.right.now a.colour.now a.rec
          c.check-judged.result c.check-judged.ensures c.if-judged-ne0.false,
    )

pub advance-so_far-requires : goal.advance-so_far-requires
advance-so_far-requires g c =
    let a = c.args in
    let most = most_all (g.S.Steps.list a.steps.now)
    (state a.left.now a.right.now a.colour.now a.rec) in
    let size = c.count-i-end.ensures in
    let stands = c.loop-i.invariant in
    record {
      done = omega (arith, stands.0, c.loop-i-test.true, size.few);
      fits = omega (arith, stands.1.3, most, size.value, size.few);
      code = stands.1.4;
    }

pub returns-then-so_far-ne0 : goal.returns-then-so_far-ne0
returns-then-so_far-ne0 g c =
    let p = c.advance-so_far.ensures in
    let stands = c.loop-i.invariant in
    let turned = turns _ _ _ c.loop-i.i c.loop-i.so_far _ _ p.0 _ _ _ c.advance-so_far.result
    stands.0 stands.1 c.at.ensures p.1.0 p.1.1.0 p.1.1.1 in
    let over = turned.1 c.if-so_far-ne0.true in
    record { colour_value = over.0; changed_value = over.1 }

pub loop-i-preserved : goal.loop-i-preserved
loop-i-preserved g c =
    let p = c.advance-so_far.ensures in
    let stands = c.loop-i.invariant in
    let turned = turns _ _ _ c.loop-i.i c.loop-i.so_far _ _ p.0 _ _ _ c.advance-so_far.result
    stands.0 stands.1 c.at.ensures p.1.0 p.1.1.0 p.1.1.1 in
    turned.0 c.if-so_far-ne0.false

pub returns : goal.returns
returns g c =
    let stands = c.loop-i.invariant in
    let size = c.count-i-end.ensures in
    let over = leaves _ _ _ c.loop-i.so_far _ stands.1
    (omega (arith, stands.0, c.loop-i-test.false, size.value)) in
    record { colour_value = over.0; changed_value = over.1 }
