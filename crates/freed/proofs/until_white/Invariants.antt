-- `until_white` meets its contract: before each turn all colours are the first n, which are not
-- white, and those behind them.
use Prim.Native.Nat.{◌+◌, ◌-◌}
use mathlib.Core.Path.{◌≡◌}
use Rattle.freed.specs.Gathers.{dark}
use Rattle.freed.proofs.until_white.Given as goal

abbrev pub invariant-loop-n : goal.invariant-loop-n
invariant-loop-n l = dark l.most l.i l.colour ≡ l.n + dark (l.most - l.n) (l.i + l.n) l.colour
