-- Each turn reads one digit as the definition does, with one fewer to come; the number stays below
-- a power of ten, so it fits.
use Prim.Native.Nat.{◌-◌, ◌<◌, ◌^◌}
use mathlib.Core.Path.{◌≡◌}
use Rattle.text.specs.Grammar.{digits_at}
use Rattle.text.proofs.digits_at.Given as goal

abbrev pub invariant-loop : goal.invariant-loop
invariant-loop l =
    (l.n < 10 ^ l.counter) × (digits_at l.initial.line 7 0 ≡ digits_at l.rest (7 - l.counter) l.n)
