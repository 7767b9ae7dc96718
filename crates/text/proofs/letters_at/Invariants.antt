-- Each turn reads one letter as the definition does and keeps word and bit below 4,096, so nothing
-- overflows; the first byte that is no letter ends it.
use Prim.Native.Nat.{◌-◌, ◌<◌}
use mathlib.Core.Path.{◌≡◌}
use Rattle.text.specs.Grammar.{letters_at, longest, many_words}
use Rattle.text.proofs.letters_at.Given as goal

abbrev pub invariant-loop : goal.invariant-loop
invariant-loop l =
    (l.count ≡ l.counter) × (l.word < many_words) × (l.bit < many_words) ×
    (letters_at l.initial.line longest 0 0 1 ≡ letters_at l.rest (longest - l.counter) l.count l.word l.bit)
