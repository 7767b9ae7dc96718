-- The phases of any marking collector.
use Rattle.std.specs.Prelude.{ℕ}

-- Rooting i: root i is shaded next. Seeking: a gray node is looked for.
-- Working i j: of the edges of i, which is gray, those below j have been shaded.
-- Holding i j n: edge j of i was read as n, which is shaded next.
-- Appending i: node i is swept next.
pub data Phase : Type 0 where
  Rooting : ℕ → Phase
  Seeking : Phase
  Working : ℕ → ℕ → Phase
  Holding : ℕ → ℕ → ℕ → Phase
  Appending : ℕ → Phase
