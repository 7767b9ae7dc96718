-- What a step's answer and its record tell: the node appended, the node named, and the counts.
use Prim.Native.Nat.{ℕ}
use mathlib.Core.Bool.{true, false}
use mathlib.Core.Path.{◌≡◌, ap}
use mathlib.Core.Option.{Option, none, some}
use Rattle.rules.specs.declared.Record.{Record}
use Rattle.rules.specs.declared.Answer.{Answer}
use Rattle.rules.specs.declared.Answer.TheVariants.{Started, Named, Linked, Taken, Shaded, Looked}
use Rattle.rules.specs.declared.Answer.TheVariants.{Blackened, Whitened, Appended, Counted}
use Rattle.rules.specs.declared.Answer.TheVariants.{Refused}
use Rattle.theory.specs.Phase as S
use Rattle.theory.proofs.Steps.{Act, appends, other, Tick, goes, ends}
use Rattle.runs.specs.Runs.{first_append, last_append, blackens, Count, going, closing}
use Rattle.runs.proofs.Machine.{other≢appends}

-- what the theory knows of an answer
abbrev pub act : Answer → Act
act (Started n) = other
act (Named n) = other
act (Linked n) = other
act (Taken n) = other
act (Shaded n) = other
act (Looked n) = other
act (Blackened n) = other
act (Whitened n) = other
act (Appended n) = appends n
act (Counted k) = other
act (Refused code n detail) = other

-- the node that an editor's answer names
abbrev pub named : Answer → Option ℕ
named (Started n) = none
named (Named n) = some n
named (Linked n) = some n
named (Taken n) = none
named (Shaded n) = none
named (Looked n) = none
named (Blackened n) = none
named (Whitened n) = none
named (Appended n) = none
named (Counted k) = none
named (Refused code n detail) = none

-- what a record counts
abbrev pub counts : Record → Count
counts x = record {
  since =
      x.steps;
  took = x.took;
  cycles = x.cycles;
  blackened = x.blackened;
  marked = x.lastblackened;
}

-- the record after a step of the collector from a phase of kind k to one of kind k', which answered
-- a: the cycle goes on, or it is complete
pub data Ticked (x y : Record) (k k' : S.Phase) (a : Answer) : Tick → Type 0 where
  on : last_append x.m k ≡ false → counts y
      ≡ going (record { completes = false; marks = first_append k'; blackens = blackens a })
      (counts x)
      → Ticked x y k k' a goes
  over : last_append x.m k ≡ true → counts y ≡ closing (counts x) → Ticked x y k k' a ends

-- only the answer Appended is an appending
pub is_appended_lem : (x : ℕ) (a : Answer) → act a ≡ appends x → a ≡ Appended x
is_appended_lem x (Started n) q = absurd (other≢appends q)
is_appended_lem x (Named n) q = absurd (other≢appends q)
is_appended_lem x (Linked n) q = absurd (other≢appends q)
is_appended_lem x (Taken n) q = absurd (other≢appends q)
is_appended_lem x (Shaded n) q = absurd (other≢appends q)
is_appended_lem x (Looked n) q = absurd (other≢appends q)
is_appended_lem x (Blackened n) q = absurd (other≢appends q)
is_appended_lem x (Whitened n) q = absurd (other≢appends q)
is_appended_lem x (Appended n) q = let z : n ≡ x = cc in ap Appended z
is_appended_lem x (Counted k) q = absurd (other≢appends q)
is_appended_lem x (Refused code n detail) q = absurd (other≢appends q)
