-- The record: how Fresh makes it, and how a step moves it. [Record 12] What is not told to change
-- is as it was.
use Rattle.base.specs.Choice.{pick}
use Rattle.std.specs.Prelude.{ℕ, ◌+◌, ◌-◌, ◌%◌, ltb, eqb, Option, Some, None}
use Rattle.rules.specs.declared.Record.{Record}
use Rattle.rules.specs.declared.Phase.{Phase}
use Rattle.rules.specs.declared.Phase.TheVariants.{Roots, Scan, Append}

-- [Record 4] the shade owed: nothing, or a node
abbrev pub Owed : Type 0
Owed = Option ℕ

-- [Fresh 5] the record that Fresh makes
abbrev pub fresh_record : ℕ → ℕ → ℕ → ℕ → Record
fresh_record m r last free =
    record {
      m = m;
      r = r;
      phase = Roots 0;
      owed = None;
      last = last;
      steps = 0;
      cycles = 0;
      took = 0;
      blackened = 0;
      lastblackened = 0;
      free = free;
    }

-- x with these in place of its own; all that follows is made by it. M and R stay as Fresh made
-- them.
abbrev pub remade : Record → Phase → Owed → ℕ → ℕ → ℕ → ℕ → ℕ → ℕ → ℕ → Record
remade x phase owed last steps cycles took blackened lastblackened free =
    record {
      m = x.m;
      r = x.r;
      phase = phase;
      owed = owed;
      last = last;
      steps = steps;
      cycles = cycles;
      took = took;
      blackened = blackened;
      lastblackened = lastblackened;
      free = free;
    }

-- where the record stands: the counts stay
abbrev placed : Record → Phase → Owed → ℕ → Record
placed x phase owed last =
    remade x phase owed last x.steps x.cycles x.took x.blackened x.lastblackened
    x.free

-- the counts
abbrev counted : Record → ℕ → ℕ → ℕ → ℕ → ℕ → Record
counted x steps cycles took blackened lastblackened =
    remade x x.phase x.owed x.last steps cycles took blackened lastblackened x.free

-- one field
abbrev pub with_phase : Record → Phase → Record
with_phase x p = placed x p x.owed x.last

abbrev pub with_owed : Record → Owed → Record
with_owed x o = placed x x.phase o x.last

abbrev pub with_last : Record → ℕ → Record
with_last x n = placed x x.phase x.owed n

abbrev pub with_steps : Record → ℕ → Record
with_steps x n = counted x n x.cycles x.took x.blackened x.lastblackened

abbrev pub with_cycles : Record → ℕ → Record
with_cycles x n = counted x x.steps n x.took x.blackened x.lastblackened

abbrev pub with_took : Record → ℕ → Record
with_took x n = counted x x.steps x.cycles n x.blackened x.lastblackened

abbrev pub with_blackened : Record → ℕ → Record
with_blackened x n = counted x x.steps x.cycles x.took n x.lastblackened

abbrev pub with_last_blackened : Record → ℕ → Record
with_last_blackened x n = counted x x.steps x.cycles x.took x.blackened n

abbrev pub with_free : Record → ℕ → Record
with_free x n =
    remade x x.phase x.owed x.last x.steps x.cycles x.took x.blackened
    x.lastblackened n

-- [Take 10] one node less is free [Record 13]; 0 stays 0
abbrev pub less_free : Record → Record
less_free x = with_free x (x.free - 1)

-- [Append 6] one node more is free
abbrev pub more_free : Record → Record
more_free x = with_free x (x.free + 1)

-- [Link 2] node n's shade is owed [Record 4]
abbrev pub owing : Record → ℕ → Record
owing x n = with_owed x (Some n)

-- [Shade 2] nothing is owed
abbrev pub paid : Record → Record
paid x = with_owed x None

-- [Collector 2] one more step is done [Record 6], and the phase is p now
abbrev pub moved : Record → Phase → Record
moved x p = with_steps (with_phase x p) (x.steps + 1)

-- [Scan 4] the marking is complete, and blackened last cycle is what blackened is
-- [Record 10]
abbrev pub marked : Record → Record
marked x = with_last_blackened (moved x (Append 0)) x.blackened

-- [Collector 3] the node after i
abbrev pub next : Record → ℕ → ℕ
next x i = (i + 1) % x.m

-- [Black 2] one more node is black [Record 9], and the scan begins anew
abbrev pub rescan : Record → ℕ → Record
rescan x i = with_blackened (moved x (Scan (next x i) x.m)) (x.blackened + 1)

-- [Record 7] the largest number that 32 bits hold
abbrev pub most_cycles : ℕ
most_cycles = 4294967295

-- [Record 7] one more cycle, where 32 bits hold it
unfoldable pub one_more : ℕ → ℕ
one_more n = pick (ltb n most_cycles) (n + 1) n

-- [Append 5] the cycle is complete; this step is among those that it took [Record 8]
abbrev pub closed : Record → Record
closed x =
    let told = with_cycles (with_took x (x.steps + 1)) (one_more x.cycles) in
    with_phase (with_blackened (with_steps told 0) 0) (Roots 0)

-- [Append 4] on to the next node; [Append 5] there is none after M − 1
unfoldable pub after_append : Record → ℕ → Record
after_append x i = pick (eqb (i + 1) x.m) (closed x) (moved x (Append (i + 1)))
