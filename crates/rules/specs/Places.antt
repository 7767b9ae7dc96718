-- Places and their walk; codes 3 and 4: the section Places of docs/RULES.md.
use Rattle.base.specs.Choice.{pick, every}
use Rattle.std.specs.Prelude.{ℕ, zero, suc, Result, Ok, Err, ◌+◌, ◌/◌, ◌%◌, ◌^◌, Bool, true, [], ◌∷◌, ltb, leb, eqb}
use Rattle.rules.specs.Table.{State, sides, Outcome, refuse_with, edge, bad_edge, NIL}
use Rattle.rules.specs.declared.Place.{Place}
use Rattle.rules.specs.declared.Damaged.{Damaged}

-- a turn is one bit where a node has two edges, and two bits where it has three: a digit below this
abbrev pub base : ℕ → ℕ
base zero = 2
base (suc zero) = 2
base (suc (suc zero)) = 2
base (suc (suc (suc e))) = 4

-- every turn is a side that the table has
unfoldable pub sides_ok : ℕ → ℕ → ℕ → Bool
sides_ok E zero word = true
sides_ok E (suc turns) word = every (ltb (word % base E) E ∷ sides_ok E turns (word / base E) ∷ [])

-- [Places 2] the most turns
abbrev pub most_turns : ℕ
most_turns = 12

-- [Codes 4] not too many turns [Places 2], and no bit is set beyond them [Places 3]
unfoldable pub turns_ok : ℕ → Place → Bool
turns_ok E p =
    every (leb p.count most_turns ∷ sides_ok E p.count p.word ∷ eqb
    (p.word / base E ^ p.count) 0 ∷ [])

-- [Places 1] a place: code 3 for a slot that is none [Codes 3], then code 4 [Places 8]
unfoldable pub place_code : ℕ → ℕ → Place → ℕ
place_code E r p = pick (ltb p.slot r) (pick (turns_ok E p) 0 4) 3

-- [Table 8] the slot's node, where the walk begins
abbrev pub start : Place → ℕ
start p = p.slot + 2

-- where a walk ends, or the node whose edge is bad and the side of that edge
abbrev pub Walk : Type 0
Walk = Result ℕ Damaged

-- [Places 4] an edge for each turn, the lowest bit first; [Places 5] at NIL the walk ends;
-- [Places 7] nothing else is read
unfoldable pub walk_from : ℕ → (ℕ → ℕ → ℕ) → ℕ → ℕ → ℕ → ℕ → Walk
walk_from b edges m zero word n = Ok n
walk_from b edges m (suc turns) word n =
    pick (eqb n NIL) (Ok NIL)
    (pick (bad_edge m (edges (word % b) n)) (Err (record { node = n; side = word % b }))
    (walk_from b edges m turns (word / b) (edges (word % b) n)))

abbrev pub walk : State → Place → Walk
walk s p = walk_from (base (sides s)) (edge s) s.rec.m p.count p.word (start p)

-- [Places 6] a bad edge on the way is the step's own refusal
unfoldable pub arrive : State → Walk → (ℕ → Outcome) → Outcome
arrive s (Ok n) go = go n
arrive s (Err d) go = refuse_with s 7 d.node d.side
