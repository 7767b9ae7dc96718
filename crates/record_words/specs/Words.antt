-- [C 2] The record as 32-bit words, for callers that have no enums.
use Rattle.base.specs.Choice.{pick, every}
use Rattle.std.specs.Prelude.{ℕ, zero, suc, ◌-◌, ◌≤◌, Bool, true, List, [], ◌∷◌, leb, eqb}
use Rattle.std.specs.Prelude.{length, get_or, set, replicate, Some, None}
use Rattle.std.specs.Int.Bits.{bit_or}
use Rattle.rules.specs.Check.{check_of}
use Rattle.rules.specs.Phases.{most_tag, tag_of, position, second, has_second, phase_of}
use Rattle.rules.specs.declared.Record.{Record}
use Rattle.rules.specs.declared.Phase.{Phase}
use Rattle.rules.specs.Records.{Owed}

abbrev pub word : List ℕ → ℕ → ℕ
word w n = get_or w n 0

-- How many words there are, and the number of each, by the names of include/jenturik.h.
abbrev pub WORDS : ℕ
WORDS = 24

abbrev pub NODES : ℕ
NODES = 0

abbrev pub SLOTS : ℕ
SLOTS = 1

abbrev pub PHASE : ℕ
PHASE = 2

abbrev pub I : ℕ
I = 3

abbrev pub K : ℕ
K = 4

abbrev pub OWES : ℕ
OWES = 5

abbrev pub OWED : ℕ
OWED = 6

abbrev pub LAST : ℕ
LAST = 7

abbrev pub STEPS : ℕ
STEPS = 8

abbrev pub CYCLES : ℕ
CYCLES = 9

abbrev pub TOOK : ℕ
TOOK = 10

abbrev pub BLACKENED : ℕ
BLACKENED = 11

abbrev pub LASTBLACKENED : ℕ
LASTBLACKENED = 12

abbrev pub FREECOUNT : ℕ
FREECOUNT = 13

-- those from here on have no use
abbrev pub USED : ℕ
USED = 14

-- whether a shade is owed, and the node: 0 where none is
abbrev pub owes_of : Owed → ℕ
owes_of None = 0
owes_of (Some n) = 1

abbrev pub owed_of : Owed → ℕ
owed_of None = 0
owed_of (Some n) = n

-- the words that have no use are 0
abbrev pub unused : List ℕ
unused = replicate (WORDS - USED) 0

-- the words of a record; its phase is told by tag, i and k, its shade by owes and n
abbrev pub laid_out : Record → ℕ → ℕ → ℕ → ℕ → ℕ → List ℕ
laid_out x tag i k owes n =
    x.m ∷ x.r ∷ tag ∷ i ∷ k ∷ owes ∷ n ∷ x.last ∷ x.steps ∷ x.cycles ∷ x.took ∷ x.blackened ∷
    x.lastblackened ∷ x.free ∷ unused

abbrev pub words_of : Record → List ℕ
words_of x =
    laid_out x (tag_of x.phase) (position x.phase) (second x.phase) (owes_of x.owed)
    (owed_of x.owed)

-- the words where those that a collector's step can change have become those of x
abbrev pub moved : List ℕ → Record → List ℕ
moved w x =
    set (set (set (set (set (set (set (set (set (set w PHASE (tag_of x.phase)) I
    (position x.phase)) K (second x.phase)) LAST x.last) STEPS x.steps) CYCLES x.cycles) TOOK
    x.took) BLACKENED x.blackened) LASTBLACKENED x.lastblackened) FREECOUNT x.free

unfoldable pub shade_of : ℕ → ℕ → Owed
shade_of owes n = pick (eqb owes 0) None (Some n)

-- the record of words that tell a phase and a shade
abbrev pub picked_up : List ℕ → Phase → Owed → Record
picked_up w phase owed =
    record {
      m = word w NODES;
      r = word w SLOTS;
      phase = phase;
      owed = owed;
      last = word w LAST;
      steps = word w STEPS;
      cycles = word w CYCLES;
      took = word w TOOK;
      blackened = word w BLACKENED;
      lastblackened = word w LASTBLACKENED;
      free = word w FREECOUNT;
    }

unfoldable pub record_of : List ℕ → Record
record_of w =
    picked_up w (phase_of (word w PHASE) (word w I) (word w K))
    (shade_of (word w OWES) (word w OWED))

-- a number of 16 bits, and one of 32
abbrev small : ℕ
small = 65535

abbrev large : ℕ
large = 4294967295

-- the most that each word may be, in their order
abbrev pub most : List ℕ
most =
    small ∷ small ∷ most_tag ∷ small ∷ small ∷ 1 ∷ small ∷ small ∷ large ∷ large ∷ large ∷ small ∷
    small ∷ small ∷ unused

-- the first n words are at most that
unfoldable pub within : List ℕ → ℕ → Bool
within w zero = true
within w (suc n) = every (within w n ∷ leb (word w n) (word most n) ∷ [])

-- all bits of n and of some numbers more
abbrev pub joined : ℕ → List ℕ → ℕ
joined n [] = n
joined n (k ∷ ks) = joined (bit_or n k) ks

-- the words of 16 bits, and those that have no use, but for the first of each
abbrev pub narrows : List ℕ → List ℕ
narrows w =
    word w SLOTS ∷ word w I ∷ word w K ∷ word w OWED ∷ word w LAST ∷ word w BLACKENED ∷ word w
    LASTBLACKENED ∷ word w FREECOUNT ∷ []

abbrev pub spares : List ℕ → List ℕ
spares w =
    word w 15 ∷ word w 16 ∷ word w 17 ∷ word w 18 ∷ word w 19 ∷ word w 20 ∷ word w 21 ∷ word w 22
    ∷ word w 23 ∷ []

-- all bits of these
abbrev pub narrow : List ℕ → ℕ
narrow w = joined (word w NODES) (narrows w)

abbrev pub spare : List ℕ → ℕ
spare w = joined (word w USED) (spares w)

-- n is 0 unless it is told
unfoldable pub flagged : Bool → ℕ → Bool
flagged told n = pick told true (eqb n 0)

-- [C 3] whether words are a record's: so many, each in its width, k 0 but in a phase that has a
-- second number, the node 0 but where one is owed
unfoldable pub is_record : List ℕ → Bool
is_record w =
    every (eqb (length w) WORDS ∷ within w WORDS ∷ flagged
    (has_second (word w PHASE)) (word w K) ∷ flagged (eqb (word w OWES) 1) (word w OWED) ∷ [])

-- [C 4] codes 1 and 2 of words, for slices of these lengths: 2 where they are no record's
unfoldable pub judged : List ℕ → ℕ → List ℕ → ℕ
judged edges colours w = pick (is_record w) (check_of edges colours (record_of w)) 2

-- the same as facts: what the first n words are
abbrev pub Within : List ℕ → ℕ → Type 0
Within w zero = Unit {0}
Within w (suc n) = Within w n × (word w n ≤ word most n)
