-- [C 7] A schedule as 32-bit words, so many to a step.
use Rattle.base.specs.Choice.{pick, every, first}
use Rattle.std.specs.Prelude.{ℕ, zero, suc, ◌+◌, ◌*◌, ◌/◌, ◌%◌, Bool, List, [], ◌∷◌, length, eqb}
use Rattle.rules.specs.Table.{State}
use Rattle.rules.specs.Check.{check}
use Rattle.rules.specs.Schedules.{Followed, followed, schedule}
use Rattle.rules.specs.Changes.{changes_all}
use Rattle.rules.specs.declared.Step.{Step}
use Rattle.record_words.specs.Words.{word}

-- How many words a step has, and the number of each, by the names of include/jenturik.h.
abbrev pub STEP_WORDS : ℕ
STEP_WORDS = 12

abbrev pub KIND : ℕ
KIND = 0

abbrev pub SLOT : ℕ
SLOT = 1

abbrev pub COUNT : ℕ
COUNT = 2

abbrev pub WORD : ℕ
WORD = 3

abbrev pub SIDE : ℕ
SIDE = 4

abbrev pub TOSLOT : ℕ
TOSLOT = 5

abbrev pub TOCOUNT : ℕ
TOCOUNT = 6

abbrev pub TOWORD : ℕ
TOWORD = 7

-- from here on they have no use
abbrev pub UNUSED : ℕ
UNUSED = 8

-- the number of a word of the i-th step
abbrev pub at : ℕ → ℕ → ℕ
at i n = STEP_WORDS * i + n

-- [C 12] whether four words from the n-th on are 0: those without a use
unfoldable pub zeros : List ℕ → ℕ → Bool
zeros w n =
    every (eqb (word w n) 0 ∷ eqb (word w (n + 1)) 0 ∷ eqb (word w (n + 2)) 0 ∷ eqb
    (word w (n + 3)) 0 ∷ [])

-- a kind that no step has
abbrev pub no_kind : ℕ
no_kind = 4294967295

-- [C 12] the kind of a step; where a word without a use is not 0, one that cannot be read [Steps 4]
unfoldable pub kind_at : List ℕ → ℕ → ℕ
kind_at w i = pick (zeros w (at i UNUSED)) (word w (at i KIND)) no_kind

-- the i-th step, of a kind
abbrev pub of_kind : List ℕ → ℕ → ℕ → Step
of_kind w i kind =
    record {
      kind = kind;
      slot = word w (at i SLOT);
      count = word w (at i COUNT);
      word = word w (at i WORD);
      side = word w (at i SIDE);
      toslot = word w (at i TOSLOT);
      tocount = word w (at i TOCOUNT);
      toword = word w (at i TOWORD);
    }

abbrev pub step_at : List ℕ → ℕ → Step
step_at w i = of_kind w i (kind_at w i)

-- n steps from the i-th on
unfoldable pub steps_from : List ℕ → ℕ → ℕ → List Step
steps_from w i zero = []
steps_from w i (suc n) = step_at w i ∷ steps_from w (suc i) n

-- the whole steps
unfoldable pub steps_of : List ℕ → List Step
steps_of w = steps_from w 0 (length w / STEP_WORDS)

-- [C 8] where words of the last step are missing, nothing is done: 1, 2, else 10
unfoldable pub schedule_of : List ℕ → State → Followed
schedule_of w s =
    pick (eqb (length w % STEP_WORDS) 0) (schedule (steps_of w) s)
    (followed 0 (first (check s ∷ 10 ∷ [])) 0 s)

-- [Changes 2] how many colours it changes
unfoldable pub changes_of : List ℕ → State → ℕ
changes_of w s = pick (eqb (length w % STEP_WORDS) 0) (changes_all (steps_of w) s) 0
