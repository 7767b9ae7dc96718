-- [Text 2] A session as 32-bit words: the record's, the stage, and the bytes of the line at hand.
use Rattle.base.specs.Choice.{pick, every}
use Rattle.std.specs.Prelude.{ℕ, ◌≤◌, Bool, List, [], ◌∷◌, ◌++◌, leb, eqb, length, take}
use Rattle.rules.specs.declared.Record.{Record}
use Rattle.record_words.specs.Words.{word, record_of, is_record}
use Rattle.record_words.specs.Words as recordWords
use Rattle.session.specs.Feeding.{keeps, held}
use Rattle.session.specs.declared.Session.{Session}
use Rattle.session.specs.declared.Stage.{Stage}
use Rattle.session.specs.declared.Stage.TheVariants.{Opening, Second, Loading, Serving}
use Rattle.session.specs.declared.Stage.TheVariants.{Over, Stopped}

-- How many words there are, and the number of each behind the record's, by the names of
-- include/jenturik_text.h.
abbrev pub WORDS : ℕ
WORDS = 32

abbrev pub STAGE : ℕ
STAGE = 24

abbrev pub TABLE : ℕ
TABLE = 25

abbrev pub ENTRY : ℕ
ENTRY = 26

abbrev pub AT : ℕ
AT = 27

abbrev pub tag_of : Stage → ℕ
tag_of Opening = 0
tag_of (Second m) = 1
tag_of (Loading m n) = 2
tag_of (Serving m) = 3
tag_of Over = 4
tag_of (Stopped m) = 5

-- the line of an export that comes
abbrev pub entry_of : Stage → ℕ
entry_of Opening = 0
entry_of (Second m) = 0
entry_of (Loading m n) = n
entry_of (Serving m) = 0
entry_of Over = 0
entry_of (Stopped m) = 0

-- the record's words, and those behind them
abbrev pub laid_out : List ℕ → ℕ → ℕ → ℕ → ℕ → List ℕ
laid_out v tag m n at = v ++ (tag ∷ m ∷ n ∷ at ∷ 0 ∷ 0 ∷ 0 ∷ 0 ∷ [])

-- the words of a session with such a stage, record and number of bytes of the line at hand
abbrev pub words_of : Stage → Record → ℕ → List ℕ
words_of stage x at =
    laid_out (recordWords.words_of x) (tag_of stage) (held stage) (entry_of stage) at

abbrev pub record_part : List ℕ → List ℕ
record_part w = take recordWords.WORDS w

unfoldable pub stage_of : ℕ → ℕ → ℕ → Stage
stage_of tag m n =
    pick (eqb tag 0) Opening
    (pick (eqb tag 1) (Second m)
    (pick (eqb tag 2) (Loading m n)
    (pick (eqb tag 3) (Serving m) (pick (eqb tag 4) Over (Stopped m)))))

-- the session that words are; the output is empty
unfoldable pub session_of : List ℕ → Session
session_of w = record {
  stage =
      stage_of (word w STAGE) (word w TABLE) (word w ENTRY);
  run = record { rec = record_of (record_part w); at = word w AT; used = 0 };
}

-- the most that the table's entries may be, and the export's line: 0 in a stage without them
unfoldable pub most_table : ℕ → ℕ
most_table tag = pick (eqb tag 0) 0 (pick (eqb tag 4) 0 65535)

unfoldable pub most_entry : ℕ → ℕ
most_entry tag = pick (eqb tag 2) 65535 0

unfoldable pub all_zero : ℕ → ℕ → ℕ → ℕ → Bool
all_zero a b c d = every (eqb a 0 ∷ eqb b 0 ∷ eqb c 0 ∷ eqb d 0 ∷ [])

-- [Text 3] whether words are a session's
unfoldable pub is_session : List ℕ → Bool
is_session w =
    every (eqb (length w) WORDS ∷ is_record (record_part w) ∷ leb (word w STAGE) 5 ∷ leb
    (word w TABLE) (most_table (word w STAGE)) ∷ leb (word w ENTRY) (most_entry (word w STAGE)) ∷
    leb
    (word w AT) keeps ∷ all_zero (word w 28) (word w 29) (word w 30) (word w 31) ∷ [])

-- the numbers of a session that words have room for
pub record Fits (s : Session) : Type 0 where
  pub table : held s.stage ≤ 65535
  pub entry : entry_of s.stage ≤ 65535
  pub at : s.run.at ≤ keeps
