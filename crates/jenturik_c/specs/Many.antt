-- What a schedule, and many collector steps, do for a caller that keeps the record as words [C 10].
use Rattle.base.specs.Choice.{pick}
use Rattle.std.specs.Prelude.{ℕ, ◌/◌, ◌%◌, List, [], ◌∷◌}
use Rattle.rules.specs.Table.{State, state}
use Rattle.rules.specs.Schedules.{Followed}
use Rattle.batch.specs.Last.{last_answer}
use Rattle.record_words.specs.Words.{words_of, record_of, is_record}
use Rattle.jenturik_c.specs.Face.{Answered, answered, told_of, no_record}
use Rattle.jenturik_c.specs.declared.Last.{Last}

-- how many steps were done, the code and the detail, and the three slices and the words as the call
-- leaves them
pub record FacedRun : Type 0 where
  pub done : ℕ
  pub code : ℕ
  pub detail : ℕ
  pub edges : List (List ℕ)
  pub colour : List ℕ
  pub words : List ℕ

abbrev pub faced_run : ℕ → ℕ → ℕ → List ℕ → List ℕ → List ℕ → List ℕ → FacedRun
faced_run n code detail l r c w = record {
  done =
      n;
  code = code;
  detail = detail;
  edges = l ∷ r ∷ [];
  colour = c;
  words = w;
}

abbrev pub shown_run : Followed → FacedRun
shown_run f = record {
  done =
      f.done;
  code = f.code;
  detail = f.detail;
  edges = f.state.edges;
  colour = f.state.colour;
  words = words_of
      f.state.rec;
}

-- the run f, where the words are a record's; else nothing changes
unfoldable pub face_run : (State → Followed) → List ℕ → List ℕ → List ℕ → List ℕ → FacedRun
face_run f l r c w =
    pick (is_record w) (shown_run (f (state l r c (record_of w)))) (faced_run 0 2 0 l r c w)

-- the code and the detail that a byte holds: the lower five bits of it, and the upper three
abbrev pub code_in : ℕ → ℕ
code_in byte = byte % 32

abbrev pub detail_in : ℕ → ℕ
detail_in byte = byte / 32

-- what the last of n collector steps answers, or the one that is refused
abbrev pub last_of : Last → Answered
last_of r = answered r.what (code_in r.code) (detail_in r.code) r.node

unfoldable pub last_told : ℕ → List ℕ → List ℕ → List ℕ → List ℕ → Answered
last_told n l r c w =
    pick (is_record w) (told_of (last_answer n (state l r c (record_of w)))) no_record

-- [C 14] the nodes that the run f appends: none where the words are no record's
unfoldable pub face_nodes : (State → List ℕ) → List ℕ → List ℕ → List ℕ → List ℕ → List ℕ
face_nodes f l r c w = pick (is_record w) (f (state l r c (record_of w))) []
