-- What a call does for a caller that keeps the record as words: the section C of docs/RULES.md.
use Rattle.base.specs.Choice.{pick}
use Rattle.std.specs.Prelude.{ℕ, ◌<◌, List, [], ◌∷◌, ltb}
use Rattle.rules.specs.Table.{State, Outcome, state, did}
use Rattle.rules.specs.Steps.{code_of, node_of, detail_of}
use Rattle.rules.specs.declared.Place.{Place}
use Rattle.rules.specs.declared.Answer.{Answer}
use Rattle.rules.specs.declared.Answer.TheVariants.{Started, Named, Linked, Taken, Shaded, Looked}
use Rattle.rules.specs.declared.Answer.TheVariants.{Blackened, Whitened, Appended, Counted}
use Rattle.rules.specs.declared.Answer.TheVariants.{Refused}
use Rattle.record_words.specs.Words.{words_of, record_of, is_record}
use Rattle.jenturik_c.specs.declared.Told.{Told}

-- [C 5] what was done: 0 where nothing was
abbrev pub what_of : Answer → ℕ
what_of (Refused code n detail) = 0
what_of (Started n) = 1
what_of (Named n) = 2
what_of (Linked n) = 3
what_of (Taken n) = 4
what_of (Shaded n) = 5
what_of (Looked n) = 6
what_of (Blackened n) = 7
what_of (Whitened n) = 8
what_of (Appended n) = 9
what_of (Counted k) = 10

-- what was done, the code, the detail and the node
pub record Answered : Type 0 where
  pub what : ℕ
  pub code : ℕ
  pub detail : ℕ
  pub node : ℕ

abbrev pub answered : ℕ → ℕ → ℕ → ℕ → Answered
answered what code detail node =
    record { what = what; code = code; detail = detail; node = node }

abbrev pub answered_of : Told → Answered
answered_of t = answered t.what t.code t.detail t.node

abbrev pub told_of : Answer → Answered
told_of a = answered (what_of a) (code_of a) (detail_of a) (node_of a)

-- what is told fits in the narrower fields of the answer to many steps. No promise rests on this.
pub record Narrow (t : Told) : Type 0 where
  pub what : t.what < 256
  pub node : t.node < 65536

-- what is told, and the three slices and the words as the call leaves them
pub record Faced : Type 0 where
  pub told : Answered
  pub edges : List (List ℕ)
  pub colour : List ℕ
  pub words : List ℕ

abbrev pub faced : Answered → List ℕ → List ℕ → List ℕ → List ℕ → Faced
faced t l r c w = record { told = t; edges = l ∷ r ∷ []; colour = c; words = w }

-- [C 6] what a call tells and leaves, the new record as words: Fresh too, whatever it answers
abbrev pub shown : Outcome → Faced
shown o = record {
  told =
      told_of o.answer;
  edges = o.state.edges;
  colour = o.state.colour;
  words = words_of
      o.state.rec;
}

-- [C 4] words that are no record's
abbrev pub no_record : Answered
no_record = answered 0 2 0 0

-- [C 1] the call f, where the words are a record's; [C 4] else nothing changes
unfoldable pub face : (State → Outcome) → List ℕ → List ℕ → List ℕ → List ℕ → Faced
face f l r c w =
    pick (is_record w) (shown (f (state l r c (record_of w)))) (faced no_record l r c w)

-- [In use 3] a call that only answers: the state stays
abbrev pub asking : (State → Answer) → State → Outcome
asking f s = did (f s) s s.rec

-- [Changes 1] how many colours the call f changed: none where the words are no record's
unfoldable pub face_count : (State → ℕ) → List ℕ → List ℕ → List ℕ → List ℕ → ℕ
face_count f l r c w = pick (is_record w) (f (state l r c (record_of w))) 0

-- [Changes 2] a sum in 32 bits: where it does not fit, the largest number
unfoldable pub fitted : ℕ → ℕ
fitted n = pick (ltb n 4294967295) n 4294967295

-- a place as a caller gives it
abbrev pub place_of : ℕ → ℕ → ℕ → Place
place_of slot count word = record { slot = slot; count = count; word = word }
