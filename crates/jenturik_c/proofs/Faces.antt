-- How a call over words is made of the call over the record.
use Prim.Native.Nat.{ℕ, ◌<◌}
use mathlib.Core.Bool.{true, false}
use mathlib.Core.List.{List, []}
use mathlib.Core.Path.{◌≡◌, refl}
use Rattle.base.proofs.Tests.{pick_yes, pick_no}
use Rattle.rules.specs.Table.{State, Outcome, state, outcome}
use Rattle.rules.specs.Schedules.{Followed, followed}
use Rattle.rules.specs.declared.Record.{Record}
use Rattle.rules.specs.declared.Made.{Made}
use Rattle.rules.specs.Steps.{code_of, detail_of}
use lib.ListN.{length}
use Rattle.batch.specs.Last.{last_answer}
use Rattle.freed.specs.Freed.{noted}
use Rattle.batch.proofs.Small.{last_small}
use Rattle.rules.specs.declared.Answer.{Answer}
use Rattle.record_words.specs.Words.{words_of, record_of, is_record}
use Rattle.jenturik_c.specs.Face.{Answered, told_of, no_record, shown, faced, face, face_count}
use Rattle.jenturik_c.specs.Many.{faced_run, face_run, last_told, face_nodes}

module _ (l r c w : List ℕ) where
  module _ (h : false ≡ is_record w) where
    pub spurned : (f : State → Outcome) (t : Answered) → t ≡ no_record
        → faced t l r c w ≡ face f l r c w
    unfolding face
    spurned f t e = pick_no _ _ _ _ h (rw e)

    pub spurned_run : (f : State → Followed) → faced_run 0 2 0 l r c w ≡ face_run f l r c w
    unfolding face_run
    spurned_run f = pick_no _ _ _ _ h refl

    pub spurned_count : (f : State → ℕ) (n : ℕ) → n ≡ 0 → n ≡ face_count f l r c w
    unfolding face_count
    spurned_count f n e = pick_no _ _ _ _ h e

    pub spurned_last : (n : ℕ) → no_record ≡ last_told n l r c w
    unfolding last_told
    spurned_last n = pick_no _ _ _ _ h refl

    spurned_nodes : (f : State → List ℕ) → [] ≡ face_nodes f l r c w
    unfolding face_nodes
    spurned_nodes f = pick_no _ _ _ _ h refl

    pub spurned_list : (f : State → List ℕ) (list : List ℕ)
        → list ≡ noted (face_nodes f l r c w) list
    spurned_list f list = rw (← spurned_nodes f) refl

    pub spurned_freed : (f : State → List ℕ) → 0 ≡ length (face_nodes f l r c w)
    spurned_freed f = rw (← spurned_nodes f) refl

  -- l', r' and c' are the slices as the call over the record left them, w' the words of the record
  -- that it handed back
  module _ (l' r' c' w' : List ℕ) (x : Record) (h : true ≡ is_record w) (e : x ≡ record_of w) where
    pub faces : (f : State → Outcome) (d : Made) (t : Answered)
        → outcome d l' r' c' ≡ f (state l r c x)
        → w' ≡ words_of d.rec → t ≡ told_of d.answer
        → faced t l' r' c' w' ≡ face f l r c w
    unfolding face
    faces f d t q v k = pick_yes _ _ _ _ h (rw (← e, ← q, v, k))

    pub faces_run : (f : State → Followed) (n code detail : ℕ) (y : Record)
        → followed n code detail (state l' r' c' y) ≡ f (state l r c x) → w' ≡ words_of y
        → faced_run n code detail l' r' c' w' ≡ face_run f l r c w
    unfolding face_run
    faces_run f n code detail y q v = pick_yes _ _ _ _ h (rw (← e, ← q, v))

  pub faces_count : (x : Record) → true ≡ is_record w → x ≡ record_of w → (f : State → ℕ) (n : ℕ)
      → n ≡ f (state l r c x) → n ≡ face_count f l r c w
  unfolding face_count
  faces_count x h e f n q = pick_yes _ _ _ _ h (rw (← e) q)

  pub faces_last : (x : Record) (n : ℕ) (a : Answer) (t : Answered) → true ≡ is_record w
      → x ≡ record_of w → a ≡ last_answer n (state l r c x) → t ≡ told_of a
      → t ≡ last_told n l r c w
  unfolding last_told
  faces_last x n a t h e q k = pick_yes _ _ _ _ h (rw (← e, ← q, k))

  pub faces_nodes : (x : Record) → true ≡ is_record w → x ≡ record_of w → (f : State → List ℕ)
      → f (state l r c x) ≡ face_nodes f l r c w
  unfolding face_nodes
  faces_nodes x h e f = pick_yes _ _ _ _ h (rw e refl)

-- the same where no record is read
pub shows : (o : Outcome) (d : Made) (t : Answered) (l r c w : List ℕ) → outcome d l r c ≡ o → w
    ≡ words_of d.rec → t ≡ told_of d.answer → faced t l r c w ≡ shown o
shows o d t l r c w q v k = rw (← q, v, k)

-- what the last of many steps answers fits in its byte
pub packs : (n : ℕ) (s : State) (a : Answer) (code detail : ℕ) → a ≡ last_answer n s
    → code ≡ code_of a → detail ≡ detail_of a → (code < 32) × (detail < 8)
packs n s a code detail e p q = rw (p, q, e) (last_small n s)
