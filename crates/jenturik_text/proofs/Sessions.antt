-- Words and sessions correspond: a session's words give the session back, and are a session's.
use Prim.Native.Nat.{ℕ, zero, suc, ◌≤◌}
use mathlib.Core.Bool.{true}
use mathlib.Core.List.{List}
use mathlib.Core.Path.{◌≡◌, refl, sym, ap, subst, ◌∙◌}
use native.Mathlib.Omega.{arith}
use lib.ListN.{length, replicate}
use borrow.Author.Tests.{leb-true, eqb-true}
use Rattle.base.specs.Choice.{pick, every}
use Rattle.base.proofs.Tests.{each, every_skip, every_last, eq_yes, le_yes, tests}
use Rattle.rules.specs.Records.{fresh_record}
use Rattle.rules.specs.declared.Record.{Record}
use Rattle.record_words.specs.Words.{word, is_record, within, flagged}
use Rattle.record_words.specs.Words as record-words
use Rattle.record_words.proofs.RoundTrip.{record_back, words_back as record-back-words}
use Rattle.record_words.proofs.RoundTrip.{part, parts, whole_words}
use Rattle.session.specs.Feeding.{keeps, held, started}
use Rattle.session.specs.declared.Session.{Session}
use Rattle.session.specs.declared.Stage.{Stage}
use Rattle.session.specs.declared.Stage.TheVariants.{Opening, Second, Loading, Serving}
use Rattle.session.specs.declared.Stage.TheVariants.{Over, Stopped}
use Rattle.jenturik_text.specs.Words.{WORDS, tag_of, entry_of, laid_out, words_of, record_part}
use Rattle.jenturik_text.specs.Words.{stage_of, session_of, most_table, most_entry, all_zero}
use Rattle.jenturik_text.specs.Words.{is_session, Fits, STAGE, TABLE, ENTRY, AT}

stage_back : (st : Stage) → stage_of (tag_of st) (held st) (entry_of st) ≡ st
unfolding stage_of pick
stage_back Opening = refl
stage_back (Second m) = refl
stage_back (Loading m n) = refl
stage_back (Serving m) = refl
stage_back Over = refl
stage_back (Stopped m) = refl

-- a session whose output is empty
abbrev pub session : Stage → Record → ℕ → Session
session st x at = record { stage = st; run = record { rec = x; at = at; used = 0 } }

pub session_back : (st : Stage) (x : Record) (at : ℕ) → session_of (words_of st x at)
    ≡ session st x at
unfolding session_of
session_back st x at = rw (stage_back st, record_back x)

-- the words of a stage that is read from words
pub record SameStage (tag m n : ℕ) (st : Stage) : Type 0 where
  pub tag_is : tag_of st ≡ tag
  pub table_is : held st ≡ m
  pub entry_is : entry_of st ≡ n

stage_there : (tag m n : ℕ) → tag ≤ 5 → m ≤ most_table tag → n ≤ most_entry tag
    → SameStage tag m n (stage_of tag m n)
unfolding stage_of most_table most_entry pick
stage_there zero m n h a b =
    record { tag_is = refl; table_is = omega (arith, a); entry_is = omega (arith, b) }
stage_there (suc zero) m n h a b =
    record { tag_is = refl; table_is = refl; entry_is = omega (arith, b) }
stage_there (suc (suc zero)) m n h a b =
    record { tag_is = refl; table_is = refl; entry_is = refl }
stage_there (suc (suc (suc zero))) m n h a b =
    record { tag_is = refl; table_is = refl; entry_is = omega (arith, b) }
stage_there (suc (suc (suc (suc zero)))) m n h a b =
    record { tag_is = refl; table_is = omega (arith, a); entry_is = omega (arith, b) }
stage_there (suc (suc (suc (suc (suc zero))))) m n h a b =
    record { tag_is = refl; table_is = refl; entry_is = omega (arith, b) }
stage_there (suc (suc (suc (suc (suc (suc t)))))) m n h a b = absurd (omega (arith, h))

tag_most : (st : Stage) → tag_of st ≤ 5
tag_most Opening = omega arith
tag_most (Second m) = omega arith
tag_most (Loading m n) = omega arith
tag_most (Serving m) = omega arith
tag_most Over = omega arith
tag_most (Stopped m) = omega arith

table_most : (st : Stage) → held st ≤ 65535 → held st ≤ most_table (tag_of st)
unfolding most_table pick
table_most Opening h = omega arith
table_most (Second m) h = h
table_most (Loading m n) h = h
table_most (Serving m) h = h
table_most Over h = omega arith
table_most (Stopped m) h = h

entry_most : (st : Stage) → entry_of st ≤ 65535 → entry_of st ≤ most_entry (tag_of st)
unfolding most_entry pick
entry_most Opening h = omega arith
entry_most (Second m) h = omega arith
entry_most (Loading m n) h = h
entry_most (Serving m) h = omega arith
entry_most Over h = omega arith
entry_most (Stopped m) h = omega arith

no_use : true ≡ all_zero 0 0 0 0
unfolding all_zero
no_use = search tests depth 12

is_session_lem : (st : Stage) (x : Record) (at : ℕ) → true ≡ is_record (record-words.words_of x)
    → held st ≤ 65535 → entry_of st ≤ 65535 → at ≤ keeps → true ≡ is_session (words_of st x at)
unfolding is_session
is_session_lem st x at r m n h =
    every_skip _ _ _ (eq_yes WORDS WORDS refl) (every_skip _ _ _ r
    (every_skip _ _ _ (le_yes _ _ (tag_most st)) (every_skip _ _ _ (le_yes _ _ (table_most st m))
    (every_skip _ _ _ (le_yes _ _ (entry_most st n)) (every_skip _ _ _ (le_yes _ _ h)
    (every_last _ _ no_use))))))

pub words_are : (s : Session) (w v : List ℕ) → Fits s
    → w ≡ words_of s.stage s.run.rec s.run.at → v ≡ record-words.words_of s.run.rec
    → true ≡ is_record v → true ≡ is_session w
words_are s w v f e q r =
    let rec = subst (λ (u : List ℕ). true ≡ is_record u) q r in
    subst (λ (u : List ℕ). true ≡ is_session u) (sym e)
    (is_session_lem s.stage s.run.rec s.run.at rec f.table f.entry f.at)

pub record_in_lem : (w : List ℕ) → true ≡ is_session w → true ≡ is_record (record_part w)
unfolding is_session
record_in_lem w e = sym (each _ e).1.0

-- words that are a session's are that session's words
pub words_back : (w : List ℕ) → true ≡ is_session w
    → words_of (session_of w).stage (session_of w).run.rec (session_of w).run.at ≡ w
unfolding is_session session_of all_zero
words_back w e =
    let t = each _ e in
    let tag : word w STAGE ≤ 5 = leb-true _ _ t.1.1.0 in
    let m : word w TABLE ≤ most_table (word w STAGE) = leb-true _ _ t.1.1.1.0 in
    let n : word w ENTRY ≤ most_entry (word w STAGE) = leb-true _ _ t.1.1.1.1.0 in
    let z = each _ (sym t.1.1.1.1.1.1.0) in
    let s = stage_there (word w STAGE) (word w TABLE) (word w ENTRY) tag m n in
    let size : length w ≡ WORDS = eqb-true _ _ t.0 in
    let r = record-back-words (record_part w) (record_in_lem w e)
    ∙ parts w record-words.WORDS 0 (omega (arith, size)) in
    let z0 : word w 28 ≡ 0 = eqb-true _ _ z.0 in
    let z1 : word w 29 ≡ 0 = eqb-true _ _ z.1.0 in
    let z2 : word w 30 ≡ 0 = eqb-true _ _ z.1.1.0 in
    let z3 : word w 31 ≡ 0 = eqb-true _ _ z.1.1.1.0 in
    let st = stage_of (word w STAGE) (word w TABLE) (word w ENTRY) in
    let same : laid_out (part w 0 record-words.WORDS) (tag_of st) (held st) (entry_of st)
    (word w AT)
    ≡ part w 0 WORDS = rw (s.tag_is, s.table_is, s.entry_is, z0, z1, z2, z3) in
    ap (λ (v : List ℕ). laid_out v (tag_of st) (held st) (entry_of st) (word w AT)) r ∙ same
    ∙ sym (whole_words w WORDS size)

no_record_lem : true ≡ is_record (record-words.words_of (fresh_record 0 0 0 0))
unfolding is_record within flagged pick every
no_record_lem = refl

-- [Text 6] words that are all 0 are the start of a run
pub start_words : (session_of (replicate WORDS 0) ≡ started) ×
    (true ≡ is_session (replicate WORDS 0))
start_words = (
  session_back Opening (fresh_record 0 0 0 0) 0,
  is_session_lem Opening (fresh_record 0 0 0 0) 0 no_record_lem (omega arith) (omega arith)
      (omega arith),
)
