-- How a call over words is made of the call over the session.
use Prim.Native.Nat.{ℕ, ◌≤◌}
use mathlib.Core.Bool.{Bool, true, false}
use mathlib.Core.List.{List}
use mathlib.Core.Path.{◌≡◌, refl, sym, ap, subst, ◌∙◌}
use native.Mathlib.Omega.{arith}
use lib.Dec.{eqb}
use lib.ListN.{length}
use borrow.Author.Tests.{eqb-true, leb-true}
use Rattle.base.specs.Choice.{pick}
use Rattle.base.proofs.Tests.{each, split, code_yes, code_no, pick_yes, pick_no}
use Rattle.record_words.specs.Words.{word, record_of}
use Rattle.record_words.proofs.Widths.{widths}
use Rattle.session.specs.Feeding.{keeps, held, standing, stand, turn}
use Rattle.session.specs.declared.Session.{Session}
use Rattle.session.specs.declared.Stage.{Stage}
use Rattle.session.specs.declared.Stage.TheVariants.{Opening, Second, Loading, Serving}
use Rattle.session.specs.declared.Stage.TheVariants.{Over, Stopped}
use Rattle.jenturik_text.specs.declared.Turned.{Turned}
use Rattle.jenturik_text.specs.Words.{entry_of, words_of, record_part, stage_of, session_of}
use Rattle.jenturik_text.specs.Words.{most_table, most_entry, is_session, Fits}
use Rattle.jenturik_text.specs.Words.{STAGE, TABLE, ENTRY}
use Rattle.jenturik_text.specs.Turning.{over_of, judged, Answered, answered, answered_of}
use Rattle.jenturik_text.specs.Turning.{left_of, printing, left, done, spurned, turns}
use Rattle.jenturik_text.proofs.Sessions.{session_back, record_in_lem}
use Rattle.jenturik_text.proofs.Ranges.{InRange, Ranged, turn_ranged}

pub accepted : (n : ℕ) (w : List ℕ) (code : ℕ) → code ≡ judged n w → code ≡ 0
    → (true ≡ is_session w) × (n ≡ keeps)
unfolding judged pick
accepted n w code e z = go (is_session w) refl (eqb n keeps) refl (sym e ∙ z)
  where
    go : (a : Bool) → is_session w ≡ a → (b : Bool) → eqb n keeps ≡ b
        → ◌≡◌ {A = ℕ} (pick a (pick b 0 1) 2) 0 → (true ≡ is_session w) × (n ≡ keeps)
    go true p true q h = (sym p, eqb-true n keeps q)
    go true p false q h = absurd (omega (arith, h))
    go false p b q h = absurd (omega (arith, h))

-- the numbers of a session that words are
small_table : (tag : ℕ) → most_table tag ≤ 65535
unfolding most_table
small_table tag =
    split (λ (n : ℕ). n ≤ 65535) _ _ _ (λ _. omega arith)
    (λ _. split (λ (n : ℕ). n ≤ 65535) _ _ _ (λ _. omega arith) (λ _. omega arith))

small_entry : (tag : ℕ) → most_entry tag ≤ 65535
unfolding most_entry
small_entry tag = split (λ (n : ℕ). n ≤ 65535) _ _ _ (λ _. omega arith) (λ _. omega arith)

in_range : (tag m n r : ℕ) → m ≤ 65535 → n ≤ 65535 → r ≤ 65535 → InRange (stage_of tag m n) r
unfolding stage_of
in_range tag m n r a b c =
    split P _ Opening _ (λ _. tt)
    (λ _. split P _ (Second m) _ (λ _. (a, c))
    (λ _. split P _ (Loading m n) _ (λ _. (a, b, c))
    (λ _. split P _ (Serving m) _ (λ _. a) (λ _. split P _ Over (Stopped m) (λ _. tt) (λ _. a)))))
  where
    P : Stage → Type 0
    P st = InRange st r

module _ (l k c ls rs line out : List ℕ) where
  pub session_ranged : (w : List ℕ) → true ≡ is_session w → length line ≡ keeps
      → Ranged (stand (session_of w) l k c ls rs line out)
  unfolding is_session session_of standing record_of
  session_ranged w e h =
      let t = each _ e in
      let f = widths (record_part w) (record_in_lem w e) in
      let m : word w TABLE ≤ most_table (word w STAGE) = leb-true _ _ t.1.1.1.0 in
      let n : word w ENTRY ≤ most_entry (word w STAGE) = leb-true _ _ t.1.1.1.1.0 in
      record {
        line = record { size = h; used = leb-true _ _ t.1.1.1.1.1.0 };
        stage = in_range (word w STAGE) (word w TABLE) (word w ENTRY) _
            (omega (arith, m, small_table (word w STAGE)))
            (omega (arith, n, small_entry (word w STAGE))) (omega (arith, f));
      }

  table_fits : (st : Stage) (r : ℕ) → InRange st r → held st ≤ 65535
  table_fits Opening r h = omega arith
  table_fits (Second m) r h = h.0
  table_fits (Loading m n) r h = h.0
  table_fits (Serving m) r h = h
  table_fits Over r h = omega arith
  table_fits (Stopped m) r h = h

  entry_fits : (st : Stage) (r : ℕ) → InRange st r → entry_of st ≤ 65535
  entry_fits Opening r h = omega arith
  entry_fits (Second m) r h = omega arith
  entry_fits (Loading m n) r h = h.1
  entry_fits (Serving m) r h = omega arith
  entry_fits Over r h = omega arith
  entry_fits (Stopped m) r h = omega arith

  ranged_fits : (s : Session) → Ranged (stand s l k c ls rs line out) → Fits s
  unfolding standing
  ranged_fits s r = record {
    table =
        table_fits s.stage s.run.rec.m r.stage;
    entry = entry_fits s.stage s.run.rec.m r.stage;
    at = r.line.used;
  }

module _ (w l k c ls rs line out input l' k' c' ls' rs' line' out' : List ℕ) (s s' : Session)
    (code : ℕ) (e : code ≡ judged (length line) w) (z : code ≡ 0) (q : s ≡ session_of w)
    (d : stand s' l' k' c' ls' rs' line' out'
    ≡ turn (length input) input (stand s l k c ls rs line out)) where
  pub fits_after : Fits s'
  fits_after =
      let a = accepted (length line) w code e z in
      let r = session_ranged l k c ls rs line out w a.0 a.1 in
      let r' = subst (λ (s : Session). Ranged (stand s l k c ls rs line out)) (sym q) r in
      ranged_fits l' k' c' ls' rs' line' out' s'
      (subst Ranged (sym d) (turn_ranged (length input) input (stand s l k c ls rs line out) r'))

  module _ (t : Turned) (w' : List ℕ) (v : w' ≡ words_of s'.stage s'.run.rec s'.run.at)
      (u : answered_of t ≡ answered s'.run.used 0 (over_of s'.stage)) where
    same : printing (session_of w') t.used ≡ s'
    same =
        let b : t.used ≡ s'.run.used = ap (λ (a : Answered). a.used) u in
        rw (v, session_back s'.stage s'.run.rec s'.run.at, b)

    pub turns_so : left t w' l' k' c' ls' rs' line' out' ≡ turns w l k c ls rs line out input
    unfolding turns standing
    turns_so =
        pick_yes _ _ _ _ (code_yes code _ 0 e z)
        (ap (λ (x : Session). left_of (answered_of t) w' (stand x l' k' c' ls' rs' line' out')) same
        ∙ ap (λ (a : Answered). left_of a w' (stand s' l' k' c' ls' rs' line' out')) u
        ∙ ap (λ (x : List ℕ). left_of (answered s'.run.used 0 (over_of s'.stage)) x
        (stand s' l' k' c' ls' rs' line' out')) v
        ∙ ap done d
        ∙ ap (λ (x : Session). done (turn (length input) input (stand x l k c ls rs line out))) q)

pub spurns : (w l k c ls rs line out input : List ℕ) (t : Turned) (code : ℕ)
    → code ≡ judged (length line) w → (code ≡ 0 → ⊥) → answered_of t ≡ answered 0 code 0
    → left t w l k c ls rs line out ≡ turns w l k c ls rs line out input
unfolding turns session_of
spurns w l k c ls rs line out input t code e z u =
    pick_no _ _ _ _ (code_no code _ 0 e z)
    (ap (λ (a : Answered). left_of a w
    (stand (printing (session_of w) a.used) l k c ls rs line out))
    u ∙ ap (λ (n : ℕ). spurned n w (stand (session_of w) l k c ls rs line out)) e)
