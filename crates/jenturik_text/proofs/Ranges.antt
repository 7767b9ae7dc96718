-- What a session's words have room for stays so: a block leaves numbers in the same ranges.
use Prim.Native.Nat.{ℕ, ◌+◌, ◌≤◌}
use mathlib.Core.Bool.{Bool, true, false}
use mathlib.Core.List.{List, [], ◌∷◌, map}
use mathlib.Core.Path.{◌≡◌, refl, sym, ◌∙◌}
use native.Mathlib.Omega.{arith}
use lib.ListN.{length, take}
use lib.Dec.{ltb}
use borrow.Author.Tests.{ltb-true, ltb-false, leb-true}
use Rattle.base.proofs.Tests.{each, split}
use Rattle.rules.specs.Table.{Outcome, most_nodes}
use Rattle.rules.specs.Check.{size_ok}
use Rattle.rules.specs.Fresh.{fresh, fresh_state}
use Rattle.text.specs.Grammar.{read}
use Rattle.text.specs.Answers.{Written, written, contents, put, put_all}
use Rattle.text.specs.declared.Said.{Said}
use Rattle.text.specs.declared.Said.TheVariants.{First, Do, Collect, Unreadable}
use Rattle.std.specs.Prelude.{Option, Some, None}
use Rattle.text.specs.declared.Edges.{Edges}
use Rattle.text.proofs.Outputs.{put_full, put_longer}
use Rattle.lines.specs.Lines.{Line, opened}
use Rattle.session.specs.Feeding.{newline, keeps, fold, ended, Stand, moved, begun, stopped}
use Rattle.session.specs.Feeding.{filled, noting, line_ended, eaten, eats, emptied, block}
use Rattle.session.specs.Feeding.{closed, finish, turn}
use Rattle.session.specs.declared.Stage.{Stage}
use Rattle.session.specs.declared.Stage.TheVariants.{Opening, Second, Loading, Serving}
use Rattle.session.specs.declared.Stage.TheVariants.{Over, Stopped}

-- a stage, and the number of nodes in the record while an export may come
abbrev pub InRange : Stage → ℕ → Type 0
InRange Opening r = Unit {0}
InRange (Second m) r = (m ≤ 65535) × (r ≤ 65535)
InRange (Loading m n) r = (m ≤ 65535) × (n ≤ 65535) × (r ≤ 65535)
InRange (Serving m) r = m ≤ 65535
InRange Over r = Unit {0}
InRange (Stopped m) r = m ≤ 65535

-- a line's buffer
pub record Lined (line : Written) : Type 0 where
  pub size : length line.out ≡ keeps
  pub used : line.used ≤ keeps

pub record Ranged (s : Stand) : Type 0 where
  pub line : Lined s.going.line
  pub stage : InRange s.stage s.going.state.rec.m

anew : (line : Written) → Lined line → Lined (written line.out 0)
anew line h = record { size = h.size; used = omega arith }

put_lined : (line : Written) (b : ℕ) → Lined line → Lined (put_all line (b ∷ []))
unfolding put_all
put_lined line b h = go (ltb line.used keeps) refl
  where
    go : (t : Bool) → ltb line.used keeps ≡ t → Lined (put line b)
    go true e =
        let k = ltb-true line.used keeps e in
        let l = put_longer line b (omega (arith, h.size)) in
        record { size = l.size ∙ h.size; used = omega (arith, l.used) }
    go false e =
        let k = ltb-false line.used keeps e in
        rw (put_full line b (omega (arith, h.size))) h

-- the first line makes a table of at most 4,096 nodes, or none
size_high : (m r : ℕ) (edges : List ℕ) (n : ℕ) → size_ok m r edges n ≡ true → m ≤ most_nodes
unfolding size_ok
size_high m r edges n e =
    let h = each _ (sym e) in
    leb-true m most_nodes h.1.0

fresh_small : (m r : ℕ) (edges : List (List ℕ)) (colours : List ℕ)
    → (fresh m r edges colours).state.rec.m ≤ most_nodes
unfolding fresh fresh_state
fresh_small m r edges colours =
    split (λ (o : Outcome). o.state.rec.m ≤ most_nodes)
    (size_ok m r (map length edges) (length colours)) _ _
    (λ e. size_high m r (map length edges) (length colours) e) (λ _. omega arith)

opened_small : (a : Said) (l k c : List ℕ) → (opened a l k c).state.rec.m ≤ most_nodes
unfolding opened
opened_small (First m r) l k c =
    split (λ (t : Line). t.state.rec.m ≤ most_nodes) _ _ _ (λ _. fresh_small m r _ _)
    (λ _. omega arith)
opened_small (Do a) l k c = omega arith
opened_small (Collect n) l k c = omega arith
opened_small Unreadable l k c = omega arith

begun_ranged : (s : Stand) → Lined s.going.line → Ranged (begun s)
unfolding begun
begun_ranged s h =
    let a = read (contents s.going.line) in
    let k = opened_small a s.left s.right s.colour in
    record {
      line = anew s.going.line h;
      stage = split (λ (st : Stage). InRange st (begun s).going.state.rec.m) _ _ _
          (λ _. (omega (arith, k), omega (arith, k)))
          (λ _. tt);
    }

module _ (m : ℕ) (h : m ≤ 65535) where
  stopped_ranged : (s : Stand) → Lined s.going.line → Ranged (stopped m s)
  unfolding stopped
  stopped_ranged s l = record { line = anew s.going.line l; stage = h }

  filled_ranged : (s : Stand) → Lined s.going.line → Ranged (filled m s)
  unfolding filled
  filled_ranged s l = record {
    line =
        anew s.going.line l;
    stage = split (λ (st : Stage). InRange st (filled m s).going.state.rec.m) _ (Serving m)
        (Stopped m) (λ _. h) (λ _. h);
  }

  noting_ranged : (n : ℕ) (x : Option Edges) (s : Stand) → Lined s.going.line
      → s.going.state.rec.m ≤ 65535 → Ranged (noting m n x s)
  unfolding noting
  noting_ranged n (Some e) s l r =
      split Ranged _ _ _
      (λ e. let k = ltb-true (n + 1) s.going.state.rec.m e in
      record { line = anew s.going.line l; stage = (h, omega (arith, k, r), r) })
      (λ _. filled_ranged _ l)
  noting_ranged n None s l r = stopped_ranged s l

  step_ranged : (s : Stand) → Lined s.going.line → Ranged (moved (Serving m) (ended s.going) s)
  unfolding ended
  step_ranged s l = record { line = anew s.going.line l; stage = h }

line_ranged : (s : Stand) → Ranged s → (st : Stage) → InRange st s.going.state.rec.m
    → Ranged (line_ended st s)
unfolding line_ended
line_ranged s r Opening h = begun_ranged s r.line
line_ranged s r (Second m) h =
    split Ranged _ _ _ (λ _. noting_ranged m h.0 0 _ s r.line h.1)
    (λ _. step_ranged m h.0 s r.line)
line_ranged s r (Loading m n) h = noting_ranged m h.0 n _ s r.line h.2
line_ranged s r (Serving m) h = step_ranged m h s r.line
line_ranged s r Over h = r
line_ranged s r (Stopped m) h = r

eats_ranged : (s : Stand) (b : ℕ) → Ranged s → Ranged (eats s b)
unfolding eaten
eats_ranged s b r =
    split Ranged _ _ _ (λ _. r)
    (λ _. split Ranged _ _ _ (λ _. line_ranged s r s.stage r.stage)
    (λ _. record { line = put_lined s.going.line b r.line; stage = r.stage }))

fold_ranged : (input : List ℕ) (s : Stand) → Ranged s → Ranged (fold eats input s)
unfolding fold
fold_ranged [] s r = r
fold_ranged (b ∷ input) s r = fold_ranged input (eats s b) (eats_ranged s b r)

emptied_ranged : (s : Stand) → Ranged s → Ranged (emptied s)
unfolding emptied
emptied_ranged s r = record { line = r.line; stage = r.stage }

block_ranged : (input : List ℕ) (s : Stand) → Ranged s → Ranged (block input s)
unfolding block
block_ranged input s r = fold_ranged input (emptied s) (emptied_ranged s r)

closed_ranged : (s : Stand) → Ranged s → (st : Stage) → InRange st s.going.state.rec.m
    → Ranged (closed st s)
closed_ranged s r Opening h = r
closed_ranged s r (Second m) h = r
closed_ranged s r (Loading m n) h = stopped_ranged m h.0 s r.line
closed_ranged s r (Serving m) h = r
closed_ranged s r Over h = r
closed_ranged s r (Stopped m) h = r

closes : (s : Stand) → Ranged s → Ranged (closed s.stage s)
closes s r = closed_ranged s r s.stage r.stage

finish_ranged : (s : Stand) → Ranged s → Ranged (finish s)
unfolding finish
finish_ranged s r =
    split (λ (t : Stand). Ranged (closed t.stage t)) _ _ _
    (λ _. closes (emptied s) (emptied_ranged s r))
    (λ _. closes (block (newline ∷ []) s) (block_ranged (newline ∷ []) s r))

pub turn_ranged : (n : ℕ) (input : List ℕ) (s : Stand) → Ranged s → Ranged (turn n input s)
unfolding turn
turn_ranged n input s r =
    split Ranged _ _ _ (λ _. finish_ranged s r) (λ _. block_ranged (take n input) s r)
