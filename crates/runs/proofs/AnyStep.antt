-- Any step from a sound state is one of three: a collector step after which the cycle goes on, one
-- that completes it, or an editor's. It leaves a sound state.
use Prim.Native.Nat.{ℕ}
use mathlib.Core.Bool.{Bool, true, false}
use mathlib.Core.Path.{◌≡◌, refl, sym, ap}
use mathlib.Core.Option.{none}
use borrow.Author.Tests.{eqb-true}
use Rattle.base.specs.Choice.{pick}
use Rattle.base.proofs.Tests.{every_here, every_skip, every_last}
use Rattle.rules.specs.Table.{State, Outcome}
use Rattle.rules.specs.Collector.{collect}
use Rattle.rules.specs.Steps.{step, code_of}
use Rattle.rules.specs.declared.Step.{Step}
use Rattle.theory.proofs.Steps as S
use S.{Tick, goes, ends, CStep}
use Rattle.theory.proofs.Keep.{keep_editor}
use Rattle.theory.proofs.FreeCount.{count_editor}
use Rattle.runs.specs.Runs.{after, collector, kind, first_append, last_append, completes, marks}
use Rattle.runs.specs.Runs.{Count, going, closing, told}
use Rattle.runs.proofs.Tables.{rows_kept}
use Rattle.runs.proofs.Bill.{bill_edit}
use Rattle.runs.proofs.Ready.{abs, top, sizes}
use Rattle.runs.proofs.Sound.{Sound, ready}
use Rattle.runs.proofs.Answers.{act, named, counts, Ticked, on, over}
use Rattle.runs.proofs.Simulates.{Simulates}
use Rattle.runs.proofs.WorkStep.{collect_made, sound_made}
use Rattle.runs.proofs.Edited.{Edited, made_there}
use Rattle.runs.proofs.EditStep.{edits_is}

pub record Collected (E : ℕ) (c : Step) (s : State) (tk : Tick) : Type 0 where
  pub kind : collector c ≡ true
  pub made : CStep E s.rec.m (top s) (abs E s) (abs E (after c s)) (act (step c s).answer) tk
  pub code : code_of (step c s).answer ≡ 0
  pub named : named (step c s).answer ≡ none
  pub nodes : (after c s).rec.m ≡ s.rec.m
  pub slots : (after c s).rec.r ≡ s.rec.r
  pub sound : Sound E (after c s)

pub data Stepped (E : ℕ) (c : Step) (s : State) : Type 0 where
  goes_on : completes c s ≡ false → counts (after c s).rec ≡ going (told c s) (counts s.rec)
      → Collected E c s goes → Stepped E c s
  closes : completes c s ≡ true → counts (after c s).rec ≡ closing (counts s.rec)
      → Collected E c s ends → Stepped E c s
  edits : completes c s ≡ false → collector c ≡ false
      → Edited E s (kind E s.rec.phase) (step c s) → Stepped E c s

collects_is : (c : Step) (s : State) → collector c ≡ true → step c s ≡ collect s
unfolding step pick
collects_is c s h = rw (eqb-true c.kind 3 h) refl

pub stepped : {E : ℕ} (c : Step) (s : State) → Sound E s → Stepped E c s
unfolding completes marks
stepped {E} c s g = go (collector c) refl
  where
    go : (b : Bool) → collector c ≡ b → Stepped E c s
    go true h = by k.made k.ticked
      where
        k : Simulates E s s.rec.phase (step c s)
        k = rw (collects_is c s h) (collect_made g)

        done : {t : Tick} → CStep E s.rec.m (top s) (abs E s) (abs E (after c s))
            (act (step c s).answer) t → Collected E c s t
        done d = record {
          kind =
              h;
          made = d;
          code = k.code;
          named = k.named;
          nodes = k.nodes;
          slots = k.slots;
          sound = sound_made g k;
        }

        test : (b : Bool) → last_append s.rec.m (kind E s.rec.phase) ≡ b → completes c s ≡ b
        test b e = rw g.rows.count (sym (every_skip _ _ _ (sym h) (every_last _ _ (sym e))))

        marks_is : marks c s ≡ first_append (kind E (after c s).rec.phase)
        marks_is = rw g.rows.count (sym (every_skip _ _ _ (sym h) (every_last _ _ refl)))

        by : {t : Tick} → CStep E s.rec.m (top s) (abs E s) (abs E (after c s))
            (act (step c s).answer) t
            → Ticked s.rec (after c s).rec (kind E s.rec.phase)
            (kind E (after c s).rec.phase) (step c s).answer t → Stepped E c s
        by d (on e a) = goes_on (test false e) (rw marks_is a) (done d)
        by d (over e a) = closes (test true e) a (done d)
    go false h = edits (sym (every_here _ _ (sym h))) h (edits_is c s (ready g) h)

sound_edited : {E : ℕ} {s : State} {o : Outcome} → Sound E s → Edited E s (kind E s.rec.phase) o
    → Sound E o.state
sound_edited {E} {s} g e = record {
  rows = rw e.same.m (rows_kept e.lengths g.rows);
  fits = e.fits;
  inv = rw (e.same.m, e.same.r) (keep_editor (sizes g.fits) (made_there e) g.inv);
  bill =
      rw (
        e.same.m,
        e.same.r,
        e.same.phase,
        ap (λ (n : Count). n.since) e.same.counts,
        ap
            (λ (n : Count). n.blackened) e.same.counts,
      )
      (bill_edit (sizes g.fits) (made_there e) g.inv refl g.bill);
  free = rw e.free (count_editor (sizes g.fits) e.made g.inv g.free);
}

pub sound_step : {E : ℕ} (c : Step) (s : State) → Sound E s → Sound E (after c s)
sound_step {E} c s g = go (stepped c s g)
  where
    go : Stepped E c s → Sound E (after c s)
    go (goes_on e a k) = k.sound
    go (closes e a k) = k.sound
    go (edits e h k) = sound_edited g k
