-- Demand 3 for the calls for C: the words that a start writes are a record's and stay a record's,
-- so that each call is the run of steps that it is over the record.
use Prim.Native.Nat.{ℕ, zero, suc, ◌≤◌}
use mathlib.Core.Bool.{true}
use mathlib.Core.List.{List, [], ◌∷◌}
use mathlib.Core.Path.{◌≡◌, refl, sym, ap, subst}
use native.Mathlib.Omega.{arith}
use lib.ListN.{take}
use Rattle.base.proofs.Tests.{pick_yes}
use Rattle.rules.specs.Table.{State, most_nodes, most_slots}
use Rattle.rules.specs.Phases.{tag_of, position, second}
use Rattle.rules.specs.Check.{bound}
use Rattle.rules.specs.InUse.{in_use}
use Rattle.rules.specs.FreeCount.{free_count}
use Rattle.rules.specs.Steps.{run, taking, linking, shading, collecting, looking}
use Rattle.rules.specs.Schedules.{Followed, schedule, collects}
use Rattle.rules.specs.Facts.{Inside, InRange, Owable}
use Rattle.rules.specs.declared.Step.{Step}
use Rattle.rules.specs.declared.Answer.{Answer}
use Rattle.rules.specs.declared.Phase.{Phase}
use Rattle.rules.proofs.Checked.{good, inside, owable}
use Rattle.rules.proofs.Phases.{tag_most}
use Rattle.rules.proofs.Sizes.{square}
use Rattle.freed.specs.Freed.{run_in}
use Rattle.record_words.specs.Words.{owed_of, words_of, is_record}
use Rattle.record_words.proofs.RoundTrip.{record_back}
use Rattle.record_words.proofs.Widths.{words_are, owes_most}
use Rattle.jenturik_c.specs.Face.{face}
use Rattle.jenturik_c.specs.Flat.{steps_of, schedule_of}
use Rattle.jenturik_c.proofs.Kept.{Follows, schedule_follows, freed_follows, words_follow}
use Rattle.jenturik_c.proofs.Kept.{done_kept}
use Rattle.runs.specs.Runs.{Count}
use Rattle.runs.specs.Start.{by_fresh, by_load}
use Rattle.runs.proofs.Sound.{checked}
use Rattle.runs.proofs.Counting.{Carried}
use Rattle.promises.specs.CallRuns.{Lent, lend, state_of, DemandCalls}
use Rattle.promises.specs.Words.{left_in, left_in_run, once, asked, many, left_by, deed_of}
use Rattle.promises.specs.Words.{words, Call, Fresh, Load, Look, InUse, FreeCount, Link}
use Rattle.promises.specs.Words.{Shade, Take, Collect, CollectMany, CollectFreed, Schedule}
use Rattle.promises.proofs.CallRuns as R
use Rattle.rules.specs.Records.{Owed}
use Rattle.std.specs.Prelude.{Some, None}

-- numbers inside a table have their widths
position_fits : (m r tag i : ℕ) → m ≤ most_nodes → r ≤ most_slots → Inside m r tag i → i ≤ 65535
position_fits m r zero i a b h = omega arith
position_fits m r (suc tag) i a b h = omega arith

phase_fits : (m r : ℕ) (p : Phase) → m ≤ most_nodes → r ≤ most_slots → InRange m r p
    → (position p ≤ 65535) × (second p ≤ 65535)
phase_fits m r p a b h = (position_fits m r (tag_of p) (position p) a b h.0, omega (arith, h.1))

owed_fits : (m : ℕ) (o : Owed) → m ≤ most_nodes → Owable m o → owed_of o ≤ 65535
owed_fits m None a h = omega arith
owed_fits m (Some n) a h = omega arith

took_fits : (m r : ℕ) → m ≤ most_nodes → r ≤ most_slots → bound 2 m r ≤ 4294967295
unfolding bound
took_fits m r a b = omega (arith, square m a)

-- the words are a record's
abbrev Fit : List ℕ → Type 0
Fit w = true ≡ is_record w

fits : {m r : ℕ} {n : Count} {s : State} → Carried 2 m r n s → R.Cycled n → Fit (words_of s.rec)
fits {m} {r} {n} {s} v c =
    let x = s.rec in
    let k = checked (subst (λ (t : State). Carried 2 m r n t) (sym (R.lent_back v)) v).sound in
    let g = good _ _ _ x k in
    let p = phase_fits x.m x.r x.phase g.m_high g.r_high (inside _ _ x k) in
    let o = owed_fits x.m x.owed g.m_high (owable _ _ x k) in
    let u = v.sound.fits.told in
    let t = took_fits x.m x.r g.m_high g.r_high in
    let q : x.cycles ≡ n.cycles = ap (λ (n : Count). n.cycles) v.counts in
    (words_are x (words_of x) refl
    (omega
    (arith, p.0, p.1, o, u.last_blackened, u.took, tag_most x.phase, owes_most x.owed))
    ).1

module _ (h : Lent (List ℕ)) (u : Fit h.kept) where
  abbrev s : State
  s = state_of words h

  once_run : (a : Step) → once a h ≡ lend words_of (run (a ∷ []) s)
  unfolding face run
  once_run a = ap left_in (sym (pick_yes _ _ _ _ u refl))

  -- a call that only answers is no step
  asked_run : (f : State → Answer) → asked f h ≡ lend words_of (run [] s)
  unfolding face run
  asked_run f = ap left_in (sym (pick_yes _ _ _ _ u refl))

  many_run : (f : State → Followed) (cs : List Step) → Follows f cs
      → many f h ≡ lend words_of (run (take (f s).done cs) s)
  many_run f cs k =
      ap left_in_run (done_kept h.left h.right h.colour h.kept u f cs k)

goes : (c : Call) (h : Lent (List ℕ)) → R.Goes words Fit words_of c h (deed_of c (state_of words h))
unfolding left_by deed_of
goes (Fresh m r) h = λ z. (_, by_fresh _ _ refl refl z, refl)
goes (Load m r lefts rights) h = λ z. (_, by_load _ _ _ refl refl z, refl)
goes (Look p) h = λ u. once_run h u (looking p)
goes InUse h = λ u. asked_run h u in_use
goes FreeCount h = λ u. asked_run h u free_count
goes (Link p side q) h = λ u. once_run h u (linking p side q)
goes Shade h = λ u. once_run h u shading
goes (Take p side) h = λ u. once_run h u (taking p side)
goes Collect h = λ u. once_run h u collecting
goes (CollectMany n) h =
    λ u. many_run h u (schedule (collects n)) (collects n) (schedule_follows (collects n))
goes (CollectFreed n list) h =
    λ u. many_run h u (run_in n list) (collects n) (freed_follows n list)
goes (Schedule v) h = λ u. many_run h u (schedule_of v) (steps_of v) (words_follow v)

pub words_calls : DemandCalls words
words_calls =
    R.demand_calls words Fit words_of (record { back = record_back; fit = fits; goes = goes })
