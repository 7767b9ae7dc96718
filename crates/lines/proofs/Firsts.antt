-- The first line in the program's own tables: with the full 4,096 entries it prints and begins what
-- `first` says, whatever they held.
use Prim.Native.Nat.{ℕ, zero, suc, ◌<◌, ◌≤◌}
use mathlib.Core.Bool.{Bool, true, false, true≢false}
use mathlib.Core.Logic.{◌⊎◌, inl, inr}
use mathlib.Core.Path.{◌≡◌, refl, sym, ap, ◌∙◌}
use mathlib.Core.List.{List, [], ◌∷◌}
use native.Mathlib.Omega.{arith}
use borrow.Author.Tests.{leb-true, leb-false}
use lib.Dec.{leb}
use lib.ListN.{length, get_or, take, drop, replicate, length-append, length-replicate}
use lib.Seq.{take_at, length-take-le}
use Rattle.base.specs.Choice.{pick, every}
use Rattle.base.proofs.Tests.{every_skip, every_here, every_last, each, split, le_yes, le_no}
use Rattle.rules.specs.Table.{State, Outcome, state}
use Rattle.rules.specs.Check.{size_ok}
use Rattle.rules.specs.Records.{fresh_record}
use Rattle.rules.specs.Fresh.{tabulate, fresh, fresh_last, fresh_state}
use Rattle.rules.specs.declared.Answer.TheVariants.{Started, Refused}
use Rattle.rules.specs.declared.Step.{Step}
use Rattle.text.specs.declared.Said.{Said}
use Rattle.text.specs.declared.Said.TheVariants.{First, Do, Collect, Unreadable}
use Rattle.lines.specs.Lines.{Line, prints, answered, placed, failed, opened, first, later}
use Rattle.lines.specs.Lines.{entries}

-- the table in the first m entries
abbrev pub fronts : ℕ → State → State
fronts m s =
    state (take m (get_or s.edges 0 [])) (take m (get_or s.edges 1 [])) (take m s.colour)
    s.rec

-- what a first line prints in the program's own tables, t, is what is told of it, u; and so is the
-- table, unless it fails, and has a node and no more than they have entries
pub record Opens (t u : Line) : Type 0 where
  pub code : t.code ≡ u.code
  pub node : t.node ≡ u.node
  pub table : u.code ≡ 0 → fronts t.state.rec.m t.state ≡ u.state
  pub size : u.code ≡ 0 → (0 < u.state.rec.m) × (u.state.rec.m ≤ entries)

-- both fail alike
failing : {code node : ℕ} {s t : State}
    → Opens (prints (suc code) node s) (prints (suc code) node t)
failing = record {
  code =
      refl;
  node = refl;
  table = λ z. absurd (omega arith);
  size = λ z. absurd (omega arith);
}

length_tabulate : (f : ℕ → ℕ) (n : ℕ) → length (tabulate f n) ≡ n
unfolding tabulate
length_tabulate f zero = refl
length_tabulate f (suc n) = length-append (tabulate f n) (f n ∷ [])
    ∙ omega (arith, length_tabulate f n)

-- Fresh in lists of m entries, whatever they hold
module _ (m r : ℕ) where
  fresh_in : State → Outcome
  fresh_in s =
      pick (size_ok m r (m ∷ m ∷ []) m) (record
      { answer = Started (fresh_last m r); state = fresh_state 2 m r })
      (record { answer = Refused 1 0 0; state = s })

  judged : (l k c : List ℕ) → length l ≡ m → length k ≡ m → length c ≡ m
      → fresh m r (l ∷ k ∷ []) c ≡ fresh_in (state l k c (fresh_record 0 0 0 0))
  unfolding fresh fresh_in
  judged l k c p q s = rw (p, q, s)

  stated : first (First m r) ≡ answered
      (fresh_in (state (replicate m 0) (replicate m 0) (replicate m 0) (fresh_record 0 0 0 0)))
  unfolding first
  stated =
      ap answered (judged _ _ _ (length-replicate m 0) (length-replicate m 0)
      (length-replicate m 0))

  large : entries < m → false ≡ size_ok m r (m ∷ m ∷ []) m
  unfolding size_ok
  large h = every_skip _ _ _ (le_yes 3 m (omega arith)) (every_here _ _ (le_no m entries h))

  fits : size_ok m r (m ∷ m ∷ []) m ≡ true → (0 < m) × (m ≤ entries)
  unfolding size_ok
  fits e =
      let h = each _ (sym e) in
      let p = leb-true 3 m h.0 in
      (omega arith, leb-true m entries h.1.0)

  tables : (l k c : List ℕ) → fronts m
      (placed (record { answer = Started (fresh_last m r); state = fresh_state 2 m r }) l k c).state
      ≡ fresh_state 2 m r
  unfolding fresh_state
  tables l k c =
      rw (
        take_at _ l m (length_tabulate _ m),
        take_at _ k m (length_tabulate _ m),
        take_at _ c m
            (length_tabulate _ m),
      )

  module _ (l k c : List ℕ) where
    begun : m ≤ length l → m ≤ length k → m ≤ length c
        → Opens (placed (fresh m r (take m l ∷ take m k ∷ []) (take m c)) (drop m l) (drop m k)
        (drop m c)) (first (First m r))
    unfolding fresh_in fresh_state pick
    begun p q s =
        rw (
          stated,
          judged (take m l) (take m k) (take m c) (length-take-le m l p)
              (length-take-le m k q) (length-take-le m c s),
        )
        (go (size_ok m r (m ∷ m ∷ []) m) refl)
      where
        go : (b : Bool) → size_ok m r (m ∷ m ∷ []) m ≡ b
            → Opens
            (placed
            (pick b (record { answer = Started (fresh_last m r); state = fresh_state 2 m r })
            (record {
              answer = Refused 1 0 0;
              state = state (take m l) (take m k) (take m c)
                  (fresh_record 0 0 0 0);
            })) (drop m l) (drop m k) (drop m c))
            (answered
            (pick b (record { answer = Started (fresh_last m r); state = fresh_state 2 m r })
            (record {
              answer = Refused 1 0 0;
              state = state (replicate m 0) (replicate m 0)
                  (replicate m 0) (fresh_record 0 0 0 0);
            })))
        go true e = record {
          code =
              refl;
          node = refl;
          table = λ _. tables (drop m l) (drop m k) (drop m c);
          size = λ _. fits e;
        }
        go false e = failing

    too_large : entries < m → Opens (failed 1 l k c) (first (First m r))
    unfolding fresh_in pick
    too_large h =
        rw (stated, ← large h)
        failing

    opens : entries ≤ length l → entries ≤ length k → entries ≤ length c
        → Opens (opened (First m r) l k c) (first (First m r))
    unfolding opened
    opens p q s =
        split (λ (t : Line). Opens t (first (First m r))) tests _ _
        (λ e. let h = each _ (sym e) in
        begun (leb-true _ _ h.0) (leb-true _ _ h.1.0) (leb-true _ _ h.1.1.0))
        (λ e. go (leb m entries) refl e)
      where
        tests : Bool
        tests = every (leb m (length l) ∷ leb m (length k) ∷ leb m (length c) ∷ [])

        go : (b : Bool) → leb m entries ≡ b → tests ≡ false
            → Opens (failed 1 l k c) (first (First m r))
        go true e f =
            let h = leb-true m entries e in
            absurd
            (true≢false (every_skip _ _ _ (le_yes m (length l) (omega arith))
            (every_skip _ _ _ (le_yes m (length k) (omega arith))
            (every_last _ _ (le_yes m (length c) (omega arith)))) ∙ f))
        go false e f = too_large (leb-false m entries e)

-- the first line in tables of 4,096 entries or more
pub opens_first : (said : Said) (l k c : List ℕ) → entries ≤ length l → entries ≤ length k
    → entries ≤ length c → Opens (opened said l k c) (first said)
unfolding opened first
opens_first (First m r) l k c p q s = opens m r l k c p q s
opens_first (Do a) l k c p q s = failing
opens_first (Collect n) l k c p q s = failing
opens_first Unreadable l k c p q s = failing

-- a line that is no first one is refused
pub not_first : (l k c : List ℕ) (x : Said)
    → ((a : Step) × (x ≡ Do a)) ⊎ (((n : ℕ) × (x ≡ Collect n)) ⊎ (x ≡ Unreadable))
    → failed 10 l k c ≡ opened x l k c
unfolding opened
not_first l k c x (inl p) = rw p.1
not_first l k c x (inr (inl p)) = rw p.1
not_first l k c x (inr (inr e)) = rw e

-- and one that is of no later form
pub not_later : (s : State) (x : Said)
    → ((m : ℕ) × (r : ℕ) × (x ≡ First m r)) ⊎ (x ≡ Unreadable) → prints 10 0 s ≡ later x s
unfolding later
not_later s x (inl p) = rw p.2
not_later s x (inr e) = rw e
