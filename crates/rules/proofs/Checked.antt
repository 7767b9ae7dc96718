-- Where codes 1 and 2 are not given, the record and the lengths are good: the tests as facts.
use Prim.Native.Nat.{ℕ, zero, suc, ◌+◌, ◌≤◌, ◌<◌}
use mathlib.Core.Bool.{Bool, true, false, ◌||◌, not, true≢false}
use mathlib.Core.List.{List, [], ◌∷◌}
use lib.ListN.{length}
use mathlib.Core.Path.{◌≡◌, refl, sym}
use mathlib.Core.Logic.{◌≢◌}
use native.Mathlib.Omega.{arith}
use lib.Dec.{ltb, leb, eqb}
use borrow.Author.Tests.{ltb-true, leb-true, eqb-true, eqb-false}
use Rattle.base.specs.Choice.{every, pick}
use Rattle.base.proofs.Tests.{each, facts, split, not_yes, tests}
use Rattle.rules.specs.Table.{most_nodes, FREE}
use Rattle.rules.specs.Phases.{scan_tag, has_second}
use Rattle.rules.specs.Check.{size_ok, position_ok, second_ok, phase_ok, owed_ok, last_ok, free_ok}
use Rattle.rules.specs.Check.{bound, cycle_ok, told_ok, counts_ok, record_ok, check_of}
use Rattle.rules.specs.Facts.{Checked, Tells, Inside, Limited, InRange, Owable}
use Rattle.rules.specs.declared.Record.{Record}
use Rattle.rules.specs.declared.Phase.{Phase}
use Rattle.rules.proofs.Phases.{no_second}
use Rattle.rules.proofs.Sizes.{square}
use Rattle.rules.specs.Records.{Owed}
use Rattle.std.specs.Prelude.{Some, None}

-- both tests are passed where the code is 0
both : (s k : Bool) → ◌≡◌ {A = ℕ} 0 (pick s (pick k 0 2) 1) → (true ≡ s) × (true ≡ k)
unfolding pick
both true true e = (refl, refl)
both true false e = absurd (omega arith)
both false k e = absurd (omega arith)

pub passes : (ls : List ℕ) (cl : ℕ) (x : Record) → 0 ≡ check_of ls cl x
    → (true ≡ size_ok x.m x.r ls cl) × (true ≡ record_ok (length ls) x)
unfolding check_of
passes ls cl x e = both _ _ e

last_of : (m r n : ℕ) → last_ok m r n ≡ true → 3 ≤ m → (1 ≤ n) × (n < m)
unfolding last_ok
last_of m r n e q = go (eqb n 1) refl e
  where
    go : (b : Bool) → eqb n 1 ≡ b → b || every (leb (r + 2) n ∷ ltb n m ∷ []) ≡ true
        → (1 ≤ n) × (n < m)
    go true h k = omega facts
    go false h k = let f = each _ (sym k) in omega facts

position_of : (m r tag i : ℕ) → position_ok m r tag i ≡ true → Inside m r tag i
unfolding position_ok pick
position_of m r zero i e = leb-true _ _ e
position_of m r (suc tag) i e =
    split (λ (b : Bool). b ≡ true → i < m) (eqb (suc tag) 0) _ _
    (λ q k. absurd (omega (arith, eqb-true (suc tag) 0 q))) (λ q k. ltb-true _ _ k) e

-- a number read that passes
read_of : (m k : ℕ) (b : Bool) → pick b (every (not (eqb k FREE) ∷ ltb k m ∷ [])) true ≡ true
    → b ≡ true → (k ≢ 1) × (k < m)
unfolding pick
read_of m k true e h =
    let f = each _ (sym e) in (eqb-false k FREE (sym (not_yes _ f.0)), omega facts)
read_of m k false e h = absurd (true≢false (sym h))

second_of : (m tag k : ℕ) → second_ok m tag k ≡ true → Limited m tag k
unfolding second_ok
second_of m zero k e = tt
second_of m (suc zero) k e =
    split (λ (b : Bool). b ≡ true → 1 ≤ k) (eqb 1 scan_tag) _ _
    (λ q h. let f = each _ (sym h) in omega facts) (λ q h. absurd (true≢false q)) e
second_of m (suc (suc tag)) k e =
    split (λ (b : Bool). b ≡ true → Limited m (suc (suc tag)) k) (eqb (suc (suc tag)) scan_tag) _ _
    (λ q h. absurd (omega (arith, eqb-true (suc (suc tag)) scan_tag q))) (λ q h. read_of m k _ h) e

second_high : (m tag k : ℕ) → second_ok m tag k ≡ true → (has_second tag ≡ false → k ≡ 0) → k ≤ m
unfolding second_ok
second_high m tag k e z =
    split (λ (b : Bool). b ≡ true → k ≤ m) (eqb tag scan_tag) _ _
    (λ q h. let f = each _ (sym h) in omega facts)
    (λ q. split (λ (b : Bool). b ≡ true → k ≤ m) (has_second tag) _ _
    (λ a h. let f = each _ (sym h) in omega facts) (λ a h. omega (arith, z a))) e

inside_of : (m r : ℕ) (p : Phase) → phase_ok m r p ≡ true → InRange m r p
unfolding phase_ok
inside_of m r p e =
    let f = each _ (sym e) in (
      position_of _ _ _ _ f.0,
      second_high _ _ _ f.1.0 (no_second p),
      second_of _ _ _ f.1.0,
    )

-- what earlier cycles told, as facts and as a test
pub tells : (x : Record) (b : ℕ) → true ≡ told_ok x b → Tells x b
unfolding told_ok
tells x b e = let f = each _ e in omega facts

pub tells_ok : (x : Record) (b : ℕ) → Tells x b → true ≡ told_ok x b
unfolding told_ok
tells_ok x b t = search (tests, t) depth 12

owable_of : (m : ℕ) (o : Owed) → owed_ok m o ≡ true → Owable m o
unfolding owed_ok
owable_of m None e = tt
owable_of m (Some n) e = ltb-true _ _ (each _ (sym e)).1.0

pub good : (ll rl cl : ℕ) (x : Record) → 0 ≡ check_of (ll ∷ rl ∷ []) cl x → Checked ll rl cl x
unfolding size_ok record_ok free_ok counts_ok cycle_ok bound
good ll rl cl x e =
    let s = each _ (passes (ll ∷ rl ∷ []) cl x e).0 in
    let k = each _ (passes (ll ∷ rl ∷ []) cl x e).1 in
    let f = (each _ (sym k.1.1.1.0)).0 in
    let n = each _ (sym (each _ (sym k.1.1.1.1.0)).0) in
    let h : x.m ≤ most_nodes = omega facts in
    let q = square x.m h in
    let l = last_of x.m x.r x.last k.1.1.0 (omega facts) in
    omega facts

-- a table has at least 3 nodes
pub m_low : (ls : List ℕ) (cl : ℕ) (x : Record) → 0 ≡ check_of ls cl x → 3 ≤ x.m
unfolding size_ok
m_low ls cl x e = leb-true _ _ (each _ (passes ls cl x e).0).0

pub inside : (ls : List ℕ) (cl : ℕ) (x : Record) → 0 ≡ check_of ls cl x
    → InRange x.m x.r x.phase
unfolding record_ok
inside ls cl x e = inside_of _ _ _ (each _ (passes ls cl x e).1).0

pub owable : (ls : List ℕ) (cl : ℕ) (x : Record) → 0 ≡ check_of ls cl x → Owable x.m x.owed
unfolding record_ok
owable ls cl x e = owable_of _ _ (each _ (passes ls cl x e).1).1.0
