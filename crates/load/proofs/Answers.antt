-- Laws for Load's answers: what each makes, and which is given.
use Prim.Native.Nat.{ℕ, zero, suc, ◌+◌, ◌≤◌, ◌<◌}
use mathlib.Core.Path.{◌≡◌, refl, sym, ap, ◌∙◌}
use mathlib.Core.Logic.{◌≢◌}
use mathlib.Core.Bool.{Bool, true, false, not}
use mathlib.Core.List.{List, [], ◌∷◌}
use native.Mathlib.Omega.{arith}
use lib.ListN.{length, get_or, set, replicate, length-set, length-replicate}
use lib.Seq.{get_or-set_same, get_or-set_other}
use native.Mathlib.Decide.{ℕ_discrete, dec_lt}
use Rattle.std.specs.Prelude.{Option, Some, None}
use lib.Dec.{eqb}
use Rattle.base.specs.Choice.{pick, every}
use Rattle.base.proofs.Tests.{pick_yes, pick_no, eq_yes, eq_no, lt_yes, lt_no, each, facts}
use Rattle.rules.specs.Table.{Outcome, table, state, edge_of}
use Rattle.rules.specs.Check.{size_ok}
use Rattle.rules.specs.Records.{fresh_record}
use Rattle.rules.specs.Fresh.{tabulate, all_white}
use Rattle.rules.specs.Steps.{code_of, node_of}
use Rattle.rules.specs.Meet.{Met, blank, meet, any_edge, first_side}
use Rattle.rules.specs.Load.{load_size_of, load_size_ok, bad_given, first_bad, bad_at, Chained}
use Rattle.rules.specs.Load.{chained, chain, chain_length, is_shared, first_shared, judge_free}
use Rattle.rules.specs.Load.{judge, load_by, load}
use Rattle.rules.specs.declared.Record.{Record}
use Rattle.rules.specs.declared.Answer.{Answer}
use Rattle.rules.specs.declared.Answer.TheVariants.{Started, Refused}
use Rattle.reach.specs.Numbered.{one}
use Rattle.reach.proofs.Lowests.{Passes, lowest_passes, lowest_same}
use Rattle.reach.proofs.Meets.{zero_at, blank_at, blank_length}
use Rattle.reach.proofs.Given.{sizes, bad_no, all_good}
use Rattle.meet.specs.Shown.{Told}
use Rattle.load.specs.declared.Fault.{Fault}
use Rattle.load.specs.declared.Fault.TheVariants.{Broken, Shared}
use Rattle.load.specs.GoodEdges.{Below, load_good, found, fault_answer}

-- no table
pub load_refused : (m r : ℕ) (given edges : List (List ℕ)) (colours : List ℕ) (a b : Answer)
    (x : Record) → a ≡ b → code_of a ≢ 0 → x ≡ fresh_record 0 0 0 0
    → record { answer = a; state = table edges colours x } ≡ load_by m r given edges colours b
unfolding load_by
load_refused m r given edges colours a b x q h e = rw (← q, e) (pick_no _ _ _ _ (eq_no _ _ h) refl)

-- a table
pub load_done : (m r : ℕ) (l g left right colour left' right' colour' : List ℕ) (a b : Answer)
    (n free : ℕ) (x : Record) → a ≡ b → code_of a ≡ 0 → left' ≡ l
    → right' ≡ g → length colour ≡ m → colour' ≡ tabulate all_white (length colour) → n ≡ node_of a
    → free ≡ chain_length (l ∷ g ∷ []) m 1 → x ≡ fresh_record m r n free
    → record { answer = a; state = state left' right' colour' x }
    ≡ load_by m r (l ∷ g ∷ []) (left ∷ right ∷ []) colour b
unfolding load_by
load_done m r l g left right colour left' right' colour' a b n free x q h p k w e u f v =
    rw (← q, p, k, e, w, v, u, f) (pick_yes _ _ _ _ (eq_yes _ _ h) refl)

-- a node is found, or none
pub found_yes : (m n f : ℕ) → n < m → n ≡ f → Some n ≡ found m f
found_yes m n f h e = rw (← e) (pick_yes _ _ _ _ (lt_yes n m h) refl)

pub found_no : (m n f : ℕ) → m ≤ n → n ≡ f → None ≡ found m f
found_no m n f h e = rw (← e) (pick_no _ _ _ _ (lt_no n m h) refl)

pub record At (m n f : ℕ) : Type 0 where
  pub inside : n < m
  pub same : n ≡ f

pub found_some : (m n f : ℕ) → Some n ≡ found m f → At m n f
found_some m n f e = go (dec_lt f m)
  where
    go : Dec (f < m) → At m n f
    go (yes h) =
        let p = e ∙ sym (pick_yes _ _ _ _ (lt_yes f m h) refl) in
        let q : n ≡ f = cc p in
        record { inside = omega (arith, q); same = q }
    go (no h) =
        let p = e ∙ sym (pick_no _ _ _ _ (lt_no f m (omega arith)) refl) in
        absurd (cc p)

pub found_none : (m f : ℕ) → None ≡ found m f → m ≤ f
found_none m f e = go (dec_lt f m)
  where
    go : Dec (f < m) → m ≤ f
    go (yes h) =
        let p = e ∙ sym (pick_yes _ _ _ _ (lt_yes f m h) refl) in
        absurd (cc p)
    go (no h) = omega arith

-- 12
pub fault_code : (f : Fault) → code_of (fault_answer f) ≢ 0
fault_code (Broken n) e = absurd (omega arith)
fault_code (Shared n) e = absurd (omega arith)

pub judge_broken : (m r : ℕ) (es : List (List ℕ)) (c : Chained) (free : List ℕ) (f : Fault)
    → chained free (fault_answer f) ≡ c → fault_answer f ≡ judge_free m r es c
unfolding judge_free
judge_broken m r es c free (Broken n) e = rw (← e) (pick_no _ _ _ _ (eq_no 12 0 (omega arith)) refl)
judge_broken m r es c free (Shared n) e = rw (← e) (pick_no _ _ _ _ (eq_no 13 0 (omega arith)) refl)

-- 13, or the chain's end
module _ (m r : ℕ) (es : List (List ℕ)) (c : Chained) (free : List ℕ) (last : ℕ)
    (e : chained free (Started last) ≡ c) where
  pub judge_shared : (n : ℕ) → Some n ≡ found m (first_shared m free (meet m r es).num)
      → Refused 13 n 0 ≡ judge_free m r es c
  unfolding judge_free
  judge_shared n q =
      let at = found_some _ _ _ q in
      rw (← e, ← at.same)
      (pick_yes _ _ _ _ (eq_yes 0 0 refl) (pick_yes _ _ _ _ (lt_yes _ _ at.inside) refl))

  pub judge_whole : None ≡ found m (first_shared m free (meet m r es).num)
      → Started last ≡ judge_free m r es c
  unfolding judge_free
  judge_whole q =
      rw (← e)
      (pick_yes _ _ _ _ (eq_yes 0 0 refl)
      (pick_no _ _ _ _ (lt_no _ _ (found_none _ _ q)) refl))

-- the nodes marked are those that have a number
module _ {m k : ℕ} {h : Option ℕ} {es : List (List ℕ)} {marks : List ℕ} {s : Met}
    (w : Told m es marks k h s) where
  same_test : (x y : ℕ) → x ≡ one y → eqb x 0 ≡ eqb y 0
  unfolding one
  same_test x zero e = rw e
  same_test x (suc y) e = rw e (sym (eq_no 1 0 (omega arith)) ∙ eq_no (suc y) 0 (omega arith))

  pub shared_same : (free : List ℕ) → first_shared m free marks ≡ first_shared m free s.num
  unfolding first_shared is_shared
  shared_same free =
      lowest_same _ _ m 0 (λ n.
      ap (λ (b : Bool). every (not (eqb (get_or free n 0) 0) ∷ not b ∷ []))
      (same_test _ _ (w.mark n)))

-- marks of free nodes that agree serve alike
abbrev Alike : List ℕ → List ℕ → Type 0
Alike a b = (n : ℕ) → get_or a n 0 ≡ get_or b n 0

record Same (c d : Chained) : Type 0 where
  answer : c.answer ≡ d.answer
  free : Alike c.free d.free

either_way : (t : Bool) {c d e f : Chained} → Same c d → Same e f → Same (pick t c e) (pick t d f)
unfolding pick
either_way true p q = p
either_way false p q = q

set_alike : (a b : List ℕ) (i : ℕ) → i < length a → i < length b → Alike a b
    → Alike (set a i 1) (set b i 1)
set_alike a b i h k e n = go (ℕ_discrete n i)
  where
    go : Dec (n ≡ i) → get_or (set a i 1) n 0 ≡ get_or (set b i 1) n 0
    go (yes q) = rw q (get_or-set_same a i 1 0 h ∙ sym (get_or-set_same b i 1 0 k))
    go (no q) = get_or-set_other a i n 1 0 q ∙ e n ∙ sym (get_or-set_other b i n 1 0 q)

module _ (m r : ℕ) (l g : List ℕ) (good : Below m l) where
  chain_same : (f : ℕ) (a b : List ℕ) (n : ℕ) → m ≤ length a → m ≤ length b → Alike a b
      → Same (chain r (l ∷ g ∷ []) f a n) (chain r (l ∷ g ∷ []) f b n)
  unfolding chain edge_of
  chain_same zero a b n h k e = record { answer = refl; free = e }
  chain_same (suc f) a b n h k e =
      let next = get_or l n 0 in
      let on = chain_same f (set a next 1) (set b next 1) next (simp length-set h)
      (simp length-set k)
      (set_alike a b next (omega (arith, good n)) (omega (arith, good n)) e) in
      rw (e next)
      (either_way _ (either_way _ kept (either_way _ kept (either_way _ on kept))) kept)
    where
      kept : {z : Answer} → Same (chained a z) (chained b z)
      kept = record { answer = refl; free = e }

  judge_alike : (c d : Chained) → Same c d → judge_free m r (l ∷ g ∷ []) c
      ≡ judge_free m r (l ∷ g ∷ []) d
  unfolding judge_free first_shared is_shared
  judge_alike c d w =
      let num = (meet m r (l ∷ g ∷ [])).num in
      let q = lowest_same (is_shared c.free num) (is_shared d.free num) m 0
      (λ n. ap (λ (x : ℕ). every (not (eqb x 0) ∷ not (eqb (get_or num n 0) 0) ∷ [])) (w.free n)) in
      rw (w.answer, q)

  -- zeros for each node, as many as there may be, are as good as the definition's
  pub judge_zeros : (k : ℕ) → m ≤ k → m ≤ 4096
      → judge_free m r (l ∷ g ∷ []) (chain r (l ∷ g ∷ []) m (replicate k 0) 1)
      ≡ judge_free m r (l ∷ g ∷ []) (chain r (l ∷ g ∷ []) m blank 1)
  judge_zeros k h few =
      judge_alike _ _
      (chain_same m _ _ 1 (omega (arith, length-replicate {A = ℕ} k 0))
      (omega (arith, blank_length)) (λ n. zero_at k n ∙ sym (blank_at n)))

-- 1, 11, or what is judged where edges are good
module _ (m r : ℕ) (given edges : List (List ℕ)) (colours : List ℕ) (o : Outcome) where
  pub load_size : false ≡ load_size_ok m r given edges colours → o
      ≡ load_by m r given edges colours (Refused 1 0 0) → o ≡ load m r given edges colours
  unfolding load
  load_size z e = e ∙ ap (load_by m r given edges colours) (pick_no _ _ _ _ z refl)

  pub load_bad : (n side : ℕ) → true ≡ load_size_ok m r given edges colours → n ≡ first_bad m given
      → n < m → side ≡ first_side (bad_given m n) given n
      → o ≡ load_by m r given edges colours (Refused 11 n side)
      → o ≡ load m r given edges colours
  unfolding load judge bad_at
  load_bad n side z q l k e =
      e ∙ ap (load_by m r given edges colours)
      (pick_yes _ _ _ _ z (rw (← q, k) (pick_yes _ _ _ _ (lt_yes _ _ l) refl)))

  pub load_whole : (n : ℕ) → true ≡ load_size_ok m r given edges colours → n ≡ first_bad m given
      → m ≤ n → o ≡ load_good m r given edges colours
      → o ≡ load m r given edges colours
  unfolding load judge
  load_whole n z q l e =
      e ∙ ap (load_by m r given edges colours)
      (pick_yes _ _ _ _ z (rw (← q) (pick_no _ _ _ _ (lt_no _ _ l) refl)))

-- the first bad node has a bad edge
pub bad_has : (m : ℕ) (given : List (List ℕ)) (n : ℕ) → n ≡ first_bad m given → n < m
    → true ≡ any_edge (bad_given m n) given n
unfolding first_bad
bad_has m given n q h =
    let w : Passes (λ n. any_edge (bad_given m n) given n) 0 m (first_bad m given) =
    lowest_passes _ m in
    sym ((rw (sym q) at w).passes h)

-- what passed sizes tell
pub record Lengths (m r lefts rights left right colour : ℕ) : Type 0 where
  pub low : 3 ≤ m
  pub high : m ≤ 4096
  pub few : r ≤ 64
  pub room : r + 2 ≤ m
  pub given : (lefts ≡ m) × (rights ≡ m)
  pub lent : (left ≡ m) × (right ≡ m) × (colour ≡ m)

pub lengths : (m r lefts rights left right colour : ℕ) → true
    ≡ load_size_of m r (lefts ∷ rights ∷ []) (left ∷ right ∷ []) colour
    → Lengths m r lefts rights left right colour
unfolding load_size_of size_ok
lengths m r lefts rights left right colour h =
    let e = each _ h in
    let k = each _ (sym e.0) in
    omega facts

-- and that no node is bad
pub good_given : (m r : ℕ) (l g edges : List ℕ) (colours n : ℕ) → true
    ≡ load_size_of m r (length l ∷ length g ∷ []) edges colours
    → n ≡ first_bad m (l ∷ g ∷ []) → m ≤ n → Below m l × Below m g
unfolding first_bad edge_of
good_given m r l g edges colours n z q h =
    let w : Passes (λ n. any_edge (bad_given m n) (l ∷ g ∷ []) n) 0 m (first_bad m (l ∷ g ∷ [])) =
    lowest_passes _ m in
    let k =
    all_good (sizes m r (l ∷ g ∷ []) edges colours (sym z))
    (λ i b. bad_no (l ∷ g ∷ []) i (w.below i (omega arith) (omega arith))) in
    (λ i. (k.good 0 i).0, λ i. (k.good 1 i).0)
