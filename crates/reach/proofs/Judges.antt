-- Load's answers mean what Judged says: each test of the definition is one of its conditions, and
-- no two of them hold together.
use Prim.Native.Nat.{ℕ, ◌+◌, ◌-◌, ◌≤◌, ◌<◌}
use mathlib.Core.Bool.{true, false, true≢false, false≢true, not}
use mathlib.Core.List.{List, [], ◌∷◌, map}
use mathlib.Core.Path.{◌≡◌, refl, sym, ap, ap₂, ◌∙◌}
use mathlib.Core.Logic.{◌≢◌, inl, inr}
use native.Mathlib.Decide.{dec_lt}
use native.Mathlib.Omega.{arith}
use lib.ListN.{length, get_or}
use lib.Dec.{eqb, ltb}
use borrow.Author.Tests.{ltb-true, ltb-false, eqb-true}
use Rattle.base.specs.Choice.{pick}
use Rattle.base.proofs.Tests.{eq_yes, eq_no, le_no, or_skip, not_is, every_skip, every_last, split}
use Rattle.rules.specs.Table.{Outcome, table, FREE, edge_of, bad_edge}
use Rattle.rules.specs.Records.{fresh_record}
use Rattle.rules.specs.Fresh.{tabulate, all_white}
use Rattle.rules.specs.Meet.{num_of, blank, meet, any_edge}
use Rattle.rules.specs.Load.{load_size_ok, bad_given, first_bad, bad_at, Chained, chain, is_shared}
use Rattle.rules.specs.Load.{first_shared, judge_free, judge, chain_length, load_by, load}
use Rattle.rules.specs.declared.Answer.{Answer}
use Rattle.rules.specs.declared.Answer.TheVariants.{Started, Refused}
use Rattle.theory.specs.Free.{Mem, last_of}
use Rattle.theory.proofs.Reaches.{reach_on}
use Rattle.theory.proofs.Chains.{chain_unique, chain_inside, distinct_few}
use Rattle.reach.specs.Numbered.{good, good_edge, GoodReaches, Numbered}
use Rattle.reach.specs.Judged.{SlotReaches, Lowest, BadSide, BadNode, GoodEdges, first}
use Rattle.reach.specs.Judged.{FreeChain}
use Rattle.reach.specs.Judged.{Judged, bad_size, edge_met, bad_chain, shared, accepted}
use Rattle.reach.specs.Judged.{LoadJudges, LoadLeaves}
use Rattle.reach.proofs.Counts.{nonzero_le}
use Rattle.reach.proofs.Meets.{blank_at, blank_length, meet_numbers}
use Rattle.reach.proofs.Lowests.{Passes, lowest_passes}
use Rattle.reach.proofs.Given.{Sizes, sizes, every_two, bad_yes, bad_no, bad_side, all_good}
use Rattle.reach.proofs.Given.{good_none}
use Rattle.reach.proofs.Chains.{Ends, Found, found, breaks_once, ends_whole, free_ends}
use Rattle.reach.proofs.Walks.{Agrees, Says, ends, breaks, walks, turns_along}

pub lowest_once : (P : ℕ → Type 0) (n k : ℕ) → Lowest P n → Lowest P k → n ≡ k
lowest_once P n k a b = go (dec_lt n k) (dec_lt k n)
  where
    go : Dec (n < k) → Dec (k < n) → n ≡ k
    go (yes h) d = absurd (b.1 n h a.0)
    go (no h) (yes g) = absurd (a.1 k g b.0)
    go (no h) (no g) = omega arith

-- where edges are good, good edges are the edges
pub at_good : (m e : ℕ) → e < m → e ≢ FREE → good m e ≡ e
unfolding good bad_edge
at_good m e h k =
    split (λ (x : ℕ). x ≡ e) _ _ _ (λ q. sym
    (eqb-true e 0 (or_skip _ _ _ (or_skip _ _ _ (le_no m e h) (eq_no e FREE k)) refl ∙ q)))
    (λ q. refl)

module _ {m : ℕ} {es : List (List ℕ)} (g : GoodEdges m es) where
  same_edge : (side n : ℕ) → good_edge m es side n ≡ edge_of es side n
  unfolding good_edge
  same_edge side n = split (λ (x : ℕ). x ≡ edge_of es side n) _ _ _
      (λ q. sym (rw (eqb-true n 0 q) (g.nil side)))
      (λ q. at_good m (edge_of es side n) (g.good side n).0 (g.good side n).1)

  to_good : (r : ℕ) {n : ℕ} → SlotReaches r es n → GoodReaches m r es n
  to_good r = reach_on (λ p side h a. same_edge side p)

  of_good : (r : ℕ) {n : ℕ} → GoodReaches m r es n → SlotReaches r es n
  of_good r = reach_on (λ p side h a. sym (same_edge side p))

-- [Codes 13] the test: free, and with a number
shared_yes : (free num : List ℕ) (n : ℕ) → is_shared free num n ≡ true
    → (get_or free n 0 ≢ 0) × (get_or num n 0 ≢ 0)
unfolding is_shared
shared_yes free num n h =
    let w = every_two _ _ h in
    (some _ w.0, some _ (every_two _ _ w.1).0)
  where
    some : (x : ℕ) → not (eqb x 0) ≡ true → x ≢ 0
    some x e q = true≢false (sym e ∙ ap not (sym (eq_yes x 0 q)))

shared_no : (free num : List ℕ) (n : ℕ) → is_shared free num n ≡ false → get_or free n 0 ≢ 0
    → get_or num n 0 ≢ 0 → ⊥
unfolding is_shared
shared_no free num n h p q =
    true≢false (every_skip _ _ _ (not_is _ (eq_no _ 0 p)) (every_last _ _ (not_is _ (eq_no _ 0 q)))
    ∙ h)

module _ (m r : ℕ) (given edges : List (List ℕ)) (colours : List ℕ)
    (ok : load_size_ok m r given edges colours ≡ true) where
  abbrev SaysSo : Answer → Type 0
  SaysSo = Judged m r given edges colours

  z : Sizes m r given
  z = sizes m r given (map length edges) (length colours) ok

  num : Numbered m r given (meet m r given)
  num = meet_numbers m r given z.room z.high

  -- the free nodes that slots reach
  module _ (g : GoodEdges m given) {free : List ℕ} {n : ℕ} (d : Ends r given n)
      (v : Agrees free n d.passed) where
    f : Found r given n d.passed
    f = found g d

    low : (t : ℕ) → Mem t f.free → r + 2 ≤ t
    low t a = go (dec_lt t (r + 2))
      where
        go : Dec (t < r + 2) → r + 2 ≤ t
        go (yes h) = absurd (f.chain.no_root t a h)
        go (no h) = omega arith

    marked : (t : ℕ) → Mem t f.free → get_or free t 0 ≢ 0
    marked t a = v.mem t (f.passed t a) (omega (arith, low t a))

    numbered : (t : ℕ) → Mem t f.free → SlotReaches r given t → num_of (meet m r given) t ≢ 0
    numbered t a x = num.complete t (omega (arith, low t a)) (to_good g r x)

    judged_free : SaysSo (pick (ltb (first_shared m free (meet m r given).num) m)
        (Refused 13 (first_shared m free (meet m r given).num) 0) (Started n))
    unfolding first_shared
    judged_free = split SaysSo _ _ _ (λ b. hit (ltb-true _ _ b)) (λ b. none (ltb-false _ _ b))
      where
        w : Passes (is_shared free (meet m r given).num) 0 m
            (first_shared m free (meet m r given).num)
        w = lowest_passes _ m

        below : (t : ℕ) → t < first_shared m free (meet m r given).num → Mem t f.free
            → ¬ SlotReaches r given t
        below t h a x = shared_no _ _ _ (w.below t (omega arith) h) (marked t a) (numbered t a x)

        hit : first_shared m free (meet m r given).num < m
            → SaysSo (Refused 13 (first_shared m free (meet m r given).num) 0)
        hit h =
            let k = shared_yes _ _ _ (w.passes h) in
            let a = v.mark _ k.0 in
            shared ok g f.chain (
              (f.all _ a.0 a.1, of_good g r (num.sound _ k.1)),
              λ t
                  l p. below t l p.0 p.1,
            )

        none : m ≤ first_shared m free (meet m r given).num → SaysSo (Started n)
        none h = accepted ok (record {
          edges = g;
          free = f.free;
          chain = f.chain;
          away = λ t a x. below t (omega (arith, num.kept.inside t (numbered t a x))) a x;
          end = f.end;
        })

  judged_chain : GoodEdges m given → {c : Chained} → Says r given c
      → SaysSo (judge_free m r given c)
  unfolding judge_free
  judged_chain g (ends d v) = split SaysSo _ _ _ (λ b. judged_free g d v)
      (λ b. absurd (true≢false b))
  judged_chain g (breaks c b) = split SaysSo _ _ _ (λ q. absurd (false≢true q))
      (λ q. bad_chain ok g c b)

  judged : SaysSo (judge m r given)
  unfolding judge first_bad bad_at
  judged = split SaysSo _ _ _ (λ b. hit (ltb-true _ _ b)) (λ b. none (ltb-false _ _ b))
    where
      w : Passes (λ n. any_edge (bad_given m n) given n) 0 m (first_bad m given)
      w = lowest_passes _ m

      hit : first_bad m given < m → SaysSo (bad_at m given (first_bad m given))
      hit h =
          edge_met ok (
            bad_yes given _ h (w.passes h),
            λ t l. bad_no given t
                (w.below t (omega arith) l),
          ) (bad_side given _ (w.passes h))

      none : m ≤ first_bad m given → SaysSo (judge_free m r given (chain r given m blank FREE))
      none h =
          let g = all_good z (λ n l. bad_no given n (w.below n (omega arith) (omega arith))) in
          judged_chain g (walks g m blank FREE [] first (omega (arith, blank_length, z.high))
          (record { mark = λ t q. absurd (q (blank_at t)); mem = start })
          (omega (arith, nonzero_le (λ t. get_or blank t 0) (r + 2) (m - (r + 2)), z.low)))
        where
          start : (t : ℕ) → Mem t (FREE ∷ []) → t ≢ FREE → get_or blank t 0 ≢ 0
          start t (inl q) ne = absurd (ne q)
          start t (inr q) ne = absurd q

-- what Load answers is what was judged
load_answer : (m r : ℕ) (given edges : List (List ℕ)) (colours : List ℕ) (a : Answer)
    → (load_by m r given edges colours a).answer ≡ a
unfolding load_by
load_answer m r given edges colours a =
    split (λ (o : Outcome). o.answer ≡ a) _ _ _ (λ q. refl) (λ q. refl)

pub load_judged : (m r : ℕ) (given edges : List (List ℕ)) (colours : List ℕ)
    → Judged m r given edges colours (load m r given edges colours).answer
unfolding load
load_judged m r given edges colours =
    rw (load_answer m r given edges colours
    (pick (load_size_ok m r given edges colours) (judge m r given) (Refused 1 0 0)))
    (split (Judged m r given edges colours) _ _ _ (λ q. judged m r given edges colours q)
    (λ q. bad_size q))

-- no two answers are judged right
module _ (m r : ℕ) (given edges : List (List ℕ)) (colours : List ℕ) where
  abbrev J : Answer → Type 0
  J = Judged m r given edges colours

  no_both : {A : Type 0} → load_size_ok m r given edges colours ≡ false
      → load_size_ok m r given edges colours ≡ true → A
  no_both p q = absurd (false≢true (sym p ∙ q))

  free_once : {fs gs : List ℕ} → FreeChain r given fs → FreeChain r given gs → fs ≡ gs
  free_once {fs} {gs} c d =
      chain_unique (edge_of given) FREE fs gs c.chained.chain d.chained.chain

  judged_once : {a b : Answer} → J a → J b → a ≡ b
  judged_once (bad_size p) (bad_size q) = refl
  judged_once (bad_size p) (edge_met q b d) = no_both p q
  judged_once (bad_size p) (bad_chain q g c b) = no_both p q
  judged_once (bad_size p) (shared q g c l) = no_both p q
  judged_once (bad_size p) (accepted q a) = no_both p q
  judged_once (edge_met p a d) (bad_size q) = no_both q p
  judged_once (edge_met {n = n} {side = i} p a d) (edge_met {n = k} {side = j} q b e) =
      let same = lowest_once (BadNode m given) n k a b in
      ap₂ (Refused 11) same (lowest_once (BadSide m given n) i j d (rw (sym same) at e))
  judged_once (edge_met {n = n} p a d) (bad_chain q g c b) = absurd (good_none g n a.0)
  judged_once (edge_met {n = n} p a d) (shared q g c l) = absurd (good_none g n a.0)
  judged_once (edge_met {n = n} p a d) (accepted q b) = absurd (good_none b.edges n a.0)
  judged_once (bad_chain p g c b) (bad_size q) = no_both q p
  judged_once (bad_chain p g c b) (edge_met {n = n} q a d) = absurd (good_none g n a.0)
  judged_once (bad_chain p g c b) (bad_chain q h d e) =
      ap (λ (i : ℕ). Refused 12 i 0) (breaks_once c b d e)
  judged_once (bad_chain p g c b) (shared q h d l) = absurd (ends_whole (free_ends d) c b)
  judged_once (bad_chain p g c b) (accepted q a) = absurd (ends_whole (free_ends a.chain) c b)
  judged_once (shared p g c l) (bad_size q) = no_both q p
  judged_once (shared p g c l) (edge_met {n = n} q a d) = absurd (good_none g n a.0)
  judged_once (shared p g c l) (bad_chain q h d e) = absurd (ends_whole (free_ends c) d e)
  judged_once (shared {n = n} {fs = fs} p g c l) (shared {n = k} q h d e) =
      ap (λ (i : ℕ). Refused 13 i 0) (lowest_once (λ n. Mem n fs × SlotReaches r given n) n k l
      (rw (free_once d c) at e))
  judged_once (shared {n = n} p g c l) (accepted q a) = absurd
      (a.away n (rw (free_once c a.chain) at l.0.0) l.0.1)
  judged_once (accepted p a) (bad_size q) = no_both q p
  judged_once (accepted p a) (edge_met {n = n} q b d) = absurd (good_none a.edges n b.0)
  judged_once (accepted p a) (bad_chain q g c b) = absurd (ends_whole (free_ends a.chain) c b)
  judged_once (accepted p a) (shared {n = n} q g c l) = absurd
      (a.away n (rw (free_once c a.chain) at l.0.0) l.0.1)
  judged_once (accepted p a) (accepted q b) = ap Started
      (a.end ∙ ap (last_of FREE) (free_once a.chain b.chain) ∙ sym b.end)

pub load_judges : LoadJudges
load_judges m r given edges colours a = record {
  only = λ q. rw q at (load_judged m r given edges colours);
  always = λ j. judged_once m r given edges colours (load_judged m r given edges colours) j;
}

-- a refusal's code is not 0
some_code : {m r : ℕ} {given edges : List (List ℕ)} {colours : List ℕ} {code n detail : ℕ}
    → Judged m r given edges colours (Refused code n detail) → code ≢ 0
some_code (bad_size p) q = omega arith
some_code (edge_met p a d) q = omega arith
some_code (bad_chain p g c b) q = omega arith
some_code (shared p g c l) q = omega arith

module _ (m r : ℕ) (given edges : List (List ℕ)) (colours : List ℕ) where
  -- what is judged, and what Load answers
  judged_answer : (load m r given edges colours).answer
      ≡ pick (load_size_ok m r given edges colours) (judge m r given) (Refused 1 0 0)
  unfolding load
  judged_answer = load_answer m r given edges colours _

  left_done : (last : ℕ) → (load_by m r given edges colours (Started last)).state
      ≡ table given (tabulate all_white m) (fresh_record m r last (chain_length given m FREE))
  unfolding load_by
  left_done last =
      split (λ (o : Outcome). o.state
      ≡ table given (tabulate all_white m) (fresh_record m r last (chain_length given m FREE))) _
      _ _ (λ q. refl) (λ q. absurd (true≢false q))

  left_refused : (code n detail : ℕ) → code ≢ 0
      → (load_by m r given edges colours (Refused code n detail)).state
      ≡ table edges colours (fresh_record 0 0 0 0)
  unfolding load_by
  left_refused code n detail h =
      split (λ (o : Outcome). o.state ≡ table edges colours (fresh_record 0 0 0 0)) _ _ _
      (λ q. absurd (h (eqb-true _ _ q))) (λ q. refl)

  left_by : (a : Answer) → (load m r given edges colours).answer ≡ a
      → (load m r given edges colours).state ≡ (load_by m r given edges colours a).state
  unfolding load
  left_by a q =
      ap (λ (b : Answer). (load_by m r given edges colours b).state) (sym judged_answer ∙ q)

-- the turns along the chain are its free nodes, which are distinct nodes of the table
free_many : {m r : ℕ} {es : List (List ℕ)} {fs : List ℕ} → GoodEdges m es → FreeChain r es fs
    → chain_length es m FREE ≡ length fs
free_many {m} {r} {es} {fs} g c =
    turns_along es m FREE fs c.chained.chain
    (distinct_few 0 m fs c.chained.distinct (λ t a. omega (arith, inside t a)))
  where
    inside : (t : ℕ) → Mem t fs → t < m
    inside = chain_inside (edge_of es) m (λ n. (g.good 0 n).0) FREE fs c.chained.chain

accepted_good : {m r : ℕ} {given edges : List (List ℕ)} {colours : List ℕ} {last : ℕ}
    → Judged m r given edges colours (Started last) → GoodEdges m given
accepted_good (accepted p a) = a.edges

pub load_leaves : LoadLeaves
load_leaves m r given edges colours = record {
  done = λ last q fs c.
      let g = accepted_good ((load_judges m r given edges colours (Started last)).only q) in
      left_by m r given edges colours (Started last) q ∙ left_done m r given edges colours last
      ∙ ap (λ (n : ℕ). table given (tabulate all_white m) (fresh_record m r last n))
      (free_many g c);
  refused = λ code n detail q. left_by m r given edges colours (Refused code n detail) q
      ∙ left_refused m r given edges colours code n detail
      (some_code ((load_judges m r given edges colours (Refused code n detail)).only q));
}
