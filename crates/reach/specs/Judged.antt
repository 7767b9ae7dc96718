-- What Load's answers mean: lists are accepted exactly when they make a table, and each refusal
-- tells which node breaks which condition. Nothing is said of garbage but that its edges are good
-- [Load 8].
use Rattle.std.specs.Prelude.{ℕ, ◌+◌, ◌≤◌, ◌<◌, true, false, ◌≡◌, ◌≢◌, ◌⊎◌, List, [], ◌∷◌, length}
use Rattle.rules.specs.Table.{table, NIL, FREE, left, right, edge_of}
use Rattle.rules.specs.Records.{fresh_record}
use Rattle.rules.specs.Fresh.{tabulate, all_white}
use Rattle.rules.specs.Load.{load_size_ok, load}
use Rattle.rules.specs.declared.Answer.{Answer}
use Rattle.rules.specs.declared.Answer.TheVariants.{Started, Refused}
use Rattle.theory.specs.Reach.{Reach, Root, Slot}
use Rattle.theory.specs.Free.{Mem, last_of, FreeList}

-- [Load 9] some slot reaches n
abbrev pub SlotReaches : ℕ → List (List ℕ) → ℕ → Type 0
SlotReaches r es n = Reach (length es) (Slot (r + 2)) (edge_of es) n

-- P holds of n, and of no lower number
abbrev pub Lowest : (ℕ → Type 0) → ℕ → Type 0
Lowest P n = P n × ((k : ℕ) → k < n → ¬ P k)

-- [Codes 11] the edge of node n on a side is bad [Damage 1], or is NIL's and not 0
abbrev pub BadSide : ℕ → List (List ℕ) → ℕ → ℕ → Type 0
BadSide m es n side =
    (side < length es)
    × ((m ≤ edge_of es side n) ⊎ (edge_of es side n ≡ FREE)
    ⊎ ((n ≡ NIL) × (edge_of es side n ≢ 0)))

-- [Codes 11] a node that has such an edge
abbrev pub BadNode : ℕ → List (List ℕ) → ℕ → Type 0
BadNode m es n = (n < m) × ((side : ℕ) × BadSide m es n side)

-- [Load 8] edges are good, and NIL's are 0
pub record GoodEdges (m : ℕ) (es : List (List ℕ)) : Type 0 where
  pub good : (side n : ℕ) → (edge_of es side n < m) × (edge_of es side n ≢ FREE)
  pub nil : (side : ℕ) → edge_of es side NIL ≡ 0

-- [Codes 12] the node n, to which the chain comes after the nodes ps, has a right edge, or its left
-- edge leads to a slot's node, to one of ps or to n itself
pub data Breaks (r : ℕ) (es : List (List ℕ)) (ps : List ℕ) (n : ℕ) : Type 0 where
  right_edge : edge_of es right n ≢ 0 → Breaks r es ps n
  to_slot : Slot (r + 2) (edge_of es left n) → Breaks r es ps n
  to_passed : Mem (edge_of es left n) (n ∷ ps) → Breaks r es ps n

-- [Load 5] the chain comes to n: from FREE along left edges, after the nodes ps, the latest first,
-- none of which breaks it
pub data Comes (r : ℕ) (es : List (List ℕ)) : List ℕ → ℕ → Type 0 where
  first : Comes r es [] FREE
  next : {ps : List ℕ} {p n : ℕ} → Comes r es ps p → ¬ Breaks r es ps p → edge_of es left p ≡ n
      → n ≢ NIL → Comes r es (p ∷ ps) n

-- [Load 5] fs are the free nodes: the chain from FREE ends and repeats no node, holds no root, and
-- right edges on it are 0
pub record FreeChain (r : ℕ) (es : List (List ℕ)) (fs : List ℕ) : Type 0 where
  pub chained : FreeList (edge_of es) fs
  pub no_root : (n : ℕ) → Mem n fs → ¬ Root (r + 2) n
  pub bare : (n : ℕ) → Mem n (FREE ∷ fs) → edge_of es right n ≡ 0

-- [Load 8] the lists make a table, with this last
pub record Accepted (m r : ℕ) (es : List (List ℕ)) (last : ℕ) : Type 0 where
  pub edges : GoodEdges m es
  pub free : List ℕ
  pub chain : FreeChain r es free
  pub away : (n : ℕ) → Mem n free → ¬ SlotReaches r es n
  pub end : last ≡ last_of FREE free

-- of a call: it answers a exactly when what must hold for that answer does
pub record Exactly (answer : Answer) (Means : Answer → Type 0) (a : Answer) : Type 0 where
  pub only : answer ≡ a → Means a
  pub always : Means a → answer ≡ a

-- [Load 7] the answers, each with what must hold for it
module _ (m r : ℕ) (given edges : List (List ℕ)) (colours : List ℕ) where
  -- [Load 6] the sizes are good
  abbrev pub Sized : Type 0
  Sized = load_size_ok m r given edges colours ≡ true

  pub data Judged : Answer → Type 0 where
    bad_size : load_size_ok m r given edges colours ≡ false → Judged (Refused 1 0 0)
    edge_met : {n side : ℕ} → Sized → Lowest (BadNode m given) n
        → Lowest (BadSide m given n) side → Judged (Refused 11 n side)
    bad_chain : {n : ℕ} {ps : List ℕ} → Sized → GoodEdges m given → Comes r given ps n
        → Breaks r given ps n → Judged (Refused 12 n 0)
    shared : {n : ℕ} {fs : List ℕ} → Sized → GoodEdges m given → FreeChain r given fs
        → Lowest (λ n. Mem n fs × SlotReaches r given n) n → Judged (Refused 13 n 0)
    accepted : {last : ℕ} → Sized → Accepted m r given last → Judged (Started last)

abbrev pub LoadJudges : Type 0
LoadJudges =
    (m r : ℕ) (given edges : List (List ℕ)) (colours : List ℕ) (a : Answer)
    → Exactly (load m r given edges colours).answer (Judged m r given edges colours) a

-- [Load 1] [Load 2] [Load 3] the table that Load makes: where fs are the free nodes, the free count
-- is the length of their list; [Load 11] where it is refused, none
pub record Leaves (m r : ℕ) (given edges : List (List ℕ)) (colours : List ℕ) : Type 0 where
  pub done : (last : ℕ) → (load m r given edges colours).answer ≡ Started last → (fs : List ℕ)
      → FreeChain r given fs → (load m r given edges colours).state
      ≡ table given (tabulate all_white m) (fresh_record m r last (length fs))
  pub refused : (code n detail : ℕ) → (load m r given edges colours).answer ≡ Refused code n detail
      → (load m r given edges colours).state ≡ table edges colours (fresh_record 0 0 0 0)

abbrev pub LoadLeaves : Type 0
LoadLeaves =
    (m r : ℕ) (given edges : List (List ℕ)) (colours : List ℕ) → Leaves m r given edges colours
