-- What In use answers: the number of nodes that slots reach, or the lowest that is damaged.
use Rattle.base.specs.Choice.{pick}
use Rattle.std.specs.Prelude.{ℕ, suc, ◌+◌, ◌≤◌, ◌<◌, ◌≡◌, ◌≢◌, ◌⊎◌, List, length, eqb}
use Rattle.rules.specs.Table.{State, NIL, FREE, edge_of}
use Rattle.rules.specs.Check.{check}
use Rattle.rules.specs.InUse.{in_use}
use Rattle.rules.specs.declared.Answer.{Answer}
use Rattle.rules.specs.declared.Answer.TheVariants.{Counted, Refused}
use Rattle.theory.specs.Reach.{Reach, Slot}
use Rattle.reach.specs.Numbered.{GoodReaches}
use Rattle.reach.specs.Judged.{SlotReaches, Lowest, Exactly}

-- k of the numbers below m have P
pub data Number (P : ℕ → Type 0) : ℕ → ℕ → Type 0 where
  none : Number P 0 0
  one : {m k : ℕ} → P m → Number P m k → Number P (suc m) (suc k)
  skip : {m k : ℕ} → ¬ P m → Number P m k → Number P (suc m) k

-- the edges of a table, of which NIL's are not read
unfoldable pub read_edge : List (List ℕ) → ℕ → ℕ → ℕ
read_edge es side n = pick (eqb n NIL) NIL (edge_of es side n)

-- [In use 1] some slot reaches node n, which is neither NIL nor a slot's
abbrev pub InUse : ℕ → List (List ℕ) → ℕ → Type 0
InUse r es n = (r + 2 ≤ n) × Reach (length es) (Slot (r + 2)) (read_edge es) n

-- [Damage 1] the edge of node n on a side is bad
abbrev pub BadEdge : ℕ → List (List ℕ) → ℕ → ℕ → Type 0
BadEdge m es n side = (side < length es) × ((m ≤ edge_of es side n) ⊎ (edge_of es side n ≡ FREE))

-- one of its edges is
abbrev pub BadEdges : ℕ → List (List ℕ) → ℕ → Type 0
BadEdges m es n = (side : ℕ) × BadEdge m es n side

-- [In use 2] slots reach node n, which is not NIL, along good edges, and one of its edges is bad
abbrev pub Hurt : ℕ → ℕ → List (List ℕ) → ℕ → Type 0
Hurt m r es n = (n ≢ NIL) × (n < m) × GoodReaches m r es n × BadEdges m es n

-- [In use 2] the answers, each with what must hold for it
module _ (s : State) where
  abbrev pub HurtNode : ℕ → Type 0
  HurtNode = Hurt s.rec.m s.rec.r s.edges

  abbrev pub NodeInUse : ℕ → Type 0
  NodeInUse = InUse s.rec.r s.edges

  pub data Counts : Answer → Type 0 where
    bad_size : check s ≡ 1 → Counts (Refused 1 0 0)
    bad_record : check s ≡ 2 → Counts (Refused 2 0 0)
    damaged : {n side : ℕ} → check s ≡ 0 → Lowest HurtNode n
        → Lowest (BadEdge s.rec.m s.edges n) side → Counts (Refused 7 n side)
    counted : {k : ℕ} → check s ≡ 0 → ((n : ℕ) → ¬ HurtNode n)
        → Number NodeInUse s.rec.m k → Counts (Counted k)

abbrev pub InUseCounts : Type 0
InUseCounts = (s : State) (a : Answer) → Exactly (in_use s) (Counts s) a

-- where NIL's edges are 0, what is in use is what a slot reaches along the edges as they are
pub record Reached (r : ℕ) (es : List (List ℕ)) (n : ℕ) : Type 0 where
  pub reached : InUse r es n → SlotReaches r es n
  pub in_use : r + 2 ≤ n → SlotReaches r es n → InUse r es n

abbrev pub InUseReached : Type 0
InUseReached =
    (r : ℕ) (es : List (List ℕ)) → ((side : ℕ) → edge_of es side NIL ≡ 0) → (n : ℕ)
    → Reached r es n
