-- What the answer of a step tells of the state in which the step was made: which damage it met, and
-- where. No step is named here. The section Damage of docs/RULES.md.
use Rattle.std.specs.Prelude.{ℕ, ◌+◌, ◌≤◌, ◌<◌, ◌≡◌, ◌≢◌, ◌⊎◌}
use Rattle.rules.specs.Table.{State, sides, FREE, left, edge, colour_of, white, gray, black}
use Rattle.rules.specs.Table.{gray_node, white_root, white_last}
use Rattle.rules.specs.Steps.{step, code_of, detail_of}
use Rattle.rules.specs.declared.Step.{Step}
use Rattle.rules.specs.declared.Phase.TheVariants.{Append}
use Rattle.rules.specs.declared.Answer.{Answer}
use Rattle.rules.specs.declared.Answer.TheVariants.{Refused}

module _ (s : State) where
  -- [Damage 1] an edge that is bad, [Damage 2] and one of the free list
  abbrev pub Bad : ℕ → Type 0
  Bad e = (s.rec.m ≤ e) ⊎ (e ≡ FREE)

  abbrev pub BadFree : ℕ → Type 0
  BadFree e = (s.rec.m ≤ e) ⊎ ((1 ≤ e) × (e ≤ s.rec.r + 1))

  -- [Answers 3] [Answers 5] the node and the detail, by the code
  pub data Means : Answer → Type 0 where
    done : {a : Answer} → code_of a ≡ 0 → detail_of a ≡ 0 → Means a
    -- [Codes 7] the edge of node n on the side told
    edge_met : {n side : ℕ} → side < sides s → Bad (edge s side n) → Means (Refused 7 n side)
    -- [Codes 7] the left edge of FREE, or of the first free node
    free_met : {n : ℕ} → (n ≡ FREE) ⊎ (n ≡ edge s left FREE) → BadFree (edge s left n)
        → Means (Refused 7 n left)
    -- [Codes 14] the colour of node n
    colour_met : {n : ℕ} → black < colour_of s n → Means (Refused 14 n 0)
    -- [Codes 15] the node i at which Append is: gray, or white and a root, or white and last
    gray_met : {i : ℕ} → s.rec.phase ≡ Append i → colour_of s i ≡ gray
        → Means (Refused 15 i gray_node)
    root_met : {i : ℕ} → s.rec.phase ≡ Append i → colour_of s i ≡ white → i ≤ s.rec.r + 1
        → Means (Refused 15 i white_root)
    last_met : {i : ℕ} → s.rec.phase ≡ Append i → colour_of s i ≡ white → s.rec.r + 1 < i
        → i ≡ s.rec.last → Means (Refused 15 i white_last)
    -- any other code comes with neither
    other : {code : ℕ} → code ≤ 10 → code ≢ 0 → code ≢ 7 → Means (Refused code 0 0)

abbrev pub DamageMeant : Type 0
DamageMeant = (c : Step) (s : State) → Means s (step c s).answer
