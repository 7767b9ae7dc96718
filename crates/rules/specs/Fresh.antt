-- The section Fresh of docs/RULES.md.
use Rattle.base.specs.Choice.{pick}
use Rattle.std.specs.Prelude.{ℕ, zero, suc, ◌+◌, ◌-◌, List, [], ◌∷◌, ◌++◌, map, length, replicate, ltb, eqb}
use Rattle.rules.specs.Table.{State, Outcome, table, refused, white, FREE}
use Rattle.rules.specs.Records.{fresh_record}
use Rattle.rules.specs.Check.{size_ok}
use Rattle.rules.specs.declared.Answer.TheVariants.{Started}

-- f 0, f 1, .., f (n - 1)
unfoldable pub tabulate : (ℕ → ℕ) → ℕ → List ℕ
tabulate f zero = []
tabulate f (suc n) = tabulate f n ++ (f n ∷ [])

-- [Fresh 3] the node after n on the free list of a fresh table; 0 after the last
unfoldable pub next_free : ℕ → ℕ → ℕ
next_free m n = pick (ltb (n + 1) m) (n + 1) 0

-- [Fresh 3] the left edges of the free list, FREE's among them [Table 6]; [Fresh 4] any other is 0
unfoldable pub fresh_left : ℕ → ℕ → ℕ → ℕ
fresh_left m r n = pick (eqb n FREE) (next_free m (r + 1)) (pick (ltb n (r + 2)) 0 (next_free m n))

-- [Fresh 4] the edges on the other sides
abbrev pub no_edge : ℕ → ℕ
no_edge n = 0

-- [Fresh 2]
abbrev pub all_white : ℕ → ℕ
all_white n = white

-- [Record 5] the last free node; FREE where none is free
unfoldable pub fresh_last : ℕ → ℕ → ℕ
fresh_last m r = pick (ltb (r + 2) m) (m - 1) FREE

-- [Fresh 5] all nodes but the roots are free [Record 13]
unfoldable pub fresh_state : ℕ → ℕ → ℕ → State
fresh_state E m r =
    table (tabulate (fresh_left m r) m ∷ replicate (E - 1) (tabulate no_edge m)) (tabulate all_white m)
    (fresh_record m r (fresh_last m r) (m - (r + 2)))

-- [Fresh 1] whatever the lists held; [Fresh 6] answers last; [Fresh 7] [Fresh 8] or is refused
unfoldable pub fresh : ℕ → ℕ → List (List ℕ) → List ℕ → Outcome
fresh m r edges colours =
    pick (size_ok m r (map length edges) (length colours))
    (record { answer = Started (fresh_last m r); state = fresh_state (length edges) m r })
    (record { answer = refused 1 0; state = table edges colours (fresh_record 0 0 0 0) })
