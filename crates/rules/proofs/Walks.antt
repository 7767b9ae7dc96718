-- The walk, turn by turn, and that it ends inside the table.
use Prim.Native.Nat.{ℕ, zero, suc, ◌-◌, ◌/◌, ◌%◌, ◌<◌, ◌≤◌, ◌+◌}
use mathlib.Core.Bool.{Bool, true, false}
use mathlib.Core.Path.{◌≡◌, refl, sym, subst, ◌∙◌}
use mathlib.Core.Logic.{◌≢◌}
use native.Mathlib.Omega.{arith}
use native.Mathlib.Numerals.{sub-one}
use borrow.Author.Tests.{ltb-true}
use lib.Dec.{ltb, eqb}
use Rattle.base.specs.Choice.{pick}
use Rattle.base.proofs.Tests.{split, lt_yes, every_skip, every_last}
use Rattle.rules.specs.Table.{bad_edge, FREE}
use Rattle.rules.specs.Places.{sides_ok, turns_ok, place_code, walk_from}
use Rattle.rules.specs.Editor.{side_code}
use Rattle.rules.specs.declared.Place.{Place}
use Rattle.rules.specs.Places.{Walk}
use Rattle.std.specs.Prelude.{Ok, Err}
use Rattle.rules.proofs.Laws.{fine_edge, not_free}

pub slot_below : (E r : ℕ) (p : Place) → 0 ≡ place_code E r p → p.slot < r
unfolding place_code pick
slot_below E r p e = go (ltb p.slot r) refl e
  where
    go : (b : Bool) → ltb p.slot r ≡ b → ◌≡◌ {A = ℕ} 0 (pick b (pick (turns_ok E p) 0 4) 3)
        → p.slot < r
    go true q h = ltb-true _ _ q
    go false q h = absurd (omega arith)

pub side_below : (E side : ℕ) → 0 ≡ side_code E side → side < E
unfolding side_code
side_below E side =
    split (λ (n : ℕ). 0 ≡ n → side < E) _ _ _ (λ a e. ltb-true side E a)
    (λ a e. absurd (omega arith))

module _ (b : ℕ) (edges : ℕ → ℕ → ℕ) (m : ℕ) where
  one : (k w n : ℕ) → 0 < k
      → walk_from b edges m k w n ≡ pick (eqb n 0) (Ok 0)
      (pick (bad_edge m (edges (w % b) n)) (Err (record { node = n; side = w % b }))
      (walk_from b edges m (k - 1) (w / b) (edges (w % b) n)))
  unfolding walk_from
  one zero w n h = absurd (omega arith)
  one (suc k) w n h = rw sub-one

  -- one turn, after i of k
  pub turn : (k i w n : ℕ) → i < k
      → walk_from b edges m (k - i) w n ≡ pick (eqb n 0) (Ok 0)
      (pick (bad_edge m (edges (w % b) n)) (Err (record { node = n; side = w % b }))
      (walk_from b edges m (k - (i + 1)) (w / b) (edges (w % b) n)))
  turn k i w n h =
      let less : k - i - 1 ≡ k - (i + 1) = omega arith in
      rw (← less) (one (k - i) w n (omega arith))

  pub arrived : (k w n : ℕ) → k ≤ 0 → Ok n ≡ walk_from b edges m k w n
  unfolding walk_from
  arrived zero w n h = refl
  arrived (suc k) w n h = absurd (omega arith)

abbrev pub Below : ℕ → Walk → Type 0
Below m (Ok n) = n < m
Below m (Err d) = d.node < m

pub below : (b : ℕ) (edges : ℕ → ℕ → ℕ) (m k w n : ℕ) → n < m → Below m (walk_from b edges m k w n)
unfolding walk_from
below b edges m zero w n h = h
below b edges m (suc k) w n h =
    split (Below m) _ _ _ (λ z. omega arith) (λ z.
    split (Below m) _ _ _ (λ q. h) (λ q. below b edges m k _ _ (fine_edge m _ (sym q))))

-- where a walk arrives
pub at_below : (b : ℕ) (edges : ℕ → ℕ → ℕ) (m k w n t : ℕ) (v : Walk) → v ≡ walk_from b edges m k w n
    → v ≡ Ok t → n < m → t < m
at_below b edges m k w n t v e q h = subst (Below m) (sym e ∙ q) (below b edges m k w n h)

-- a bit is a side of a table of two edges
pub two_sides : (k w : ℕ) → true ≡ sides_ok 2 k w
unfolding sides_ok
two_sides zero w = refl
two_sides (suc k) w = every_skip _ _ _ (lt_yes (w % 2) 2 (omega arith))
    (every_last _ _ (two_sides k (w / 2)))

-- a walk from a node that a shade may be owed to ends at one: not at FREE
abbrev pub Ends : ℕ → Walk → Type 0
Ends m (Ok n) = (n ≢ FREE) × (n < m)
Ends m (Err d) = Unit {0}

pub ends : (b : ℕ) (edges : ℕ → ℕ → ℕ) (m k w n : ℕ) → n ≢ FREE → n < m
    → Ends m (walk_from b edges m k w n)
unfolding walk_from
ends b edges m zero w n f h = (f, h)
ends b edges m (suc k) w n f h =
    split (Ends m) _ _ _ (λ z. (λ q. omega arith, omega arith)) (λ z.
    split (Ends m) _ _ _ (λ q. tt)
    (λ q. ends b edges m k _ _ (not_free m _ (sym q)) (fine_edge m _ (sym q))))
