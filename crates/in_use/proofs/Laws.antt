-- Laws of the definition that the proofs cite: what is answered of the numbers met.
use Prim.Native.Nat.{ℕ, ◌+◌, ◌-◌, ◌≤◌}
use mathlib.Core.Bool.{true}
use mathlib.Core.Path.{◌≡◌, refl, sym, ap}
use mathlib.Core.List.{List}
use native.Mathlib.Omega.{arith}
use Rattle.std.specs.Prelude.{Option, Some, None}
use Rattle.base.proofs.Tests.{lt_yes, lt_no, pick_yes, pick_no, code_yes, code_no}
use Rattle.rules.specs.Table.{State, most_nodes, bad_edge}
use Rattle.rules.specs.Check.{check}
use Rattle.rules.specs.Meet.{meet, any_edge, first_side}
use Rattle.rules.specs.InUse.{is_hurt, first_hurt, hurt_at, count_met, in_use}
use Rattle.rules.specs.declared.Answer.{Answer}
use Rattle.rules.specs.declared.Answer.TheVariants.{Counted, Refused}
use Rattle.reach.proofs.Kept.{top}
use Rattle.reach.proofs.Lowests.{Passes, lowest_passes}
use Rattle.reach.proofs.Given.{every_two}
use Rattle.reach.proofs.Meets.{meet_numbers}
use Rattle.meet.specs.Shown.{Told}

-- what `meet` tells
module _ {m : ℕ} (r : ℕ) {es : List (List ℕ)} {marks : List ℕ} {tail : ℕ} {h : Option ℕ}
    (w : Told m es marks tail h (meet m r es)) where
  -- the numbers given are at least the slots', and no more than there are nodes
  pub tail_fits : r + 2 ≤ m → m ≤ most_nodes → (r + 2 ≤ tail) × (tail ≤ m)
  tail_fits room few =
      let n = meet_numbers m r es room few in
      rw w.end (n.start, top n.kept (omega arith))

  -- n is the first hurt node: it has a bad edge, and is refused
  module _ (n : ℕ) (e : h ≡ Some n) where
    first : n ≡ first_hurt m es (meet m r es).num
    first = rw e at w.first

    pub hurt_has : true ≡ any_edge (bad_edge m) es n
    unfolding first_hurt is_hurt
    hurt_has =
        let l : Passes (is_hurt m es (meet m r es).num) 0 m (first_hurt m es (meet m r es).num) =
        lowest_passes _ m in
        let k = rw (sym first) at l in
        sym (every_two _ _ (every_two _ _ (k.passes (w.inside n e))).1).0

    pub met_hurt : (side : ℕ) → side ≡ first_side (bad_edge m) es n
        → Refused 7 n side ≡ count_met m r es (meet m r es)
    unfolding count_met hurt_at
    met_hurt side q =
        rw (← first, q) (pick_yes _ _ _ _ (lt_yes n m (w.inside n e)) refl)

  -- there is none: the numbers beyond the slots' are counted
  pub met_whole : h ≡ None → Counted (tail - (r + 2)) ≡ count_met m r es (meet m r es)
  unfolding count_met
  met_whole e =
      let first : m ≡ first_hurt m es (meet m r es).num = rw e at w.first in
      rw (← first, w.end) (pick_no _ _ _ _ (lt_no m m (omega arith)) refl)

-- code is what the check answered
module _ (s : State) (code : ℕ) (e : code ≡ check s) where
  pub in_use_refused : (code ≡ 0 → ⊥) → Refused code 0 0 ≡ in_use s
  unfolding in_use
  in_use_refused h = pick_no _ _ _ _ (code_no _ _ _ e h) (ap (λ (c : ℕ). Refused c 0 0) e)

  pub in_use_counted : (a : Answer) → code ≡ 0
      → a ≡ count_met s.rec.m s.rec.r s.edges (meet s.rec.m s.rec.r s.edges)
      → a ≡ in_use s
  unfolding in_use
  in_use_counted a h q = pick_yes _ _ _ _ (code_yes _ _ _ e h) q
