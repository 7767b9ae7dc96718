-- At a gray node with two good edges six steps are: shade, shade, blacken. No editor comes between
-- them, so each number read is shaded while its edge still leads there.
use Prim.Native.Nat.{ℕ, ◌+◌, ◌≤◌, ◌<◌}
use mathlib.Core.Path.{◌≡◌, refl, sym, ap, ◌∙◌}
use mathlib.Core.Bool.{Bool, true, false}
use mathlib.Core.List.{List}
use lib.ListN.{length, get_or, set}
use lib.Seq.{get_or-set_same, get_or-set_other}
use lib.Dec.{eqb}
use borrow.Author.Tests.{eqb-true, eqb-false}
use native.Mathlib.Omega.{arith}
use Rattle.base.proofs.Tests.{split, pick_yes, pick_no, lt_no, le_no, eq_yes, eq_no, or_skip}
use Rattle.rules.specs.declared.Record.{Record}
use Rattle.rules.specs.declared.Phase.{Phase}
use Rattle.rules.specs.declared.Phase.TheVariants.{Scan, Left, ShadeLeft, Right}
use Rattle.rules.specs.declared.Phase.TheVariants.{ShadeRight, Black}
use Rattle.rules.specs.declared.Answer.TheVariants.{Looked, Shaded, Blackened}
use Rattle.rules.specs.Table.{State, state, did, colour_of, edge_of, shade_in, shade, bad_edge}
use Rattle.rules.specs.Records.{with_steps, moved, rescan}
use Rattle.rules.specs.Check.{bound}
use Rattle.rules.specs.Collector.{shade_step, scan_step, read_step, black_step, phase_step}
use Rattle.rules.specs.Changes.{differing}
use Rattle.rules.proofs.Changes.{unchanged, one_blackened, shaded_length, two_shaded}
use Rattle.rules.proofs.Checked.{good, inside}
use Rattle.ahead.specs.Leads.{Passes, Leads, CanShade}
use Rattle.ahead.proofs.Strides.{then, free_fits, step_on}

-- the record after the visit of node i
abbrev pub visited : Record → ℕ → Record
visited x i = with_steps (rescan x i) (x.steps + 6)

look_gray : (s : State) (i k : ℕ) → colour_of s i ≡ 1 → did (Looked i) s (moved s.rec (Left i))
    ≡ phase_step s (Scan i k)
unfolding phase_step scan_step
look_gray s i k h =
    pick_no _ _ _ _ (lt_no 2 (colour_of s i) (omega arith)) (pick_yes _ _ _ _ (eq_yes _ _ h) refl)

read_on : (s : State) (i side e : ℕ) (p : Phase) → CanShade s.rec.m s.colour e
    → did (Looked i) s (moved s.rec p) ≡ read_step s i side e p
unfolding read_step bad_edge
read_on s i side e p f =
    pick_no _ _ _ _ (or_skip _ _ _ (le_no _ _ f.below) (eq_no _ _ f.not_free)) refl

shade_on : (s : State) (e : ℕ) (p : Phase) → CanShade s.rec.m s.colour e
    → did (Shaded e) (shade s e) (moved s.rec p) ≡ shade_step s e p
unfolding shade_step
shade_on s e p f = pick_no _ _ _ _ (lt_no _ _ f.colour) refl

-- shading a node leaves good colours good
still_can_shade : (m : ℕ) (c : List ℕ) (e f : ℕ) → e < length c → CanShade m c f
    → CanShade m (shade_in c e) f
unfolding shade_in
still_can_shade m c e f v h = record {
  below =
      h.below;
  not_free = h.not_free;
  colour = split (λ (a : List ℕ). get_or a f 0 ≤ 2) _ _ _
      (λ q. go (eqb e f) refl) (λ q. h.colour);
}
  where
    go : (b : Bool) → eqb e f ≡ b → get_or (set c e 1) f 0 ≤ 2
    go true q = let z = eqb-true e f q in rw (← z, get_or-set_same c e 1 0 v) (omega arith)
    go false q = rw (get_or-set_other c e f 1 0 (λ z. eqb-false e f q (sym z))) h.colour

-- shading leaves gray gray
pub gray_kept : (c : List ℕ) (n i : ℕ) → get_or c i 0 ≡ 1 → get_or (shade_in c n) i 0 ≡ 1
unfolding shade_in
gray_kept c n i h =
    split (λ (a : List ℕ). get_or a i 0 ≡ 1) _ _ _
    (λ q. rw (get_or-set_other c n i 1 0 (λ z. absurd (differ z (eqb-true _ _ q)))) h) (λ q. h)
  where
    differ : i ≡ n → get_or c n 0 ≡ 0 → ⊥
    differ z w = let y : get_or c i 0 ≡ 0 = rw z w in omega arith

module _ (l r c : List ℕ) (x : Record) (i k : ℕ) (p : Passes (state l r c x))
    (h : x.phase ≡ Scan i k) where
  -- a gray node turns black, beside the colours that shading changes
  one_black : (e f : ℕ) → get_or c i 0 ≡ 1
      → 1 ≡ differing (shade_in (shade_in c e) f) (set (shade_in (shade_in c e) f) i 2)
  one_black e f gray =
      let g = good _ _ _ x p.code in
      let s = rw h at (inside _ _ x p.code) in
      let m = shaded_length c e in
      let n = shaded_length (shade_in c e) f in
      let v = gray_kept (shade_in c e) f i (gray_kept c e i gray) in
      one_blackened _ i (omega (arith, s.0, g.colours)) (λ z. omega arith)

  pub visits : get_or c i 0 ≡ 1 → CanShade x.m c (get_or l i 0) → CanShade x.m c (get_or r i 0)
      → x.steps + 6 < bound 2 x.m x.r → x.blackened < x.m
      → Leads (state l r c x) 6
      (differing c (shade_in (shade_in c (get_or l i 0)) (get_or r i 0)) + 1)
      (state l r (set (shade_in (shade_in c (get_or l i 0)) (get_or r i 0)) i 2) (visited x i))
  unfolding phase_step black_step edge_of
  visits gray left right room dark =
      let g = good _ _ _ x p.code in
      let e = get_or l i 0 in
      let f = get_or r i 0 in
      let y1 = moved x (Left i) in
      let z1 = moved y1 (ShadeLeft i e) in
      let y2 = moved z1 (Right i) in
      let z2 = moved y2 (ShadeRight i f) in
      let y3 = moved z2 (Black i) in
      let c1 = shade_in c e in
      let c2 = shade_in c1 f in
      let v1 = differing c c1 in
      let v2 = differing c1 c2 in
      let a1 =
      step_on (state l r c x) (did (Looked i) (state l r c x) y1) 0 p
      (look_gray (state l r c x) i k gray ∙ ap (phase_step (state l r c x)) (sym h)) refl
      g.blackened (omega arith) (free_fits p) (unchanged c) in
      let b1 =
      step_on (state l r c y1) _ 0 a1.passes
      (read_on (state l r c y1) i 0 e (ShadeLeft i e) left) refl g.blackened (omega arith)
      (free_fits a1.passes) (unchanged c) in
      let a2 =
      step_on (state l r c z1) _ v1 b1.passes (shade_on (state l r c z1) e (Right i) left) refl
      g.blackened (omega arith) (free_fits b1.passes) refl in
      let right1 = still_can_shade _ c e f (omega (arith, g, left)) right in
      let b2 =
      step_on (state l r c1 y2) _ 0 a2.passes
      (read_on (state l r c1 y2) i 1 f (ShadeRight i f) right1) refl g.blackened (omega arith)
      (free_fits a2.passes) (unchanged c1) in
      let a3 =
      step_on (state l r c1 z2) _ v2 b2.passes (shade_on (state l r c1 z2) f (Black i) right1)
      refl g.blackened (omega arith) (free_fits b2.passes) refl in
      let a4 =
      step_on (state l r c2 y3) (did (Blackened i) (state l r (set c2 i 2) y3) (rescan y3 i)) 1
      a3.passes refl refl (omega arith) (omega arith) (free_fits a3.passes)
      (one_black e f gray) in
      let z : x.steps + 1 + 1 + 1 + 1 + 1 + 1 ≡ x.steps + 6 = omega arith in
      let two = two_shaded c e f (omega (arith, g, left)) (omega (arith, g, right)) in
      let all : differing c c2 + 1 ≡ 0 + (v1 + (v2 + 1)) = omega arith in
      let none : v1 + (v2 + 1) ≡ 0 + (v1 + (v2 + 1)) = omega arith in
      let none2 : v2 + 1 ≡ 0 + (v2 + 1) = omega arith in
      rw (z) at (then _ _ _ 1 5 _ 0 _ _ refl all a1
      (then _ _ _ 1 4 _ 0 _ _ refl none b1
      (then _ _ _ 1 3 _ v1 _ _ refl refl a2
      (then _ _ _ 1 2 _ 0 _ _ refl none2 b2 (then _ _ _ 1 1 _ v2 1 _ refl refl a3 a4)))))
