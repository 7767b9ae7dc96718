-- What the step of a phase comes to, whatever the phase: one of the seven below. What is shown of
-- these holds of every collector step, so only this file goes through the phases.
use Prim.Native.Nat.{ℕ, ◌+◌, ◌-◌, ◌≤◌, ◌<◌}
use mathlib.Core.Path.{◌≡◌, refl, sym, ◌∙◌}
use mathlib.Core.Bool.{Bool, true, false, not, ◌||◌, true≢false}
use mathlib.Core.List.{[], ◌∷◌}
use mathlib.Core.Logic.{◌≢◌}
use native.Mathlib.Omega.{arith}
use native.Mathlib.Nat.{mod-lt}
use lib.Dec.{ltb, leb, eqb}
use borrow.Author.Tests.{ltb-true, leb-true, leb-false, eqb-true, eqb-false}
use Rattle.base.specs.Choice.{pick, every}
use Rattle.base.proofs.Tests.{split, le_yes, lt_yes, eq_no, pick_yes, pick_no}
use Rattle.base.proofs.Tests.{not_is, every_skip, every_last}
use Rattle.rules.specs.Table.{State, Outcome, did, refuse, unless, white, black, left, right}
use Rattle.rules.specs.Table.{edge, colour_of, with_colour, shade, FREE, bad_edge, bad_colour}
use Rattle.rules.specs.Phases.{roots_tag, scan_tag, tag_of, position, second, has_second}
use Rattle.rules.specs.Records.{with_last, more_free, moved, marked, next, rescan, after_append}
use Rattle.rules.specs.Check.{position_ok, second_ok, phase_ok, check}
use Rattle.rules.specs.Facts.{InRange, quiet, Nears}
use Rattle.rules.specs.Steps.{code_of, detail_of}
use Rattle.rules.specs.Damage.{Means, colour_met, gray_met, root_met, last_met, other}
use Rattle.rules.specs.Collector.{shade_step, after_roots, scan_step, read_step, black_step}
use Rattle.rules.specs.Collector.{append, append_white, append_step, phase_step, collect}
use Rattle.rules.specs.declared.Answer.{Answer}
use Rattle.rules.specs.declared.Answer.TheVariants.{Shaded, Looked, Blackened, Whitened}
use Rattle.rules.specs.declared.Answer.TheVariants.{Appended}
use Rattle.rules.specs.declared.Phase.{Phase}
use Rattle.rules.specs.declared.Phase.TheVariants.{Roots, Scan, Left, ShadeLeft, Right}
use Rattle.rules.specs.declared.Phase.TheVariants.{ShadeRight, Black, Append}
use Rattle.rules.proofs.Checked.{m_low, inside}
use Rattle.rules.proofs.Refusals.{check_early, is_gray, damaged}

or_no : (a b : Bool) → a || b ≡ false → a ≡ false
or_no true b e = e
or_no false b e = refl

only_first : (z a b : Bool) → z ≡ a → true ≡ b → z ≡ every (a ∷ b ∷ [])
unfolding every
only_first z true true h k = h
only_first z true false h k = absurd (true≢false k)
only_first z false b h k = h

-- the test of a phase: of Roots, and of any other that has no second number
pub roots_test : (m r i : ℕ) → leb i (r + 1) ≡ phase_ok m r (Roots i)
unfolding phase_ok position_ok second_ok pick
roots_test m r i = only_first _ _ _ refl refl

pub node_test : (m r : ℕ) (p : Phase) → roots_tag < tag_of p → has_second (tag_of p) ≡ false
    → ltb (position p) m ≡ phase_ok m r p
unfolding phase_ok position_ok second_ok
node_test m r p t e =
    only_first _ _ _ (pick_no _ _ _ _ (eq_no (tag_of p) roots_tag (λ z. omega arith)) refl)
    (pick_no _ _ _ _ (sym (or_no _ _ e)) (pick_no _ _ _ _ (sym e) refl))

flat : (z a b c d : Bool) → z ≡ a → every (b ∷ c ∷ []) ≡ d
    → every (z ∷ b ∷ c ∷ []) ≡ every (a ∷ d ∷ [])
unfolding every
flat true a b c d h k = rw (← h, ← k) (last_two b c)
  where
    last_two : (b c : Bool) → every (true ∷ b ∷ c ∷ []) ≡ every (true ∷ every (b ∷ c ∷ []) ∷ [])
    last_two true true = refl
    last_two true false = refl
    last_two false c = refl
flat false a b c d h k = rw (← h) refl

-- of one that has a number read
pub read_test : (m r : ℕ) (p : Phase) → scan_tag < tag_of p → has_second (tag_of p) ≡ true
    → every (ltb (position p) m ∷ not (eqb (second p) FREE) ∷ ltb (second p) m ∷ [])
    ≡ phase_ok m r p
unfolding phase_ok position_ok second_ok
read_test m r p t e =
    flat _ _ _ _ _ (pick_no _ _ _ _ (eq_no (tag_of p) roots_tag (λ z. omega arith)) refl)
    (pick_no _ _ _ _ (eq_no (tag_of p) scan_tag (λ z. omega arith))
    (pick_yes _ _ _ _ (sym e) refl))

-- what passes it
pub roots_ok : (m r i : ℕ) → i ≤ r + 1 → true ≡ phase_ok m r (Roots i)
roots_ok m r i h = le_yes _ _ h ∙ roots_test m r i

-- by its position and its second number
both_ok : (m r : ℕ) (p : Phase) → roots_tag < tag_of p → position p < m
    → true ≡ second_ok m (tag_of p) (second p) → true ≡ phase_ok m r p
unfolding phase_ok position_ok
both_ok m r p t h k =
    every_skip _ _ _ (pick_no _ _ _ _ (eq_no (tag_of p) roots_tag (λ z. omega arith)) (lt_yes _ _ h))
    (every_last _ _ k)

pub node_ok : (m r : ℕ) (p : Phase) → roots_tag < tag_of p → has_second (tag_of p) ≡ false
    → position p < m → true ≡ phase_ok m r p
node_ok m r p t e h = lt_yes _ _ h ∙ node_test m r p t e

-- a phase that has a number read
pub read_ok : (m r : ℕ) (p : Phase) → scan_tag < tag_of p → has_second (tag_of p) ≡ true
    → position p < m → second p ≢ 1 → second p < m → true ≡ phase_ok m r p
read_ok m r p t e h n l =
    every_skip _ _ _ (lt_yes _ _ h) (every_skip _ _ _ (not_is _ (eq_no (second p) FREE n))
    (every_last _ _ (lt_yes _ _ l))) ∙ read_test m r p t e

pub scan_ok : (m r i k : ℕ) → i < m → 1 ≤ k → k ≤ m → true ≡ phase_ok m r (Scan i k)
unfolding second_ok pick
scan_ok m r i k h l u =
    both_ok m r (Scan i k) (omega arith) h
    (every_skip _ _ _ (le_yes _ _ l) (every_last _ _ (le_yes _ _ u)))

-- a refusal: what it means, and how large its numbers are
abbrev pub Refuses : State → Answer → Type 0
Refuses s a = Means s a × (1 ≤ code_of a) × (code_of a ≤ 15) × (detail_of a ≤ 2)

-- what a step from a phase q comes to: it is refused and the state stays, or it gives an answer
pub record Covers (s : State) (q : Phase) (P : Outcome → Type 0) : Type 0 where
  pub stays : (a : Answer) → Refuses s a → P (record { answer = a; state = s })
  pub shades : (n : ℕ) (p : Phase) → true ≡ phase_ok s.rec.m s.rec.r p
      → Nears s.rec.m q p → P (did (Shaded n) (shade s n) (moved s.rec p))
  pub looks : (i : ℕ) (p : Phase) → true ≡ phase_ok s.rec.m s.rec.r p
      → Nears s.rec.m q p → P (did (Looked i) s (moved s.rec p))
  pub marks : (i : ℕ) → Nears s.rec.m q (Append 0)
      → P (did (Looked i) s (marked s.rec))
  pub blackens : (i : ℕ) → i < s.rec.m
      → Nears s.rec.m q (Scan (next s.rec i) s.rec.m)
      → P (did (Blackened i) (with_colour s i black) (rescan s.rec i))
  pub whitens : (i : ℕ) → q ≡ Append i → i < s.rec.m
      → P (did (Whitened i) (with_colour s i white) (after_append s.rec i))
  pub appends : (i : ℕ) → q ≡ Append i → s.rec.r + 1 < i → i < s.rec.m
      → eqb (colour_of s i) white ≡ true
      → P (did (Appended i) (append s i) (after_append (more_free (with_last s.rec i)) i))

-- how near Append is after a look, and after a root
scan_left : (m i k : ℕ) → k ≤ m → Nears m (Scan i k) (Left i)
unfolding quiet pick
scan_left m i k h = (refl, omega arith)

scan_end : (m i k : ℕ) → k ≡ 1 → Nears m (Scan i k) (Append 0)
unfolding quiet pick
scan_end m i k h = (refl, omega arith)

scan_on : (m i k j : ℕ) → Nears m (Scan i k) (Scan j (k - 1))
unfolding quiet pick
scan_on m i k j = (refl, omega arith)

roots_on : (m i j : ℕ) → Nears m (Roots i) (Roots j)
unfolding quiet pick
roots_on m i j = (refl, omega arith)

roots_end : (m i : ℕ) → Nears m (Roots i) (Scan 0 m)
unfolding quiet pick
roots_end m i = (refl, omega arith)

none_of : (a b : Bool) → a || b ≡ false → (a ≡ false) × (b ≡ false)
none_of true b e = absurd (true≢false e)
none_of false b e = (refl, e)

module _ {s : State} {q : Phase} {P : Outcome → Type 0} (w : Covers s q P)
    (at : s.rec.phase ≡ q) (low : 3 ≤ s.rec.m) where
  bad_node : (n : ℕ) → bad_colour s n ≡ true → P (refuse s 14 n)
  bad_node n e =
      w.stays _ (colour_met (ltb-true _ _ e), omega arith, omega arith, omega arith)

  shading : (n : ℕ) (p : Phase) → true ≡ phase_ok s.rec.m s.rec.r p
      → Nears s.rec.m q p → P (shade_step s n p)
  unfolding shade_step
  shading n p h k = split P _ _ _ (bad_node n) (λ e. w.shades n p h k)

  -- a number read that is not bad
  reading : (i side : ℕ) (p : Phase) → side ≤ right
      → (edge s side i ≢ 1 → edge s side i < s.rec.m
      → true ≡ phase_ok s.rec.m s.rec.r p)
      → Nears s.rec.m q p → P (read_step s i side (edge s side i) p)
  unfolding read_step bad_edge
  reading i side p l h k =
      split P _ _ _
      (λ e. w.stays _ (damaged s low side i e, omega arith, omega arith, omega arith)) (λ e.
      let z = none_of _ _ e in
      w.looks i p (h (eqb-false _ _ z.1) (leb-false _ _ z.0)) k)

  after_roots_lem : (i : ℕ) → i ≤ s.rec.r + 1
      → true ≡ phase_ok s.rec.m s.rec.r (after_roots s.rec.m s.rec.r i)
  unfolding after_roots
  after_roots_lem i h =
      split (λ (p : Phase). true ≡ phase_ok s.rec.m s.rec.r p) _ _ _
      (λ e. scan_ok _ _ _ _ (omega arith) (omega arith) (omega arith))
      (λ e. let z = eqb-false i (s.rec.r + 1) e in roots_ok _ _ _ (omega arith))

  roots_near : (i : ℕ) → Nears s.rec.m (Roots i) (after_roots s.rec.m s.rec.r i)
  unfolding after_roots
  roots_near i =
      split (λ (p : Phase). Nears s.rec.m (Roots i) p) _ _ _ (λ e. roots_end _ i)
      (λ e. roots_on _ i _)

  scanning : (i k : ℕ) → q ≡ Scan i k → i < s.rec.m → k ≤ s.rec.m → 1 ≤ k
      → P (scan_step s i k)
  unfolding scan_step
  scanning i k t h u l =
      split P _ _ _ (bad_node i) (λ e.
      split P _ _ _ (λ e. w.looks i (Left i) (node_ok _ _ (Left i) (omega arith) refl h)
      (rw t (scan_left _ i k u))) (λ e.
      split P _ _ _ (λ e. w.marks i (rw t (scan_end _ i k (eqb-true k 1 e)))) (λ e.
      let z = eqb-false k 1 e in
      let on = next s.rec i in
      w.looks i (Scan on (k - 1)) (scan_ok _ _ on (k - 1) (mod-lt (i + 1) (omega arith))
      (omega arith) (omega arith)) (rw t (scan_on _ i k on)))))

  appending : (i : ℕ) → q ≡ Append i → i < s.rec.m → P (append_step s i)
  unfolding append_step append_white
  appending i t h =
      split P _ _ _ (λ e. w.whitens i t h) (λ a.
      split P _ _ _ (λ c.
      split P _ _ _ (λ e. w.stays _ (
        root_met (at ∙ t) (eqb-true _ _ c) (leb-true _ _ e),
        omega arith,
        omega arith,
        omega arith,
      )) (λ e.
      let z = leb-false i (s.rec.r + 1) e in
      split P _ _ _ (λ l. w.stays _ (
        last_met (at ∙ t) (eqb-true _ _ c) z (eqb-true _ _ l),
        omega arith,
        omega arith,
        omega arith,
      )) (λ l. w.appends i t (omega arith) h c)))
      (λ c. split P _ _ _ (bad_node i) (λ e. w.stays _ (
        gray_met (at ∙ t) (is_gray _ a c e),
        omega arith,
        omega arith,
        omega arith,
      ))))

comes : {s : State} {P : Outcome → Type 0} (q : Phase) → Covers s q P → s.rec.phase ≡ q
    → 3 ≤ s.rec.m → InRange s.rec.m s.rec.r q → P (phase_step s q)
unfolding phase_step black_step quiet pick
comes (Roots i) w e l h = shading w e l i _ (after_roots_lem w e l i h.0) (roots_near w e l i)
comes (Scan i k) w e l h = scanning w e l i k refl h.0 h.1 h.2
comes (Left i) w e l h =
    reading w e l i left _ (omega arith)
    (λ a b. read_ok _ _ (ShadeLeft i _) (omega arith) refl h.0 a b) (refl, omega arith)
comes (ShadeLeft i n) w e l h =
    shading w e l n _ (node_ok _ _ (Right i) (omega arith) refl h.0) (refl, omega arith)
comes (Right i) w e l h =
    reading w e l i right _ (omega arith)
    (λ a b. read_ok _ _ (ShadeRight i _) (omega arith) refl h.0 a b) (refl, omega arith)
comes (ShadeRight i n) w e l h =
    shading w e l n _ (node_ok _ _ (Black i) (omega arith) refl h.0) (refl, omega arith)
comes (Black i) w e l h = w.blackens i h.0 (refl, omega arith)
comes (Append i) w e l h = appending w e l i refl h.0

-- the step of the record's phase, where the record passes; and the collector's step in any state
pub phase_comes : (s : State) (P : Outcome → Type 0) → 0 ≡ check s → Covers s s.rec.phase P
    → P (phase_step s s.rec.phase)
phase_comes s P e w =
    comes s.rec.phase w refl (m_low _ _ s.rec e) (inside _ _ s.rec e)

pub collect_comes : (s : State) (P : Outcome → Type 0) → Covers s s.rec.phase P
    → P (collect s)
unfolding collect unless
collect_comes s P w =
    split P _ _ _ (λ e. phase_comes s P (sym (eqb-true _ _ e)) w) (λ e.
    let z = eqb-false (check s) 0 e in
    let f = check_early s in
    w.stays _ (other f.0 z f.1, omega (arith, z), omega (arith, f.0), omega arith))
