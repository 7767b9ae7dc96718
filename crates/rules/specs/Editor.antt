-- The sections Look, Link, Shade and Take of docs/RULES.md. The order of the tests in each
-- definition is that of the section Order: [Order 1] what needs no array's content, in one list
-- under `first`; [Order 2] the walks; [Order 3] the rest of Take. [Order 4] `did` stands after
-- every test.
use Rattle.base.specs.Choice.{pick, every, first}
use Rattle.std.specs.Prelude.{ℕ, ◌+◌, Bool, ◌||◌, [], ◌∷◌, ltb, leb, eqb, Some, None}
use Rattle.rules.specs.Table.{State, sides, Outcome, did, refuse_with, refuse, unless}
use Rattle.rules.specs.Table.{NIL, FREE, left, edge, with_edge, shade, bad_colour}
use Rattle.rules.specs.Records.{Owed, owing, paid, with_last, less_free}
use Rattle.rules.specs.Check.{check}
use Rattle.rules.specs.Places.{place_code, walk, arrive}
use Rattle.rules.specs.declared.Place.{Place}
use Rattle.rules.specs.declared.Answer.TheVariants.{Named, Linked, Shaded, Taken}

-- [Codes 10] a side that the table has
unfoldable pub side_code : ℕ → ℕ → ℕ
side_code E side = pick (ltb side E) 0 10

-- [Codes 5] a shade is owed
unfoldable pub owed_code : Owed → ℕ
owed_code None = 0
owed_code (Some n) = 5

-- [Look 1] names the node at a place; [Look 2] the state stays
unfoldable pub look : Place → State → Outcome
look p s =
    unless (first (check s ∷ place_code (sides s) s.rec.r p ∷ [])) s
    (arrive s (walk s p) (λ n. did (Named n) s s.rec))

-- [Codes 8] the way to a source, which is not NIL
unfoldable pub depart : State → Place → (ℕ → Outcome) → Outcome
depart s p go = arrive s (walk s p) (λ n. pick (eqb n NIL) (refuse s 8 0) (go n))

-- [Link 1] the source n's edge leads to the target, [Link 2] whose shade is owed, [Link 5] and
-- which is answered; [Link 3] the target may be any node, [Link 6] and no colour or old edge is
-- read
unfoldable pub link_to : State → ℕ → Place → ℕ → Outcome
link_to s side q n =
    arrive s (walk s q) (λ t. did (Linked t) (with_edge s side n t) (owing s.rec t))

-- [Link 4] both walks are in s, before the edge is written
unfoldable pub link : Place → ℕ → Place → State → Outcome
link p side q s =
    unless
    (first (check s ∷ side_code (sides s) side ∷ place_code (sides s) s.rec.r p ∷ place_code
    (sides s) s.rec.r q ∷ owed_code s.rec.owed ∷ [])) s
    (depart s p (link_to s side q))

-- [Shade 1] the node owed is shaded and answered, [Shade 2] and nothing is owed; [Codes 6] else
-- refused
unfoldable pub pay : State → Owed → Outcome
pay s None = refuse s 6 0
pay s (Some n) =
    pick (bad_colour s n) (refuse s 14 n) (did (Shaded n) (shade s n) (paid s.rec))

-- [Shade 3] a step of its own, after Link's
unfoldable pub shade_owed : State → Outcome
shade_owed s = unless (check s) s (pay s s.rec.owed)

-- [Damage 2] a free list's edge that leads to FREE, to a slot's node or out of the table
unfoldable pub bad_free : ℕ → ℕ → ℕ → Bool
bad_free m r e = leb m e || every (leb 1 e ∷ leb e (r + 1) ∷ [])

-- [Take 3] the three edges in their order, which counts where the source is f [Take 9]; then f is
-- shaded [Take 4]. [Take 8] f's right edge is not written.
unfoldable pub relink : State → ℕ → ℕ → ℕ → ℕ → State
relink s n side f g =
    let pointed = with_edge s side n f in
    let freed = with_edge pointed left FREE g in
    let cut = with_edge freed left f 0 in
    shade cut f

-- [Take 2] f's left edge g, f's colour and g's colour are judged in this order; [Take 4] g is
-- shaded if there is one, [Take 5] and if there is none the list is empty; [Take 10] one less is
-- free. [Take 6] The record is else as it was; [Take 7] f is answered.
unfoldable pub take_next : State → ℕ → ℕ → ℕ → ℕ → Outcome
take_next s n side f g =
    pick (bad_free s.rec.m s.rec.r g) (refuse_with s 7 f left)
    (pick (bad_colour s f) (refuse s 14 f)
    (pick (eqb g 0) (did (Taken f) (relink s n side f g) (with_last (less_free s.rec) FREE))
    (pick (bad_colour s g) (refuse s 14 g)
    (did (Taken f) (shade (relink s n side f g) g) (less_free s.rec)))))

-- [Take 1] f is the first free node: [Codes 9] there is one; g is the next
unfoldable pub take_first : State → ℕ → ℕ → ℕ → Outcome
take_first s side f n =
    pick (bad_free s.rec.m s.rec.r f) (refuse_with s 7 FREE left)
    (pick (eqb f 0) (refuse s 9 0)
    (take_next s n side f (edge s left f)))

-- [Take 1] from a place, on a side
unfoldable pub take : Place → ℕ → State → Outcome
take p side s =
    unless
    (first (check s ∷ side_code (sides s) side ∷ place_code (sides s) s.rec.r p ∷ owed_code
    s.rec.owed ∷ [])) s
    (depart s p (take_first s side (edge s left FREE)))
