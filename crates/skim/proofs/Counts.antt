-- Counts of colours put together, and what they tell of each colour.
use Prim.Native.Nat.{ℕ, zero, suc, ◌+◌, ◌-◌, ◌*◌, ◌/◌, ◌%◌, ◌≤◌, ◌<◌}
use mathlib.Core.Path.{◌≡◌, refl, ap, ◌∙◌}
use mathlib.Core.Bool.{Bool, true, false}
use mathlib.Core.List.{List}
use mathlib.Core.Logic.{◌⊎◌}
use lib.ListN.{length, get_or, set, take, drop}
use Rattle.std.proofs.lemmas.List.{get_or-take, get_or-drop}
use Rattle.std.proofs.Common.{length-take, drop-drop, length-drop, []}
use Rattle.std.specs.Simd.{first_chunks}
use lib.Seq.{get_or-set_same, get_or-set_other}
use lib.Dec.{ltb}
use borrow.Author.Tests.{ltb-true, ltb-false}
use native.Mathlib.Omega.{arith}
use Rattle.std.proofs.lemmas.Bool.Decides.{nat_tests}
use native.Mathlib.Numerals.{add-one}
use Rattle.base.specs.Choice.{pick}
use Rattle.skim.specs.Stops.{stop, stops, Upto, block}

-- white and black are passed over
pub passed : (v : ℕ) → (v ≡ 0) ⊎ (v ≡ 2) → 0 ≡ stop v
unfolding stop pick
passed v h = grind (arith, nat_tests)

-- any other colour stops a look
pub stopped : (v : ℕ) → (v ≡ 0 → ⊥) → (v ≡ 2 → ⊥) → 1 ≡ stop v
unfolding stop pick
stopped v g h = grind (arith, nat_tests)

pub stop_most : (v : ℕ) → stop v ≤ 1
unfolding stop pick
stop_most v = grind (arith, nat_tests)

-- a colour that a look passes over is white or black
pub still : (v : ℕ) → 0 ≡ stop v → (v ≤ 2) × (v ≡ 1 → ⊥)
unfolding stop pick
still v h = grind (arith, nat_tests)

pub stops_none : (c : List ℕ) (i : ℕ) → stops c i 0 ≡ 0
unfolding stops
stops_none c i = refl

-- one colour more
pub stops_more : (c : List ℕ) (i d : ℕ)
    → stops c i (d + 1) ≡ stops c i d + stop (get_or c (i + d) 0)
unfolding stops
stops_more c i d = rw add-one

-- the same from the first colour on
pub stops_next : (c : List ℕ) (d : ℕ) → stops c 0 (d + 1) ≡ stops c 0 d + stop (get_or c d 0)
stops_next c d = let z : 0 + d ≡ d = omega arith in rw z at (stops_more c 0 d)

-- a run and the run after it
pub stops_joined : (c : List ℕ) (i d e : ℕ) → stops c i (d + e) ≡ stops c i d + stops c (i + d) e
unfolding stops
stops_joined c i d zero = let z : d + 0 ≡ d = omega arith in rw z (omega arith)
stops_joined c i d (suc e) =
    let h = stops_joined c i d e in
    let p : d + suc e ≡ suc (d + e) = omega arith in
    let q : i + (d + e) ≡ i + d + e = omega arith in
    rw (p, h, q) (omega arith)

-- the colours before d and those from d on
pub stops_both : (c : List ℕ) (d e n a b : ℕ) → a ≡ stops c 0 d → b ≡ stops c d e → n ≡ d + e
    → a + b ≡ stops c 0 n
stops_both c d e n a b p q h =
    let z : 0 + d ≡ d = omega arith in rw (h, stops_joined, z) (omega arith)

pub stops_most : (c : List ℕ) (i d : ℕ) → stops c i d ≤ d
unfolding stops
stops_most c i zero = omega arith
stops_most c i (suc d) = omega (arith, stops_most c i d, stop_most (get_or c (i + d) 0))

-- each colour counts
pub counts : (c : List ℕ) (i d j : ℕ) → j < d → stop (get_or c (i + j) 0) ≤ stops c i d
counts c i d j h =
    let s : d ≡ j + 1 + (d - j - 1) = omega arith in
    let a = stops_joined c i (j + 1) (d - j - 1) in
    let b = stops_more c i j in
    rw s (omega arith)

pub upto_none : (c : List ℕ) (i f : ℕ) → Upto c i 0 f
upto_none c i f = record { none = λ q h k. let z : q ≡ 0 = omega arith in rw (z, stops_none) }

pub upto_more : (c : List ℕ) (i j f f' : ℕ) → Upto c i j f → f' ≤ f
    → (j < f' → 0 ≡ stop (get_or c (i + j) 0)) → Upto c i (j + 1) f'
upto_more c i j f f' p h s = record { none = λ q a b. go q a b (ltb j q) refl }
  where
    go : (q : ℕ) → q ≤ j + 1 → q ≤ f' → (t : Bool) → ltb j q ≡ t → 0 ≡ stops c i q
    go q a b true t =
        let g = ltb-true j q t in
        let z : q ≡ j + 1 = omega arith in
        let u = p.none j (omega arith) (omega arith) in
        let v = s (omega arith) in
        rw (z, stops_more) (omega arith)
    go q a b false t = let g = ltb-false j q t in p.none q (omega arith) (omega arith)

-- the same from the first colour on
pub upto_next : (c : List ℕ) (j f f' : ℕ) → Upto c 0 j f → f' ≤ f
    → (j < f' → 0 ≡ stop (get_or c j 0)) → Upto c 0 (j + 1) f'
upto_next c j f f' p h s =
    let z : 0 + j ≡ j = omega arith in upto_more c 0 j f f' p h (λ k. rw z (s k))

-- a colour outside the run does not count
untouched : (c : List ℕ) (p v i d : ℕ) → ((j : ℕ) → j < d → i + j ≡ p → ⊥) → stops (set c p v) i d
    ≡ stops c i d
unfolding stops
untouched c p v i zero h = refl
untouched c p v i (suc d) h = rw (
  untouched c p v i d (λ j k. h j (omega arith)),
  get_or-set_other c p
      (i + d) v 0 (λ z. h d (omega arith) z),
)

-- where one colour changes
pub changed : (c : List ℕ) (p v n : ℕ) → p < n → n ≤ length c
    → stops (set c p v) 0 n + stop (get_or c p 0) ≡ stops c 0 n + stop v
changed c p v n h k =
    let s : n ≡ p + 1 + (n - p - 1) = omega arith in
    let z : 0 + p ≡ p = omega arith in
    let a = untouched c p v 0 p (λ j q w. omega arith) in
    let b = untouched c p v (0 + (p + 1)) (n - p - 1) (λ j q w. omega arith) in
    let e = stops_joined (set c p v) 0 (p + 1) (n - p - 1) in
    let f = stops_joined c 0 (p + 1) (n - p - 1) in
    let g = stops_more (set c p v) 0 p in
    let m = stops_more c 0 p in
    let w : get_or (set c p v) (0 + p) 0 ≡ v = rw z (get_or-set_same c p v 0 (omega arith)) in
    let y : get_or c (0 + p) 0 ≡ get_or c p 0 = rw z in
    rw s (omega (arith, rw w at g, rw y at m))

-- beside one that stops a look, no other does where at most one does
pub alone : (c : List ℕ) (n p q : ℕ) → stops c 0 n ≤ 1 → q < n → 1 ≤ stop (get_or c q 0) → p < n
    → (p ≡ q → ⊥) → n ≤ length c → 0 ≡ stop (get_or c p 0)
unfolding stop pick
alone c n p q h a s b f k =
    let w = changed c q 0 n a k in
    let z : 0 + p ≡ p = omega arith in
    let e = rw z at (counts (set c q 0) 0 n p b) in
    let g = rw (get_or-set_other c q p 0 0 f) at e in
    omega arith

-- in a part of the colours
pub stops_part : (c : List ℕ) (i n d : ℕ) → d ≤ n → stops (take n (drop i c)) 0 d ≡ stops c i d
unfolding stops
stops_part c i n zero h = refl
stops_part c i n (suc d) h =
    let z : 0 + d ≡ d = omega arith in
    rw (z, get_or-take n (drop i c) d 0 (omega arith), get_or-drop i c d 0)
    (ap (λ (k : ℕ). k + stop (get_or c (i + d) 0)) (stops_part c i n d (omega arith)))

pub stops_rest : (c : List ℕ) (i d : ℕ) → stops (drop i c) 0 d ≡ stops c i d
unfolding stops
stops_rest c i zero = refl
stops_rest c i (suc d) =
    let z : 0 + d ≡ d = omega arith in
    rw (z, get_or-drop i c d 0) (ap (λ (k : ℕ). k + stop (get_or c (i + d) 0)) (stops_rest c i d))

-- what is told of a part is told of the colours from its first on
pub part_passed : (c : List ℕ) (i n d : ℕ)
    → (d ≤ length (take (i + n - i) (drop i c))) × (0 ≡ stops (take (i + n - i) (drop i c)) 0 d)
    → (d ≤ n) × (0 ≡ stops c i d)
part_passed c i n d h =
    let l = length-take (i + n - i) (drop i c) in
    let a = h.0 in
    let b : d ≤ i + n - i = omega arith in
    (omega arith, rw (stops_part c i (i + n - i) d b) at h.1)

-- the j-th of the blocks that a list begins with
block_at : (n k j : ℕ) (c d : List ℕ) → j < k
    → get_or (first_chunks n k c) j d ≡ take n (drop (j * n) c)
block_at n zero j c d h = absurd (omega arith)
block_at n (suc k) zero c d h = let z : 0 * n ≡ 0 = omega arith in rw z refl
block_at n (suc k) (suc j) c d h =
    let z : suc j * n ≡ n + j * n = omega arith in
    rw (z, ← drop-drop (j * n) n c) (block_at n k j (drop n c) d (omega arith))

-- one block more
pub counted_more : (c : List ℕ) (bs : List (List ℕ)) (k j n s : ℕ) → bs ≡ first_chunks block k c
    → length bs ≡ k → k ≡ length c / block → j < length bs → n ≤ j * block
    → n ≡ stops c 0 (j * block)
    → s ≡ stops (get_or bs j []) 0 (length (get_or bs j []))
    → (n + s ≤ (j + 1) * block) × (n + s ≡ stops c 0 ((j + 1) * block))
counted_more c bs k j n s e f g h a b d =
    let at_j : get_or bs j [] ≡ take block (drop (j * block) c) =
    rw e (block_at block k j c [] (omega arith)) in
    let l = length-take block (drop (j * block) c) in
    let m = length-drop (j * block) c in
    let w : length (get_or bs j []) ≡ block = rw at_j (omega arith) in
    let t : s ≡ stops c (j * block) block =
    d ∙ (rw (w, at_j) (stops_part c (j * block) block block (omega arith))) in
    let u = stops_most c (j * block) block in
    (omega arith, stops_both c (j * block) block ((j + 1) * block) n s b t (omega arith))

-- and those that are left
pub counted_all : (c r : List ℕ) (j k n s : ℕ) → r ≡ drop (k * block) c
    → length r ≡ length c % block
    → k ≡ length c / block → k ≤ j → j ≤ k → n ≡ stops c 0 (j * block) → s ≡ stops r 0 (length r)
    → n + s ≡ stops c 0 (length c)
counted_all c r j k n s e f g h i a b =
    let z : j ≡ k = omega arith in
    stops_both c (j * block) (length r) (length c) n s a
    (b ∙ rw (e, z) (stops_rest c (k * block) (length (drop (k * block) c))))
    (omega arith)

-- a shorter run
pub stops_less : (c : List ℕ) (i d e : ℕ) → e ≤ d → 0 ≡ stops c i d → 0 ≡ stops c i e
stops_less c i d e h z =
    let s : d ≡ e + (d - e) = omega arith in
    let a = stops_joined c i e (d - e) in omega (arith, rw s at z)

-- a run, and what is told of the part behind it
pub stops_then : (c : List ℕ) (d n e : ℕ) → 0 ≡ stops c 0 d → e ≤ n
    → 0 ≡ stops (take n (drop d c)) 0 e → 0 ≡ stops c 0 (d + e)
stops_then c d n e z h k =
    let a = rw (stops_part c d n e h) at k in
    let o : 0 + d ≡ d = omega arith in rw (stops_joined, o) (omega arith)

-- blocks of which none has a stop: one more
pub block_passed : (c : List ℕ) (bs : List (List ℕ)) (k j s : ℕ) → bs ≡ first_chunks block k c
    → length bs ≡ k → k ≡ length c / block → j < length bs → 0 ≡ stops c 0 (j * block)
    → s ≡ stops (get_or bs j []) 0 (length (get_or bs j [])) → s ≡ 0
    → 0 ≡ stops c 0 ((j + 1) * block)
block_passed c bs k j s e f g h z d n =
    let a = counted_more c bs k j 0 s e f g h (omega arith) z d in omega (arith, a.1)

-- and a part of the next
pub block_then : (c : List ℕ) (bs : List (List ℕ)) (k j d : ℕ) → bs ≡ first_chunks block k c
    → length bs ≡ k → k ≡ length c / block → j < length bs → 0 ≡ stops c 0 (j * block)
    → d ≤ block → 0 ≡ stops (get_or bs j []) 0 d
    → (j * block + d ≤ length c) × (0 ≡ stops c 0 (j * block + d))
block_then c bs k j d e f g h z l n =
    let at_j : get_or bs j [] ≡ take block (drop (j * block) c) =
    rw e (block_at block k j c [] (omega arith)) in
    (omega arith, stops_then c (j * block) block d z l (rw at_j at n))
