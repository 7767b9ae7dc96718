-- A list that is written from the back, element by element.
use Prim.Native.Nat.{ℕ, zero, suc, ◌+◌, ◌≤◌}
use native.Mathlib.Omega.{arith}
use native.Mathlib.Numerals.{add-one}
use mathlib.Core.Path.{◌≡◌}
use mathlib.Core.List.{List, ◌∷◌, ◌++◌, append-nil}
use lib.ListN.{length, take, drop, set}
use lib.Seq.{drop-length, length-take-le, append_snoc, set_split, drop_at}
use Rattle.rules.specs.Fresh.{tabulate}

-- What is still to be written, as f has it, in front of what is written, is one and the same list
-- at every turn.
pub ahead : (f : ℕ → ℕ) (l : List ℕ) (n : ℕ) → length l ≡ n
    → tabulate f n ++ drop n l ≡ tabulate f n
ahead f l n h = rw (← h, drop-length l, append-nil)

pub shift : (f : ℕ → ℕ) (n : ℕ) (l : List ℕ)
    → tabulate f (suc n) ++ l ≡ tabulate f n ++ (f n ∷ l)
unfolding tabulate
shift f n l = append_snoc (tabulate f n) (f n) l

pub down : (f : ℕ → ℕ) (l w : List ℕ) (n i v : ℕ) → n ≡ i + 1 → n ≤ length l → v ≡ f i
    → tabulate f n ++ drop n l ≡ w → tabulate f i ++ drop i (set l i v) ≡ w
down f l w n i v h k q e =
    let cut = drop_at (take i l) (v ∷ drop (suc i) l) i (length-take-le i l (omega arith)) in
    rw (set_split l i v (omega arith), cut, q, ← shift f i) (rw (h, add-one) at e)

pub done : (f : ℕ → ℕ) (l w : List ℕ) (n : ℕ) → n ≤ 0 → tabulate f n ++ drop n l ≡ w → l ≡ w
unfolding tabulate
done f l w zero h e = e
done f l w (suc n) h e = absurd (omega arith)
