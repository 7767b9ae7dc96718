-- A write to an edge leaves the lists' lengths.
use Prim.Native.Nat.{ℕ, zero, suc}
use mathlib.Core.Path.{◌≡◌, refl, ap, ap₂}
use mathlib.Core.List.{List, [], ◌∷◌, map}
use lib.ListN.{length, get_or, set, length-set}
use Rattle.rules.specs.Table.{State, with_edge, cleared}

-- a row of the same length is put in
lengths_set : (es : List (List ℕ)) (side : ℕ) (l : List ℕ) → length l ≡ length (get_or es side [])
    → map length (set es side l) ≡ map length es
lengths_set [] side l q = refl
lengths_set (e ∷ es) zero l q = ap (λ (n : ℕ). n ∷ map length es) q
lengths_set (e ∷ es) (suc side) l q = ap (λ (ns : List ℕ). length e ∷ ns) (lengths_set es side l q)

lengths_cleared : (es : List (List ℕ)) (n : ℕ) → map length (map (λ (e : List ℕ). set e n 0) es)
    ≡ map length es
lengths_cleared [] n = refl
lengths_cleared (e ∷ es) n = ap₂ (λ (k : ℕ) (ns : List ℕ). k ∷ ns) (length-set e n 0)
    (lengths_cleared es n)

pub edge_lengths : (s : State) (side n t : ℕ) → map length (with_edge s side n t).edges
    ≡ map length s.edges
unfolding with_edge
edge_lengths s side n t = lengths_set s.edges side _ (length-set (get_or s.edges side []) n t)

pub cleared_lengths : (s : State) (n : ℕ) → map length (cleared s n).edges ≡ map length s.edges
unfolding cleared
cleared_lengths s n = lengths_cleared s.edges n

pub clear_colour : (s : State) (n : ℕ) → length (with_edge (cleared s n) 0 s.rec.last n).colour
    ≡ length s.colour
unfolding cleared with_edge
clear_colour s n = refl
