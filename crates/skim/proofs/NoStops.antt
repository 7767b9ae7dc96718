-- Runs of colours that a look passes over, round the end of the table.
use Prim.Native.Nat.{ℕ, ◌+◌, ◌-◌, ◌%◌, ◌≤◌, ◌<◌}
use mathlib.Core.Path.{◌≡◌, refl, ◌∙◌}
use mathlib.Core.Bool.{Bool, true, false}
use mathlib.Core.List.{List}
use lib.ListN.{length, get_or}
use lib.Dec.{ltb}
use borrow.Author.Tests.{ltb-true, ltb-false}
use native.Mathlib.Omega.{arith}
use native.Mathlib.Nat.{mod-lt, mod-eq_of_lt, mod-eq-sub-mod}
use Rattle.skim.specs.Stops.{stop, stops, NoStop}
use Rattle.skim.proofs.Counts.{counts, alone}

pub cut : (c : List ℕ) (m i d e : ℕ) → e ≤ d → NoStop c m i d → NoStop c m i e
cut c m i d e h p = record { none = λ j k. p.none j (omega arith) }

pub nowhere : (c : List ℕ) (m i : ℕ) → NoStop c m i 0
nowhere c m i = record { none = λ j h. absurd (omega arith) }

-- a number below two rounds
pub round : (m n : ℕ) → m ≤ n → n < m + m → n % m ≡ n - m
round m n h k = mod-eq-sub-mod h ∙ mod-eq_of_lt (omega arith)

-- before the end
pub straight : (c : List ℕ) (m i d : ℕ) → 0 ≡ stops c i d → i + d ≤ m → NoStop c m i d
straight c m i d h k =
    record {
      none =
          λ j q. let a = counts c i d j q in
          let z : (i + j) % m ≡ i + j = mod-eq_of_lt (omega arith) in rw z (omega arith);
    }

-- where no colour stops a look
pub everywhere : (c : List ℕ) (m i d : ℕ) → stops c 0 m ≤ 0 → 0 < m → NoStop c m i d
everywhere c m i d h k =
    record {
      none =
          λ j q. let z : 0 + (i + j) % m ≡ (i + j) % m = omega arith in
          let a = rw z at (counts c 0 m ((i + j) % m) (mod-lt (i + j) k)) in omega arith;
    }

-- up to the only one that does
pub towards : (c : List ℕ) (m i t e : ℕ) → stops c 0 m ≤ 1 → m ≤ length c → i < m → t < m
    → 1 ≤ stop (get_or c t 0) → (i ≤ t → i + e ≡ t)
    → (t < i → i + e ≡ t + m) → NoStop c m i e
towards c m i t e h k a b s f g = record {
  none =
      λ j q. go j q (ltb i (t + 1)) refl (ltb (i + j) m) refl;
}
  where
    go : (j : ℕ) → j < e → (u : Bool) → ltb i (t + 1) ≡ u → (v : Bool) → ltb (i + j) m ≡ v → 0
        ≡ stop (get_or c ((i + j) % m) 0)
    go j q true u true v =
        let u' = ltb-true i (t + 1) u in
        let v' = ltb-true (i + j) m v in
        let w = f (omega arith) in
        rw (mod-eq_of_lt v') (alone c m (i + j) t h b s v' (λ z. omega arith) k)
    go j q true u false v =
        let u' = ltb-true i (t + 1) u in
        let v' = ltb-false (i + j) m v in
        let w = f (omega arith) in
        absurd (omega arith)
    go j q false u true v =
        let u' = ltb-false i (t + 1) u in
        let v' = ltb-true (i + j) m v in
        rw (mod-eq_of_lt v') (alone c m (i + j) t h b s v' (λ z. omega arith) k)
    go j q false u false v =
        let u' = ltb-false i (t + 1) u in
        let v' = ltb-false (i + j) m v in
        let w = g (omega arith) in
        rw (round m (i + j) v' (omega arith))
        (alone c m (i + j - m) t h b s (omega arith) (λ z. omega arith) k)
