-- What is put into a buffer, part by part.
use Prim.Native.Nat.{ℕ, ◌+◌, ◌<◌, ◌≤◌}
use mathlib.Core.Path.{◌≡◌, refl, sym, ◌∙◌, ap}
use mathlib.Core.List.{List, [], ◌∷◌, ◌++◌, append-nil}
use native.Mathlib.Omega.{arith}
use native.Mathlib.Numerals.{add-one}
use borrow.Author.Tests.{lt-ltb, le-ltb}
use lib.ListN.{length, get_or, drop, set, drop_of_length-le, length-append, length-set}
use lib.Seq.{drop-cons, take-suc-set, append_snoc}
use Rattle.base.specs.Choice.{pick}
use Rattle.base.proofs.Tests.{split}
use Rattle.text.specs.Answers.{digit_of, decimal, said, Written, written, contents, put}
use Rattle.text.specs.Answers.{put_all, widest}

pub put_none : (w : Written) → w ≡ put_all w []
unfolding put_all
put_none w = refl

pub put_turn : (w : Written) (k : ℕ) (word : List ℕ) → k < length word → put_all w (drop k word)
    ≡ put_all (put w (get_or word k 0)) (drop (k + 1) word)
unfolding put_all
put_turn w k word h = rw (drop-cons word k 0 h, add-one k)

pub put_done : (w : Written) (k : ℕ) (word : List ℕ) → length word ≤ k → w ≡ put_all w (drop k word)
unfolding put_all
put_done w k word h = rw (drop_of_length-le word h)

pub put_append : (w : Written) (xs ys : List ℕ) → put_all w (xs ++ ys) ≡ put_all (put_all w xs) ys
unfolding put_all
put_append w [] ys = refl
put_append w (x ∷ xs) ys = put_append (put w x) xs ys

put_room : (w : Written) (b : ℕ) → w.used < length w.out → put w b
    ≡ written (set w.out w.used b) (w.used + 1)
unfolding put pick
put_room w b h = rw (lt-ltb _ _ h)

-- where there is room for byte k of a word, it stands behind the k before it
pub put_next : (out : List ℕ) (used k : ℕ) (word : List ℕ) → k < length word
    → used + k < length out → put_all (written out (used + k)) (drop k word)
    ≡ put_all (written (set out (used + k) (get_or word k 0)) (used + (k + 1))) (drop (k + 1) word)
put_next out used k word h r =
    put_turn _ k word h ∙ rw (put_room (written out (used + k)) (get_or word k 0) r)
    (ap (λ n. put_all (written (set out (used + k) (get_or word k 0)) n) (drop (k + 1) word))
    (omega arith))

pub put_full : (w : Written) (b : ℕ) → length w.out ≤ w.used → put w b ≡ w
unfolding put pick
put_full w b h = rw (le-ltb _ _ h)

-- where there is room, the bytes stand behind those that were used
pub record Longer (w : Written) (bs : List ℕ) (v : Written) : Type 0 where
  pub size : length v.out ≡ length w.out
  pub used : v.used ≡ w.used + length bs
  pub holds : contents v ≡ contents w ++ bs

pub put_longer : (w : Written) (b : ℕ) → w.used < length w.out → Longer w (b ∷ []) (put w b)
put_longer w b h =
    rw (put_room w b h)
    (record {
      size = simp length-set;
      used = refl;
      holds = rw (add-one w.used)
          (take-suc-set w.out w.used b h);
    })

pub longer : (bs : List ℕ) (w : Written) → w.used + length bs ≤ length w.out
    → Longer w bs (put_all w bs)
unfolding put_all
longer [] w h = record { size = refl; used = omega arith; holds = sym (append-nil (contents w)) }
longer (b ∷ bs) w h =
    let p = put_longer w b (omega arith) in
    let q = longer bs (put w b) (omega arith) in
    record {
      size =
          q.size ∙ p.size;
      used = omega arith;
      holds = q.holds
          ∙ rw p.holds (append_snoc (contents w) b bs);
    }

digit_short : (n ten : ℕ) → length (digit_of n ten) ≤ 1
unfolding digit_of
digit_short n ten = split (λ (l : List ℕ). length l ≤ 1) _ _ _ (λ _. omega arith) (λ _. omega arith)

decimal_short : (n : ℕ) → length (decimal n) ≤ 5
unfolding decimal
decimal_short n =
    simp length-append
    (omega (
      arith,
      digit_short n 10000,
      digit_short n 1000,
      digit_short n 100,
      digit_short n
          10,
    ))

pub said_short : (code node : ℕ) → length (said code node) ≤ widest
unfolding said
said_short code node = simp length-append (omega (arith, decimal_short code, decimal_short node))
