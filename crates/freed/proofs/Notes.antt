-- The list of nodes: one is noted, and in the end the list is what the definition says.
use Prim.Native.Nat.{ℕ, zero, suc, ◌+◌, ◌≤◌, ◌<◌}
use mathlib.Core.Path.{◌≡◌, refl, sym, ap, ◌∙◌}
use mathlib.Core.Bool.{true, false}
use mathlib.Core.List.{List, [], ◌∷◌, ◌++◌, append-nil, append_assoc}
use native.Mathlib.Omega.{arith}
use lib.ListN.{length, take, drop, set, length-take, take-append-drop}
use lib.Seq.{take-suc-set, drop-set-lt, drop-drop, drop-append-le}
use borrow.Author.Tests.{ltb-false}
use Rattle.base.specs.Choice.{pick}
use Rattle.std.proofs.lemmas.Bool.Decides.{nat_tests}
use Rattle.std.proofs.Common.{Result, Ok, Err}
use Rattle.std.specs.Result.{OkIff, result_unwrap_or}
use Rattle.base.proofs.Tests.{split, pick_yes, pick_no, eq_yes, eq_no}
use Rattle.rules.specs.Table.{State}
use Rattle.rules.specs.Check.{check}
use Rattle.rules.specs.Steps.{step, collecting, code_of, node_of}
use Rattle.rules.specs.Schedules.{Followed, follow, schedule, collects}
use Rattle.rules.specs.Changes.{changes_all}
use Rattle.rules.specs.declared.Answer.{Answer}
use Rattle.rules.specs.declared.Answer.TheVariants.{Started, Named, Linked, Taken, Shaded, Looked}
use Rattle.rules.specs.declared.Answer.TheVariants.{Blackened, Whitened, Appended, Counted}
use Rattle.rules.specs.declared.Answer.TheVariants.{Refused}
use Rattle.rules.proofs.Sums.{none_done}
use Rattle.freed.specs.Freed.{is_appended, appended_by, appended, room_of, asked_in, run_in}
use Rattle.freed.specs.Freed.{changes_in, appended_in, noted}
use Rattle.freed.specs.Gathers.{Gathered, gathered, gather}
use Rattle.freed.proofs.Gathers.{gathers}

-- the node that a step appended
pub one_by : (a : Answer) → true ≡ is_appended a → appended_by a ≡ node_of a ∷ []
unfolding appended_by
one_by a e = sym (pick_yes _ _ _ _ e refl)

pub none_by : (a : Answer) → false ≡ is_appended a → appended_by a ≡ []
unfolding appended_by
none_by a e = sym (pick_no _ _ _ _ e refl)

pub none_other : (a : Answer) → ((n : ℕ) → a ≡ Appended n → ⊥) → false ≡ is_appended a
none_other (Started n) f = refl
none_other (Named n) f = refl
none_other (Linked n) f = refl
none_other (Taken n) f = refl
none_other (Shaded n) f = refl
none_other (Looked n) f = refl
none_other (Blackened n) f = refl
none_other (Whitened n) f = refl
none_other (Appended n) f = absurd (f n refl)
none_other (Counted k) f = refl
none_other (Refused code n detail) f = refl

-- it is one at most
pub most_by : (a : Answer) → length (appended_by a) ≤ 1
unfolding appended_by
most_by a = split (λ (l : List ℕ). length l ≤ 1) _ _ _ (λ e. omega arith) (λ e. omega arith)

module _ (list : List ℕ) (n v : ℕ) (a : Answer) (e : true ≡ is_appended a) (h : n < length list)
    (w : v ≡ node_of a) where
  pub noted_count : n + 1 ≡ n + length (appended_by a)
  noted_count = rw (one_by a e) (omega arith)

  pub noted_front : take (n + 1) (set list n v) ≡ take n list ++ appended_by a
  noted_front =
      let z : n + 1 ≡ suc n = omega arith in
      rw (z, one_by a e, ← w) (take-suc-set list n v h)

  pub noted_rest : drop (n + 1) (set list n v) ≡ drop (n + 1) list
  noted_rest = drop-set-lt (n + 1) list n v (omega arith)

module _ (n k : ℕ) (a : Answer) (e : false ≡ is_appended a) (same : k ≡ n) where
  pub same_count : k ≡ n + length (appended_by a)
  same_count = rw (none_by a e, same) (omega arith)

  pub same_front : (list : List ℕ) → take k list ≡ take n list ++ appended_by a
  same_front list = rw (none_by a e, same) (sym (append-nil (take n list)))

-- there is room for them
pub within : (k k' room : ℕ) (a : Answer) → k' ≡ k + length (appended_by a) → k < room → k' ≤ room
within k k' room a e h = let m = most_by a in omega arith

-- whether there is room for one, where w is k as a word, and the list has the length n
pub room_left : (k w l n : ℕ) → w ≡ k → w < l → l ≡ n → k < n
room_left k w l n e h g = omega arith

pub room_used : (k w l n : ℕ) → w ≡ k → l ≤ w → l ≡ n → n ≤ k
room_used k w l n e h g = omega arith

-- what was alike behind k stays alike further behind
pub still : (k k' : ℕ) (a : Answer) (x y : List ℕ) → k' ≡ k + length (appended_by a)
    → drop k x ≡ drop k y → drop k' x ≡ drop k' y
still k k' a x y e h =
    rw e (sym (drop-drop (length (appended_by a)) k x)
    ∙ ap (drop (length (appended_by a))) h ∙ drop-drop (length (appended_by a)) k y)

-- a number as 16 bits, or the largest of these
pub room_is : {E : Type 0} (n k room : ℕ) (r : Result ℕ E) → k ≡ n → OkIff r (k < 65536) k
    → room ≡ result_unwrap_or r 65535 → room ≡ room_of n
unfolding room_of pick
room_is n k room (Ok x) q h e = let a = h.0 in let b = h.1 in grind (arith, nat_tests)
room_is n k room (Err x) q h e = grind (arith, nat_tests)

pub room_in : (room n : ℕ) → room ≡ room_of n → room ≤ n
unfolding room_of
room_in room n e =
    rw e (split (λ (k : ℕ). k ≤ n) _ _ _ (λ q. omega arith) (λ q. ltb-false _ _ q))

-- what all turns come to, from a record that passes: old is the list, of which the turns have the
-- first room entries, and new is what these are in the end
module _ (n room v c : ℕ) (s : State) (f : Followed) (old new : List ℕ)
    (q : room ≡ room_of (length old))
    (w : gathered f v (take c new) ≡ gather n (length (take room old)) 0 0 [] s)
    (h : c ≤ length new) (l : length new ≡ length (take room old))
    (g : drop c new ≡ drop c (take room old)) where
  size : length (take room old) ≡ room_of (length old)
  size = let z = length-take room old in let y = room_in room (length old) q in omega arith

  ends : gathered f v (take c new) ≡ gathered (follow (collects (asked_in n old s)) 0 s)
      (0 + changes_all (collects (asked_in n old s)) s) (appended_in n old s)
  ends =
      w ∙ ap (λ (k : ℕ). gather n k 0 0 [] s) size ∙ gathers n (room_of (length old)) 0 0 [] s

  pub run_is : 0 ≡ check s → f ≡ run_in n old s
  unfolding schedule
  run_is z =
      pick_yes _ _ _ _ (eq_yes (check s) 0 (sym z)) (ap (λ (o : Gathered). o.run) ends)

  pub changed_is : v ≡ changes_in n old s
  changed_is = let z = ap (λ (o : Gathered). o.changed) ends in omega arith

  nodes_are : take c new ≡ appended_in n old s
  nodes_are = ap (λ (o : Gathered). o.nodes) ends

  pub count_is : c ≡ length (appended_in n old s)
  count_is = let z = length-take c new in rw (← nodes_are) (omega arith)

  behind : drop c (take room old) ++ drop room old ≡ drop c old
  behind =
      sym (drop-append-le c (take room old) (drop room old) (omega arith))
      ∙ ap (drop c) (take-append-drop room old)

  pub list_is : new ++ drop room old ≡ noted (appended_in n old s) old
  list_is =
      ap (λ (k : List ℕ). k ++ drop room old) (sym (take-append-drop c new))
      ∙ append_assoc (take c new) (drop c new) (drop room old)
      ∙ ap (λ (k : List ℕ). k ++ (drop c new ++ drop room old)) nodes_are
      ∙ ap (λ (k : List ℕ). appended_in n old s ++ k)
      (ap (λ (k : List ℕ). k ++ drop room old) g ∙ behind ∙ ap (λ (k : ℕ). drop k old) count_is)

-- from one that does not
module _ (s : State) (h : check s ≡ 0 → ⊥) where
  none_appended : (n : ℕ) → appended n s ≡ []
  unfolding appended
  none_appended zero = refl
  none_appended (suc n) =
      sym (pick_no _ _ _ _ (eq_no (code_of (step collecting s).answer) 0 (none_done s h collecting))
      refl)

  pub no_list : (n : ℕ) (list : List ℕ) → list ≡ noted (appended n s) list
  no_list n list = rw (none_appended n) refl

  pub no_count : (n : ℕ) → 0 ≡ length (appended n s)
  no_count n = rw (none_appended n) refl
