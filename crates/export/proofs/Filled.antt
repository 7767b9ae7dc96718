-- Where a session stands after a line of an export: what the code leaves is what the line makes of
-- it.
use Prim.Native.Nat.{ℕ, ◌+◌, min}
use mathlib.Core.Bool.{Bool, true, false}
use mathlib.Core.Path.{◌≡◌, refl, ◌∙◌}
use mathlib.Core.List.{List, ◌++◌}
use lib.ListN.{length, set, take, drop}
use lib.Dec.{eqb, ltb}
use Rattle.std.proofs.lemmas.List.{take_min}
use Rattle.base.specs.Choice.{pick}
use Rattle.base.proofs.Tests.{pick_yes, pick_no}
use Rattle.rules.specs.Table.{state}
use Rattle.rules.specs.declared.Record.{Record}
use Rattle.text.specs.Answers.{written, put_all, said}
use Rattle.std.specs.Prelude.{Some}
use Rattle.text.specs.declared.Edges.{Edges}
use Rattle.lines.specs.Lines.{prints, loaded}
use Rattle.session.specs.Feeding.{Stand, standing, filled, noting}
use Rattle.session.specs.declared.Run.{Run}
use Rattle.session.specs.declared.Stage.{Stage}
use Rattle.session.specs.declared.Stage.TheVariants.{Loading, Serving, Stopped}
use Rattle.session.proofs.Parts.{Lent}
use Rattle.session.proofs.Stands.{stands}
use Rattle.session.specs.Replaces.{Replaces}

-- Load in the parts that were lent, of the parts of the lists
pub replaced : (m n code node : ℕ) (l k c l' k' c' ls rs : List ℕ) (a b d i j : ℕ) (x y : Record)
    → Lent m a l l' → Lent m b k k' → Lent m d c c' → i ≡ min n (length ls) → j ≡ min n (length rs)
    → prints code node (state l' k' c' y) ≡ loaded (take i ls) (take j rs)
    (state (take a l) (take b k) (take d c) x)
    → Replaces m (loaded (take n ls) (take n rs)) (state l k c x) code node
    (state (l' ++ drop a l) (k' ++ drop b k) (c' ++ drop d c) y)
replaced m n code node l k c l' k' c' ls rs a b d i j x y p q s u v e =
    let w : take i ls ≡ take n ls = rw u (take_min n ls) in
    let z : take j rs ≡ take n rs = rw v (take_min n rs) in
    record {
      front = rw (p.first, q.first, s.first) (rw (w, z, p.given, q.given, s.given) at e);
      left = p.rest;
      right = q.rest;
      colour = s.rest;
    }

-- Load answered, and leads to this stage
module _ (g : Run) (m code node used : ℕ) (l k c l' k' c' ls rs out out' : List ℕ) (x : Record)
    (e : Replaces m (loaded (take g.rec.m ls) (take g.rec.m rs)) (state l k c g.rec) code
    node (state l' k' c' x))
    (d : written out' used ≡ put_all (written out g.used) (said code node)) (st : Stage)
    (q : st ≡ pick (eqb code 0) (Serving m) (Stopped m)) (line : List ℕ) where
  leads_to : Stage → Stand
  leads_to st =
      stands st (drop m l) (drop m k) (drop m c) ls rs
      (record {
        state = state (take m l') (take m k') (take m c') x;
        line = written line 0;
        out = written out' used;
      })

  pub filled_so : standing st (record { rec = x; at = 0; used = used }) l' k' c' ls rs line out'
      ≡ filled m (standing (Serving m) g l k c ls rs line out)
  unfolding standing filled leads_to pick
  filled_so = rw (← e.front, ← d, q) (go (eqb code 0))
    where
      go : (z : Bool)
          → standing (pick z (Serving m) (Stopped m)) (record { rec = x; at = 0; used = used }) l'
          k' c' ls rs line out'
          ≡ leads_to (pick z (Serving m) (Stopped m))
      go true = rw (e.left, e.right, e.colour)
      go false = rw (e.left, e.right, e.colour)

-- line n of an export has these edges
module _ (m n : ℕ) (e : Edges) (g : Run) (l k c ls rs ls' rs' line out : List ℕ)
    (p : ls' ≡ set ls n e.left) (q : rs' ≡ set rs n e.right) where
  pub noted_more : true ≡ ltb (n + 1) g.rec.m
      → standing (Loading m (n + 1)) (record { rec = g.rec; at = 0; used = g.used }) l k c ls' rs'
      line out
      ≡ noting m n (Some e) (standing (Serving m) g l k c ls rs line out)
  unfolding standing noting
  noted_more h = rw (p, q) (pick_yes _ _ _ _ h refl)

  pub noted_last : false ≡ ltb (n + 1) g.rec.m → (t : Stand)
      → t ≡ filled m (standing (Serving m) g l k c ls' rs' line out)
      → t ≡ noting m n (Some e) (standing (Serving m) g l k c ls rs line out)
  unfolding standing noting
  noted_last h t f = pick_no _ _ _ _ h (f ∙ rw (p, q))
