-- Where a session stands after the lines of a table: what the code leaves is what the bytes make of
-- it.
use Prim.Native.Nat.{ℕ}
use mathlib.Core.Bool.{Bool, true, false}
use mathlib.Core.Path.{◌≡◌, refl, sym, ap, ◌∙◌}
use mathlib.Core.List.{List, [], ◌∷◌, ◌++◌}
use lib.ListN.{take, drop}
use lib.Dec.{eqb}
use Rattle.base.specs.Choice.{pick}
use Rattle.rules.specs.Table.{state}
use Rattle.rules.specs.declared.Record.{Record}
use Rattle.text.specs.Grammar.{read}
use Rattle.text.specs.Answers.{written, put_all, said}
use Rattle.lines.specs.Lines.{prints, opened}
use Rattle.session.specs.Feeding.{newline, fold, Going, standing, begun, line_ended, eaten, eats}
use Rattle.session.specs.declared.Run.{Run}
use Rattle.session.specs.declared.Stage.{Stage}
use Rattle.session.specs.declared.Stage.TheVariants.{Opening, Second, Serving, Over}
use Rattle.session.proofs.Parts.{Lent}
use Rattle.session.proofs.Stands.{stands}
use Rattle.serving.specs.Serving.{going, next_byte}

-- while a table is served its lines go on, and nothing else changes
module _ (m : ℕ) (l k c ls rs : List ℕ) where
  serves_byte : (g : Going) (b : ℕ) → eats (stands (Serving m) l k c ls rs g) b
      ≡ stands (Serving m) l k c ls rs (next_byte g b)
  unfolding eaten line_ended next_byte pick
  serves_byte g b = go (eqb b newline) refl
    where
      go : (t : Bool) → eqb b newline ≡ t → eats (stands (Serving m) l k c ls rs g) b
          ≡ stands (Serving m) l k c ls rs (next_byte g b)
      go true e = rw e
      go false e = rw e

  serves : (input : List ℕ) (g : Going) → fold eats input (stands (Serving m) l k c ls rs g)
      ≡ stands (Serving m) l k c ls rs (fold next_byte input g)
  unfolding fold
  serves [] g = refl
  serves (b ∷ input) g = ap (fold eats input) (serves_byte g b) ∙ serves input (next_byte g b)

-- l', k' and c' are the parts as they came back, x and y what is kept beside them
pub served : (m : ℕ) (l k c input l' k' c' line out line' out' : List ℕ) (a b d : ℕ) (x y : Run)
    → Lent m a l l' → Lent m b k k' → Lent m d c c'
    → going y l' k' c' line' out' ≡ fold next_byte input
    (going x (take a l) (take b k) (take d c) line out)
    → (ls rs : List ℕ)
    → standing (Serving m) y (l' ++ drop a l) (k' ++ drop b k) (c' ++ drop d c) ls
    rs line' out'
    ≡ fold eats input (standing (Serving m) x l k c ls rs line out)
unfolding standing going
served m l k c input l' k' c' line out line' out' a b d x y p q s e ls rs =
    rw (p.first, q.first, s.first, p.rest, q.rest, s.rest)
    (ap (stands (Serving m) (drop m l) (drop m k) (drop m c) ls rs)
    (rw (p.given, q.given, s.given) at e)
    ∙ sym (serves m (drop m l) (drop m k) (drop m c) ls rs input
    (going x (take m l) (take m k) (take m c) line out)))

-- the first line is answered, and leads to this stage
pub begun_so : (g : Run) (x : Record) (st : Stage) (code node used : ℕ)
    (l k c l' k' c' ls rs line out out' : List ℕ)
    → prints code node (state l' k' c' x) ≡ opened (read (take g.at line)) l k c
    → written out' used ≡ put_all (written out g.used) (said code node)
    → st ≡ pick (eqb code 0) (Second x.m) Over
    → standing st (record { rec = x; at = 0; used = used }) l' k' c' ls rs line out'
    ≡ begun (standing Opening g l k c ls rs line out)
unfolding standing begun
begun_so g x st code node used l k c l' k' c' ls rs line out out' e d q = rw (← e, ← d, q)
