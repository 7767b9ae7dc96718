-- Where a session stands, line by line: what the code leaves is what the bytes make of it.
use Prim.Native.Nat.{ℕ, suc, ◌+◌, ◌-◌, ◌<◌, ◌≤◌}
use mathlib.Core.Bool.{true, false}
use mathlib.Core.Path.{◌≡◌, refl, sym, ap, ◌∙◌}
use mathlib.Core.List.{List, [], ◌∷◌}
use native.Mathlib.Omega.{arith}
use native.Mathlib.Numerals.{add-one}
use lib.ListN.{length, get_or, take, drop, drop_of_length-le}
use lib.Seq.{drop-cons}
use lib.Dec.{eqb}
use Rattle.base.specs.Choice.{pick}
use Rattle.base.proofs.Tests.{pick_yes, pick_no, eq_yes}
use Rattle.text.specs.Grammar.{is_export, entry}
use Rattle.text.specs.Answers.{Written, written, put_all}
use Rattle.std.specs.Prelude.{Option, Some, None}
use Rattle.text.specs.declared.Edges.{Edges}
use Rattle.session.specs.Feeding.{newline, fold, Going, gathered, newline_from, Stand}
use Rattle.session.specs.Feeding.{standing, moved, turned, begun, stopped, filled, noting}
use Rattle.session.specs.Feeding.{line_ended, is_over, eaten, eats, emptied, block, bare, closed}
use Rattle.session.specs.Feeding.{finish}
use Rattle.session.specs.declared.Run.{Run}
use Rattle.session.specs.declared.Stage.{Stage}
use Rattle.session.specs.declared.Stage.TheVariants.{Opening, Second, Loading, Serving}
use Rattle.session.proofs.Feeds.{to_end, found}
use Rattle.session.proofs.Stands.{over}
use Rattle.transcript.specs.Leads.{Leads}

-- nothing is left of the input
none_left : (input : List ℕ) (s : Stand) → s ≡ fold eats (drop (length input) input) s
unfolding fold
none_left input s = rw (drop_of_length-le input {i = length input} (omega arith))

-- all that is left was eaten
leads_all : (i : ℕ) (input : List ℕ) (s t : Stand) → i < length input
    → t ≡ fold eats (drop i input) s
    → Leads i (length input) input s t
leads_all i input s t h e = record { gains = h; same = sym e ∙ none_left input t }

-- what an export's line does is the same in each stage
same_noting : (m n : ℕ) (x : Option Edges) (st st' : Stage) (s : Stand)
    → noting m n x (moved st s.going s) ≡ noting m n x (moved st' s.going s)
unfolding noting filled stopped
same_noting m n (Some e) st st' s = refl
same_noting m n None st st' s = refl

newline_eaten : (s : Stand) (b : ℕ) → b ≡ newline → is_over s.stage ≡ false
    → line_ended s.stage s ≡ eats s b
unfolding eaten
newline_eaten s b z q =
    pick_no _ _ _ _ (sym q) (pick_yes _ _ _ _ (eq_yes b newline z) refl)

-- a newline stands at position i
module _ (i : ℕ) (input : List ℕ) (h : i < length input) (z : get_or input i 0 ≡ 10) where
  at_newline : (s : Stand) → is_over s.stage ≡ false → fold eats (drop i input) s
      ≡ fold eats (drop (i + 1) input) (line_ended s.stage s)
  unfolding fold
  at_newline s q =
      ap (λ (w : List ℕ). fold eats w s) (drop-cons input i 0 h)
      ∙ ap (fold eats (drop (suc i) input)) (sym (newline_eaten s (get_or input i 0) z q))
      ∙ ap (λ (j : ℕ). fold eats (drop j input) (line_ended s.stage s)) (sym (add-one i))

  module _ (g : Run) (l k c ls rs line out : List ℕ) (t : Stand) where
    abbrev at : Stage → Stand
    at st = standing st g l k c ls rs line out

    -- a line is at its end, where the run is not over
    leads_ended : (st : Stage) → is_over st ≡ false → t ≡ line_ended st (at st)
        → Leads i (i + 1) input (at st) t
    unfolding standing
    leads_ended st q e = record {
      gains = omega arith;
      same =
          at_newline (standing st g l k c ls rs line out) q
          ∙ ap (fold eats (drop (i + 1) input)) (sym e);
    }

    -- the first line
    pub leads_first : t ≡ begun (at Opening) → Leads i (i + 1) input (at Opening) t
    unfolding line_ended
    leads_first e = leads_ended Opening refl e

    -- the first line of an export
    pub leads_export : (m : ℕ) → true ≡ is_export (take g.at line)
        → t ≡ noting m 0 (entry (take g.at line) 0) (at (Serving m))
        → Leads i (i + 1) input (at (Second m)) t
    unfolding line_ended standing pick
    leads_export m q e =
        leads_ended (Second m) refl
        (rw (← q) (e ∙ same_noting m 0 _ (Serving m) (Second m) (at (Serving m))))

    -- line n of an export
    pub leads_entry : (m n : ℕ)
        → t ≡ noting m n (entry (take g.at line) n) (at (Serving m))
        → Leads i (i + 1) input (at (Loading m n)) t
    unfolding line_ended standing
    leads_entry m n e =
        leads_ended (Loading m n) refl
        (e ∙ same_noting m n _ (Serving m) (Loading m n) (at (Serving m)))

    -- steps: the table is served from here on
    pub leads_served : (m : ℕ) → t ≡ fold eats (drop i input) (at (Serving m))
        → Leads i (length input) input (at (Serving m)) t
    leads_served m e = leads_all i input (at (Serving m)) t h e

    -- the first step
    pub leads_step : (m : ℕ) → false ≡ is_export (take g.at line)
        → t ≡ fold eats (drop i input) (at (Serving m))
        → Leads i (length input) input (at (Second m)) t
    unfolding line_ended standing pick
    leads_step m q e =
        let same : line_ended (Serving m) (standing (Serving m) g l k c ls rs line out)
        ≡ line_ended (Second m) (standing (Second m) g l k c ls rs line out) = rw (← q) in
        leads_all i input _ t h
        (e ∙ at_newline (standing (Serving m) g l k c ls rs line out) refl
        ∙ ap (fold eats (drop (i + 1) input)) same
        ∙ sym (at_newline (standing (Second m) g l k c ls rs line out) refl))

-- the run is over
pub leads_over : (i : ℕ) (input : List ℕ) (st : Stage) (g : Run) (l k c ls rs line out : List ℕ)
    → i < length input → true ≡ is_over st
    → Leads i (length input) input (standing st g l k c ls rs line out)
    (standing st g l k c ls rs line out)
unfolding standing
leads_over i input st g l k c ls rs line out h q =
    let s = standing st g l k c ls rs line out in
    leads_all i input s s h (over (drop i input) s (sym q))

gathers : (s : Stand) → is_over s.stage ≡ false → (g : Going) (b : ℕ) → eqb b newline ≡ false
    → eats (turned s g) b ≡ turned s (gathered g (b ∷ []))
unfolding eaten pick
gathers s z g b e = rw (z, e)

-- the line up to e, where its newline stands or the input ends
line_eaten : (i e : ℕ) (input : List ℕ) (s : Stand) (line : Written)
    → e ≡ newline_from (drop i input) i → is_over s.stage ≡ false
    → line ≡ put_all s.going.line (take (e - i) (drop i input))
    → fold eats (drop i input) s ≡ fold eats (drop e input)
    (turned s (record { state = s.going.state; line = line; out = s.going.out }))
line_eaten i e input s line q z d =
    rw (d, q) (to_end eats (turned s) (gathers s z) input i s.going)

-- line' is the line then, with so many bytes used
module _ (i e : ℕ) (input : List ℕ) (st : Stage) (g : Run) (used : ℕ)
    (l k c ls rs line line' out : List ℕ) (q : e ≡ newline_from (drop i input) i)
    (h : i < length input) (z : false ≡ is_over st)
    (d : written line' used ≡ put_all (written line g.at) (take (e - i) (drop i input))) where
  lined : Stand
  lined = standing st (record { rec = g.rec; at = used; used = g.used }) l k c ls rs line' out

  goes : fold eats (drop i input) (standing st g l k c ls rs line out)
      ≡ fold eats (drop e input) lined
  unfolding standing lined
  goes =
      line_eaten i e input (standing st g l k c ls rs line out) (written line' used) q (sym z) d

  pub leads_on : (j : ℕ) (t : Stand)
      → Leads e j input (standing st (record { rec = g.rec; at = used; used = g.used }) l k c ls
      rs line' out) t
      → Leads i j input (standing st g l k c ls rs line out) t
  unfolding lined
  leads_on j t r =
      let b = found input i e q h in
      record { gains = omega (arith, r.gains); same = goes ∙ r.same }

  pub leads_rest : length input ≤ e
      → Leads i e input (standing st g l k c ls rs line out)
      (standing st (record { rec = g.rec; at = used; used = g.used }) l k c ls rs line' out)
  unfolding lined
  leads_rest b = record { gains = omega arith; same = goes }

-- e is where the session stands with its output empty, t where it stands when all is eaten
pub blocks : (input : List ℕ) (j : ℕ) (e s t : Stand) → e ≡ emptied s
    → fold eats input e ≡ fold eats (drop j input) t → length input ≤ j → t ≡ block input s
unfolding block fold
blocks input j e s t p r h =
    sym (r ∙ rw (drop_of_length-le input {i = j} h)) ∙ ap (fold eats input) p

-- where a session stands, the stage is its own
pub stage_of_lem : (st : Stage) (g : Run) (l k c ls rs line out : List ℕ)
    → (standing st g l k c ls rs line out).stage ≡ st
unfolding standing
stage_of_lem st g l k c ls rs line out = refl

-- e is where the session stands before the end of the input is seen
module _ (st st' : Stage) (g : Run) (l k c ls rs line out : List ℕ) (e t : Stand)
    (w : e.stage ≡ st') (r : t ≡ closed st' e) where
  closes : t ≡ closed e.stage e
  closes = r ∙ ap (λ (st : Stage). closed st e) (sym w)

  pub finish_bare : true ≡ bare st g.at → e ≡ emptied (standing st g l k c ls rs line out)
      → t ≡ finish (standing st g l k c ls rs line out)
  unfolding finish standing
  finish_bare q p =
      closes ∙ ap (λ (e : Stand). closed e.stage e) (pick_yes _ _ _ _ q p)

  pub finish_line : false ≡ bare st g.at
      → e ≡ block (newline ∷ []) (standing st g l k c ls rs line out)
      → t ≡ finish (standing st g l k c ls rs line out)
  unfolding finish standing
  finish_line q p =
      closes ∙ ap (λ (e : Stand). closed e.stage e) (pick_no _ _ _ _ q p)
