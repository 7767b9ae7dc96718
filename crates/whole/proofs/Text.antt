-- However a text is cut into blocks, what the calls for C print is its transcript.
use Prim.Native.Nat.{ℕ, ◌<◌, ◌≤◌}
use mathlib.Core.Bool.{true}
use mathlib.Core.List.{List, [], ◌∷◌, ◌++◌, flatten}
use mathlib.Core.Path.{◌≡◌, refl, sym, ap, ◌∙◌}
use native.Mathlib.Omega.{arith}
use lib.ListN.{length, take, replicate}
use lib.Seq.{take_all}
use Rattle.base.specs.Choice.{pick}
use Rattle.base.proofs.Tests.{pick_yes, pick_no, eq_yes, eq_no}
use Rattle.lines.specs.Lines.{entries}
use Rattle.session.specs.Feeding.{keeps, Stand, standing, stand, emptied, block, finish, turn}
use Rattle.session.specs.Feeding.{shown, outputs}
use Rattle.jenturik_text.specs.declared.Turned.{Turned}
use Rattle.jenturik_text.specs.Words.{WORDS, is_session, session_of}
use Rattle.jenturik_text.specs.Turning.{judged, Left, printing, left, done, turns}
use Rattle.jenturik_text.proofs.Sessions.{start_words}
use Rattle.jenturik_text.proofs.Ranges.{turn_ranged}
use Rattle.jenturik_text.proofs.Turns.{session_ranged}
use Rattle.jenturik_text.proofs.jenturik_turn.Reads as jenturik-turn
use Rattle.whole.specs.Transcript.{transcript}
use Rattle.whole.specs.Calls.{Kept, Turns, Prints, ends, goes}
use Rattle.whole.proofs.Whole.{Short, cut}

-- where the session that the words are stands
abbrev stood : Kept → Stand
stood a =
    stand (session_of a.words) a.left a.right a.colour a.lefts a.rights a.line
    a.out

-- each block empties the output first
from_empty : (blocks : List (List ℕ)) (s : Stand) → outputs s blocks ≡ outputs (emptied s) blocks
unfolding outputs block finish emptied
from_empty [] s = refl
from_empty (b ∷ blocks) s = refl

-- a call that is not refused
module _ (a b : Kept) (t : Turned) (input : List ℕ) (call : Turns a input t b)
    (w : true ≡ is_session a.words) (h : length a.line ≡ keeps) where
  after : Stand
  after = turn (length input) input (stood a)

  accepted : judged (length a.line) a.words ≡ 0
  unfolding judged
  accepted = sym (pick_yes _ _ _ _ w (pick_yes _ _ _ _ (eq_yes _ _ h) refl))

  all_done : left t b.words b.left b.right b.colour b.lefts b.rights b.line
      b.out ≡ done after
  unfolding turns after
  all_done = call.0 ∙ sym (pick_yes _ _ _ _ (eq_yes _ _ accepted) refl)

  -- where the session stands then, with what is printed
  left_at : Stand
  left_at =
      stand (printing (session_of b.words) t.used) b.left b.right b.colour b.lefts
      b.rights b.line b.out

  same_stand : left_at ≡ after
  unfolding left_at
  same_stand = ap (λ (x : Left). x.stand) all_done

  printed : take t.used b.out ≡ shown after
  unfolding left_at standing
  printed =
      ap (λ (n : ℕ). take n b.out) (ap (λ (x : Left). x.told.used) all_done)
      ∙ ap (take after.going.out.used) (ap (λ (s : Stand). s.going.out.out) same_stand)

  same_line : length b.line ≡ keeps
  unfolding left_at standing after
  same_line =
      ap (λ (s : Stand). length s.going.line.out) same_stand
      ∙ (turn_ranged (length input) input (stood a)
      (session_ranged a.left a.right a.colour a.lefts a.rights a.line a.out
      a.words w h)).line.size

  -- the next block empties the output
  goes_on : (blocks : List (List ℕ)) → outputs (stood b) blocks ≡ outputs after blocks
  unfolding left_at standing session_of emptied
  goes_on blocks =
      sym (from_empty blocks left_at) ∙ ap (λ (s : Stand). outputs s blocks) same_stand

block_turn : (input : List ℕ) (s : Stand) → 0 < length input
    → turn (length input) input s ≡ block input s
unfolding turn
block_turn input s h =
    sym (pick_no _ _ _ _ (eq_no (length input) 0 (λ q. omega (arith, h, q)))
    (ap (λ (l : List ℕ). block l s) (sym (take_all (length input) input (omega arith)))))

-- calls print what the blocks print
all_printed : {a : Kept} {blocks : List (List ℕ)} {o : List ℕ} → Prints a blocks o
    → true ≡ is_session a.words → length a.line ≡ keeps → o ≡ outputs (stood a) blocks
unfolding outputs turn after pick
all_printed (ends a b t call) w h = printed a b t [] call w h
all_printed (goes a b t input blocks more k call rest) w h =
    let e : turn (length input) input (stood a) ≡ block input (stood a) =
    block_turn input (stood a) k in
    let next = all_printed rest (call.1 w) (same_line a b t input call w h) in
    ap (λ (l : List ℕ). l ++ more) (printed a b t input call w h ∙ ap shown e)
    ∙ ap (λ (l : List ℕ). shown (block input (stood a)) ++ l)
    (next ∙ goes_on a b t input call w h blocks ∙ ap (λ (s : Stand). outputs s blocks) e)

-- [Text 6] from words that are all 0, with the program's arrays, however the text is cut, what is
-- printed for its blocks and for its end, one after the other, is its transcript
pub text_cut : (a : Kept) → a.words ≡ replicate WORDS 0 → entries ≤ length a.left
    → entries ≤ length a.right → entries ≤ length a.colour → entries ≤ length a.lefts
    → entries ≤ length a.rights → length a.line ≡ keeps
    → (blocks : List (List ℕ)) → Short (length a.out) blocks
    → (o : List ℕ) → Prints a blocks o → o ≡ transcript (flatten blocks)
text_cut a z l k c ls rs h blocks short o p =
    all_printed p (rw z start_words.1) h
    ∙ rw (z, start_words.0) (cut a.left a.right a.colour a.lefts a.rights a.line
    a.out l k c ls rs h blocks short)

-- `Turns` is what the contract of `jenturik_turn` says
pub promised : (κs : _) (a : _) (r : _) (s : _) → jenturik-turn.Learnt κs a r s
    → Turns (record {
      words = a.1.1.1.1.1.1.1.0.now;
      left = a.0.now;
      right = a.1.0.now;
      colour = a.1.1.0.now;
      lefts = a.1.1.1.0.now;
      rights = a.1.1.1.1.0.now;
      line = a.1.1.1.1.1.0.now;
      out = a.1.1.1.1.1.1.0.now;
    }) a.1.1.1.1.1.1.1.1.0.now r (record {
      words = s.1.1.1.1.1.1.1.0.now;
      left = s.0.now;
      right = s.1.0.now;
      colour = s.1.1.0.now;
      lefts = s.1.1.1.0.now;
      rights = s.1.1.1.1.0.now;
      line = s.1.1.1.1.1.0.now;
      out = s.1.1.1.1.1.1.0.now;
    })
promised κs a r s p = p
