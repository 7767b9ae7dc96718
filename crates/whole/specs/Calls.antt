-- A text answered by calls for C: blocks of it, one after the other, and then its end [Text 1].
use Rattle.std.specs.Prelude.{ℕ, ◌<◌, true, List, [], ◌∷◌, ◌++◌, ◌≡◌, length, take}
use Rattle.jenturik_text.specs.declared.Turned.{Turned}
use Rattle.jenturik_text.specs.Words.{is_session}
use Rattle.jenturik_text.specs.Turning.{left, turns}

-- what the caller keeps: the words, and the buffers
pub record Kept : Type 0 where
  pub words : List ℕ
  pub left : List ℕ
  pub right : List ℕ
  pub colour : List ℕ
  pub lefts : List ℕ
  pub rights : List ℕ
  pub line : List ℕ
  pub out : List ℕ

-- what `jenturik_turn` promises: given a and a block, it answers t and leaves b
abbrev pub Turns : Kept → List ℕ → Turned → Kept → Type 0
Turns a block t b =
    (left t b.words b.left b.right b.colour b.lefts b.rights b.line b.out
    ≡ turns a.words a.left a.right a.colour a.lefts a.rights a.line a.out
    block)
    × (true ≡ is_session a.words → true ≡ is_session b.words)

-- calls for these blocks, none of them empty, and for the end of the text, print this
pub data Prints : Kept → List (List ℕ) → List ℕ → Type 0 where
  ends : (a b : Kept) (t : Turned) → Turns a [] t b → Prints a [] (take t.used b.out)
  goes : (a b : Kept) (t : Turned) (block : List ℕ) (blocks : List (List ℕ)) (more : List ℕ)
      → 0 < length block → Turns a block t b → Prints b blocks more
      → Prints a (block ∷ blocks) (take t.used b.out ++ more)
