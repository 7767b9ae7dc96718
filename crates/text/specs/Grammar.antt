-- A line of a schedule: its bytes to what it says. The section Program of docs/RULES.md. Each piece
-- is read from the first of the bytes on, and gives what it says with the bytes that follow: none
-- where it does not stand there.
use Rattle.base.specs.Choice.{pick, every}
use Rattle.std.specs.Prelude.{ℕ, zero, suc, ◌+◌, ◌-◌, ◌*◌, ◌%◌, Bool, List, [], ◌∷◌, length, ltb}
use Rattle.std.specs.Prelude.{leb, eqb, Option, Some, None, is_some, option_map}
use Rattle.std.specs.Option.{option_map_or}
use denote.Ref.{Bor}
use Rattle.rules.specs.declared.Place.{Place}
use Rattle.rules.specs.declared.Step.{Step}
use Rattle.rules.specs.Steps.{taking, linking, shading, looking}
use Rattle.text.specs.Bytes.{bytes}
use Rattle.text.specs.declared.Said.{Said}
use Rattle.text.specs.declared.Said.TheVariants.{First, Do, Collect, Unreadable}
use Rattle.text.specs.declared.Turns.{Turns}
use Rattle.text.specs.declared.Sizes.{Sizes}
use Rattle.text.specs.declared.Row.{Row}
use Rattle.text.specs.declared.Edges.{Edges}

-- the bytes of a line at most
abbrev pub longest : ℕ
longest = 80

-- what f makes of what stands there
infixl 10 ◌>>=◌
abbrev pub ◌>>=◌ : {A B : Type 0} → Option A → (A → Option B) → Option B
None >>= f = None
(Some x) >>= f = f x

-- what code returns, with the bytes that follow as a list
abbrev pub seen : {A : Type 0} → Option (A × Bor (List ℕ)) → Option (A × List ℕ)
seen r = option_map (λ x. (x.0, x.1.now)) r

-- a word, byte by byte
unfoldable pub after : List ℕ → List ℕ → Option (List ℕ)
after line [] = Some line
after [] (b ∷ word) = None
after (c ∷ line) (b ∷ word) = pick (eqb c b) (after line word) None

unfoldable pub is_digit : ℕ → Bool
is_digit b = every (leb 48 b ∷ leb b 57 ∷ [])

-- at most so many digits more, behind the number n
unfoldable pub digits_at : List ℕ → ℕ → ℕ → ℕ × List ℕ
digits_at line zero n = (n, line)
digits_at [] (suc more) n = (n, [])
digits_at (b ∷ line) (suc more) n =
    pick (is_digit b) (digits_at line more (n * 10 + (b - 48))) (n, b ∷ line)

-- [Program 4] a number
unfoldable pub number_at : List ℕ → Option (ℕ × List ℕ)
number_at [] = None
number_at (b ∷ line) =
    pick (is_digit b) (pick (eqb b 48) (Some (0, line)) (Some (digits_at (b ∷ line) 7 0))) None

-- [Program 6] a letter L or R, and its side [Table 12]
unfoldable pub side_at : List ℕ → Option (ℕ × List ℕ)
side_at [] = None
side_at (b ∷ line) = pick (eqb b 76) (Some (0, line)) (pick (eqb b 82) (Some (1, line)) None)

abbrev pub turns : ℕ → ℕ → Turns
turns n word = record { count = n; word = word }

-- one more than the largest word of twelve turns
abbrev pub many_words : ℕ
many_words = 4096

-- letters, turn 0 first [Places 2]; all are counted, and the word is that of the first twelve
unfoldable pub letters_at : List ℕ → ℕ → ℕ → ℕ → ℕ → Turns × List ℕ
letters_at line zero n word bit = (turns n word, line)
letters_at line (suc more) n word bit =
    option_map_or (λ s. letters_at s.1 more (n + 1) ((word + s.0 * bit) % many_words)
    (bit * 2 % many_words)) (side_at line) (turns n word, line)

-- [Program 5] turns
unfoldable pub turns_at : List ℕ → Option (Turns × List ℕ)
turns_at [] = None
turns_at (b ∷ line) =
    pick (eqb b 45) (Some (turns 0 0, line))
    (side_at (b ∷ line) >>= (λ s. Some (letters_at (b ∷ line) longest 0 0 1)))

-- a slot, a word and turns
unfoldable pub place_at : List ℕ → List ℕ → Option (Place × List ℕ)
place_at line word = do
  slot ← number_at line
  rest ← after slot.1 word
  path ← turns_at rest
  Some (record { slot = slot.0; count = path.0.count; word = path.0.word }, path.1)

-- [Program 3] the forms of a line after the first
unfoldable pub take_line : List ℕ → Option (Step × List ℕ)
take_line line = do
  rest ← after line (bytes "op=take slot=")
  p ← place_at rest (bytes " turns=")
  rest ← after p.1 (bytes " side=")
  s ← side_at rest
  Some (taking p.0 s.0, s.1)

unfoldable pub link_line : List ℕ → Option (Step × List ℕ)
link_line line = do
  rest ← after line (bytes "op=link slot=")
  p ← place_at rest (bytes " turns=")
  rest ← after p.1 (bytes " side=")
  s ← side_at rest
  rest ← after s.1 (bytes " toslot=")
  q ← place_at rest (bytes " toturns=")
  Some (linking p.0 s.0 q.0, q.1)

unfoldable pub shade_line : List ℕ → Option (Step × List ℕ)
shade_line line = do
  rest ← after line (bytes "op=shade")
  Some (shading, rest)

unfoldable pub look_line : List ℕ → Option (Step × List ℕ)
look_line line = do
  rest ← after line (bytes "op=look slot=")
  p ← place_at rest (bytes " turns=")
  Some (looking p.0, p.1)

unfoldable pub collect_line : List ℕ → Option (ℕ × List ℕ)
collect_line line = do
  rest ← after line (bytes "op=collect count=")
  number_at rest

-- [Program 2] the form of the first line
unfoldable pub first_line : List ℕ → Option (Sizes × List ℕ)
first_line line = do
  rest ← after line (bytes "nodes=")
  m ← number_at rest
  rest ← after m.1 (bytes " slots=")
  r ← number_at rest
  Some (record { nodes = m.0; slots = r.0 }, r.1)

-- [Program 7] the largest count; [Program 9] a larger one is not of the form
unfoldable pub counted : ℕ → Said
counted n = pick (leb n 1000000) (Collect n) Unreadable

-- what stands there, where nothing follows it
abbrev pub whole : {A : Type 0} → Option (A × List ℕ) → Option A
whole None = None
whole (Some (x, [])) = Some x
whole (Some (x, b ∷ rest)) = None

-- what is said there; else the rest is looked at
abbrev pub or_else : {A : Type 0} → Option A → (A → Said) → Said → Said
or_else None f other = other
or_else (Some x) f other = f x

-- the form that ends where the line does; [Program 8] a line of at most 80 bytes
unfoldable pub read : List ℕ → Said
read line =
    pick (ltb longest (length line)) Unreadable
    (or_else (whole (take_line line)) Do
    (or_else (whole (link_line line)) Do
    (or_else (whole (shade_line line)) Do
    (or_else (whole (look_line line)) Do
    (or_else (whole (collect_line line)) counted
    (or_else (whole (first_line line)) (λ s. First s.nodes s.slots)
    Unreadable))))))

-- [Program 18] whether a line begins an export
unfoldable pub is_export : List ℕ → Bool
is_export line = is_some (after line (bytes "node="))

-- [Program 19] the form of an export's line
unfoldable pub entry_line : List ℕ → Option (Row × List ℕ)
entry_line line = do
  rest ← after line (bytes "node=")
  n ← number_at rest
  rest ← after n.1 (bytes " left=")
  l ← number_at rest
  rest ← after l.1 (bytes " right=")
  r ← number_at rest
  Some (record { node = n.0; edges = record { left = l.0; right = r.0 } }, r.1)

-- [Program 19] the edges of node n; none where the line is over 80 bytes, of another form or of
-- another node
unfoldable pub entry : List ℕ → ℕ → Option Edges
entry line n =
    pick (ltb longest (length line)) None
    (whole (entry_line line) >>= (λ e. pick (eqb e.node n) (Some e.edges) None))
