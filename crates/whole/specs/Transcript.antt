-- The whole transcript: input bytes to output bytes, a line for each line [Program 1].
use Rattle.base.specs.Choice.{pick}
use Rattle.std.specs.Prelude.{ℕ, Bool, true, false, List, [], ◌∷◌, ◌++◌, length, ltb, eqb, Option, Some, None}
use Rattle.rules.specs.Table.{State}
use Rattle.text.specs.Grammar.{read, is_export, entry}
use Rattle.text.specs.Answers.{said}
use Rattle.text.specs.declared.Edges.{Edges}
use Rattle.lines.specs.Lines.{Line, later, first, loaded}
use Rattle.session.specs.Feeding.{printed, newline}

-- which line comes: the first; the one after it, a step or the first of an export; one of an
-- export, behind those of these edges; a step; or none that is read
pub data Awaits : Type 0 where
  opening : Awaits
  second : State → Awaits
  export : State → List ℕ → List ℕ → Awaits
  steps : State → Awaits
  nothing : Awaits

-- what a line prints, and which comes then
pub record Reply : Type 0 where
  pub out : List ℕ
  pub next : Awaits

abbrev pub reply : List ℕ → Awaits → Reply
reply out next = record { out = out; next = next }

-- [Program 10] [Program 20] a refusal ends the run
abbrev pub settled : Line → (State → Awaits) → Reply
settled t next = reply (printed t) (pick (eqb t.code 0) (next t.state) nothing)

abbrev pub stepped : State → List ℕ → Reply
stepped s line = let t = later (read line) s in reply (printed t) (steps t.state)

-- a line of an export: [Program 19] it prints nothing, [Program 20] but the last one Load's answer;
-- [Program 21] one that is out of turn or of another form ends the run
unfoldable pub listed : State → List ℕ → List ℕ → Option Edges → Reply
listed s ls rs (Some e) =
    let ls' = ls ++ (e.left ∷ []) in
    let rs' = rs ++ (e.right ∷ []) in
    pick (ltb (length ls') s.rec.m) (reply [] (export s ls' rs'))
    (settled (loaded ls' rs' s) steps)
listed s ls rs None = reply (said 10 0) nothing

unfoldable pub answer : Awaits → List ℕ → Reply
answer opening line = settled (first (read line)) second
answer (second s) line = pick (is_export line) (listed s [] [] (entry line 0)) (stepped s line)
answer (export s ls rs) line = listed s ls rs (entry line (length ls))
answer (steps s) line = stepped s line
answer nothing line = reply [] nothing

-- [Program 11] whether the end of the input ends no line; [Program 12] it ends the first one always
abbrev pub bare : Awaits → List ℕ → Bool
bare opening line = false
bare (second s) line = eqb (length line) 0
bare (export s ls rs) line = eqb (length line) 0
bare (steps s) line = eqb (length line) 0
bare nothing line = true

-- [Program 21] what the end of the input prints: an export is not complete
abbrev pub unended : Awaits → List ℕ
unended opening = []
unended (second s) = []
unended (export s ls rs) = said 10 0
unended (steps s) = []
unended nothing = []

-- what is printed for the input where `line` is read of a line, which a newline ends [Program 8] or
-- the input's end
unfoldable pub reads : Awaits → List ℕ → List ℕ → List ℕ
reads a line [] =
    pick (bare a line) (unended a) ((answer a line).out ++ unended (answer a line).next)
reads a line (b ∷ input) =
    pick (eqb b newline) ((answer a line).out ++ reads (answer a line).next [] input)
    (reads a (line ++ (b ∷ [])) input)

abbrev pub transcript : List ℕ → List ℕ
transcript input = reads opening [] input
