-- [Figures 3] The worked listing, as bytes: its nine lines print its nine answers. First each line
-- is read, then what they say is done.
use Prim.Native.Nat.{ℕ}
use mathlib.Core.Bool.{Bool, true, false, false≢true}
use mathlib.Core.Path.{◌≡◌, refl, sym, ap, ◌∙◌}
use mathlib.Core.List.{List, [], ◌∷◌, ◌++◌, append-nil}
use lib.Dec.{eqb}
use lib.Seq.{append_snoc}
use Rattle.base.specs.Choice.{pick, every, first}
use Rattle.rules.specs.Table.{State, unless, edge_of, with_edge, cleared, shade_in, bad_edge}
use Rattle.rules.specs.Records.{one_more, after_append}
use Rattle.rules.specs.Check.{size_ok, position_ok, second_ok, phase_ok, owed_ok, last_ok, free_ok}
use Rattle.rules.specs.Check.{bound, cycle_ok, told_ok, counts_ok, record_ok, check_of}
use Rattle.rules.specs.Fresh.{tabulate, next_free, fresh_left, fresh_last, fresh_state, fresh}
use Rattle.rules.specs.Places.{sides_ok, turns_ok, place_code, walk_from, arrive}
use Rattle.rules.specs.Editor.{side_code, owed_code, look, depart, link_to, link, pay, shade_owed}
use Rattle.rules.specs.Editor.{bad_free, relink, take_next, take_first, take}
use Rattle.rules.specs.Collector.{shade_step, after_roots, scan_step, read_step, black_step, append}
use Rattle.rules.specs.Collector.{append_white, append_step, phase_step, collect}
use Rattle.rules.specs.Steps.{taking, linking, shading, looking, step, run}
use Rattle.rules.specs.declared.Place.{Place}
use Rattle.rules.specs.Schedules.{follow, schedule, collects}
use Rattle.text.specs.Bytes.{bytes}
use Rattle.text.specs.Grammar.{after, is_digit, digits_at, number_at, side_at, letters_at}
use Rattle.text.specs.Grammar.{turns_at, place_at, take_line, link_line, shade_line, look_line}
use Rattle.text.specs.Grammar.{collect_line, first_line, counted, read, is_export}
use Rattle.text.specs.Answers.{digit_of, decimal, said}
use Rattle.text.specs.declared.Said.{Said}
use Rattle.text.specs.declared.Said.TheVariants.{First, Do, Collect}
use Rattle.lines.specs.Lines.{start_of, collected, later, first as firstly}
use Rattle.session.specs.Feeding.{printed, newline}
use Rattle.whole.specs.Transcript.{Awaits, opening, second, steps}
use Rattle.whole.specs.Transcript.{answer, reads, transcript}

-- a line without a newline in it
unfoldable plain : List ℕ → Bool
plain [] = true
plain (b ∷ w) = pick (eqb b newline) false (plain w)

-- lines, each with its newline
abbrev pub lines : List (List ℕ) → List ℕ
lines [] = []
lines (w ∷ ws) = w ++ newline ∷ lines ws

-- the answers to what later lines say
unfoldable replies : State → List Said → List ℕ
replies s [] = []
replies s (a ∷ said) = printed (later a s) ++ replies (later a s).state said

reads_line : (a : Awaits) (w line rest : List ℕ) → plain w ≡ true
    → reads a line (w ++ newline ∷ rest)
    ≡ (answer a (line ++ w)).out ++ reads (answer a (line ++ w)).next [] rest
unfolding reads plain pick
reads_line a [] line rest h = rw append-nil
reads_line a (b ∷ w) line rest h = go (eqb b newline) refl (reads_line a w (line ++ (b ∷ [])) rest)
    h
  where
    go : (t : Bool) → eqb b newline ≡ t
        → (plain w ≡ true → reads a (line ++ (b ∷ [])) (w ++ newline ∷ rest)
        ≡ (answer a (line ++ (b ∷ []) ++ w)).out ++ reads
        (answer a (line ++ (b ∷ []) ++ w)).next [] rest)
        → plain (b ∷ w) ≡ true
        → reads a line (b ∷ (w ++ newline ∷ rest))
        ≡ (answer a (line ++ b ∷ w)).out ++ reads (answer a (line ++ b ∷ w)).next [] rest
    go true e f h = absurd (false≢true (rw e at h))
    go false e f h = rw (e, ← append_snoc line b w) (f (rw e at h))

-- each line is read as it says
data Says : List (List ℕ) → List Said → Type 0 where
  none : Says [] []
  more : {w : List ℕ} {a : Said} {ws : List (List ℕ)} {said : List Said} → plain w ≡ true → read w
      ≡ a → Says ws said → Says (w ∷ ws) (a ∷ said)

steps_lines : {ws : List (List ℕ)} {said : List Said} (s : State) → Says ws said
    → reads (steps s) [] (lines ws) ≡ replies s said
unfolding reads answer replies pick
steps_lines s none = refl
steps_lines s (more {w} {a} {ws} p e r) = reads_line (steps s) w [] (lines ws) p
    ∙ rw e (ap (λ (o : List ℕ). printed (later a s) ++ o) (steps_lines (later a s).state r))

-- the line after the first is a step
second_line : (s : State) (w rest : List ℕ) → plain w ≡ true → is_export w ≡ false
    → reads (second s) [] (w ++ newline ∷ rest) ≡ reads (steps s) [] (w ++ newline ∷ rest)
unfolding answer pick
second_line s w rest p e =
    reads_line (second s) w [] rest p ∙ rw e (sym (reads_line (steps s) w [] rest p))

-- a place: slot 0, so many turns
abbrev at : ℕ → ℕ → Place
at count word = record { slot = 0; count = count; word = word }

abbrev later_lines : List (List ℕ)
later_lines =
    bytes "op=take slot=0 turns=- side=L" ∷
    bytes "op=take slot=0 turns=- side=R" ∷
    bytes "op=take slot=0 turns=- side=L" ∷
    bytes "op=link slot=0 turns=- side=L toslot=0 toturns=R" ∷
    bytes "op=shade" ∷
    bytes "op=collect count=80" ∷
    bytes "op=look slot=0 turns=L" ∷
    bytes "op=take slot=0 turns=L side=R" ∷
    []

abbrev pub given : List (List ℕ)
given = bytes "nodes=5 slots=1" ∷ later_lines

abbrev pub told : List (List ℕ)
told =
    bytes "code=0 node=4" ∷
    bytes "code=0 node=3" ∷
    bytes "code=0 node=4" ∷
    bytes "code=9 node=0" ∷
    bytes "code=0 node=4" ∷
    bytes "code=0 node=4" ∷
    bytes "code=0 node=3" ∷
    bytes "code=0 node=4" ∷
    bytes "code=0 node=3" ∷
    []

sayings : List Said
sayings =
    Do (taking (at 0 0) 0) ∷ Do (taking (at 0 0) 1) ∷ Do (taking (at 0 0) 0) ∷ Do
    (linking (at 0 0) 0 (at 1 1)) ∷ Do shading ∷ Collect 80 ∷ Do (looking (at 1 0)) ∷ Do
    (taking (at 1 0) 1) ∷ []

says : Says later_lines sayings
unfolding pick every after is_digit digits_at number_at side_at letters_at turns_at place_at
    take_line link_line shade_line look_line collect_line first_line counted read sayings plain
says =
    more refl refl
    (more refl refl
    (more refl refl
    (more refl refl (more refl refl (more refl refl (more refl refl (more refl refl none)))))))

opens : read (bytes "nodes=5 slots=1") ≡ First 5 1
unfolding pick every after is_digit digits_at number_at side_at letters_at turns_at place_at
    take_line link_line shade_line look_line collect_line first_line counted read
opens = refl

done : printed (firstly (First 5 1)) ++ replies (firstly (First 5 1)).state sayings ≡ lines told
unfolding pick every first unless edge_of with_edge cleared shade_in bad_edge one_more after_append size_ok
    position_ok second_ok phase_ok owed_ok last_ok free_ok bound cycle_ok told_ok counts_ok record_ok check_of
    tabulate next_free fresh_left fresh_last
    fresh_state fresh sides_ok turns_ok place_code walk_from arrive side_code owed_code look depart link_to
    link pay shade_owed bad_free relink take_next take_first take shade_step after_roots scan_step read_step
    black_step append append_white append_step phase_step collect step run follow schedule collects
    digit_of decimal said start_of collected later firstly sayings replies
done = refl

pub listing : transcript (lines given) ≡ lines told
unfolding pick plain fresh size_ok every firstly answer is_export after
listing =
    reads_line opening (bytes "nodes=5 slots=1") [] (lines later_lines) refl
    ∙ rw opens (ap (λ (o : List ℕ). printed (firstly (First 5 1)) ++ o)
    (second_line (firstly (First 5 1)).state (bytes "op=take slot=0 turns=- side=L") _ refl refl
    ∙ steps_lines (firstly (First 5 1)).state says) ∙ done)
