-- What a block of the input does for a caller that keeps the session as words: the section Text of
-- docs/RULES.md.
use Rattle.base.specs.Choice.{pick}
use Rattle.std.specs.Prelude.{ℕ, true, List, ◌≡◌, eqb, length}
use Rattle.session.specs.Feeding.{keeps, Stand, stand, turn}
use Rattle.session.specs.declared.Session.{Session}
use Rattle.session.specs.declared.Stage.{Stage}
use Rattle.session.specs.declared.Stage.TheVariants.{Opening, Second, Loading, Serving}
use Rattle.session.specs.declared.Stage.TheVariants.{Over, Stopped}
use Rattle.jenturik_text.specs.Words.{words_of, session_of, is_session}
use Rattle.jenturik_text.specs.declared.Turned.{Turned}

-- [Text 5] 0 where the run goes on, 1 where the first line was refused, 2 where the export was
abbrev pub over_of : Stage → ℕ
over_of Opening = 0
over_of (Second m) = 0
over_of (Loading m n) = 0
over_of (Serving m) = 0
over_of Over = 1
over_of (Stopped m) = 2

-- [Text 4] 2 where the words are no session's, 1 where the line's buffer has not 81 bytes
unfoldable pub judged : ℕ → List ℕ → ℕ
judged n w = pick (is_session w) (pick (eqb n keeps) 0 1) 2

-- how many bytes are printed, the code, and whether the run is over; the fourth number is 0
pub record Answered : Type 0 where
  pub used : ℕ
  pub code : ℕ
  pub over : ℕ
  pub zero : ℕ

abbrev pub answered : ℕ → ℕ → ℕ → Answered
answered used code over = record { used = used; code = code; over = over; zero = 0 }

abbrev pub answered_of : Turned → Answered
answered_of t = record { used = t.used; code = t.code; over = t.over; zero = t.zero }

-- what is told, the words, and where the session that they are stands with the buffers
pub record Left : Type 0 where
  pub told : Answered
  pub words : List ℕ
  pub stand : Stand

abbrev pub left_of : Answered → List ℕ → Stand → Left
left_of told w s = record { told = told; words = w; stand = s }

-- so many bytes of the output are used
abbrev pub printing : Session → ℕ → Session
printing s used = record {
  stage =
      s.stage;
  run = record { rec = s.run.rec; at = s.run.at; used = used };
}

abbrev pub left : Turned → List ℕ → List ℕ → List ℕ → List ℕ → List ℕ → List ℕ → List ℕ → List ℕ
    → Left
left t w l k c ls rs line out =
    left_of (answered_of t) w (stand (printing (session_of w) t.used) l k c ls rs line out)

-- [Text 1] what the program does
abbrev pub done : Stand → Left
done s =
    left_of (answered s.going.out.used 0 (over_of s.stage))
    (words_of s.stage s.going.state.rec s.going.line.used) s

-- [Text 4] nothing changes
abbrev pub spurned : ℕ → List ℕ → Stand → Left
spurned code w s = left_of (answered 0 code 0) w s

unfoldable pub turns : List ℕ → List ℕ → List ℕ → List ℕ → List ℕ → List ℕ → List ℕ → List ℕ
    → List ℕ → Left
turns w l k c ls rs line out input =
    let s = stand (session_of w) l k c ls rs line out in
    let code = judged (length line) w in
    pick (eqb code 0) (done (turn (length input) input s)) (spurned code w s)

-- [Text 6] words that were a session's are a session's
abbrev pub Stays : List ℕ → List ℕ → Type 0
Stays was is = true ≡ is_session was → true ≡ is_session is
