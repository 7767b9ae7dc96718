-- The program as it reads and prints: blocks of the input, as they come, to the output of each. All
-- is in buffers: the program's own tables, the lists of an export's edges, the line at hand and the
-- output.
use Rattle.base.specs.Choice.{pick}
use Rattle.std.specs.Prelude.{ℕ, ◌≡◌, ◌+◌, Bool, true, false, List, [], ◌∷◌, ◌++◌, get_or, set, take, drop, ltb, eqb, Option, Some, None}
use Rattle.rules.specs.Table.{State, state}
use Rattle.rules.specs.Records.{fresh_record}
use Rattle.text.specs.Grammar.{read, is_export, entry}
use Rattle.text.specs.Answers.{Written, written, contents, put_all, said}
use Rattle.text.specs.declared.Edges.{Edges}
use Rattle.lines.specs.Lines.{Line, prints, later, opened, loaded}
use Rattle.session.specs.declared.Buffers.{Buffers}
use Rattle.session.specs.declared.Run.{Run}
use Rattle.session.specs.declared.Session.{Session}
use Rattle.session.specs.declared.Stage.{Stage}
use Rattle.session.specs.declared.Stage.TheVariants.{Opening, Second, Loading, Serving}
use Rattle.session.specs.declared.Stage.TheVariants.{Over, Stopped}

-- the bytes of a line that are kept: one more than a line may have
abbrev pub keeps : ℕ
keeps = 81

abbrev pub newline : ℕ
newline = 10

-- what a line prints
abbrev pub printed : Line → List ℕ
printed t = said t.code t.node

-- each byte of the input in its turn
unfoldable pub fold : {A : Type 0} → (A → ℕ → A) → List ℕ → A → A
fold f [] a = a
fold f (b ∷ input) a = fold f input (f a b)

-- later lines
pub record Going : Type 0 where
  pub state : State
  pub line : Written
  pub out : Written

-- the line at hand with these bytes more
abbrev pub gathered : Going → List ℕ → Going
gathered g bytes = record { state = g.state; line = put_all g.line bytes; out = g.out }

-- the line at hand prints this, and the next begins
abbrev pub prints_so : Going → Line → Going
prints_so g t = record {
  state =
      t.state;
  line = written g.line.out 0;
  out = put_all g.out (printed t);
}

-- the line at hand is at its end: it is answered, and the next begins
unfoldable pub ended : Going → Going
ended g = prints_so g (later (read (contents g.line)) g.state)

-- the position of the first newline, from position i on; past the input's end where there is none
unfoldable pub newline_from : List ℕ → ℕ → ℕ
newline_from [] i = i
newline_from (b ∷ input) i = pick (eqb b newline) i (newline_from input (i + 1))

-- all that a block finds and leaves: which line comes; the table, which is in the first entries of
-- the program's own, with the line and the output; what lies behind it in the program's own tables;
-- and the lists of an export's edges
pub record Stand : Type 0 where
  pub stage : Stage
  pub going : Going
  pub left : List ℕ
  pub right : List ℕ
  pub colour : List ℕ
  pub lefts : List ℕ
  pub rights : List ℕ

-- the entries that the table has of the program's own
abbrev pub held : Stage → ℕ
held Opening = 0
held (Second m) = m
held (Loading m n) = m
held (Serving m) = m
held Over = 0
held (Stopped m) = m

abbrev pub placed : Stage → State → List ℕ → List ℕ → Written → Written → Stand
placed stage s lefts rights line out =
    let m = held stage in
    let l = get_or s.edges 0 [] in
    let k = get_or s.edges 1 [] in
    record {
      stage =
          stage;
      going = record {
        state = state (take m l) (take m k) (take m s.colour) s.rec;
        line = line;
        out = out;
      };
      left = drop m l;
      right = drop m k;
      colour = drop m s.colour;
      lefts = lefts;
      rights = rights;
    }

-- where the code stands with the buffers that it is lent: g is what goes on beside them
unfoldable pub standing : Stage → Run → List ℕ → List ℕ → List ℕ → List ℕ → List ℕ → List ℕ → List ℕ
    → Stand
standing stage g l k c lefts rights line out =
    placed stage (state l k c g.rec) lefts rights (written line g.at) (written out g.used)

abbrev pub stand : Session → List ℕ → List ℕ → List ℕ → List ℕ → List ℕ → List ℕ → List ℕ → Stand
stand s l k c lefts rights line out = standing s.stage s.run l k c lefts rights line out

-- where the code stands with the buffers that it is lent together
abbrev pub standing_in : Stage → Run → Buffers → Stand
standing_in stage g b =
    standing stage g b.left.now b.right.now b.colour.now b.lefts.now b.rights.now b.line.now
    b.out.now

abbrev pub stand_in : Session → Buffers → Stand
stand_in s b = standing_in s.stage s.run b

-- b lends the slices that a lends
abbrev pub SameSlices : Buffers → Buffers → Type 0
SameSlices a b =
    (b.left.ghost_name ≡ a.left.ghost_name) × (b.right.ghost_name ≡ a.right.ghost_name) ×
    (b.colour.ghost_name ≡ a.colour.ghost_name) × (b.lefts.ghost_name ≡ a.lefts.ghost_name) ×
    (b.rights.ghost_name ≡ a.rights.ghost_name) × (b.line.ghost_name ≡ a.line.ghost_name) ×
    (b.out.ghost_name ≡ a.out.ghost_name)

-- the same in another stage, with other lines
abbrev pub moved : Stage → Going → Stand → Stand
moved stage g s = record {
  stage =
      stage;
  going = g;
  left = s.left;
  right = s.right;
  colour = s.colour;
  lefts = s.lefts;
  rights = s.rights;
}

abbrev pub turned : Stand → Going → Stand
turned s g = moved s.stage g s

-- the first line is at its end: [Program 10] it is answered, and ends the run where it is refused
unfoldable pub begun : Stand → Stand
begun s =
    let t = opened (read (contents s.going.line)) s.left s.right s.colour in
    placed (pick (eqb t.code 0) (Second t.state.rec.m) Over) t.state s.lefts
    s.rights (written s.going.line.out 0) (put_all s.going.out (printed t))

-- [Program 21] the export ends the run
unfoldable pub stopped : ℕ → Stand → Stand
stopped m s = moved (Stopped m) (prints_so s.going (prints 10 0 s.going.state)) s

-- [Program 20] all lines of an export are read: Load answers
unfoldable pub filled : ℕ → Stand → Stand
filled m s =
    let n = s.going.state.rec.m in
    let t = loaded (take n s.lefts) (take n s.rights) s.going.state in
    moved (pick (eqb t.code 0) (Serving m) (Stopped m)) (prints_so s.going t) s

-- the edges of node n
abbrev pub noted : ℕ → ℕ → ℕ → Stand → Stand
noted n l r s = record {
  stage =
      s.stage;
  going = s.going;
  left = s.left;
  right = s.right;
  colour = s.colour;
  lefts = set s.lefts n l;
  rights = set s.rights n r;
}

-- the line at hand is dropped without an answer
abbrev pub dropped : Going → Going
dropped g = record { state = g.state; line = written g.line.out 0; out = g.out }

-- line n of an export is at its end
unfoldable pub noting : ℕ → ℕ → Option Edges → Stand → Stand
noting m n (Some e) s =
    pick (ltb (n + 1) s.going.state.rec.m)
    (moved (Loading m (n + 1)) (dropped s.going) (noted n e.left e.right s))
    (filled m (noted n e.left e.right s))
noting m n None s = stopped m s

-- the line at hand is at its end
unfoldable pub line_ended : Stage → Stand → Stand
line_ended Opening s = begun s
line_ended (Second m) s =
    let line = contents s.going.line in
    pick (is_export line) (noting m 0 (entry line 0) s) (moved (Serving m) (ended s.going) s)
line_ended (Loading m n) s = noting m n (entry (contents s.going.line) n) s
line_ended (Serving m) s = moved (Serving m) (ended s.going) s
line_ended Over s = s
line_ended (Stopped m) s = s

-- whether the run is over: the first line was refused, or the export
abbrev pub is_over : Stage → Bool
is_over Opening = false
is_over (Second m) = false
is_over (Loading m n) = false
is_over (Serving m) = false
is_over Over = true
is_over (Stopped m) = true

unfoldable pub eaten : Stage → Stand → ℕ → Stand
eaten stage s b =
    pick (is_over stage) s
    (pick (eqb b newline) (line_ended stage s) (turned s (gathered s.going (b ∷ []))))

-- a byte more
abbrev pub eats : Stand → ℕ → Stand
eats s b = eaten s.stage s b

-- the output is empty again
unfoldable pub emptied : Stand → Stand
emptied s =
    turned s
    (record {
      state = s.going.state;
      line = s.going.line;
      out = written s.going.out.out
          0;
    })

-- a block of the input
unfoldable pub block : List ℕ → Stand → Stand
block input s = fold eats input (emptied s)

-- no line is at hand; the first one is, even where it has no byte
abbrev pub bare : Stage → ℕ → Bool
bare Opening at = false
bare (Second m) at = eqb at 0
bare (Loading m n) at = eqb at 0
bare (Serving m) at = eqb at 0
bare Over at = true
bare (Stopped m) at = true

-- [Program 21] the input is at its end while an export is not
abbrev pub closed : Stage → Stand → Stand
closed Opening s = s
closed (Second m) s = s
closed (Loading m n) s = stopped m s
closed (Serving m) s = s
closed Over s = s
closed (Stopped m) s = s

-- [Program 11] [Program 12] the end of the input ends the line at hand, and a first line that is
-- empty too
unfoldable pub finish : Stand → Stand
finish s =
    let t = pick (bare s.stage s.going.line.used) (emptied s) (block (newline ∷ []) s) in
    closed t.stage t

-- what a read delivered: a block of n bytes, or none, which is the end of the input
unfoldable pub turn : ℕ → List ℕ → Stand → Stand
turn n input s = pick (eqb n 0) (finish s) (block (take n input) s)

-- what is printed
abbrev pub shown : Stand → List ℕ
shown s = contents s.going.out

-- whether the run is over since the export was refused
abbrev pub is_stopped : Stage → Bool
is_stopped Opening = false
is_stopped (Second m) = false
is_stopped (Loading m n) = false
is_stopped (Serving m) = false
is_stopped Over = false
is_stopped (Stopped m) = true

-- before the first byte
abbrev pub started : Session
started = record { stage = Opening; run = record { rec = fresh_record 0 0 0 0; at = 0; used = 0 } }

-- what is printed for blocks, one after the other, and then for the end of the input
unfoldable pub outputs : Stand → List (List ℕ) → List ℕ
outputs s [] = shown (finish s)
outputs s (b ∷ blocks) = shown (block b s) ++ outputs (block b s) blocks
