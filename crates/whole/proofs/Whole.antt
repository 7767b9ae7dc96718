-- However the input is cut into blocks, what they print is the transcript.
use Prim.Native.Nat.{ℕ, suc, ◌+◌, ◌*◌, ◌<◌, ◌≤◌}
use mathlib.Core.Bool.{Bool, true, false, true≢false}
use mathlib.Core.Path.{◌≡◌, refl, sym, ap, ◌∙◌}
use mathlib.Core.List.{List, [], ◌∷◌, ◌++◌, append_assoc, append-nil, flatten}
use native.Mathlib.Omega.{arith}
use native.Mathlib.Numerals.{add-one}
use borrow.Author.Tests.{ltb-true, ltb-false, eqb-true}
use lib.ListN.{length, set, take, length-set, length-append}
use lib.Seq.{length-take-le, take_at, take-suc-set}
use lib.Dec.{eqb, ltb}
use Rattle.base.specs.Choice.{pick}
use Rattle.rules.specs.Table.{State}
use Rattle.text.specs.Grammar.{read, is_export, entry}
use Rattle.text.specs.Answers.{written, widest, contents, put, put_all}
use Rattle.std.specs.Prelude.{Option, Some, None}
use Rattle.text.specs.declared.Edges.{Edges}
use Rattle.text.proofs.Outputs.{Longer, put_full, put_longer, longer, said_short}
use Rattle.lines.specs.Lines.{Line, prints, later, first, loaded, opened, entries}
use Rattle.lines.proofs.Firsts.{Opens, opens_first}
use Rattle.whole.specs.Transcript.{Awaits, opening, second, export}
use Rattle.whole.specs.Transcript.{steps, nothing, Reply, reply, settled, stepped}
use Rattle.whole.specs.Transcript.{listed, answer, bare as bareLine, unended, reads}
use Rattle.whole.specs.Transcript.{transcript}
use Rattle.session.specs.Feeding.{newline, printed, keeps, fold, Going, gathered, prints_so, ended}
use Rattle.session.specs.Feeding.{Stand, placed, standing, stand, begun, stopped, filled, dropped}
use Rattle.session.specs.Feeding.{noting}
use Rattle.session.specs.Feeding.{line_ended, is_over, eaten, eats}
use Rattle.session.specs.Feeding.{emptied, block, bare, closed, finish, shown, outputs}
use Rattle.session.specs.Feeding.{started}
use Rattle.export.specs.Replaces.{fronts}
use Rattle.session.specs.declared.Stage.{Stage}
use Rattle.session.specs.declared.Stage.TheVariants.{Opening, Second, Loading, Serving}
use Rattle.session.specs.declared.Stage.TheVariants.{Over, Stopped}
use Rattle.whole.proofs.Kept.{kept}
use Rattle.session.proofs.Stands.{stands, over}

-- the buffers have their sizes, N that of the output, with room for n answers more
pub record RoomFor (N n : ℕ) (g : Going) : Type 0 where
  pub line_size : length g.line.out ≡ keeps
  pub line_used : g.line.used ≤ keeps
  pub out_size : length g.out.out ≡ N
  pub room : g.out.used + widest * n ≤ N

module _ (N n : ℕ) (g : Going) (f : RoomFor N (suc n) g) where
  less_fit : RoomFor N n g
  less_fit = record {
    line_size =
        f.line_size;
    line_used = f.line_used;
    out_size = f.out_size;
    room = omega (arith, f.room);
  }

  grown : (t : Line) → Longer g.out (printed t) (put_all g.out (printed t))
  grown t = let k =
      said_short t.code t.node in
      longer (printed t) g.out (omega (arith, f.out_size, f.room))

  -- a line is answered, and the next begins
  answered_fit : (t : Line) → RoomFor N n (prints_so g t)
  answered_fit t =
      let l = grown t in
      let k = said_short t.code t.node in
      record {
        line_size = f.line_size;
        line_used = omega arith;
        out_size = l.size
            ∙ f.out_size;
        room = omega (arith, f.room, l.used);
      }

  dropped_fit : RoomFor N n (dropped g)
  dropped_fit = record {
    line_size =
        f.line_size;
    line_used = omega arith;
    out_size = f.out_size;
    room = omega (arith, f.room);
  }

  -- a byte more, where the line has room for it
  put_fit : (b : ℕ) → RoomFor N n (gathered g (b ∷ []))
  unfolding put_all
  put_fit b = go (ltb g.line.used keeps) refl
    where
      go : (t : Bool) → ltb g.line.used keeps ≡ t → RoomFor N n (gathered g (b ∷ []))
      go true e =
          let h = ltb-true g.line.used keeps e in
          let l = put_longer g.line b (omega (arith, f.line_size)) in
          record {
            line_size = l.size ∙ f.line_size;
            line_used = omega (arith, l.used);
            out_size = f.out_size;
            room = omega (arith, f.room);
          }
      go false e =
          let h = ltb-false g.line.used keeps e in
          rw (put_full g.line b (omega (arith, f.line_size))) less_fit

  -- F reads no more than 81 bytes of a line: a byte that there is no room for is not missed
  kept_byte : (b : ℕ) (F : List ℕ → List ℕ) → ((w : List ℕ) → F (take keeps w) ≡ F w)
      → F (contents (put g.line b)) ≡ F (contents g.line ++ (b ∷ []))
  kept_byte b F k = go (ltb g.line.used keeps) refl
    where
      go : (t : Bool) → ltb g.line.used keeps ≡ t → F (contents (put g.line b))
          ≡ F (contents g.line ++ (b ∷ []))
      go true e =
          let h = ltb-true g.line.used keeps e in
          rw (put_longer g.line b (omega (arith, f.line_size))).holds
      go false e =
          let h = ltb-false g.line.used keeps e in
          let m = length-take-le g.line.used g.line.out (omega (arith, f.line_size)) in
          rw (put_full g.line b (omega (arith, f.line_size)))
          (ap F
          (sym (take_at (contents g.line) (b ∷ []) keeps (omega (arith, f.line_used))))
          ∙ k (contents g.line ++ (b ∷ [])))

-- which line comes, where the table and the lists of edges are these
abbrev pub awaited : Stage → State → List ℕ → List ℕ → Awaits
awaited Opening s ls rs = opening
awaited (Second m) s ls rs = second s
awaited (Loading m n) s ls rs = export s (take n ls) (take n rs)
awaited (Serving m) s ls rs = steps s
awaited Over s ls rs = nothing
awaited (Stopped m) s ls rs = nothing

abbrev pub awaits : Stand → Awaits
awaits s = awaited s.stage s.going.state s.lefts s.rights

-- what is to be printed for the rest of the input
abbrev pub due : Stand → List ℕ → List ℕ
due s input = reads (awaits s) (contents s.going.line) input

-- what is printed already, and that
abbrev pub all : Stand → List ℕ → List ℕ
all s input = shown s ++ due s input

-- while the first line is awaited the tables have all their entries; then no table has more nodes,
-- and a line of an export that comes is one of as many as there are nodes
abbrev pub Room : Stage → ℕ → List ℕ → List ℕ → List ℕ → Type 0
Room Opening nodes l k c = (entries ≤ length l) × (entries ≤ length k) × (entries ≤ length c)
Room (Second m) nodes l k c = (0 < nodes) × (nodes ≤ entries)
Room (Loading m n) nodes l k c = (n < nodes) × (nodes ≤ entries)
Room (Serving m) nodes l k c = Unit {0}
Room Over nodes l k c = Unit {0}
Room (Stopped m) nodes l k c = Unit {0}

pub record Ready (N n : ℕ) (s : Stand) : Type 0 where
  pub fit : RoomFor N n s.going
  pub room : Room s.stage s.going.state.rec.m s.left s.right s.colour
  pub lefts : entries ≤ length s.lefts
  pub rights : entries ≤ length s.rights

-- a line of s is at its end, this is the line's reply, and it led to t
record Ends (N n : ℕ) (s t : Stand) (r : Reply) : Type 0 where
  ready : Ready N n t
  out : shown t ≡ shown s ++ r.out
  next : awaits t ≡ r.next
  empty : contents t.going.line ≡ []

-- a line of each kind is at its end
module _ (N n : ℕ) (l k c ls rs : List ℕ) (g : Going) (f : RoomFor N (suc n) g)
    (p : entries ≤ length ls) (q : entries ≤ length rs) where
  first_ends : Room Opening 0 l k c
      → Ends N n (stands Opening l k c ls rs g) (begun (stands Opening l k c ls rs g))
      (settled (first (read (contents g.line))) second)
  unfolding begun pick
  first_ends room = go (eqb t.code 0) refl
    where
      t : Line
      t = opened (read (contents g.line)) l k c

      u : Line
      u = first (read (contents g.line))

      o : Opens t u
      o = opens_first (read (contents g.line)) l k c room.0 room.1 room.2

      same : printed t ≡ printed u
      same = rw (o.code, o.node)

      go : (z : Bool) → eqb t.code 0 ≡ z
          → Ends N n (stands Opening l k c ls rs g)
          (placed (pick z (Second t.state.rec.m) Over) t.state ls rs
          (written g.line.out 0) (put_all g.out (printed t)))
          (settled u second)
      go true e =
          let z : eqb u.code 0 ≡ true = rw (← o.code) e in
          let h : u.code ≡ 0 = sym o.code ∙ eqb-true _ _ e in
          let m : t.state.rec.m ≡ u.state.rec.m = ap (λ (s : State). s.rec.m) (o.table h)
          in
          record {
            ready = record {
              fit = answered_fit N n g f (prints t.code t.node
                  (fronts t.state.rec.m t.state));
              room = rw m (o.size h);
              lefts = p;
              rights = q;
            };
            out = (grown N n g f t).holds ∙ ap (λ (o : List ℕ). contents g.out ++ o) same;
            next = rw z (ap second (o.table h));
            empty = refl;
          }
      go false e =
          let z : eqb u.code 0 ≡ false = rw (← o.code) e in
          record {
            ready = record {
              fit = answered_fit N n g f (prints t.code t.node (fronts 0 t.state));
              room = tt;
              lefts = p;
              rights = q;
            };
            out = (grown N n g f t).holds ∙ ap (λ (o : List ℕ). contents g.out ++ o) same;
            next = rw z;
            empty = refl;
          }

  -- a line that t answers leads to this stage
  so_ends : (st st' : Stage) (ls' rs' : List ℕ) (t : Line) → Room st' t.state.rec.m l k c
      → entries ≤ length ls' → entries ≤ length rs'
      → Ends N n (stands st l k c ls rs g) (stands st' l k c ls' rs' (prints_so g t))
      (reply (printed t) (awaited st' t.state ls' rs'))
  so_ends st st' ls' rs' t room p' q' = record {
    ready = record { fit = answered_fit N n g f t; room = room; lefts = p'; rights = q' };
    out = (grown N n g f t).holds;
    next = refl;
    empty = refl;
  }

  step_ends : (st : Stage) (m : ℕ)
      → Ends N n (stands st l k c ls rs g) (stands (Serving m) l k c ls rs (ended g))
      (stepped g.state (contents g.line))
  unfolding ended
  step_ends st m =
      so_ends st (Serving m) ls rs (later (read (contents g.line)) g.state) tt p q

  -- line j of an export
  entry_ends : (st : Stage) (m j : ℕ) (x : Option Edges) → j < g.state.rec.m
      → g.state.rec.m ≤ entries
      → Ends N n (stands st l k c ls rs g) (noting m j x (stands st l k c ls rs g))
      (listed g.state (take j ls) (take j rs) x)
  unfolding noting listed filled stopped pick
  entry_ends st m j None h i =
      so_ends st (Stopped m) ls rs (prints 10 0 g.state) tt p q
  entry_ends st m j (Some d) h i = go (ltb (j + 1) g.state.rec.m) refl
    where
      lefts : take (j + 1) (set ls j d.left) ≡ take j ls ++ (d.left ∷ [])
      lefts = rw (add-one j) (take-suc-set ls j d.left (omega arith))

      rights : take (j + 1) (set rs j d.right) ≡ take j rs ++ (d.right ∷ [])
      rights = rw (add-one j) (take-suc-set rs j d.right (omega arith))

      all_lefts : g.state.rec.m ≡ j + 1 → take g.state.rec.m (set ls j d.left)
          ≡ take j ls ++ (d.left ∷ [])
      all_lefts e = rw e lefts

      all_rights : g.state.rec.m ≡ j + 1 → take g.state.rec.m (set rs j d.right)
          ≡ take j rs ++ (d.right ∷ [])
      all_rights e = rw e rights

      size : length (take j ls ++ (d.left ∷ [])) ≡ j + 1
      size =
          length-append (take j ls) (d.left ∷ []) ∙ omega (arith, length-take-le j ls (omega arith))

      more_lefts : entries ≤ length (set ls j d.left)
      more_lefts = omega (arith, length-set ls j d.left)

      more_rights : entries ≤ length (set rs j d.right)
      more_rights = omega (arith, length-set rs j d.right)

      v : Line
      v = loaded (take j ls ++ (d.left ∷ [])) (take j rs ++ (d.right ∷ [])) g.state

      last : (z : Bool)
          → Ends N n (stands st l k c ls rs g)
          (stands (pick z (Serving m) (Stopped m)) l k c (set ls j d.left) (set rs j d.right)
          (prints_so g v)) (reply (printed v) (pick z (steps v.state) nothing))
      last true =
          so_ends st (Serving m) (set ls j d.left) (set rs j d.right) v tt more_lefts more_rights
      last false =
          so_ends st (Stopped m) (set ls j d.left) (set rs j d.right) v tt more_lefts more_rights

      go : (z : Bool) → ltb (j + 1) g.state.rec.m ≡ z
          → Ends N n (stands st l k c ls rs g) (noting m j (Some d) (stands st l k c ls rs g))
          (listed g.state (take j ls) (take j rs) (Some d))
      go true z =
          rw (size, z)
          (record {
            ready = record {
              fit = dropped_fit N n g f;
              room = (ltb-true (j + 1) g.state.rec.m z, i);
              lefts = more_lefts;
              rights = more_rights;
            };
            out = sym (append-nil _);
            next = rw (lefts, rights);
            empty = refl;
          })
      go false z =
          let e = ltb-false (j + 1) g.state.rec.m z in
          let all : g.state.rec.m ≡ j + 1 = omega arith in
          rw (size, z, all_lefts all, all_rights all) (last (eqb v.code 0))

  line_ends : (st : Stage) → Room st g.state.rec.m l k c → is_over st ≡ false
      → Ends N n (stands st l k c ls rs g) (line_ended st (stands st l k c ls rs g))
      (answer (awaited st g.state ls rs) (contents g.line))
  unfolding line_ended answer pick
  line_ends Opening room o = first_ends room
  line_ends (Second m) room o = go (is_export (contents g.line)) refl
    where
      go : (z : Bool) → is_export (contents g.line) ≡ z
          → Ends N n (stands (Second m) l k c ls rs g)
          (line_ended (Second m) (stands (Second m) l k c ls rs g))
          (answer (second g.state) (contents g.line))
      go true e =
          rw e
          (entry_ends (Second m) m 0 (entry (contents g.line) 0) room.0 room.1)
      go false e = rw e (step_ends (Second m) m)
  line_ends (Loading m j) room o =
      rw (length-take-le j ls (omega (arith, room.0, room.1)))
      (entry_ends (Loading m j) m j (entry (contents g.line) j) room.0 room.1)
  line_ends (Serving m) room o = step_ends (Serving m) m
  line_ends Over room o = absurd (true≢false o)
  line_ends (Stopped m) room o = absurd (true≢false o)

silent : (w input : List ℕ) → [] ≡ reads nothing w input
unfolding reads answer pick
silent w [] = refl
silent w (b ∷ input) = go (eqb b newline) (silent [] input) (silent (w ++ (b ∷ [])) input)
  where
    go : (z : Bool) → [] ≡ reads nothing [] input → [] ≡ reads nothing (w ++ (b ∷ [])) input
        → [] ≡ pick z (reads nothing [] input) (reads nothing (w ++ (b ∷ [])) input)
    go true p q = p
    go false p q = q

-- a byte
module _ (N n : ℕ) (l k c ls rs : List ℕ) (g : Going) (b : ℕ) where
  Byte : Stage → Stand → Type 0
  Byte st s = Ready N n s × ((input : List ℕ) → all s input ≡ all (stands st l k c ls rs g)
      (b ∷ input))

  live_byte : (st : Stage) → is_over st ≡ false → Ready N (suc n) (stands st l k c ls rs g)
      → Byte st (eats (stands st l k c ls rs g) b)
  unfolding Byte eaten reads pick put_all
  live_byte st o r = go (eqb b newline) refl
    where
      e : Ends N n (stands st l k c ls rs g) (line_ended st (stands st l k c ls rs g))
          (answer (awaited st g.state ls rs) (contents g.line))
      e = line_ends N n l k c ls rs g r.fit r.lefts r.rights st r.room o

      y : Reply
      y = answer (awaited st g.state ls rs) (contents g.line)

      go : (z : Bool) → eqb b newline ≡ z → Byte st (eats (stands st l k c ls rs g) b)
      go true z =
          rw (o, z) (
            e.ready,
            λ input. rw (e.out, e.next, e.empty)
                (append_assoc (contents g.out) y.out (reads y.next [] input)),
          )
      go false z =
          rw (o, z) (
            record {
              fit = put_fit N n g r.fit b;
              room = r.room;
              lefts = r.lefts;
              rights = r.rights;
            },
            λ input. ap (λ (o : List ℕ). contents g.out ++ o)
                (kept_byte N n g r.fit b (λ w. reads (awaited st g.state ls rs) w input)
                (λ w. kept (awaited st g.state ls rs) w input)),
          )

  over_byte : (st : Stage) → is_over st ≡ true → awaited st g.state ls rs ≡ nothing
      → Ready N (suc n) (stands st l k c ls rs g) → Byte st (eats (stands st l k c ls rs g) b)
  unfolding Byte eaten pick
  over_byte st o a r =
      rw (o, a) (
        record {
          fit = less_fit N n g r.fit;
          room = r.room;
          lefts = r.lefts;
          rights = r.rights;
        },
        λ input. ap (λ (o : List ℕ). contents g.out ++ o)
            (sym (silent (contents g.line) input) ∙ silent (contents g.line) (b ∷ input)),
      )

  byte : (st : Stage) → Ready N (suc n) (stands st l k c ls rs g)
      → Byte st (eats (stands st l k c ls rs g) b)
  byte Opening r = live_byte Opening refl r
  byte (Second m) r = live_byte (Second m) refl r
  byte (Loading m j) r = live_byte (Loading m j) refl r
  byte (Serving m) r = live_byte (Serving m) refl r
  byte Over r = over_byte Over refl refl r
  byte (Stopped m) r = over_byte (Stopped m) refl refl r

-- the bytes of a block
eaten_all : (N : ℕ) (more input : List ℕ) (s : Stand) → Ready N (length input) s
    → Ready N 0 (fold eats input s) × (all (fold eats input s) more ≡ all s (input ++ more))
unfolding fold Byte
eaten_all N more [] s r = (r, refl)
eaten_all N more (b ∷ input) s r =
    let p = byte N (length input) s.left s.right s.colour s.lefts s.rights
    s.going b s.stage r in
    let q = eaten_all N more input (eats s b) p.0 in
    (q.0, q.1 ∙ p.1 (input ++ more))

emptied_ready : (N i : ℕ) (s : Stand) → Ready N 0 s → widest * i ≤ N → Ready N i (emptied s)
unfolding emptied
emptied_ready N i s r h =
    let f = r.fit in
    record {
      fit = record {
        line_size = f.line_size;
        line_used = f.line_used;
        out_size = f.out_size;
        room = omega arith;
      };
      room = r.room;
      lefts = r.lefts;
      rights = r.rights;
    }

-- a block, into an output that is empty again
block_all : (N : ℕ) (s : Stand) (input more : List ℕ) → Ready N 0 s → widest * length input ≤ N
    → Ready N 0 (block input s) × (all (block input s) more ≡ due s (input ++ more))
unfolding block emptied
block_all N s input more r h =
    eaten_all N more input (emptied s) (emptied_ready N (length input) s r h)

-- the end of the input
close_all : (N : ℕ) (l k c ls rs : List ℕ) (g : Going) (st : Stage) → RoomFor N 1 g
    → shown (closed st (stands st l k c ls rs g)) ≡ contents g.out ++ unended
    (awaited st g.state ls rs)
unfolding stopped
close_all N l k c ls rs g Opening f = sym (append-nil _)
close_all N l k c ls rs g (Second m) f = sym (append-nil _)
close_all N l k c ls rs g (Loading m j) f = (grown N 0 g f (prints 10 0 g.state)).holds
close_all N l k c ls rs g (Serving m) f = sym (append-nil _)
close_all N l k c ls rs g Over f = sym (append-nil _)
close_all N l k c ls rs g (Stopped m) f = sym (append-nil _)

closes : (N : ℕ) (s : Stand) → RoomFor N 1 s.going → shown (closed s.stage s)
    ≡ shown s ++ unended (awaits s)
closes N s f =
    close_all N s.left s.right s.colour s.lefts s.rights s.going s.stage f

module _ (N : ℕ) (l k c ls rs : List ℕ) (g : Going) (h : widest * 2 ≤ N) where
  -- a line is at hand or not
  finish_live : (st : Stage) → is_over st ≡ false
      → bare st g.line.used ≡ bareLine (awaited st g.state ls rs) (contents g.line)
      → Ready N 0 (stands st l k c ls rs g)
      → shown (finish (stands st l k c ls rs g)) ≡ due (stands st l k c ls rs g) []
  unfolding finish block emptied fold eaten reads pick
  finish_live st o q r =
      go (bareLine (awaited st g.state ls rs) (contents g.line)) refl
    where
      s : Stand
      s = stands st l k c ls rs g

      go : (z : Bool) → bareLine (awaited st g.state ls rs) (contents g.line) ≡ z
          → shown (finish s) ≡ due s []
      go true z =
          rw (q, z) (closes N (emptied s) (emptied_ready N 1 s r (omega arith)).fit)
      go false z =
          let y = emptied_ready N 2 s r (omega arith) in
          let e =
          line_ends N 1 l k c ls rs (emptied s).going y.fit y.lefts y.rights st y.room
          o in
          rw (q, z, o)
          (closes N (line_ended st (emptied s)) e.ready.fit ∙ rw (e.out, e.next))

  finish_all : (st : Stage) → Ready N 0 (stands st l k c ls rs g)
      → shown (finish (stands st l k c ls rs g)) ≡ due (stands st l k c ls rs g) []
  unfolding finish emptied reads pick
  finish_all st r = go st r
    where
      used : RoomFor N 0 g → eqb g.line.used 0 ≡ eqb (length (contents g.line)) 0
      used f =
          rw (length-take-le g.line.used g.line.out
          (omega (arith, f.line_used, f.line_size)))

      go : (st : Stage) → Ready N 0 (stands st l k c ls rs g)
          → shown (finish (stands st l k c ls rs g)) ≡ due (stands st l k c ls rs g) []
      go Opening r = finish_live Opening refl refl r
      go (Second m) r = finish_live (Second m) refl (used r.fit) r
      go (Loading m j) r = finish_live (Loading m j) refl (used r.fit) r
      go (Serving m) r = finish_live (Serving m) refl (used r.fit) r
      go Over r = refl
      go (Stopped m) r = refl

-- an output of N bytes has room for the answers of each block, and for two at the end
abbrev pub Short : ℕ → List (List ℕ) → Type 0
Short N [] = widest * 2 ≤ N
Short N (b ∷ blocks) = (widest * length b ≤ N) × Short N blocks

-- what blocks print, and the end of the input
printed_all : (N : ℕ) (blocks : List (List ℕ)) (s : Stand) → Ready N 0 s → Short N blocks
    → outputs s blocks ≡ due s (flatten blocks)
unfolding outputs flatten
printed_all N [] s r h =
    finish_all N s.left s.right s.colour s.lefts s.rights s.going h s.stage r
printed_all N (b ∷ blocks) s r h =
    let p = block_all N s b (flatten blocks) r h.0 in
    rw (printed_all N blocks (block b s) p.0 h.1) p.1

-- however the input is cut, what its blocks print, one after the other, is its transcript
pub cut : (l k c ls rs line out : List ℕ) → entries ≤ length l → entries ≤ length k
    → entries ≤ length c → entries ≤ length ls → entries ≤ length rs → length line ≡ keeps
    → (blocks : List (List ℕ)) → Short (length out) blocks
    → outputs (stand started l k c ls rs line out) blocks ≡ transcript (flatten blocks)
unfolding standing
cut l k c ls rs line out p q s t u h blocks f =
    printed_all (length out) blocks (stand started l k c ls rs line out)
    (record {
      fit = record {
        line_size = h;
        line_used = omega arith;
        out_size = refl;
        room = omega arith;
      };
      room = (p, q, s);
      lefts = t;
      rights = u;
    }) f

-- where the run is over nothing more is printed
over_finish : (s : Stand) (st : Stage) → is_over st ≡ true → shown (closed st (emptied s)) ≡ []
unfolding emptied
over_finish s Opening q = absurd (true≢false (sym q))
over_finish s (Second m) q = absurd (true≢false (sym q))
over_finish s (Loading m n) q = absurd (true≢false (sym q))
over_finish s (Serving m) q = absurd (true≢false (sym q))
over_finish s Over q = refl
over_finish s (Stopped m) q = refl

over_bare : (st : Stage) (at : ℕ) → is_over st ≡ true → bare st at ≡ true
over_bare Opening at q = q
over_bare (Second m) at q = absurd (true≢false (sym q))
over_bare (Loading m n) at q = absurd (true≢false (sym q))
over_bare (Serving m) at q = absurd (true≢false (sym q))
over_bare Over at q = refl
over_bare (Stopped m) at q = refl

pub over_silent : (blocks : List (List ℕ)) (s : Stand) → is_over s.stage ≡ true
    → outputs s blocks ≡ []
unfolding outputs block finish emptied pick
over_silent [] s q =
    rw (over_bare s.stage s.going.line.used q) (over_finish s s.stage q)
over_silent (b ∷ blocks) s q =
    let e = over b (emptied s) q in
    rw (← e) (over_silent blocks (emptied s) q)
