-- A call's promise determines all that it leaves, for the public calls of the program's crates: any
-- two outcomes that a contract admits are equal. `Learnt κs a r s` is what a caller learns of a
-- call: κs the lifetimes, a the arguments, r what it hands back, s the lent slices as it leaves
-- them.
use Prim.Native.Nat.{ℕ}
use mathlib.Core.Path.{◌≡◌, sym, ap, ◌∙◌}
use mathlib.Core.List.{List, [], ◌++◌}
use lib.ListN.{get_or, take-append-drop}
use Rattle.rules.specs.Table.{state}
use Rattle.rules.specs.declared.Record.{Record}
use Rattle.text.specs.Answers.{written}
use Rattle.text.proofs.read.Reads as read
use Rattle.text.proofs.say.Reads as say
use Rattle.text.proofs.is_export.Reads as is-export
use Rattle.text.proofs.entry.Reads as entry
use Rattle.lines.specs.Lines.{prints}
use Rattle.lines.proofs.first.Reads as first
use Rattle.lines.proofs.later.Reads as later
use Rattle.lines.proofs.load.Reads as load
use Rattle.session.specs.Feeding.{Stand, held, standing, stand}
use Rattle.session.specs.declared.Buffers.{Buffers as Slices}
use Rattle.session.specs.declared.Session.{Session}
use Rattle.session.specs.declared.Stage.{Stage}
use Rattle.transcript.proofs.start.Reads as start
use Rattle.transcript.proofs.is_over.Reads as is-over
use Rattle.transcript.proofs.is_stopped.Reads as is-stopped
use Rattle.transcript.proofs.block.Reads as block
use Rattle.transcript.proofs.finish.Reads as finish
use Rattle.transcript.proofs.turn.Reads as turn
use Rattle.transcript.proofs.turn_in.Reads as turn-in
use Rattle.jenturik_text.specs.declared.Turned.{Turned}
use Rattle.jenturik_text.specs.Turning.{Left}
use Rattle.jenturik_text.proofs.jenturik_turn.Reads as jenturik-turn

-- two things that equal one are equal
determined : {A : Type 0} {a b c : A} → a ≡ c → b ≡ c → a ≡ b
determined p q = p ∙ sym q

pub read_determined : (κs : _) (a : _) (r r' : _) (s s' : _) → read.Learnt κs a r s
    → read.Learnt κs a r' s' → r ≡ r'
read_determined κs a r r' s s' = determined

pub is_export_determined : (κs : _) (a : _) (r r' : _) (s s' : _) → is-export.Learnt κs a r s
    → is-export.Learnt κs a r' s' → r ≡ r'
is_export_determined κs a r r' s s' = determined

pub entry_determined : (κs : _) (a : _) (r r' : _) (s s' : _) → entry.Learnt κs a r s
    → entry.Learnt κs a r' s' → r ≡ r'
entry_determined κs a r r' s s' = determined

pub say_determined : (κs : _) (a : _) (r r' : _) (s s' : _) → say.Learnt κs a r s
    → say.Learnt κs a r' s'
    → written s.0.now r ≡ written s'.0.now r'
say_determined κs a r r' s s' = determined

pub first_determined : (κs : _) (a : _) (r r' : _) (s s' : _) → first.Learnt κs a r s
    → first.Learnt κs a r' s'
    → prints r.code r.node (state s.0.now s.1.0.now s.1.1.0.now r.rec)
    ≡ prints r'.code r'.node (state s'.0.now s'.1.0.now s'.1.1.0.now
    r'.rec)
first_determined κs a r r' s s' = determined

pub later_determined : (κs : _) (a : _) (r r' : _) (s s' : _) → later.Learnt κs a r s
    → later.Learnt κs a r' s'
    → prints r.code r.node (state s.0.now s.1.0.now s.1.1.0.now r.rec)
    ≡ prints r'.code r'.node (state s'.0.now s'.1.0.now s'.1.1.0.now
    r'.rec)
later_determined κs a r r' s s' = determined

pub load_determined : (κs : _) (a : _) (r r' : _) (s s' : _) → load.Learnt κs a r s
    → load.Learnt κs a r' s'
    → prints r.code r.node
    (state s.1.1.0.now s.1.1.1.0.now s.1.1.1.1.0.now r.rec)
    ≡ prints r'.code r'.node
    (state s'.1.1.0.now s'.1.1.1.0.now s'.1.1.1.1.0.now r'.rec)
load_determined κs a r r' s s' = determined

pub start_determined : (κs : _) (a : _) (r r' : _) (s s' : _) → start.Learnt κs a r s
    → start.Learnt κs a r' s' → r ≡ r'
start_determined κs a r r' s s' = determined

pub is_over_determined : (κs : _) (a : _) (r r' : _) (s s' : _) → is-over.Learnt κs a r s
    → is-over.Learnt κs a r' s' → r ≡ r'
is_over_determined κs a r r' s s' = determined

pub is_stopped_determined : (κs : _) (a : _) (r r' : _) (s s' : _) → is-stopped.Learnt κs a r s
    → is-stopped.Learnt κs a r' s' → r ≡ r'
is_stopped_determined κs a r r' s s' = determined

-- the buffers: the tables, the lists of an export's edges, the line and the output
pub record Buffers : Type 0 where
  pub left : List ℕ
  pub right : List ℕ
  pub colour : List ℕ
  pub lefts : List ℕ
  pub rights : List ℕ
  pub line : List ℕ
  pub out : List ℕ

abbrev pub buffers : List ℕ → List ℕ → List ℕ → List ℕ → List ℕ → List ℕ → List ℕ → Buffers
buffers l k c ls rs line out = record {
  left =
      l;
  right = k;
  colour = c;
  lefts = ls;
  rights = rs;
  line = line;
  out = out;
}

abbrev stood : Session → Buffers → Stand
stood s b =
    stand s b.left b.right b.colour b.lefts b.rights b.line b.out

session : Stage → Record → ℕ → ℕ → Session
session st x at used = record { stage = st; run = record { rec = x; at = at; used = used } }

same : (b d : Buffers) → b.left ≡ d.left → b.right ≡ d.right → b.colour ≡ d.colour
    → b.lefts ≡ d.lefts → b.rights ≡ d.rights → b.line ≡ d.line → b.out ≡ d.out → b ≡ d
same b d l k c ls rs line out =
    let e : buffers b.left b.right b.colour b.lefts b.rights b.line b.out
    ≡ buffers d.left d.right d.colour d.lefts d.rights d.line d.out =
    rw (l, k, c, ls, rs, line, out) in
    e

-- where a session stands tells all of it
tells : (s t : Session) (b d : Buffers) → stood s b ≡ stood t d → (s ≡ t) × (b ≡ d)
unfolding session standing
tells s t b d e =
    let p : s.stage ≡ t.stage = ap (λ (x : Stand). x.stage) e in
    let q : s.run.rec ≡ t.run.rec = ap (λ (x : Stand). x.going.state.rec) e in
    let a : s.run.at ≡ t.run.at = ap (λ (x : Stand). x.going.line.used) e in
    let u : s.run.used ≡ t.run.used = ap (λ (x : Stand). x.going.out.used) e in
    let all : session s.stage s.run.rec s.run.at s.run.used
    ≡ session t.stage t.run.rec t.run.at t.run.used = rw (p, q, a, u) in
    let l : b.left ≡ d.left =
    sym (take-append-drop (held s.stage) b.left)
    ∙ ap (λ (x : Stand). get_or x.going.state.edges 0 [] ++ x.left) e
    ∙ take-append-drop (held t.stage) d.left in
    let k : b.right ≡ d.right =
    sym (take-append-drop (held s.stage) b.right)
    ∙ ap (λ (x : Stand). get_or x.going.state.edges 1 [] ++ x.right) e
    ∙ take-append-drop (held t.stage) d.right in
    let c : b.colour ≡ d.colour =
    sym (take-append-drop (held s.stage) b.colour)
    ∙ ap (λ (x : Stand). x.going.state.colour ++ x.colour) e
    ∙ take-append-drop (held t.stage) d.colour in
    let ls : b.lefts ≡ d.lefts = ap (λ (x : Stand). x.lefts) e in
    let rs : b.rights ≡ d.rights = ap (λ (x : Stand). x.rights) e in
    let line : b.line ≡ d.line = ap (λ (x : Stand). x.going.line.out) e in
    let out : b.out ≡ d.out = ap (λ (x : Stand). x.going.out.out) e in
    (all, same b d l k c ls rs line out)

pub block_determined : (κs : _) (a : _) (r r' : _) (s s' : _) → block.Learnt κs a r s
    → block.Learnt κs a r' s'
    → (r ≡ r') ×
    ((buffers s.0.now s.1.0.now s.1.1.0.now s.1.1.1.0.now
    s.1.1.1.1.0.now s.1.1.1.1.1.0.now
    s.1.1.1.1.1.1.0.now)
    ≡ (buffers s'.0.now s'.1.0.now s'.1.1.0.now s'.1.1.1.0.now
    s'.1.1.1.1.0.now s'.1.1.1.1.1.0.now
    s'.1.1.1.1.1.1.0.now))
block_determined κs a r r' s s' p q = tells _ _ _ _ (determined p q)

pub finish_determined : (κs : _) (a : _) (r r' : _) (s s' : _) → finish.Learnt κs a r s
    → finish.Learnt κs a r' s'
    → (r ≡ r') ×
    ((buffers s.0.now s.1.0.now s.1.1.0.now s.1.1.1.0.now
    s.1.1.1.1.0.now s.1.1.1.1.1.0.now
    s.1.1.1.1.1.1.0.now)
    ≡ (buffers s'.0.now s'.1.0.now s'.1.1.0.now s'.1.1.1.0.now
    s'.1.1.1.1.0.now s'.1.1.1.1.1.0.now
    s'.1.1.1.1.1.1.0.now))
finish_determined κs a r r' s s' p q = tells _ _ _ _ (determined p q)

pub turn_determined : (κs : _) (a : _) (r r' : _) (s s' : _) → turn.Learnt κs a r s
    → turn.Learnt κs a r' s'
    → (r ≡ r') ×
    ((buffers s.0.now s.1.0.now s.1.1.0.now s.1.1.1.0.now
    s.1.1.1.1.0.now s.1.1.1.1.1.0.now
    s.1.1.1.1.1.1.0.now)
    ≡ (buffers s'.0.now s'.1.0.now s'.1.1.0.now s'.1.1.1.0.now
    s'.1.1.1.1.0.now s'.1.1.1.1.1.0.now
    s'.1.1.1.1.1.1.0.now))
turn_determined κs a r r' s s' p q = tells _ _ _ _ (determined p q)

-- the buffers behind the slices that are lent together
abbrev pub behind : Slices → Buffers
behind b = buffers b.left.now b.right.now b.colour.now b.lefts.now b.rights.now b.line.now b.out.now

pub turn_in_determined : (κs : _) (a : _) (r r' : _) (s s' : _) → turn-in.Learnt κs a r s
    → turn-in.Learnt κs a r' s' → (r ≡ r') × (behind s.0.now ≡ behind s'.0.now)
turn_in_determined κs a r r' s s' p q =
    tells r r' (behind s.0.now) (behind s'.0.now) (determined p.1 q.1)

turned : ℕ → ℕ → ℕ → ℕ → Turned
turned used code over fourth = record { used = used; code = code; over = over; zero = fourth }

told : (r r' : Turned) → r.used ≡ r'.used → r.code ≡ r'.code → r.over ≡ r'.over
    → r.zero ≡ r'.zero → r ≡ r'
unfolding turned
told r r' a b c d =
    let e : turned r.used r.code r.over r.zero
    ≡ turned r'.used r'.code r'.over r'.zero = rw (a, b, c, d) in
    e

pub jenturik_turn_determined : (κs : _) (a : _) (r r' : _) (s s' : _)
    → jenturik-turn.Learnt κs a r s → jenturik-turn.Learnt κs a r' s'
    → (r ≡ r')
    × (s.1.1.1.1.1.1.1.0.now ≡ s'.1.1.1.1.1.1.1.0.now)
    × ((buffers s.0.now s.1.0.now s.1.1.0.now s.1.1.1.0.now
    s.1.1.1.1.0.now s.1.1.1.1.1.0.now
    s.1.1.1.1.1.1.0.now)
    ≡ (buffers s'.0.now s'.1.0.now s'.1.1.0.now s'.1.1.1.0.now
    s'.1.1.1.1.0.now s'.1.1.1.1.1.0.now
    s'.1.1.1.1.1.1.0.now))
jenturik_turn_determined κs a r r' s s' p q =
    let e = determined p.0 q.0 in (
      told r r' (ap (λ (x : Left). x.told.used) e) (ap (λ (x : Left). x.told.code) e)
          (ap (λ (x : Left). x.told.over) e) (ap (λ (x : Left). x.told.zero) e),
      ap (λ (x : Left). x.words) e,
      (tells _ _ _ _ (ap (λ (x : Left). x.stand) e)).1,
    )
