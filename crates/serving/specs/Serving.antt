-- What inner functions promise each other. No promise rests on this file.
use Rattle.base.specs.Choice.{pick}
use Rattle.std.specs.Prelude.{ℕ, ◌+◌, ◌-◌, List, [], ◌∷◌, length, take, drop, ltb, eqb}
use Rattle.rules.specs.Table.{state}
use Rattle.text.specs.Answers.{written}
use Rattle.session.specs.Feeding.{newline, Going, gathered, ended, newline_from}
use Rattle.session.specs.declared.Run.{Run}
use Rattle.serving.specs.declared.Fed.{Fed}

-- later lines, with the buffers that the code is lent
unfoldable pub going : Run → List ℕ → List ℕ → List ℕ → List ℕ → List ℕ → Going
going g l r c line out = record {
  state =
      state l r c g.rec;
  line = written line g.at;
  out = written out g.used;
}

-- a byte more, where a step is awaited
unfoldable pub next_byte : Going → ℕ → Going
next_byte g b = pick (eqb b newline) (ended g) (gathered g (b ∷ []))

-- the position of the next byte, and where the bytes before it led
pub record Taken : Type 0 where
  pub next : ℕ
  pub going : Going

abbrev pub taken : ℕ → Going → Taken
taken i g = record { next = i; going = g }

abbrev pub fed : Fed → List ℕ → List ℕ → List ℕ → List ℕ → List ℕ → Taken
fed f l r c line out = taken f.next (going f.run l r c line out)

-- the bytes from position i on up to a newline, and with it the line's answer; or all that are left
unfoldable pub next_line : List ℕ → ℕ → Going → Taken
next_line input i g =
    let n = newline_from (drop i input) i in
    let h = gathered g (take (n - i) (drop i input)) in
    pick (ltb n (length input)) (taken (n + 1) (ended h)) (taken n h)
