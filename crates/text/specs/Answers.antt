-- An answer's line of bytes [Program 1].
use Rattle.base.specs.Choice.{pick}
use Rattle.std.specs.Prelude.{ℕ, ◌+◌, ◌/◌, ◌%◌, List, [], ◌∷◌, ◌++◌, length, set, take, ltb, leb}
use Rattle.text.specs.Bytes.{bytes}

-- the digit of n at a power of ten that n reaches, else nothing
unfoldable pub digit_of : ℕ → ℕ → List ℕ
digit_of n ten = pick (leb ten n) ((48 + n / ten % 10) ∷ []) []

-- n below 100,000, in decimal
unfoldable pub decimal : ℕ → List ℕ
decimal n =
    digit_of n 10000 ++ digit_of n 1000 ++ digit_of n 100 ++ digit_of n 10 ++ ((48 + n % 10) ∷ [])

-- an answer's line, with its newline
unfoldable pub said : ℕ → ℕ → List ℕ
said code node = bytes "code=" ++ decimal code ++ bytes " node=" ++ decimal node ++ (10 ∷ [])

-- an answer's bytes at most
abbrev pub widest : ℕ
widest = 22

-- a buffer, and how many of its bytes are used
pub record Written : Type 0 where
  pub out : List ℕ
  pub used : ℕ

abbrev pub written : List ℕ → ℕ → Written
written out used = record { out = out; used = used }

-- the bytes that are used
abbrev pub contents : Written → List ℕ
contents w = take w.used w.out

-- one byte more, where there is room
unfoldable pub put : Written → ℕ → Written
put w b =
    pick (ltb w.used (length w.out)) (written (set w.out w.used b) (w.used + 1)) w

unfoldable pub put_all : Written → List ℕ → Written
put_all w [] = w
put_all w (b ∷ bs) = put_all (put w b) bs
