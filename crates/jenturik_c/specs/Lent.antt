-- Words for contracts: what a call for C keeps, and which record it goes on with.
use Rattle.std.specs.Prelude.{ℕ, true, List, [], ◌∷◌, ◌≡◌, length}
use Rattle.rules.specs.Table.{state}
use Rattle.rules.specs.Check.{check}
use Rattle.rules.specs.declared.Record.{Record}
use Rattle.record_words.specs.Words.{record_of, is_record, judged}

-- [C 9] words that were a record's are a record's
abbrev pub Stays : List ℕ → List ℕ → Type 0
Stays was is = true ≡ is_record was → true ≡ is_record is

-- the words are those of x, which passes
pub record Passing (l r c w : List ℕ) (x : Record) : Type 0 where
  pub words : true ≡ is_record w
  pub rec : x ≡ record_of w
  pub code : 0 ≡ check (state l r c x)

-- slices and words that are refused with a code
pub record Barred (l r c w : List ℕ) (code : ℕ) : Type 0 where
  pub told : code ≡ judged (length l ∷ length r ∷ []) (length c) w
  pub some : code ≡ 0 → ⊥
