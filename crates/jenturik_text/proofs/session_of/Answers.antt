-- Words that are a session's have a record's words first.
use mathlib.Core.List.{List}
use mathlib.Core.Path.{◌≡◌, sym, subst}
use mathlib.Core.Bool.{true}
use Prim.Native.Nat.{ℕ}
use Rattle.record_words.specs.Words.{is_record}
use Rattle.jenturik_text.specs.Words.{session_of}
use Rattle.jenturik_text.proofs.Sessions.{record_in_lem}
use Rattle.jenturik_text.proofs.session_of.Goals as goal

pub record_of-rec-requires : goal.record_of-rec-requires
record_of-rec-requires c =
    subst (λ (v : List ℕ). true ≡ is_record v) (sym c.record_part.ensures)
    (record_in_lem _ c.requires)

pub returns : goal.returns
unfolding session_of
returns c = cc
