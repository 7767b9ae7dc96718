-- `load_table` meets its contract: what the judges found tells whether the lists are copied.
use mathlib.Core.Path.{refl, sym, ap, ◌∙◌}
use Rattle.rules.specs.Steps.{code_of}
use Rattle.load.proofs.Answers.{load_refused, load_done, fault_code}
use Rattle.load.proofs.load_table.Goals as goal

pub returns-in-Ok-clause-colour_value : goal.returns-in-Ok-clause-colour_value
returns-in-Ok-clause-colour_value c =
    load_done _ _ _ _ _ _ _ _ _ _ _ _ _ _ _ c.in-Ok.ensures.answer_value refl
    c.copy.ensures c.copy-in-Ok.ensures c.requires.colour_len
    c.whiten.ensures refl c.in-Ok.ensures.free_value c.fresh.ensures

pub returns-in-Err-clause-colour_value : goal.returns-in-Err-clause-colour_value
returns-in-Err-clause-colour_value c =
    load_refused _ _ _ _ _ _ _ _ (c.answer.ensures ∙ c.in-Err.ensures.answer_value)
    (λ q. fault_code _ (sym (ap code_of c.answer.ensures) ∙ q)) c.fresh-in-Err.ensures
