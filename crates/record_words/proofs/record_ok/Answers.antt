-- The five tests stand in the definition's order; those of the phase and of the shade are told by
-- their words.
use mathlib.Core.Path.{sym, ◌∙◌}
use native.Mathlib.Omega.{arith}
use Rattle.base.proofs.Tests.{every_here, every_skip, every_last}
use Rattle.rules.specs.Check.{record_ok}
use Rattle.record_words.specs.Words.{record_of}
use Rattle.record_words.proofs.Judged.{phase_tests, owed_tests}
use Rattle.record_words.proofs.record_ok.Goals as goal

pub returns-then-not-phase_ok : goal.returns-then-not-phase_ok
unfolding record_ok record_of
returns-then-not-phase_ok c =
    let phase = sym c.if-not-phase_ok.true ∙ c.phase_ok.ensures
    ∙ phase_tests _ c.requires.true_value _ _ in
    every_here _ _ phase

pub returns-then-not-node_ok : goal.returns-then-not-node_ok
unfolding record_ok record_of
returns-then-not-node_ok c =
    let phase = sym c.if-not-phase_ok.false ∙ c.phase_ok.ensures
    ∙ phase_tests _ c.requires.true_value _ _ in
    let owed = sym c.if-not-node_ok.true ∙ c.node_ok.ensures
    ∙ owed_tests _ c.requires.true_value _ (omega (arith, c.requires)) in
    every_skip _ _ _ phase (every_here _ _ owed)

pub returns-then-not-last_ok : goal.returns-then-not-last_ok
unfolding record_ok record_of
returns-then-not-last_ok c =
    let phase = sym c.if-not-phase_ok.false ∙ c.phase_ok.ensures
    ∙ phase_tests _ c.requires.true_value _ _ in
    let owed = sym c.if-not-node_ok.false ∙ c.node_ok.ensures
    ∙ owed_tests _ c.requires.true_value _ (omega (arith, c.requires)) in
    every_skip _ _ _ phase
    (every_skip _ _ _ owed
    (every_here _ _ (sym c.if-not-last_ok.true ∙ c.last_ok.ensures)))

pub returns-then-not-free_ok : goal.returns-then-not-free_ok
unfolding record_ok record_of
returns-then-not-free_ok c =
    let phase = sym c.if-not-phase_ok.false ∙ c.phase_ok.ensures
    ∙ phase_tests _ c.requires.true_value _ _ in
    let owed = sym c.if-not-node_ok.false ∙ c.node_ok.ensures
    ∙ owed_tests _ c.requires.true_value _ (omega (arith, c.requires)) in
    every_skip _ _ _ phase
    (every_skip _ _ _ owed
    (every_skip _ _ _ (sym c.if-not-last_ok.false ∙ c.last_ok.ensures)
    (every_here _ _ (sym c.if-not-free_ok.true ∙ c.free_ok.ensures))))

pub returns : goal.returns
unfolding record_ok record_of
returns c =
    let phase = sym c.if-not-phase_ok.false ∙ c.phase_ok.ensures
    ∙ phase_tests _ c.requires.true_value _ _ in
    let owed = sym c.if-not-node_ok.false ∙ c.node_ok.ensures
    ∙ owed_tests _ c.requires.true_value _ (omega (arith, c.requires)) in
    rw (← c.bound.ensures)
    (every_skip _ _ _ phase
    (every_skip _ _ _ owed
    (every_skip _ _ _ (sym c.if-not-last_ok.false ∙ c.last_ok.ensures)
    (every_skip _ _ _ (sym c.if-not-free_ok.false ∙ c.free_ok.ensures)
    (every_last _ _ c.counts_ok.ensures)))))
