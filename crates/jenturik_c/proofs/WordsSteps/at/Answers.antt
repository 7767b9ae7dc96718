-- The i-th step stands at its place among the words.
use Rattle.jenturik_c.proofs.Flats.{fits, from_here}
use Rattle.jenturik_c.proofs.WordsSteps.at.Goals as goal

pub step_at-requires : goal.step_at-requires
step_at-requires c = fits c.args.self.now.words.now c.args.i c.requires

pub returns : goal.returns
returns c = from_here c.args.self.now.words.now c.args.i _ c.requires c.step_at.ensures
