-- There are as many steps as the words have room for.
use mathlib.Core.Path.{sym}
use Rattle.jenturik_c.proofs.Flats.{count}
use Rattle.jenturik_c.proofs.WordsSteps.count.Goals as goal

pub returns-clause-value : goal.returns-clause-value
returns-clause-value c = sym (count c.args.self.now.words.now)
