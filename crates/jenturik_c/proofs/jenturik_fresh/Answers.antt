-- What Fresh leaves is shown as it is, and the words are those of the record that it hands back.
use Rattle.jenturik_c.proofs.Faces.{shows}
use Rattle.jenturik_c.proofs.jenturik_fresh.Goals as goal

pub returns : goal.returns
returns c = record {
  words_value =
      shows _ c.fresh-made.result _ _ _ _ _ c.fresh-made.ensures.colour_value
      c.words_of.ensures.value c.tell.ensures.result_value;
  true_value = c.words_of.ensures.true_value;
  changed_value = c.tell.ensures.changed_value;
}
