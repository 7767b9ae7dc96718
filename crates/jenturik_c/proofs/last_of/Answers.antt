-- The fields are the told ones in narrower types, and the code and the detail share a byte.
use mathlib.Core.Path.{refl}
use Rattle.jenturik_c.proofs.last_of.Goals as goal

pub returns : goal.returns
returns c = record {
  result_value = rw (c.packed.ensures.result_value, c.packed.ensures.result_value_2) refl;
  done_value = c.one_done.ensures;
  changed_value = refl;
}
