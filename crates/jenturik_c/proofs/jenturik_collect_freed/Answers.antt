-- Words that are no record's are refused with 2. Else the steps are made over the record that the
-- words are: their facts are the face's, and the record's words are written back.
use mathlib.Core.Path.{refl, ap, ◌∙◌}
use mathlib.Core.List.{List}
use Prim.Native.Nat.{ℕ}
use lib.ListN.{length}
use Rattle.freed.specs.Freed.{noted}
use Rattle.jenturik_c.proofs.Faces.{spurned_run, spurned_count, spurned_list, spurned_freed}
use Rattle.jenturik_c.proofs.Faces.{faces_run, faces_count, faces_nodes}
use Rattle.jenturik_c.specs.Face.{fitted}
use Rattle.jenturik_c.proofs.jenturik_collect_freed.Goals as goal

pub returns-in_default : goal.returns-in_default
returns-in_default c =
    let none = c.in_default.ensures.none in
    record {
      words_value = spurned_run _ _ _ _ none _;
      stays = λ h. h;
      changed_value = spurned_count _ _ _ _ none _ _ refl;
      list_value = spurned_list _ _ _ _ none _ _;
      freed_value = spurned_freed _ _ _ _ none _;
    }

pub returns : goal.returns
returns c =
    let x = c.in-Some.ensures.some in
    let all = c.collect_freed-all.ensures in
    let written = c.words_of.ensures in
    let nodes = faces_nodes _ _ _ _ _ x.0 x.1 _ in
    record {
      words_value =
          faces_run _ _ _ _ _ _ _ _ _ x.0 x.1 _ _ _ _ _ all.colour_value written.value;
      stays = λ h. written.true_value;
      changed_value =
          faces_count _ _ _ _ _ x.0 x.1 _ _ (c.fitted.ensures ∙ ap fitted all.changed_value);
      list_value = all.list_value ∙ ap (λ (l : List ℕ). noted l c.args.list.now) nodes;
      freed_value = all.count_value ∙ ap length nodes;
    }
