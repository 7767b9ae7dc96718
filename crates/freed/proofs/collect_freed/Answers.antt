-- `collect_freed` meets its contract: codes 1 and 2 are judged first, as in the definition. From a
-- record that passes the turns come to the fold, which is the run, its colours and its nodes.
use mathlib.Core.Path.{sym, ◌∙◌}
use lib.ListN.{length-take}
use native.Mathlib.Omega.{arith}
use Rattle.rules.proofs.Sums.{sum_none}
use Rattle.batch.proofs.Last.{unscheduled}
use Rattle.freed.proofs.Notes.{room_in, run_is, changed_is, count_is, list_is}
use Rattle.freed.proofs.Notes.{no_list, no_count}
use Rattle.freed.proofs.collect_freed.Goals as goal

pub returns-then-code-ne0 : goal.returns-then-code-ne0
returns-then-code-ne0 c =
    let code = c.check-code.ensures in record {
      colour_value = (unscheduled _ _ _ code c.if-code-ne0.true).0;
      changed_value = sym (sum_none _ _ (λ z. c.if-code-ne0.true (code ∙ z)));
      list_value = no_list _ (λ z. c.if-code-ne0.true (code ∙ z)) _ _;
      count_value = no_count _ (λ z. c.if-code-ne0.true (code ∙ z)) _;
    }

pub slice_bounds-turns-end : goal.slice_bounds-turns-end
slice_bounds-turns-end c = room_in _ _ (c.from-room.ensures ∙ c.room_of.ensures)

pub slice_bounds-turns-end-2 : goal.slice_bounds-turns-end-2
slice_bounds-turns-end-2 c =
    let in_list = room_in _ _ (c.from-room.ensures ∙ c.room_of.ensures) in
    let z = length-take c.from-room.result c.args.list.now in omega arith

pub returns : goal.returns
returns c =
    let passes = sym c.if-code-ne0.false ∙ c.check-code.ensures in
    let room = c.from-room.ensures ∙ c.room_of.ensures in
    let all = c.turns.ensures in
    let len = c.turns.auto.list in record {
      colour_value = run_is _ _ _ _ _ _ _ _ room all.list_value all.count_in_bounds len
          all.list_value_2 passes;
      changed_value = changed_is _ _ _ _ _ _ _ _ room all.list_value all.count_in_bounds len
          all.list_value_2;
      list_value = list_is _ _ _ _ _ _ _ _ room all.list_value all.count_in_bounds len
          all.list_value_2;
      count_value = count_is _ _ _ _ _ _ _ _ room all.list_value all.count_in_bounds len
          all.list_value_2;
    }
