-- `note` meets its contract: a node is written behind those that are noted, or nothing is.
use mathlib.Core.Path.{refl, ◌≡◌}
use mathlib.Core.Bool.{true, false}
use native.Mathlib.Omega.{arith}
use Rattle.rules.specs.Steps.{node_of}
use Rattle.freed.specs.Freed.{is_appended}
use Rattle.freed.proofs.Notes.{noted_count, noted_front, noted_rest, same_count, same_front}
use Rattle.freed.proofs.Notes.{none_other}
use Rattle.freed.proofs.note.Goals as goal

pub returns-in-Appended : goal.returns-in-Appended
returns-in-Appended c =
    let at = c.args in
    let one : true ≡ is_appended at.a = rw c.in-Appended.is refl in
    let node : c.in-Appended.n ≡ node_of at.a = rw c.in-Appended.is refl in
    let h = c.requires.count_in_bounds in
    rw c.from.ensures record {
      value = noted_count at.list.now at.count _ at.a one h node;
      list_value = noted_front at.list.now at.count _ at.a one h node;
      list_value_2 = noted_rest at.list.now at.count _ at.a one h node;
    }

pub returns-in-Whitened : goal.returns-in-Whitened
returns-in-Whitened c =
    let at = c.args in
    let none : false ≡ is_appended at.a = rw c.in-Whitened.is refl in record {
      value = same_count at.count _ at.a none (omega arith);
      list_value = same_front at.count _ at.a none (omega arith) at.list.now;
      list_value_2 = refl;
    }

pub returns-in_default : goal.returns-in_default
returns-in_default c =
    let at = c.args in
    let none = none_other at.a c.in_default.not-Appended in record {
      value = same_count at.count _ at.a none refl;
      list_value = same_front at.count _ at.a none refl at.list.now;
      list_value_2 = refl;
    }
