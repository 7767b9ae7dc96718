-- `load` meets its contract: the sizes and the edges are judged first, and what passes is narrowed.
use mathlib.Core.Path.{refl, sym, ◌∙◌}
use native.Mathlib.Omega.{arith}
use Rattle.load.proofs.Answers.{load_size, load_bad, load_whole, bad_has, lengths}
use Rattle.load.proofs.Answers.{good_given, found_some, found_none}
use Rattle.load.proofs.load.Goals as goal

pub returns-then-not-size_ok : goal.returns-then-not-size_ok
returns-then-not-size_ok c = record {
  colour_value = load_size _ _ _ _ _ _ (sym c.if-not-size_ok.true ∙ c.size_ok.ensures)
      (c.refused.ensures.by_index _ _ _ _ _);
  changed_value = c.refused.ensures.changed_value;
}

pub overflow_cast-m : goal.overflow_cast-m
overflow_cast-m c =
    let z = lengths _ _ _ _ _ _ _ (sym c.if-not-size_ok.false ∙ c.size_ok.ensures) in omega arith

pub first_bad-requires : goal.first_bad-requires
first_bad-requires c =
    let z = lengths _ _ _ _ _ _ _ (sym c.if-not-size_ok.false ∙ c.size_ok.ensures) in omega arith

pub overflow_cast-n : goal.overflow_cast-n
overflow_cast-n c =
    let z = lengths _ _ _ _ _ _ _ (sym c.if-not-size_ok.false ∙ c.size_ok.ensures) in
    omega (arith, found_some _ _ _ c.in-Some.ensures)

pub overflow_cast-m-in-Some : goal.overflow_cast-m-in-Some
overflow_cast-m-in-Some c =
    let z = lengths _ _ _ _ _ _ _ (sym c.if-not-size_ok.false ∙ c.size_ok.ensures) in omega arith

pub bad_side-requires : goal.bad_side-requires
bad_side-requires c =
    let z = lengths _ _ _ _ _ _ _ (sym c.if-not-size_ok.false ∙ c.size_ok.ensures) in
    omega (arith, found_some _ _ _ c.in-Some.ensures)

pub returns-in-Some : goal.returns-in-Some
returns-in-Some c =
    let size = sym c.if-not-size_ok.false ∙ c.size_ok.ensures in
    let at = found_some _ _ _ c.in-Some.ensures in
    record {
      colour_value = load_bad _ _ _ _ _ _ _ _ size at.same at.inside
          (c.bad_side.ensures _ (bad_has _ _ _ at.same at.inside))
          (c.refused-in-Some.ensures.by_index _ _ _ _ _);
      changed_value = c.refused-in-Some.ensures.changed_value;
    }

pub overflow_cast-m-2 : goal.overflow_cast-m-2
overflow_cast-m-2 c =
    let z = lengths _ _ _ _ _ _ _ (sym c.if-not-size_ok.false ∙ c.size_ok.ensures) in omega arith

pub overflow_cast-r : goal.overflow_cast-r
overflow_cast-r c =
    let z = lengths _ _ _ _ _ _ _ (sym c.if-not-size_ok.false ∙ c.size_ok.ensures) in omega arith

pub load_good-requires : goal.load_good-requires
load_good-requires c =
    let size = sym c.if-not-size_ok.false ∙ c.size_ok.ensures in
    let z = lengths _ _ _ _ _ _ _ size in
    let none = found_none _ _ c.in_default.ensures in
    let g = good_given _ _ _ _ _ _ _ size refl none in
    record {
      m_le_most_nodes = omega arith;
      r_le_most_slots = omega arith;
      r_bound = omega arith;
      lefts_len = omega arith;
      rights_len = omega arith;
      left_len = omega arith;
      right_len = omega arith;
      colour_len = omega arith;
      below = g.0;
      below_2 = g.1;
    }

pub returns : goal.returns
returns c =
    let size = sym c.if-not-size_ok.false ∙ c.size_ok.ensures in
    let none = found_none _ _ c.in_default.ensures in
    record {
      colour_value = load_whole _ _ _ _ _ _ _ size refl none
          c.load_good.ensures.colour_value;
      changed_value = c.load_good.ensures.changed_value;
    }
