-- `spread` meets its contract: the three writes are those of the definition in its order. Shading
-- leaves gray gray, so i still counts among the stops until it is made black, and then counts no
-- more.
use native.Mathlib.Omega.{arith}
use Rattle.scanning.proofs.Marks.{few_left, both_counted}
use Rattle.scanning.proofs.spread.Goals as goal

pub returns : goal.returns
returns c =
    let first = c.shade_and_count-a.ensures in
    let second = c.shade_and_count-b.ensures in
    let black = c.blacken.ensures in record {
      more_bound = (
        omega arith,
        (
          λ m h k. c.newer.ensures m h k,
          (
            rw (black, second.upper_bound.1.0, first.upper_bound.1.0),
            few_left _ _ _ _ _ _ _ _ _ (omega arith) (omega arith) (omega arith)
                c.requires.i_value first.upper_bound.1.0 second.upper_bound.1.0 black
                first.upper_bound.1.1 second.upper_bound.1.1,
          ),
        ),
      );
      more_value = both_counted _ _ _ _ _ _ _ (omega (arith, c.requires))
          (omega (arith, c.requires))
          first.upper_bound.1.0 second.upper_bound.1.0 first.value second.value;
    }
