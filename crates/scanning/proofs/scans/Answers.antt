-- `scans` meets its contract: the position that the loop starts from stands for the record itself,
-- with a count of stops that is high enough, and the record of the position at the end is where its
-- steps lead.
use native.Mathlib.Omega.{arith}
use Rattle.scanning.proofs.Marks.{at, begins, ends}
use Rattle.scanning.proofs.scans.Goals as goal

pub marking-s-requires : goal.marking-s-requires
marking-s-requires c =
    rw (c.from.ensures, c.from-2.ensures, c.from-3.ensures)
    (begins _ _ _ _ c.requires.phase_value _ _ _ _ c.requires.passes
    c.most_stops.ensures.0 c.most_stops.ensures.1)

pub standing-requires : goal.standing-requires
standing-requires c = let g =
    at _ _ _ _ _ c.marking-s.ensures.valid.passes in record {
      i_lt_most_nodes = omega arith;
      k_le_most_nodes = omega arith;
      blackened_le_most_nodes = omega arith;
      d_bound = omega arith;
    }

pub returns : goal.returns
returns c = (
  c.marking-s.ensures.valid.within,
  rw c.standing.ensures
      (ends _ _ _ _ c.requires.phase_value _ _ _ _ _ _
      (rw (c.from.ensures, c.from-2.ensures, c.from-3.ensures) at c.marking-s.ensures.leads)),
)
