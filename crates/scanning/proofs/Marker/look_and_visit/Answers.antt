-- `look_and_visit` meets its contract: the looks lead from s to h and the visit on from there,
-- where `can_visit` has found all that it needs.
use native.Mathlib.Omega.{arith}
use Rattle.scanning.proofs.Marks.{goes_on}
use Rattle.scanning.proofs.Marker.look_and_visit.Goals as goal

pub returns-then-can_visit : goal.returns-then-can_visit
returns-then-can_visit c =
    let a = c.look_on-h.ensures.low in let b = c.follow.ensures.low in (
      omega (arith, c.visit-v.ensures.six),
      goes_on _ _ _ _ _ _ _ _ _ _ c.look_on-h.ensures
          (goes_on _ _ _ _ _ _ _ _ _ _ c.visit-v.ensures.leads c.follow.ensures),
    )
