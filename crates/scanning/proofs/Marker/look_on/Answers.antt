-- `look_on` meets its contract: `idle_looks` gives a number of looks that find nothing, below k and
-- within cap. So many looks move i and k by as many and change nothing else.
use mathlib.Core.Path.{refl}
use native.Mathlib.Omega.{arith}
use Rattle.scanning.proofs.Marks.{at, looks_on}
use Rattle.scanning.proofs.Marker.look_on.Goals as goal

pub overflow_sub-s : goal.overflow_sub-s
overflow_sub-s c =
    let g = at _ _ _ _ _ c.requires.passes in omega arith

pub idle_looks-idle-requires : goal.idle_looks-idle-requires
idle_looks-idle-requires c =
    let g = at _ _ _ _ _ c.requires.passes in record {
      size = omega (arith, g.sizes);
      few = rw g.sizes.colours c.requires.few;
      i_in_bounds = omega (arith, g.sizes);
      grayed_in_bounds = omega (arith, g.sizes);
    }

pub overflow_add-s : goal.overflow_add-s
overflow_add-s c =
    let g = at _ _ _ _ _ c.requires.passes in omega arith

pub around-requires : goal.around-requires
around-requires c =
    let g = at _ _ _ _ _ c.requires.passes in omega (arith, g.sizes)

pub returns : goal.returns
returns c =
    let g = at _ _ _ _ _ c.requires.passes in
    looks_on _ _ _ _ _ _ _ _ c.requires c.args.self.room
    (rw g.sizes.colours at c.idle_looks-idle.ensures.1) (omega arith) (omega arith)
    (rw g.sizes.colours at c.around.ensures) refl refl refl refl refl refl
