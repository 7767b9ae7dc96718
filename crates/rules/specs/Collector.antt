-- The collector's step: the section Collector of docs/RULES.md. Each phase refuses the bad values
-- that it reads: [Codes 7] an edge, with its side, [Codes 14] a colour, [Codes 15] a node that
-- Append should not meet, with the reason.
use Rattle.base.specs.Choice.{pick}
use Rattle.std.specs.Prelude.{ℕ, ◌+◌, ◌-◌, eqb}
use Rattle.rules.specs.Table.{State, Outcome, did, refuse_with, refuse, unless, white, gray}
use Rattle.rules.specs.Table.{black, is_root, gray_node, white_root, white_last}
use Rattle.rules.specs.Table.{left, right, edge, with_edge, cleared, colour_of, with_colour}
use Rattle.rules.specs.Table.{shade, bad_edge, bad_colour}
use Rattle.rules.specs.Records.{with_last, more_free, moved, marked, next, rescan, after_append}
use Rattle.rules.specs.Check.{check}
use Rattle.rules.specs.declared.Phase.{Phase}
use Rattle.rules.specs.declared.Phase.TheVariants.{Roots, Scan, Left, ShadeLeft, Right}
use Rattle.rules.specs.declared.Phase.TheVariants.{ShadeRight, Black, Append}
use Rattle.rules.specs.declared.Answer.TheVariants.{Shaded, Looked, Blackened, Whitened}
use Rattle.rules.specs.declared.Answer.TheVariants.{Appended}

-- shades node n, and goes on to a phase
unfoldable pub shade_step : State → ℕ → Phase → Outcome
shade_step s n then =
    pick (bad_colour s n) (refuse s 14 n) (did (Shaded n) (shade s n) (moved s.rec then))

-- [Roots 2] the phase after Roots i
unfoldable pub after_roots : ℕ → ℕ → ℕ → Phase
after_roots m r i = pick (eqb i (r + 1)) (Scan 0 m) (Roots (i + 1))

-- [Scan 1] looks at node i: [Scan 2] gray, [Scan 4] the last look of the marking, [Scan 3] or
-- another
unfoldable pub scan_step : State → ℕ → ℕ → Outcome
scan_step s i k =
    pick (bad_colour s i) (refuse s 14 i)
    (pick (eqb (colour_of s i) gray) (did (Looked i) s (moved s.rec (Left i)))
    (pick (eqb k 1) (did (Looked i) s (marked s.rec))
    (did (Looked i) s (moved s.rec (Scan (next s.rec i) (k - 1))))))

-- [Edges 3] the edge e of node i on a side is read and judged, [Edges 4] whichever node i is
unfoldable pub read_step : State → ℕ → ℕ → ℕ → Phase → Outcome
read_step s i side e then =
    pick (bad_edge s.rec.m e) (refuse_with s 7 i side)
    (did (Looked i) s (moved s.rec then))

-- [Black 1] node i is black now; nothing is read. [Black 2] The scan begins anew. [Black 3]
unfoldable pub black_step : State → ℕ → Outcome
black_step s i = did (Blackened i) (with_colour s i black) (rescan s.rec i)

-- [Append 3] node i at the end of the free list: its edges are 0, and last's left edge leads to it
unfoldable pub append : State → ℕ → State
append s i = with_edge (cleared s i) left s.rec.last i

-- [Damage 4] a white node that is a root, or last, is bad; [Append 3] any other is appended, and is
-- last now; [Append 6] one more is free
unfoldable pub append_white : State → ℕ → Outcome
append_white s i =
    pick (is_root s.rec.r i) (refuse_with s 15 i white_root)
    (pick (eqb i s.rec.last) (refuse_with s 15 i white_last)
    (did (Appended i) (append s i) (after_append (more_free (with_last s.rec i)) i)))

-- [Append 1] the colour decides: [Append 2] black becomes white, white is appended, what is no
-- colour is bad [Damage 3], and so is gray [Damage 4]
unfoldable pub append_step : State → ℕ → Outcome
append_step s i =
    pick (eqb (colour_of s i) black) (did (Whitened i) (with_colour s i white)
    (after_append s.rec i))
    (pick (eqb (colour_of s i) white) (append_white s i)
    (pick (bad_colour s i) (refuse s 14 i) (refuse_with s 15 i gray_node)))

-- [Collector 1] one step, that of the phase: [Roots 1] Roots, [Edges 1] Left, [Edges 2] Right.
-- [Edges 5] What shades goes by the number read, wherever the edge leads now.
-- [Collector 4] The shade owed is not looked at.
unfoldable pub phase_step : State → Phase → Outcome
phase_step s (Roots i) = shade_step s i (after_roots s.rec.m s.rec.r i)
phase_step s (Scan i k) = scan_step s i k
phase_step s (Left i) = read_step s i left (edge s left i) (ShadeLeft i (edge s left i))
phase_step s (ShadeLeft i n) = shade_step s n (Right i)
phase_step s (Right i) = read_step s i right (edge s right i) (ShadeRight i (edge s right i))
phase_step s (ShadeRight i n) = shade_step s n (Black i)
phase_step s (Black i) = black_step s i
phase_step s (Append i) = append_step s i

-- [Order 6] what the step will leave is not judged
unfoldable pub collect : State → Outcome
collect s = unless (check s) s (phase_step s s.rec.phase)
