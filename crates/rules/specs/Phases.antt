-- [Record 2] The phases, each as three numbers: which one it is, its position i and its second
-- number. This is the one list of them: what need not know what a phase does goes by the numbers.
use Rattle.base.specs.Choice.{pick}
use Rattle.std.specs.Prelude.{ℕ, Bool, ◌||◌, eqb}
use Rattle.rules.specs.declared.Phase.{Phase}
use Rattle.rules.specs.declared.Phase.TheVariants.{Roots, Scan, Left, ShadeLeft, Right}
use Rattle.rules.specs.declared.Phase.TheVariants.{ShadeRight, Black, Append}

-- [C 2] the number of each phase
abbrev pub roots_tag : ℕ
roots_tag = 0

abbrev pub scan_tag : ℕ
scan_tag = 1

abbrev pub left_tag : ℕ
left_tag = 2

abbrev pub right_tag : ℕ
right_tag = 3

abbrev pub black_tag : ℕ
black_tag = 4

abbrev pub append_tag : ℕ
append_tag = 5

abbrev pub shade_left_tag : ℕ
shade_left_tag = 6

abbrev pub shade_right_tag : ℕ
shade_right_tag = 7

-- the largest of them
abbrev pub most_tag : ℕ
most_tag = shade_right_tag

-- which phase it is
abbrev pub tag_of : Phase → ℕ
tag_of (Roots i) = roots_tag
tag_of (Scan i k) = scan_tag
tag_of (Left i) = left_tag
tag_of (ShadeLeft i n) = shade_left_tag
tag_of (Right i) = right_tag
tag_of (ShadeRight i n) = shade_right_tag
tag_of (Black i) = black_tag
tag_of (Append i) = append_tag

-- its position: its i
abbrev pub position : Phase → ℕ
position (Roots i) = i
position (Scan i k) = i
position (Left i) = i
position (ShadeLeft i n) = i
position (Right i) = i
position (ShadeRight i n) = i
position (Black i) = i
position (Append i) = i

-- its second number, Scan's k or the number read: 0 where it has none
abbrev pub second : Phase → ℕ
second (Roots i) = 0
second (Scan i k) = k
second (Left i) = 0
second (ShadeLeft i n) = n
second (Right i) = 0
second (ShadeRight i n) = n
second (Black i) = 0
second (Append i) = 0

-- the phases that have a second number
abbrev pub has_second : ℕ → Bool
has_second tag = eqb tag scan_tag || (eqb tag shade_left_tag || eqb tag shade_right_tag)

-- the phase of three numbers
unfoldable pub phase_of : ℕ → ℕ → ℕ → Phase
phase_of tag i k =
    pick (eqb tag roots_tag) (Roots i)
    (pick (eqb tag scan_tag) (Scan i k)
    (pick (eqb tag left_tag) (Left i)
    (pick (eqb tag right_tag) (Right i)
    (pick (eqb tag black_tag) (Black i)
    (pick (eqb tag append_tag) (Append i)
    (pick (eqb tag shade_left_tag) (ShadeLeft i k) (ShadeRight i k)))))))
