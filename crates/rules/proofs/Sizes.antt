-- A table has at most 4,096 nodes, so that a cycle's bound fits 32 bits with room.
use Prim.Native.Nat.{ℕ, ◌≤◌, ◌*◌}
use Rattle.rules.specs.Table.{most_nodes}
use native.Mathlib.Nat.{mul-le-mul}

pub square : (m : ℕ) → m ≤ most_nodes → m * m ≤ 16777216
square m h = mul-le-mul h h
