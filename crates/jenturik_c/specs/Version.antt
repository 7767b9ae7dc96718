-- [C 13] The library's version: 1000 times 4, and the number of the last request that it has.
use Rattle.std.specs.Prelude.{ℕ}

abbrev pub VERSION : ℕ
VERSION = 4007
