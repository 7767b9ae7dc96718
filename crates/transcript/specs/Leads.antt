-- What inner functions promise each other. No promise rests on this file.
use Rattle.std.specs.Prelude.{ℕ, ◌<◌, ◌≡◌, List, drop}
use Rattle.session.specs.Feeding.{fold, Stand, eats}

-- the bytes from position i on make of s what those from position j on make of t, and some lie
-- between
pub record Leads (i j : ℕ) (input : List ℕ) (s t : Stand) : Type 0 where
  pub gains : i < j
  pub same : fold eats (drop i input) s ≡ fold eats (drop j input) t
