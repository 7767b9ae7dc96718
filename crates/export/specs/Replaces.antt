-- What inner functions promise each other. No promise rests on this file.
pub use Rattle.session.specs.Replaces.{fronts, Replaces}
