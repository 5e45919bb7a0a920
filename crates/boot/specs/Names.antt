-- The declared types of `words` that the specs and proofs of this crate name, under one roof.
pub use Rattle.words.specs.declared.capabilities.Kind.{Kind}
pub use Rattle.words.specs.declared.capabilities.Kind.TheVariants.{Table, Directory, Memory, Process, Endpoint, Function}
pub use Rattle.std.specs.Prelude.{Some}
pub use Rattle.words.specs.declared.capabilities.Position.{Position}
pub use Rattle.words.specs.declared.capabilities.Position.TheVariants.{Page}
