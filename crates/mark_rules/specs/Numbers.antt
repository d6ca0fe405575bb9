-- Marked nodes whose numbers are of a table of types.
pub use Rattle.marking.specs.Numbers.{IsMarkedNodeOf, AreMarkedNodesOf}
