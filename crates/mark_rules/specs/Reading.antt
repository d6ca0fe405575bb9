-- What the nodes of marked trees stand for, over a table of types.
pub use Rattle.marking.specs.Reading.{meant, meant_nodes, bare_nodes}
