-- The edge that a graph lends.
use Rattle.grove_edits.specs.declared.edge.Edge.{Edge}
use Rattle.graph_table.specs.declared.graph_edge.GraphEdge.{GraphEdge}
use Rattle.graph_table.specs.Table.{edge_at}

abbrev pub graph_edge : GraphEdge → Edge
graph_edge e = edge_at e.graph.now e.index
