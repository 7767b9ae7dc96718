pub mod GoodEdges
