-- The theorem over document 01's table of edge jobs: the definitions give every figure in it. The checker computes them.
use lib.Dec.{T}
use Rattle.edges.specs.Table.{all, rows}

pub right-all : T (all rows)
right-all = tt
