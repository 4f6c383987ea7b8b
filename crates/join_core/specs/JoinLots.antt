-- The joins of lots of rows, compared with the join of all rows.
use Rattle.match_core.specs.Lots.{LotIsOfWhole, LotsAreApart, WholeIsOfLots}
use Rattle.join_core.specs.Join.{IsJoinRow, RowBefore}

-- If matching rows go to the same lot, and the left ids are ascending, the join of a lot is the rows of the whole join
-- whose left row goes to that lot.
abbrev pub LotJoinIsOfWhole : Type 0
LotJoinIsOfWhole = LotIsOfWhole RowBefore IsJoinRow (λ row. row.left)

-- If matching rows go to the same lot, the join of all rows is the ordered list of the rows of the lots' joins.
abbrev pub WholeJoinIsOfLots : Type 0
WholeJoinIsOfLots = WholeIsOfLots RowBefore IsJoinRow

-- If the left ids are ascending, no row is in the joins of two lots.
abbrev pub LotJoinsAreApart : Type 0
LotJoinsAreApart = LotsAreApart RowBefore IsJoinRow
