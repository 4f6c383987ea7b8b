-- The anti-joins of lots of rows, compared with the anti-join of all rows.
use Rattle.match_core.specs.Lots.{LotIsOfWhole, LotsAreApart, WholeIsOfLots}
use Rattle.anti_core.specs.Anti.{AntiRowBefore, IsAntiRow}

-- If matching rows go to the same lot, and the left ids are ascending, the anti-join of a lot is the rows of the whole
-- anti-join whose left row goes to that lot.
abbrev pub LotAntiIsOfWhole : Type 0
LotAntiIsOfWhole = LotIsOfWhole AntiRowBefore IsAntiRow (λ row. row.id)

-- If matching rows go to the same lot, the anti-join of all rows is the ordered list of the rows of the lots'
-- anti-joins.
abbrev pub WholeAntiIsOfLots : Type 0
WholeAntiIsOfLots = WholeIsOfLots AntiRowBefore IsAntiRow

-- If the left ids are ascending, no row is in the anti-joins of two lots.
abbrev pub LotAntisAreApart : Type 0
LotAntisAreApart = LotsAreApart AntiRowBefore IsAntiRow
