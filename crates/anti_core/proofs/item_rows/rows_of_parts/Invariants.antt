use Rattle.std.proofs.Common.{take}
use Rattle.std.specs.Option.{ForSome}
use Rattle.dip_core.specs.Division.{all_of}
use Rattle.anti_core.specs.ItemAnti.{AreItemsRows}
use Rattle.anti_core.specs.PairGaps.{AreGapsFrom}
use Rattle.anti_core.proofs.item_rows.rows_of_parts.Given as goal

abbrev pub invariant-loop-number : goal.invariant-loop-number
invariant-loop-number g l =
    AreItemsRows (all_of (take l.number l.pairs.left.now)) (all_of l.pairs.right.now) l.rows.items
    × ForSome l.supply (λ s. AreGapsFrom l.pairs.left.now l.pairs.right.now s.first s.values)
