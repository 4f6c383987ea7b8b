use Rattle.std.proofs.Common.{sym}
use Rattle.match_core.proofs.RankLemmas.{last_known}
use Rattle.match_core.proofs.ranks.is_last.Goals as goal

pub returns-in-Some : goal.returns-in-Some
returns-in-Some g c =
    last_known g.V.Ord.cmp c.args.firsts.now c.in-Some.last.now c.args.cell.now c.is_same_cell.result
    (sym c.in-Some.ensures.value) c.is_same_cell.ensures
