use Rattle.book_core.proofs.RiseLemmas.{RowsRise-rows_at}
use Rattle.book_core.proofs.laws.rows_rise.Goals as goal

pub returns : goal.returns
returns c = RowsRise-rows_at
