use Rattle.book_core.proofs.IdLaw.{one_row, row_lasts}
use Rattle.book_core.proofs.laws.no_id_is_used_again.Goals as goal

pub returns-clause-one : goal.returns-clause-one
returns-clause-one c = one_row

pub returns-clause-lasts : goal.returns-clause-lasts
returns-clause-lasts c = row_lasts
