use Rattle.book_core.proofs.KeyLaw.{keys_hold}
use Rattle.book_core.proofs.book.keys_stay_apart.Goals as goal

pub returns : goal.returns
returns c = keys_hold
