use Rattle.program_core.proofs.ReadingLemmas.{AsksFor-unique}
use Rattle.program_core.proofs.laws.words_ask_for_one_thing.Goals as goal

pub returns : goal.returns
returns c = AsksFor-unique
