use Rattle.cert_core.proofs.VerdictLemmas.{IsLeast-from_certified}
use Rattle.cert_core.proofs.laws.certified_division_is_least.Goals as goal

pub returns : goal.returns
returns c = IsLeast-from_certified
