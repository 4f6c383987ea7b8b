use Rattle.std.specs.Prelude.{◌≤◌, ◌<◌}
use Rattle.book_core.specs.Versions.{IsAfter}
use Rattle.book_core.proofs.VersionsExistence.{some_between, some_from_to}
use Rattle.book_core.proofs.VersionsUniqueness.{one_list}
use Rattle.book_core.proofs.laws.history_has_one_list_of_versions.Goals as goal

pub returns-clause-between_exists : goal.returns-clause-between_exists
returns-clause-between_exists c = some_between

pub returns-clause-between_one : goal.returns-clause-between_one
returns-clause-between_one c = λ h at m n name. one_list h at name (λ v. (v.sysfrom ≤ n) × IsAfter v.systo m)

pub returns-clause-from_to_exists : goal.returns-clause-from_to_exists
returns-clause-from_to_exists c = some_from_to

pub returns-clause-from_to_one : goal.returns-clause-from_to_one
returns-clause-from_to_one c = λ h at m n name. one_list h at name (λ v. (v.sysfrom < n) × IsAfter v.systo m)
