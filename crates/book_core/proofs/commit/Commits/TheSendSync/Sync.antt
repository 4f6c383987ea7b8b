-- So any thread may share it.
use denote.Param.Send.{IsSync, part_keyless}
use Rattle.book_core.specs.contracts.commit.Commits.{the_row}
use Rattle.book_core.proofs.commit.Commits.TheSendSync.Send.{send}

pub sync : IsSync the_row
sync = record { shared = λ d b o κ q. part_keyless the_row send q d b o }
