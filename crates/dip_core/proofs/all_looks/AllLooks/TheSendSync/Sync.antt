-- So any thread may share it.
use denote.Param.Send.{IsSync, part_keyless}
use Rattle.dip_core.specs.contracts.all_looks.AllLooks.{the_row}
use Rattle.dip_core.proofs.all_looks.AllLooks.TheSendSync.Send.{send}

pub sync : IsSync the_row
sync = record { shared = λ d b o κ q. part_keyless the_row send q d b o }
