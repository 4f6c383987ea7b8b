-- A value owns nothing, so it may go to another thread.
use denote.Param.Send.{IsSend}
use Rattle.dip_core.specs.contracts.all_looks.AllLooks.{the_row}

pub send : IsSend the_row
send = record { owned = λ d vs. ((λ vss. (tt, tt)), tt); leaving = λ k f vs. tt }
