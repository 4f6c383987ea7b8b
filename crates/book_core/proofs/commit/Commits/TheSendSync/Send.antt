-- A value owns nothing, so it may move to another thread.
use denote.Param.Send.{IsSend}
use Rattle.book_core.specs.contracts.commit.Commits.{the_row}

pub send : IsSend the_row
send = record { owned = λ d vs. ((λ vss. (tt, tt)), tt); leaving = λ k f vs. tt }
