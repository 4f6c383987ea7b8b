use Rattle.std.proofs.Common.{ap, arith, length}
use Rattle.book_core.proofs.Logging.{length-log_of}
use Rattle.book_core.proofs.Sound.{few_commits}
use Rattle.book_core.proofs.book.Book.commits.Goals as goal

pub returns-clause-count : goal.returns-clause-count
returns-clause-count c =
    let same = length-log_of _ c.self.inside.log.items c.self.invariant.logged in
    omega (arith, c.self.inside.log.ok.0, same, ap length c.self.view_is)

pub returns-clause-few : goal.returns-clause-few
returns-clause-few c =
    let same = length-log_of _ c.self.inside.log.items c.self.invariant.logged in
    omega (arith, c.self.inside.log.ok.0, same, few_commits _ c.self.invariant.kept.legal)

pub returns-clause-legal : goal.returns-clause-legal
returns-clause-legal c = rw c.self.view_is at c.self.invariant.kept.legal
