use Rattle.store_core.proofs.Alone.{own-alone}
use Rattle.store_core.proofs.pass.Pass.has_seen_its_own.Goals as goal

pub returns : goal.returns
returns c = own-alone c.args.self.now
