use Rattle.std.proofs.Common.{arith, ◌<◌, ◌≤◌, sym, length}
use Rattle.std.proofs.lemmas.Bool.Decides.{nat_tests}
use Rattle.work_core.proofs.ShareLemmas.{no_end, some_end}
use Rattle.work_core.proofs.shares.end_of.Goals as goal

pub returns-in-None : goal.returns-in-None
returns-in-None g c =
    let test = c.get.ensures.lookup.0 in
    let past : length c.args.cuts.now ≤ c.args.number = grind (arith, nat_tests, test) in
    sym (no_end c.args.cuts.now c.args.number past)

pub returns-in-Some : goal.returns-in-Some
returns-in-Some g c =
    let test = c.get.ensures.lookup.0 in
    let within : c.args.number < length c.args.cuts.now = grind (arith, nat_tests, test) in
    sym (some_end c.args.cuts.now c.args.number c.in-Some.cut.now within c.in-Some.ensures.lookup.1)
