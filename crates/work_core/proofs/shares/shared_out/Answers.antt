use Rattle.std.proofs.Common.{arith, ℕ, Result, Vec, Global}
use Rattle.std.proofs.lemmas.Result.{IfOk-weaker}
use Rattle.std.specs.declared.alloc.AllocError.{AllocError}
use Rattle.work_core.specs.declared.range.Range.{Range}
use Rattle.work_core.proofs.ShareLemmas.{all_given}
use Rattle.work_core.proofs.shares.shared_out.Goals as goal

pub call_each-requires-clause-few : goal.call_each-requires-clause-few
call_each-requires-clause-few g c κs within =
    let few = c.args.shares.now.few in
    let len = c.len.ensures in
    omega (arith, few, len)

pub returns : goal.returns
returns g c =
    let cuts = c.args.shares.now.cuts.items in
    let post = λ (r : Range g.row.T.Denot) (n : ℕ) (a : Result g.row.X.Denot AllocError).
    g.F.Fn.post c.args.work.now (r, (n, tt)) a in
    all_given g.T.Ord.cmp post cuts (λ (found : Vec g.row.X.Denot Global). found.items) c.args.shares.now.rise.rise
    c.call_each.result
    (IfOk-weaker c.call_each.result _ _ (λ (found : Vec g.row.X.Denot Global) len. omega (arith, len, c.len.ensures)) c.call_each.ensures.len)
    (IfOk-weaker c.call_each.result _ _ (λ (found : Vec g.row.X.Denot Global) each i x at. each i x at) c.call_each.ensures.each)
