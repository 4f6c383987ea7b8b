use Rattle.std.proofs.Common.{arith}
use Rattle.match_core.proofs.NumberLemmas.{all_numbered, next_to, none_numbered, one_numbered}
use Rattle.match_core.proofs.numbering.numbers_of.Goals as goal

pub loop-right-preserved : goal.loop-right-preserved
loop-right-preserved g c =
    one_numbered g.V.Ord.cmp g.met.V.Ord.total c.args.lefts.now c.args.rights.now c.loop-right.right c.loop-right.left
    c.first_from-left.result c.number_of.result c.loop-right.numbers.items c.push.new.self.items
    c.index-rights-right.result c.loop-right-test.true c.requires.right c.index-rights-right.is
    c.first_from-left.ensures.within c.first_from-left.ensures.before c.number_of.ensures c.in_ok-push.ensures.items
    c.loop-right.invariant

pub number_of-requires-clause-right : goal.number_of-requires-clause-right
number_of-requires-clause-right g c = c.loop-right-test.true

pub number_of-requires-clause-within : goal.number_of-requires-clause-within
number_of-requires-clause-within g c = c.first_from-left.ensures.within

pub number_of-requires-clause-rise : goal.number_of-requires-clause-rise
number_of-requires-clause-rise g c = c.requires.left

pub number_of-requires-clause-before : goal.number_of-requires-clause-before
number_of-requires-clause-before g c =
    next_to g.V.Ord.cmp g.met.V.Ord.total c.args.lefts.now c.args.rights.now c.loop-right.right c.first_from-left.result
    c.index-rights-right.result c.loop-right-test.true c.index-rights-right.is c.first_from-left.ensures.before
    c.first_from-left.ensures.next

pub loop-right-init : goal.loop-right-init
loop-right-init g c =
    none_numbered g.V.Ord.cmp g.met.V.Ord.total c.args.lefts.now c.args.rights.now c.in_ok-numbers.numbers.items
    c.in_ok-numbers.ensures.items

pub returns : goal.returns
returns g c =
    let over = c.loop-right-test.false in
    let end = c.loop-right.auto.right-end in
    all_numbered g.V.Ord.cmp g.met.V.Ord.total c.args.lefts.now c.args.rights.now c.loop-right.right c.loop-right.left
    c.loop-right.numbers.items (omega (arith, over, end)) c.loop-right.invariant
