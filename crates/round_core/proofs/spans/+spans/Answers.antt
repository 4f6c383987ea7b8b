use Rattle.std.proofs.Common.{Option, ℤ, ◌<◌, sym, subst}
use Rattle.std.specs.Prelude.{IfSome}
use Rattle.grid_core.specs.Bundles.{ClassesRise}
use Rattle.round_core.specs.Spans.{AreOfOneClass}
use Rattle.round_core.proofs.SpanLemmas.{own_rise, owned}
use Rattle.round_core.proofs.spans.+spans.Goals as goal

pub plateaus_within-plateaus_of_spans-requires-clause-rise :
    goal.plateaus_within-plateaus_of_spans-requires-clause-rise
plateaus_within-plateaus_of_spans-requires-clause-rise g t c κs within =
    let class = c.requires.class.class in
    subst ClassesRise (sym c.deref.ensures.value)
    (own_rise class c.in_ok-cut.cut.items
    (owned class c.args.items.now c.in_ok-cut.cut.items c.requires.class.own c.in_ok-cut.ensures.own))

pub plateaus_of_spans-plateaus_cut_at-requires-clause-class :
    goal.plateaus_of_spans-plateaus_cut_at-requires-clause-class
plateaus_of_spans-plateaus_cut_at-requires-clause-class g t c κs within =
    (subst (λ (o : Option ℤ). IfSome o (λ at. (0 < c.args.cuts) × AreOfOneClass c.args.items.now)) c.in-Some.is
    c.in_ok-at.ensures).1

pub plateaus_cut_at-returns : goal.plateaus_cut_at-returns
plateaus_cut_at-returns g t c =
    c.both_spliced.ensures c.args.measure c.args.at c.args.items.now c.requires.class c.plateaus_before-early.ensures
    c.plateaus_from-late.ensures

pub plateaus_of_halves-returns : goal.plateaus_of_halves-returns
plateaus_of_halves-returns g t c =
    c.both_spliced.ensures c.args.measure c.args.at c.args.items.now c.requires.class c.join-early.ensures.first
    c.join-early.ensures.second
