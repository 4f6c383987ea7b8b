use Rattle.round_core.proofs.RunLemmas.{listing_more}
use Rattle.round_core.proofs.step_lists.class_lists.Goals as goal

pub runs-preserved : goal.runs-preserved
runs-preserved g c =
    listing_more c.args.items.now c.runs.left.now c.in-Some.later.now c.split_at.result.0.now c.split_at.result.1.now
    c.in-Some.first.now c.run_len-len.result c.runs.lists.items c.push_run.new.lists.items c.in-Some.ensures.cases.0
    c.split_at.ensures.front c.split_at.ensures.back c.run_len-len.ensures.own c.in_ok-push_run.ensures
    c.runs.invariant
