use Rattle.std.proofs.lemmas.List.Sorted.{IsPermutation-sym}
use Rattle.std.proofs.lemmas.Result.{on_ok_weaker}
use Rattle.dip_core.specs.Division.{all_of}
use Rattle.round_core.proofs.RunLemmas.{adds_permuted}
use Rattle.round_core.proofs.step_lists.push_run.Goals as goal

pub returns : goal.returns
returns g c =
    let parts = all_of c.in_ok-division.division in
    on_ok_weaker c.push_parts.result
    (adds_permuted c.args.class parts c.args.items.now c.args.lists.now.items c.push_parts.new.lists.items
    (IsPermutation-sym c.args.items.now parts c.in_ok-division.ensures.division.together))
    c.push_parts.ensures
