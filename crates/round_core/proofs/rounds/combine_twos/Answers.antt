use Rattle.std.proofs.Common.{◌≡◌, ◌/◌, List, length, sym, subst, ap, arith}
use Rattle.std.proofs.lemmas.Result.{IfOk-weaker}
use Rattle.merge_core.specs.Steps.{StepList}
use Rattle.round_core.specs.Rounds.{AreBoths}
use Rattle.round_core.proofs.RoundLemmas.{boths_by_number}
use Rattle.round_core.proofs.rounds.combine_twos.Goals as goal

pub returns : goal.returns
returns g c =
    let round = c.new-round.result in
    let twos = c.args.twos.now in
    let same : length round.lists.now ≡ length twos = ap length c.new-round.ensures in
    let outs = c.in_ok-outs.outs in
    let len : length outs ≡ length round.lists.now / 2 = c.in_ok-outs.ensures.len in
    let even = c.requires.even in
    let all : AreBoths twos outs =
    subst (λ (l : List StepList). AreBoths l outs) c.new-round.ensures
    (boths_by_number round.lists.now outs (omega (arith, same, len, even)) c.in_ok-outs.ensures.each) in
    IfOk-weaker c.into_vec.result _ _ (λ v h. subst (AreBoths twos) (sym h) all) c.into_vec.ensures
