use Rattle.std.proofs.Common.{arith, ap, ◌≡◌, ◌<◌, ◌∙◌, length, List, None, Option, slice_index_or}
use Rattle.std.proofs.lemmas.List.{length-replicate}
use Rattle.work_core.proofs.Team.{team_answer}
use Rattle.work_core.proofs.drawing.call_all.Goals as goal

pub gather-requires-clause-answers : goal.gather-requires-clause-answers
gather-requires-clause-answers g c κs within k d inside =
    let calls = c.args.calls.now in
    let count = g.C.Calls.count_of calls in
    let places = c.in_ok-places.places.items in
    let team = c.in_ok-team.team in
    let answers = c.in_ok-answers.answers in
    let len = c.in_ok-answers.ensures.len in
    let same : length team.items ≡ length answers.items = omega (arith, len, team.ok.0, answers.ok.0) in
    let below : k < length team.items = omega (arith, inside, same) in
    let got = c.in_ok-answers.ensures.each k d below in
    let size = ap (λ (l : List (Option g.row.C-Out.Denot)). length l) c.in_ok-places.ensures in
    let all : length places ≡ count =
    size ∙ (length-replicate c.count-count.result None ∙ c.count-count.ensures) in
    team_answer count (g.C.Calls.IsValue calls) c.in_ok-claims.claims c.deal.new.seat.table_id (length places)
    (length answers.items) k team.items got.1.job (slice_index_or answers.items k d)
    (c.deal.ensures.table ∙ c.in_ok-claims.ensures.0) c.in_ok-team.ensures.places below (got.1.job_is got.1.job) all same
    got.1.call.met
