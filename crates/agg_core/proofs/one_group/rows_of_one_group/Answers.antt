use Rattle.std.proofs.Common.{◌≡◌, ◌∙◌, ◌∷◌, ◌++◌, [], List, Option, None, ap, map}
use Rattle.std.proofs.lemmas.Result.{IfOk-weaker}
use Rattle.row_core.specs.declared.value.Value.{Value}
use Rattle.agg_core.specs.Entries.{amount_at, value_at_place}
use Rattle.agg_core.specs.Grouping.{agg_row_of}
use Rattle.agg_core.specs.Shares.{rows_in, rows_in_shares}
use Rattle.agg_core.specs.declared.rows.AggShare.{AggShare}
use Rattle.agg_core.proofs.GetLemmas.{rows-alone}
use Rattle.agg_core.proofs.GroupLemmas.{grouping_of_one}
use Rattle.agg_core.proofs.PlateauLemmas.{answer_of}
use Rattle.agg_core.proofs.one_group.rows_of_one_group.Goals as goal

pub plateaus_of-requires-clause-grouped : goal.plateaus_of-requires-clause-grouped
plateaus_of-requires-clause-grouped g c κs within =
    (grouping_of_one (amount_at c.args.asked.amount) c.args.rows.now c.deref.result.now
    (c.deref.ensures.value ∙ c.in_ok-items.ensures)).classes

pub returns : goal.returns
returns g c =
    let amount_of = amount_at c.args.asked.amount in
    let rows = c.args.rows.now in
    let items = c.deref.result.now in
    let plateaus = c.in_ok-plateaus.plateaus in
    let groups : c.push.new.self.items ≡ None ∷ [] =
    c.in_ok-push.ensures.items ∙ ap (λ l. l ++ None ∷ []) c.new-groups.ensures.items in
    let share : AggShare = record { groups = c.push.new.self; plateaus = plateaus } in
    let alone : rows_in_shares c.push-2.new.self.items ≡ rows_in share =
    rows-alone c.push-2.new.self.items share
    (c.in_ok-push-2.ensures.items ∙ ap (λ (l : List AggShare). l ++ share ∷ []) c.new-shares.ensures.items) in
    IfOk-weaker c.of_shares.result _ _
    (λ answer e.
    answer_of c.args.asked.measure amount_of (value_at_place None) rows items (None ∷ [])
    (grouping_of_one amount_of rows items (c.deref.ensures.value ∙ c.in_ok-items.ensures))
    answer (record {
      plateaus = plateaus;
      all = c.in_ok-plateaus.ensures;
      is = e ∙ alone ∙ ap (λ (l : List (Option Value)). map (agg_row_of l) plateaus) groups;
    }))
    c.of_shares.ensures
