use Rattle.std.proofs.Common.{◌≡◌, ◌<◌, ◌++◌, ◌∙◌, Option, OnOk, ap, arith, get_or, length, map, subst, sym}
use Rattle.std.specs.Prelude.{option_map}
use Rattle.std.proofs.lemmas.List.{length-map}
use Rattle.std.proofs.lemmas.Option.{slice_get-get_or, slice_get-map}
use Rattle.csv.specs.Writing.{row_text}
use Rattle.row_core.specs.declared.value.Value.{Value}
use Rattle.agg_core.specs.Grouping.{agg_row_of}
use Rattle.answer_core.specs.PrintedRecords.{agg_record}
use Rattle.answer_core.specs.RecordBytes.{answer_writer}
use Rattle.answer_core.proofs.Printing.{record_at-map}
use Rattle.answer_core.proofs.print_agg.PlateauRecordsRecordList.print_at.Goals as goal

pub bounds-self-index : goal.bounds-self-index
bounds-self-index c =
    let row_of = agg_row_of c.args.self.now.share.now.groups.items in
    let plateaus = c.args.self.now.plateaus.now in
    omega (arith, c.requires, length-map plateaus row_of, length-map (map row_of plateaus) agg_record)

pub returns : goal.returns
returns c =
    let row_of = agg_row_of c.args.self.now.share.now.groups.items in
    let plateaus = c.args.self.now.plateaus.now in
    let within : c.args.index < length plateaus =
    omega (arith, c.requires, length-map plateaus row_of, length-map (map row_of plateaus) agg_record) in
    let plateau = get_or plateaus c.args.index c.index-self-index.result in
    let printed =
    subst (λ (group : Option Value). OnOk c.agg_row.result (c.agg_row.new.self ≡ c.args.text.now
    ++ row_text answer_writer (agg_record (record { group = group; period = plateau.period; value = plateau.value }))))
    c.group.ensures c.agg_row.ensures in
    subst (λ line. OnOk c.agg_row.result (c.agg_row.new.self ≡ c.args.text.now ++ row_text answer_writer line))
    (sym (record_at-map agg_record (map row_of plateaus) c.args.index (row_of plateau)
    (slice_get-map row_of plateaus c.args.index
    ∙ ap (option_map row_of) (slice_get-get_or plateaus c.args.index c.index-self-index.result within))))
    printed
