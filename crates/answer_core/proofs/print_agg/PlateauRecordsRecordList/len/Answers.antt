use Rattle.std.proofs.Common.{◌∙◌, map, sym}
use Rattle.std.proofs.lemmas.List.{length-map}
use Rattle.agg_core.specs.Grouping.{agg_row_of}
use Rattle.answer_core.specs.PrintedRecords.{agg_record}
use Rattle.answer_core.proofs.print_agg.PlateauRecordsRecordList.len.Goals as goal

pub returns : goal.returns
returns c =
    let row_of = agg_row_of c.args.self.now.share.now.groups.items in
    let plateaus = c.args.self.now.plateaus.now in
    (sym (length-map plateaus row_of) ∙ sym (length-map (map row_of plateaus) agg_record))
