use Rattle.std.proofs.Common.{◌≡◌, ◌++◌, OnOk, arith, subst, sym}
use Rattle.std.proofs.lemmas.List.{length-map}
use Rattle.csv.specs.Writing.{row_text}
use Rattle.table_core.specs.Lent.{lent_row}
use Rattle.version_core.specs.Lent.{lent_version}
use Rattle.version_core.specs.declared.version.Version.{Version}
use Rattle.answer_core.specs.PrintedRecords.{version_record}
use Rattle.answer_core.specs.RecordBytes.{answer_writer}
use Rattle.answer_core.proofs.Printing.{record_at-map}
use Rattle.answer_core.proofs.print.VersionRecordsRecordList.print_at.Goals as goal

pub at-version-requires : goal.at-version-requires
at-version-requires c = omega (arith, c.requires, length-map c.args.self.now.versions.now version_record)

pub returns : goal.returns
returns c =
    let v = lent_version c.at-version.result in
    let Prints : Version → Type 0 =
    λ v. OnOk c.version.result (c.version.new.self ≡ c.args.text.now ++ row_text answer_writer (version_record v)) in
    let printed : Prints (record { row = lent_row c.row.result; sysfrom = c.sysfrom.result; systo = c.systo.result }) =
    c.version.ensures in
    let by_row : Prints (record { row = v.row; sysfrom = c.sysfrom.result; systo = c.systo.result }) =
    subst (λ r. Prints (record { row = r; sysfrom = c.sysfrom.result; systo = c.systo.result })) c.row.ensures printed in
    let by_from : Prints (record { row = v.row; sysfrom = v.sysfrom; systo = c.systo.result }) =
    subst (λ n. Prints (record { row = v.row; sysfrom = n; systo = c.systo.result })) c.sysfrom.ensures by_row in
    let by_all : Prints v =
    subst (λ n. Prints (record { row = v.row; sysfrom = v.sysfrom; systo = n })) c.systo.ensures by_from in
    subst (λ line. OnOk c.version.result (c.version.new.self ≡ c.args.text.now ++ row_text answer_writer line))
    (sym (record_at-map version_record c.args.self.now.versions.now c.args.index v c.at-version.ensures)) by_all
