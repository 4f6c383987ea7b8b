use Rattle.std.proofs.Common.{◌≡◌, ◌+◌, arith, length, length-append}
use Rattle.csv.specs.Records.{fields_of}
use Rattle.list_core.proofs.CutLemmas.{EndsAt-more, cut-more}
use Rattle.command_core.proofs.batch.push_record.Goals as goal

pub returns-clause-ends : goal.returns-clause-ends
returns-clause-ends c =
    let before = c.args.fields.now in
    let row = fields_of c.args.row.now in
    let added = c.in_default.ensures.ok in
    let end : c.len.result + c.len-2.result ≡ length before + length row = omega (arith, c.len.ensures, c.len-2.ensures) in
    rw (c.in_ok-push.ensures.items, end, added, length-append before row)
    (EndsAt-more 0 c.args.ends.now.items (length before) (length row) c.requires.ends)

pub returns-clause-ok : goal.returns-clause-ok
returns-clause-ok c =
    let before = c.args.fields.now in
    let row = fields_of c.args.row.now in
    let added = c.in_default.ensures.ok in
    let end : c.len.result + c.len-2.result ≡ length before + length row = omega (arith, c.len.ensures, c.len-2.ensures) in
    rw (c.in_ok-push.ensures.items, end, added)
    (cut-more 0 c.args.ends.now.items before row c.requires.ends)
