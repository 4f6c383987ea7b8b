use Rattle.std.proofs.Common.{◌∙◌, arith, sym, ap, Ok}
use Rattle.row_core.proofs.TextLemmas.{text_of-utf8, text_of-bad}
use Rattle.row_core.proofs.text.Text.checked.Goals as goal

pub returns-in-Ok : goal.returns-in-Ok
returns-in-Ok c =
    let same = c.in-Ok.ensures.cases.0 in
    (text_of-utf8 c.args.bytes.now (omega arith) c.in-Ok.ensures.cases.1 ∙ ap Ok (sym same), rw same (omega arith))

pub returns-in-Err : goal.returns-in-Err
returns-in-Err c = text_of-bad c.args.bytes.now (omega arith) c.in-Err.ensures.cases.0
