use Rattle.std.proofs.Common.{◌≡◌, IfOk, Result, ℕ}
use Rattle.std.specs.Global.{Vec}
use Rattle.std.specs.declared.alloc.AllocError.{AllocError}
use Rattle.std.proofs.lemmas.Result.{IfOk-weaker}
use Rattle.work_core.specs.Pieces.{items_within}
use Rattle.work_core.specs.declared.range.Range.{Range}
use Rattle.answer_core.specs.RecordBytes.{bytes_of}
use Rattle.answer_core.proofs.PieceLemmas.{texts-all}
use Rattle.answer_core.proofs.ranges.texts_of.Goals as goal

pub returns : goal.returns
returns g c =
    let records = g.L.RecordList.records c.args.list.now in
    let post : Range ℕ → ℕ → Result (Vec ℕ) AllocError → Type 0 =
    λ places n answer. Range ℕ × IfOk answer (λ (text : Vec ℕ). text.items ≡ bytes_of (items_within places records)) in
    IfOk-weaker c.shared_out.result _ _
    (λ texts given.
    texts-all records post c.args.shares.now.cuts.items texts.items (λ places n text own. own.1) given)
    c.shared_out.ensures
