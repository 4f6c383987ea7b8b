use Rattle.std.proofs.Common.{◌≡◌, length, ap, sym, ◌∙◌, arith}
use Rattle.std.proofs.lemmas.List.{length-take-le}
use Rattle.store_core.specs.Passes.{seen}
use Rattle.callers.proofs.Heard.{front-within, length-log}
use Rattle.callers.proofs.report.Goals as goal

pub slice_bounds-loaders-end : goal.slice_bounds-loaders-end
slice_bounds-loaders-end g c =
    let before = seen c.args.auditor.now in
    let after = seen c.log.new.pass in
    let reply = c.in_ok-log.ensures.reply in
    let entries = c.as_slice.result.now in
    let many : length entries ≡ length after = ap length (c.as_slice.ensures ∙ reply.1) ∙ length-log after in
    sym (length-take-le 1001 entries
    (omega (arith, c.requires.heard, front-within before after reply.0.sees.before, many)))
