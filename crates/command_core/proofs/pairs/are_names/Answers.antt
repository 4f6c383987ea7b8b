use Rattle.std.proofs.Common.{◌+◌, ◌<◌, ◌&&◌, ◌∙◌, ap, arith, drop, length, sym}
use Rattle.std.specs.List.{list_all}
use Rattle.row_core.specs.Name.{is_name}
use Rattle.command_core.specs.Lines.{fields_in}
use Rattle.command_core.proofs.PortionLemmas.{names-here, names-over}
use Rattle.command_core.proofs.pairs.are_names.Goals as goal

pub returns-then-not-is_name_at : goal.returns-then-not-is_name_at
returns-then-not-is_name_at c =
    let fields = fields_in c.args.line in
    let k = c.loop-place.place in
    let lt : k < length fields = omega (arith, c.loop-place-test.true, c.len-place-end.ensures) in
    let here = names-here fields k c.is_name_at.result lt c.is_name_at.ensures in
    sym (sym c.loop-place.invariant
    ∙ (here ∙ ap (λ b. b && list_all is_name (drop (k + 1) fields)) c.if-not-is_name_at.true))

pub loop-place-preserved : goal.loop-place-preserved
loop-place-preserved c =
    let fields = fields_in c.args.line in
    let k = c.loop-place.place in
    let lt : k < length fields = omega (arith, c.loop-place-test.true, c.len-place-end.ensures) in
    let here = names-here fields k c.is_name_at.result lt c.is_name_at.ensures in
    sym (here ∙ ap (λ b. b && list_all is_name (drop (k + 1) fields)) c.if-not-is_name_at.false)
    ∙ c.loop-place.invariant

pub returns : goal.returns
returns c =
    let fields = fields_in c.args.line in
    let k = c.loop-place.place in
    names-over fields k (omega (arith, c.loop-place-test.false, c.len-place-end.ensures)) c.loop-place.invariant
