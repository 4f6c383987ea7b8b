use Rattle.std.proofs.Common.{◌*◌, ◌+◌, ◌<◌, ◌&&◌, ◌∙◌, ap, arith, drop, length, sym}
use Rattle.command_core.specs.Lines.{fields_in}
use Rattle.command_core.specs.Pairs.{all_columns, pairs_of}
use Rattle.command_core.proofs.PortionLemmas.{columns-here, pairs-over}
use Rattle.command_core.proofs.pairs.all_columns.Goals as goal

pub returns-then-not-is_name_at : goal.returns-then-not-is_name_at
returns-then-not-is_name_at c =
    let fields = fields_in c.args.line in
    let k = c.loop-pair.pair in
    let lt : 2 * k + 1 < length fields = omega (arith, c.loop-pair-test.true, c.len-pair-end.ensures) in
    let here = columns-here fields k c.is_name_at.result lt c.is_name_at.ensures in
    sym (sym c.loop-pair.invariant
    ∙ (here ∙ ap (λ b. b && all_columns (pairs_of (drop (2 * (k + 1)) fields))) c.if-not-is_name_at.true))

pub loop-pair-preserved : goal.loop-pair-preserved
loop-pair-preserved c =
    let fields = fields_in c.args.line in
    let k = c.loop-pair.pair in
    let lt : 2 * k + 1 < length fields = omega (arith, c.loop-pair-test.true, c.len-pair-end.ensures) in
    let here = columns-here fields k c.is_name_at.result lt c.is_name_at.ensures in
    sym (here ∙ ap (λ b. b && all_columns (pairs_of (drop (2 * (k + 1)) fields))) c.if-not-is_name_at.false)
    ∙ c.loop-pair.invariant

pub returns : goal.returns
returns c =
    let fields = fields_in c.args.line in
    let k = c.loop-pair.pair in
    let over = pairs-over fields k (omega (arith, c.loop-pair-test.false, c.len-pair-end.ensures)) in
    sym (ap all_columns over.1) ∙ c.loop-pair.invariant
