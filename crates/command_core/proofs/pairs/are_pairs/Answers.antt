use Rattle.std.proofs.Common.{◌%◌, ◌==◌, ◌<◌, ◌∙◌, ap, arith, length, sym}
use Rattle.command_core.specs.Lines.{fields_in}
use Rattle.command_core.proofs.PortionLemmas.{are_pairs-even}
use Rattle.command_core.proofs.pairs.are_pairs.Goals as goal

pub returns-then-len-gt0 : goal.returns-then-len-gt0
returns-then-len-gt0 c =
    let fields = fields_in c.args.line in
    let some : 0 < length fields = omega (arith, c.if-len-gt0.true, c.len.ensures) in
    ap (λ n. n % 2 == 0) c.len-then-len-gt0.ensures ∙ sym (are_pairs-even fields some)
