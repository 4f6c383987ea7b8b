use Rattle.std.proofs.Common.{◌/◌, ◌∙◌, ap, sym}
use Rattle.command_core.specs.Lines.{fields_in}
use Rattle.command_core.proofs.PortionLemmas.{length-pairs_of}
use Rattle.command_core.proofs.pairs.pair_count.Goals as goal

pub returns : goal.returns
returns c = ap (λ n. n / 2) c.len.ensures ∙ sym (length-pairs_of (fields_in c.args.line))
