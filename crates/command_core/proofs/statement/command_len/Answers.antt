use Rattle.std.proofs.Common.{inl, inr, sym, refl}
use Rattle.std.specs.Prelude.{drop, take}
use Rattle.command_core.specs.Lines.{fields_in, lines_in}
use Rattle.command_core.specs.Meaning.{block_meaning, record_meaning, meaning_or_refusal}
use Rattle.command_core.proofs.Cuts.{block-means, record-means}
use Rattle.command_core.proofs.Cutting.{rest-from}
use Rattle.command_core.proofs.statement.command_len.Goals as goal

pub returns-in_ok-body_len-clause-whole : goal.returns-in_ok-body_len-clause-whole
returns-in_ok-body_len-clause-whole c = λ number.
    let lines = lines_in c.args.lines in
    let opening = fields_in c.get.result in
    let size = c.in_ok-body_len.field-0 in
    let found = c.in_ok-body_len.ensures in
    let behind = lines_in c.range.result in
    let rest = rest-from lines behind c.len.result 1 c.len.ensures c.range.ensures in
    let meaning = meaning_or_refusal number (block_meaning opening (take size (drop 1 lines))) in (
      meaning,
      inr (block-means lines opening number size meaning behind rest c.get.ensures (sym c.if-opens_block.ensures)
          found.within found.before found.last refl),
    )

pub returns-else-opens_block-clause-whole : goal.returns-else-opens_block-clause-whole
returns-else-opens_block-clause-whole c = λ number.
    let opening = fields_in c.get.result in (
      meaning_or_refusal number (record_meaning opening),
      inl (record-means (lines_in c.args.lines) opening number c.get.ensures (sym c.if-opens_block.ensures)),
    )
