use Rattle.std.proofs.Common.{◌∙◌}
use Rattle.command_core.specs.Lines.{lines_in}
use Rattle.script_core.specs.Effects.{loaded_row}
use Rattle.script_core.proofs.Ranges.{reported-part}
use Rattle.script_core.proofs.rows.rows_in_range.Goals as goal

pub returns-in-Ok : goal.returns-in-Ok
returns-in-Ok c =
    reported-part (loaded_row c.args.schema.now) c.args.places c.args.number c.places_within-from.result.0
    c.places_within-from.result.1 c.len-count.result (lines_in c.args.lines) (lines_in c.range.result) c.len-count.ensures
    c.places_within-from.ensures.before c.places_within-from.ensures.from c.range.ensures
    ∙ c.in-Ok.ensures

pub returns-in-Err-Refused : goal.returns-in-Err-Refused
returns-in-Err-Refused c =
    reported-part (loaded_row c.args.schema.now) c.args.places c.args.number c.places_within-from.result.0
    c.places_within-from.result.1 c.len-count.result (lines_in c.args.lines) (lines_in c.range.result) c.len-count.ensures
    c.places_within-from.ensures.before c.places_within-from.ensures.from c.range.ensures
    ∙ rw c.in-Err-Refused.field-0-is at c.in-Err-Refused.ensures
