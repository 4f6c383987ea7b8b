use Rattle.std.proofs.Common.{◌∙◌, Some, ap, set}
use Rattle.std.specs.Option.{option_copied}
use Rattle.std.proofs.lemmas.List.{map-set}
use Rattle.version_core.proofs.by_column.ByColumn.set.Goals as goal

pub returns : goal.returns
returns c =
    map-set option_copied c.self.inside.values c.args.column (Some c.args.value)
    ∙ ap (λ l. set l c.args.column (Some c.args.value.now)) c.self.view_is
