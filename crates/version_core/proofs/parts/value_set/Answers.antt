use Rattle.std.proofs.Common.{◌≡◌, ◌∙◌, None, ap, get_or, sym, arith}
use Rattle.std.specs.Prelude.{unwrap_or}
use Rattle.std.specs.Option.{option_copied}
use Rattle.std.proofs.lemmas.List.{get_or_past}
use Rattle.std.proofs.lemmas.Result.{IfOk-weaker}
use Rattle.version_core.proofs.parts.value_set.Goals as goal
use Rattle.version_core.proofs.parts.value_set.Goals.{then-column-width+in_default, else-column-width}

pub returns : goal.returns
returns c =
    let unset : get_or c.args.sets.now c.args.column None ≡ None =
    elim c.if-column-width.branch [
      | then-column-width+in_default w ↦ sym w.get.ensures ∙ ap option_copied w.in_default.is
      | else-column-width w ↦ get_or_past c.args.sets.now c.args.column None (omega arith)
    ] in
    IfOk-weaker c.copy-2.result (λ now. now ≡ c.args.value.now)
    (λ now. now ≡ unwrap_or (get_or c.args.sets.now c.args.column None) c.args.value.now)
    (λ now e. e ∙ sym (ap (λ o. unwrap_or o c.args.value.now) unset)) c.copy-2.ensures
