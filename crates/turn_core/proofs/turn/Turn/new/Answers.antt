use Rattle.std.proofs.Common.{◌++◌, ◌∷◌, ◌∙◌, [], List, Option, Some, sym, ap, subst}
use Rattle.atomic_table.specs.Table.{opening}
use Rattle.turn_core.specs.Rule.{Serves}
use Rattle.turn_core.specs.Steps.{view_from}
use Rattle.turn_core.proofs.SeatSteps.{opens}
use Rattle.turn_core.proofs.turn.Turn.new.Goals as goal

pub new-requires : goal.new-requires
new-requires g c =
    let items =
    c.push_reserved.ensures.items
    ∙ ap (λ (l : List (Option g.row.S.Denot)). l ++ Some c.args.state ∷ []) c.in_ok-slots.ensures.items in
    subst
    (λ xs. Serves g.S.Kept.entries g.S.Kept.by g.S.Kept.mark c.args.seats
    (opening (0 ∷ 0 ∷ []) xs (view_from 1 c.args.seats))) (sym items)
    (opens _ _ _ _ c.args.state c.requires.seats.0 c.requires.seats.1 c.requires.empty c.requires.mark)
