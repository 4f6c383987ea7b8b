use Rattle.std.proofs.Common.{rules, arith, ◌<◌, ◌∷◌, ◌∙◌, ℕ, List, Option, Some, sym, ap, subst}
use Rattle.atomic_table.specs.Table.{rest}
use Rattle.turn_core.proofs.CallSteps.{may_look}
use Rattle.turn_core.proofs.turn.Turn.take.Goals as goal

pub load-requires : goal.load-requires
load-requires g c = let same = c.loop.invariant.2 in (
  search rules,
  let n = c.args.self.now.words in omega arith,
  may_look _ _ _ _ _ _ _ c.args.ticket (subst (λ m. 0 < m.0.number) (sym same) c.requires.number)
      (ap (λ m. m.0.stage) same ∙ c.requires.waits),
)

pub exchange-requires : goal.exchange-requires
exchange-requires g c =
    let same = c.loop.invariant.2 in
    let hit = (c.load.ensures.2 c.args.ticket (ap (λ m. m.0.stage) same ∙ c.requires.waits)).1
    c.if-load-ticket.true in (
      search rules,
      (Some hit.0, hit.1 ∙ ap (λ (l : List (ℕ × Option g.row.S.Denot)). (0, Some hit.0) ∷ l) (sym (ap rest hit.1))),
    )
