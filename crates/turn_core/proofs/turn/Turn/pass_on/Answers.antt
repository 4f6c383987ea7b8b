use Rattle.std.proofs.Common.{rules, arith, ◌<◌, ◌∷◌, ◌∙◌, sym, ap, subst, Some}
use Rattle.atomic_table.specs.Table.{rest}
use Rattle.turn_core.specs.Entries.{AddsAtMostOne}
use Rattle.turn_core.proofs.CallSteps.{may_pass_on}
use Rattle.turn_core.proofs.turn.Turn.pass_on.Goals as goal

pub fetch_add-requires : goal.fetch_add-requires
fetch_add-requires g c =
    let now = c.exchange.ensures.3 in
    let same = ap (λ m. m.0) now in (
      search rules,
      let n = c.args.self.now.words in omega arith,
      may_pass_on _ _ _ _ _ _ _ c.args.state c.requires.serves.0 (ap (λ m. m.1) now
          ∙ ap (λ l. (0, Some c.args.state) ∷ rest l) c.requires.slot)
          (subst (λ v. 0 < v.number) (sym same) c.requires.number) (ap (λ v. v.stage) same
          ∙ c.requires.serves.1) (c.requires.keeps.0 ∙ sym (ap (λ v. v.mark) same))
          (subst (λ v. AddsAtMostOne g.S.Kept.by v.number v.seen (g.S.Kept.entries c.args.state)) (sym same)
          c.requires.keeps.1),
    )
