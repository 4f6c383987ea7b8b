use Rattle.std.proofs.Common.{◌≡◌, filter, int_lt, rules, subst}
use Rattle.std.proofs.lemmas.Fn.{filter_same}
use Rattle.dip_core.specs.declared.item.Item.{Item}
use Rattle.join_core.proofs.tiles.keep_holding.Goals as goal

pub returns : goal.returns
returns c =
    subst (λ l. c.retain.new.self.items ≡ filter (λ (x : Item). int_lt c.args.cut x.period.to) l)
    c.in_ok-extend_from_slice.ensures.items
    (filter_same _ _ _ (λ x b f' k. search rules) _ _ c.retain.ensures.filtered)
