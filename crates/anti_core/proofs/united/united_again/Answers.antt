use Rattle.std.proofs.Common.{rules, sym}
use Rattle.std.proofs.lemmas.List.Sorted.{answers_always}
use Rattle.dip_core.specs.declared.item.Item.{Item}
use Rattle.list_core.specs.Chunks.{all_in}
use Rattle.anti_core.proofs.UnitedLemmas.{stand_sorted, union_moved}
use Rattle.anti_core.proofs.united.united_again.Goals as goal

pub unite-requires : goal.unite-requires
unite-requires c =
    stand_sorted c.sort_by_key.new.self.items
    (c.in_ok-sort_by_key.ensures.sorted (λ (x : Item). (x.class, x.period.from))
    (answers_always _ _ _ (λ f a r g called. search rules)))

pub returns : goal.returns
returns c =
    union_moved (all_in c.args.unions.items) c.sort_by_key.new.self.items c.unite.new.items.items
    (rw (sym c.in_ok-items.ensures) c.sort_by_key.ensures.permutation) c.unite.ensures
