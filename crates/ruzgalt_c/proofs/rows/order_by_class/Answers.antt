use Rattle.std.proofs.Common.{rules}
use Rattle.std.proofs.lemmas.List.Sorted.{answers_always}
use Rattle.dip_core.specs.declared.item.Item.{Item}
use Rattle.anti_core.proofs.UnitedLemmas.{stand_sorted}
use Rattle.ruzgalt_c.proofs.RowLemmas.{rise-stand}
use Rattle.ruzgalt_c.proofs.rows.order_by_class.Goals as goal

pub returns-clause-sorted : goal.returns-clause-sorted
returns-clause-sorted c =
    rise-stand c.sort_unstable_by_key.new.self.items
    (stand_sorted c.sort_unstable_by_key.new.self.items
    (c.sort_unstable_by_key.ensures.sorted (λ (x : Item). (x.class, x.period.from))
    (answers_always _ _ _ (λ f a r g called. search rules))))
