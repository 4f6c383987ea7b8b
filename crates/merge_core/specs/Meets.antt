-- The periods that gaps of two lists share.
use Rattle.std.specs.Prelude.{◌≡◌, List, ◌≤ℤ◌, AllPairs, Contains}
use Rattle.dip_core.specs.declared.item.Item.{Item}
use Rattle.merge_core.specs.declared.gap.Gap.{Gap}
use Rattle.merge_core.specs.Hits.{IsShared}

-- The period that a gap of one list and a gap of the other with the same left id share.
pub record IsMeet (one other : List Gap) (gap : Gap) : Type 0 where
  pub first : Gap
  pub second : Gap
  pub first_in : Contains one first
  pub second_in : Contains other second
  pub same_id : first.left.id ≡ second.left.id
  pub left : gap.left ≡ first.left
  pub shared : IsShared first.period second.period gap.period

-- Each gap ends at or before the start of each later one.
abbrev pub AreGapsApart : List Gap → Type 0
AreGapsApart gaps = AllPairs (λ (a b : Gap). a.period.to ≤ℤ b.period.from) gaps

-- Items with the same id are the same item.
abbrev pub IdsTell : List Item → Type 0
IdsTell items = (x y : Item) → Contains items x → Contains items y → x.id ≡ y.id → x ≡ y
