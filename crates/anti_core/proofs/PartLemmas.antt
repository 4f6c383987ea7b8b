-- Items, their ids, and the parts that they are divided into.
use Rattle.std.proofs.Common.{◌≡◌, ℕ, ◌+◌, ◌<◌, List, length, take, drop, sym, subst}
use Rattle.std.specs.Prelude.{Contains}
use Rattle.dip_core.specs.declared.item.Item.{Item}
use Rattle.dip_core.specs.Item.{HasDistinctIds}
use Rattle.dip_core.specs.Division.{all_of, part_at}
use Rattle.dip_core.proofs.StepLemmas.{contains-all_of}
use Rattle.merge_core.specs.Meets.{IdsTell}
use Rattle.dip_core.proofs.PartedLemmas.{distinct-earlier, ids-apart, one_item, all_of-more, all_of-split}

-- if ids are distinct, items with the same id are the same
IdsTell-from_distinct : (items : List Item) → HasDistinctIds items → IdsTell items
IdsTell-from_distinct items distinct x y h k e = one_item items x y distinct h k e

-- and so in each part
pub IdsTell-part : (ps : List (List Item)) (l : ℕ) → HasDistinctIds (all_of ps) → IdsTell (part_at ps l)
IdsTell-part ps l distinct x y h k e =
    IdsTell-from_distinct (all_of ps) distinct x y (contains-all_of ps l x h) (contains-all_of ps l y k) e

-- no item of a part has the id of an item of an earlier part
pub parts-apart : (ps : List (List Item)) (l : ℕ) (x y : Item) → l < length ps → HasDistinctIds (all_of ps)
    → Contains (all_of (take l ps)) x → Contains (part_at ps l) y → x.id ≡ y.id → ⊥
parts-apart ps l x y inside distinct h k e =
    ids-apart (all_of (take l ps)) (part_at ps l) x y
    (subst HasDistinctIds (all_of-more ps l inside)
    (distinct-earlier (all_of (take (l + 1) ps)) (all_of (drop (l + 1) ps))
    (subst HasDistinctIds (sym (all_of-split ps (l + 1))) distinct)))
    h k e
