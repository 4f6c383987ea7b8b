-- Coalescing items in the same list: the coalesced items are a prefix of it.
use Rattle.std.proofs.Common.{◌≡◌, ℕ, ◌+◌, ◌<◌, ◌≤◌, List, [], ◌∷◌, length, take, drop, set, get_or, refl, sym, subst, ap, ◌∙◌, arith}
use Rattle.std.specs.Prelude.{Some, slice_get}
use Rattle.std.proofs.lemmas.List.{drop-set-lt, drop_all, drop_more, take_more_set}
use Rattle.std.proofs.lemmas.Option.{get_or_from_slice_get, slice_get_within}
use Rattle.dip_core.specs.declared.item.Item.{Item}
use Rattle.anti_core.specs.United.{IsMerged, IsPlain, IsUnion, RunsInto, StandByClass}
use Rattle.anti_core.proofs.UnitedLemmas.{IsUniting, uniting_cut, uniting_end, uniting_joined, uniting_start}

-- at first the last coalesced item is the first item, and the prefix is empty
pub placed_start : (items slice : List Item) (first last : Item) → slice ≡ items → Some first ≡ slice_get slice 0
    → IsPlain first last → StandByClass items → (0 < length items) × IsUniting items (drop 1 items) last []
placed_start items slice first last e got plain order =
    let at : slice_get items 0 ≡ Some first = subst (λ l. slice_get l 0 ≡ Some first) e (sym got) in
    let some = slice_get_within items 0 first at in
    let cut : items ≡ first ∷ drop 1 items =
    drop_more items 0 first some ∙ ap (λ x. x ∷ drop 1 items) (get_or_from_slice_get items 0 first first at) in
    (some, uniting_start items (drop 1 items) first last [] cut plain refl order)

-- the remaining items from an index on, and the item at the index
next_left : (now : List Item) (i : ℕ) (x : Item) → i < length now → x ≡ get_or now i x
    → drop i now ≡ x ∷ drop (i + 1) now
next_left now i x inside read = drop_more now i x inside ∙ ap (λ y. y ∷ drop (i + 1) now) (sym read)

-- an item that continues the last one
pub placed_joined : (items now : List Item) (i count : ℕ) (last x both : Item) → i < length now → x ≡ get_or now i x
    → RunsInto last x → IsMerged last x both → IsUniting items (drop i now) last (take count now)
    → IsUniting items (drop (i + 1) now) both (take count now)
placed_joined items now i count last x both inside read =
    uniting_joined items (drop i now) (drop (i + 1) now) last x both (take count now) (next_left now i x inside read)

-- an item that doesn't: the last one is moved to the prefix
pub placed_cut : (items now : List Item) (i count : ℕ) (last x next : Item) → count < i → i < length now
    → x ≡ get_or now i x → (RunsInto last x → ⊥) → IsPlain x next → IsUniting items (drop i now) last (take count now)
    → IsUniting items (drop (i + 1) (set now count last)) next (take (count + 1) (set now count last))
placed_cut items now i count last x next before inside read not plain u =
    subst (λ left. IsUniting items left next (take (count + 1) (set now count last)))
    (sym (drop-set-lt (i + 1) now count last (omega (arith, before))))
    (uniting_cut items (drop i now) (drop (i + 1) now) last x next (take count now)
    (take (count + 1) (set now count last)) (next_left now i x inside read) not plain
    (take_more_set now count last (omega (arith, before, inside))) u)

-- at the end the last one is moved, too
pub placed_end : (items now : List Item) (i count : ℕ) (last : Item) → length now ≤ i → count < length now
    → IsUniting items (drop i now) last (take count now) → IsUnion items (take (count + 1) (set now count last))
placed_end items now i count last all before =
    uniting_end items (drop i now) last (take count now) (take (count + 1) (set now count last)) (drop_all i now all)
    (take_more_set now count last before)
