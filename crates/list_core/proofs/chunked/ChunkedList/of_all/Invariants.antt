use Rattle.std.proofs.Common.{◌≡◌, ◌++◌, flat_map}
use Rattle.list_core.proofs.chunked.ChunkedList.of_all.Given as goal

-- all items are those added already, followed by the items of the remaining lists
abbrev pub invariant-loop-list : goal.invariant-loop-list
invariant-loop-list g l =
    flat_map (λ items. items) l.fn.lists.items ≡ l.all ++ flat_map (λ items. items) l.list-iterator.rest.items
