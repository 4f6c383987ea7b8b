use Rattle.std.proofs.Common.{◌≡◌, drop, slice_get}
use Rattle.list_core.specs.Chunks.{all_in}
use Rattle.list_core.proofs.chunked.get_in.Given as goal

-- the item is at index `left` of the remaining chunks
abbrev pub invariant-loop-chunk : goal.invariant-loop-chunk
invariant-loop-chunk g l =
    slice_get (all_in l.chunks) l.place ≡ slice_get (all_in (drop l.chunk-index l.chunks)) l.left
