use Rattle.std.proofs.Common.{rules, ◌≡◌, ◌+◌, ◌-◌, ◌∷◌, ap, drop, slice_get, sym, ◌∙◌}
use Rattle.std.proofs.lemmas.List.{drop_more}
use Rattle.list_core.specs.Chunks.{all_in}
use Rattle.list_core.proofs.ChunkLemmas.{got_first, got_later}
use Rattle.list_core.proofs.chunked.get_in.Goals as goal
use Rattle.list_core.proofs.chunked.get_in.Goals.{After-len}
use Rattle.list_core.proofs.chunked.get_in.Given.{Over}

-- the chunk is the first of the remaining chunks
left_are : (g : Over) (c : After-len g)
    → drop c.loop-chunk.chunk-index c.args.chunks.now
    ≡ c.chunk-item.result ∷ drop (c.loop-chunk.chunk-index + 1) c.args.chunks.now
left_are g c =
    let chunks = c.args.chunks.now in
    let k = c.loop-chunk.chunk-index in
    drop_more chunks k c.chunk-item.result (search rules)
    ∙ ap (λ z. z ∷ drop (k + 1) chunks) (sym c.chunk-item.is)

pub returns-then-left-len : goal.returns-then-left-len
returns-then-left-len g c =
    let at = (goal.at.returns-then-left-len g c).After-len in
    let chunks = c.args.chunks.now in
    let k = c.loop-chunk.chunk-index in
    c.item_at.ensures ∙ ap (λ l. slice_get l c.loop-chunk.left) c.deref.ensures.value
    ∙ sym (got_first (drop k chunks) (drop (k + 1) chunks) c.chunk-item.result c.loop-chunk.left (left_are g at)
    (search rules))
    ∙ sym c.loop-chunk.invariant

pub loop-chunk-preserved : goal.loop-chunk-preserved
loop-chunk-preserved g c =
    let at = (goal.at.loop-chunk-preserved g c).After-len in
    let chunks = c.args.chunks.now in
    let k = c.loop-chunk.chunk-index in
    let later = got_later (drop k chunks) (drop (k + 1) chunks) c.chunk-item.result c.loop-chunk.left (left_are g at)
    (search rules) in
    c.loop-chunk.invariant ∙ later ∙ ap (λ n. slice_get (all_in (drop (k + 1) chunks)) (c.loop-chunk.left - n)) (search rules)
