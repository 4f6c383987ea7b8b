use Rattle.std.proofs.Common.{◌++◌, ap, sym, ◌∙◌}
use Rattle.list_core.specs.Chunks.{all_in}
use Rattle.list_core.proofs.ChunkLemmas.{last_in}
use Rattle.list_core.proofs.chunked.ChunkedList.last.Goals as goal

pub returns : goal.returns
returns g c = (
  all_in c.in_ok-chunk.field-0-1.now ++ c.in_ok-last.field-0-1.now,
  sym c.self.view_is ∙ ap all_in (sym c.deref.ensures.value)
      ∙ last_in c.deref.result.now c.in_ok-chunk.field-0-1.now c.in_ok-chunk.chunk.now c.in_ok-last.field-0-1.now
      c.in_ok-last.last.now c.in_ok-chunk.ensures.cases.0 (sym c.deref-2.ensures.value ∙ c.in_ok-last.ensures.cases.0),
)
