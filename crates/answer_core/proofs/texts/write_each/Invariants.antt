-- The texts already visited are written.
use Rattle.std.proofs.Common.{◌+◌, ◌≤◌, take}
use Rattle.std.specs.Io.KnownBytes.{Appends}
use Rattle.list_core.specs.Chunks.{all_in}
use Rattle.stream_core.specs.Counted.{failures_of, inner_of}
use Rattle.answer_core.proofs.texts.write_each.Given as goal

abbrev pub invariant-loop-text : goal.invariant-loop-text
invariant-loop-text g l = record {
  written : Appends (g.W.Write.contents (inner_of l.fn.writer)) (g.W.Write.contents (inner_of l.writer))
      (all_in (take l.text-index l.texts));
  counts : failures_of l.fn.writer ≤ failures_of l.writer;
  tries : failures_of l.writer + l.patience.left ≤ failures_of l.fn.writer + l.fn.patience.left;
}
