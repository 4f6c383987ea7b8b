use Rattle.std.proofs.Common.{arith}
use Rattle.version_core.proofs.IndexLemmas.{bytes-more, bytes-none}
use Rattle.version_core.proofs.index.bucket_of_bytes.Goals as goal

pub loop-byte-init : goal.loop-byte-init
loop-byte-init c = record { same = bytes-none; few = omega arith }

pub loop-byte-preserved : goal.loop-byte-preserved
loop-byte-preserved c = record {
  same = bytes-more c.args.bytes.now c.loop-byte.byte-index c.loop-byte.bucket c.loop-byte-test.true
      c.loop-byte.invariant.same;
  few = omega arith;
}
