use Rattle.std.proofs.Common.{arith, true}
use Rattle.std.proofs.KnownBytes.{Keeps-trans}
use Rattle.stream_core.specs.Counted.{failures_of}
use Rattle.stream_core.proofs.Counting.{count_after-most}
use Rattle.stream_core.proofs.output.write_some.Goals as goal

pub loop-n-preserved : goal.loop-n-preserved
loop-n-preserved g c =
    let spent = c.if-not-try_again.ensures.spent in
    record {
      kept = Keeps-trans _ _ _ c.loop-n.invariant.kept c.in-Err.ensures.bytes;
      counts = omega arith;
      tries = omega (
        arith,
        spent,
        c.in-Err.ensures.count,
        count_after-most (failures_of c.loop-n.writer) true,
        c.loop-n.invariant.tries,
      );
    }
