use Rattle.std.proofs.Common.{◌∙◌}
use Rattle.version_core.proofs.KeyIndexLemmas.{bytes-more, bytes-none}
use Rattle.version_core.proofs.key_index.number_of_bytes.Goals as goal

pub loop-byte-init : goal.loop-byte-init
loop-byte-init c = bytes-none

pub loop-byte-preserved : goal.loop-byte-preserved
loop-byte-preserved c =
    c.mixed-number.ensures
    ∙ bytes-more c.args.bytes.now c.loop-byte.byte-index c.loop-byte.number c.loop-byte-test.true c.loop-byte.invariant
