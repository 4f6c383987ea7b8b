-- The bytes before index `place` were read.
use Rattle.std.proofs.Common.{◌≤◌, take}
use Rattle.live_core.specs.Scanning.{Knows, Reading, read_bytes}
use Rattle.live_core.proofs.ScanLemmas.{IsReadTo}
use Rattle.live_core.proofs.scan.Scan.read_all.Given as goal

abbrev pub invariant-loop-place : goal.invariant-loop-place
invariant-loop-place l = record {
  within : l.cut ≤ l.place;
  reads : (r : Reading) → Knows l.fn.self r → IsReadTo l.self r (read_bytes r (take l.place l.bytes)) l.place l.cut;
}
