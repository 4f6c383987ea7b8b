use Rattle.std.proofs.Common.{◌≡◌, ◌<◌, take}
use Rattle.version_core.specs.Finding.{bucket_of_bytes}
use Rattle.version_core.specs.Limits.{bucket_count}
use Rattle.version_core.proofs.index.bucket_of_bytes.Given as goal

-- the bucket of the first bytes
abbrev pub invariant-loop-byte : goal.invariant-loop-byte
invariant-loop-byte l = record {
  same : l.bucket ≡ bucket_of_bytes (take l.byte-index l.bytes);
  few : l.bucket < bucket_count;
}
