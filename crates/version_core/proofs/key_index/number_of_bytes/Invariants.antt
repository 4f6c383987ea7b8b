use Rattle.std.proofs.Common.{◌≡◌, take}
use Rattle.version_core.specs.KeyIndex.{number_of_bytes}
use Rattle.version_core.proofs.key_index.number_of_bytes.Given as goal

-- the hash of the first bytes
abbrev pub invariant-loop-byte : goal.invariant-loop-byte
invariant-loop-byte l = l.number ≡ number_of_bytes (take l.byte-index l.bytes)
