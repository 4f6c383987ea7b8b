-- Limits.
use Rattle.std.specs.Prelude.{ℕ}

-- the most versions of a table
abbrev pub version_limit : ℕ
version_limit = 1000000

-- the buckets of an index
abbrev pub bucket_count : ℕ
bucket_count = 8191
