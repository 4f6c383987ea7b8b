-- Limits.
use Rattle.std.specs.Prelude.{ℕ, ◌^◌}

-- the most workers of a run
abbrev pub worker_limit : ℕ
worker_limit = 64

-- the most pairs of a job
abbrev pub pair_limit : ℕ
pair_limit = 2 ^ 40

-- how many numbers a worker may draw: more than a job has pairs
abbrev pub draw_limit : ℕ
draw_limit = 2 ^ 41

-- how many numbers may be drawn in all: enough for the workers, and few enough for the word
abbrev pub word_limit : ℕ
word_limit = 2 ^ 48
