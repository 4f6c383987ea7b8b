-- What a clause reads of a counted reader or writer.
use Rattle.std.specs.Prelude.{ℕ, List, Option}
use Rattle.stream_core.specs.declared.counted.Counted.{Counted}

-- the reader or writer underneath
abbrev pub inner_of : {T : Type 0} → Counted T → T
inner_of counted = counted.inner

-- how many of its calls have failed
abbrev pub failures_of : {T : Type 0} → Counted T → ℕ
failures_of counted = counted.failures

-- a reader at one moment: its unread bytes, if known, and how many of its calls have failed
pub record Source : Type 0 where
  pub unread : Option (List ℕ)
  pub failures : ℕ

-- a writer at one moment: the bytes written to it, if known, and how many of its calls have failed
pub record Sink : Type 0 where
  pub written : Option (List ℕ)
  pub failures : ℕ

-- a counted reader at this moment, if `remaining` has the unread bytes of a reader
abbrev pub source_of : {R : Type 0} → (R → Option (List ℕ)) → Counted R → Source
source_of remaining reader = record { unread = remaining (inner_of reader); failures = failures_of reader }

-- a counted writer at this moment, if `contents` has the bytes written to a writer
abbrev pub sink_of : {W : Type 0} → (W → Option (List ℕ)) → Counted W → Sink
sink_of contents writer = record { written = contents (inner_of writer); failures = failures_of writer }
