-- Ranges of ordered values.
use Rattle.std.specs.Prelude.{Bool, true, false, not, ◌&&◌, Option, Some, None}
use Rattle.std.specs.Ordering.{is_lt}
use Rattle.std.specs.declared.cmp.Ordering.{Ordering}
use Rattle.work_core.specs.declared.range.Range.{Range}

-- the range from one value on and before another
abbrev pub range : {T : Type 0} → Option T → Option T → Range T
range from before = record { from = from; before = before }

-- a value is `first` or comes after it
abbrev pub is_from : {T : Type 0} → (T → T → Ordering) → T → T → Bool
is_from cmp first x = not (is_lt (cmp x first))

-- a value isn't before the start, if there is one
abbrev pub has_begun : {T : Type 0} → (T → T → Ordering) → Option T → T → Bool
has_begun cmp None x = true
has_begun cmp (Some first) x = is_from cmp first x

-- a value is at or after the end, if there is one
abbrev pub has_ended : {T : Type 0} → (T → T → Ordering) → Option T → T → Bool
has_ended cmp None x = false
has_ended cmp (Some end) x = is_from cmp end x

-- a range contains a value
abbrev pub has : {T : Type 0} → (T → T → Ordering) → Range T → T → Bool
has cmp r x = has_begun cmp r.from x && not (has_ended cmp r.before x)
