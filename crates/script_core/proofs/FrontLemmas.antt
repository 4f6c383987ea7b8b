-- The statements that were executed when a run stops are the first ones of its script.
use Rattle.std.proofs.Common.{◌≡◌, ℕ, ◌<◌, List, [], ◌∷◌, ◌++◌, length, take, refl, sym, ap, ◌∙◌, subst, arith}
use Rattle.std.specs.Io.KnownBytes.{Appends}
use Rattle.book_core.specs.History.{IsLegal}
use Rattle.answer_core.specs.RecordBytes.{bytes_of}
use Rattle.stream_core.specs.Counted.{Sink}
use Rattle.script_core.specs.Script.{Done, Place, Step, Steps, WritesBefore, WritesWithin, output_of}
use Rattle.script_core.specs.Writing.{Answering}
use Rattle.script_core.proofs.OutputExistence.{rest_done}
use Rattle.script_core.proofs.OutputUniqueness.{no_step, one_step}

-- The statements `rest` follow the statements `first`, up to the last position.
abbrev pub Follow : List Done → List Done → Place → Place → List Done → Type 0
Follow all first mid last rest = (all ≡ first ++ rest) × Steps mid rest last

pub first_follow : (old mid last : Place) (first all : List Done) → Steps old first mid → Steps old all last
    → last.left ≡ [] → (rest : List Done) × Follow all first mid last rest
first_follow old mid last [] all same steps over = (all, (refl, subst (λ z. Steps z all last) same steps))
first_follow old mid last (c ∷ cs) [] (next, step, more) same over =
    absurd (no_step old c next (ap (λ (z : Place). z.left) same ∙ over) step)
first_follow old mid last (c ∷ cs) (d ∷ ds) (next, step, more) (next', step', more') over =
    let first = one_step old c d next next' step step' in
    let (rest, (is, steps)) = first_follow next' mid last cs ds (subst (λ z. Steps z cs mid) first.1 more) more' over in
    (rest, (ap (λ l. l ∷ ds) (sym first.0) ∙ ap (λ l. c ∷ l) is, steps))

-- If records are left, there is a next statement.
some_next : (place last : Place) (rest : List Done) → 0 < length place.left → Steps place rest last → last.left ≡ []
    → (next : Done) × (later : List Done) × (rest ≡ next ∷ later)
some_next place last [] more same over =
    let none : length place.left ≡ 0 = ap (λ (z : Place). length z.left) same ∙ ap length over in
    absurd (omega arith)
some_next place last (d ∷ ds) more steps over = (d, ds, refl)

-- The statement that is executed at a position is the next one.
next_is_first : (place last after : Place) (next : Done) (rest : List Done) → Step place next after
    → Steps place rest last → last.left ≡ [] → (later : List Done) × (rest ≡ next ∷ later)
next_is_first place last after next [] step same over =
    absurd (no_step place next after (ap (λ (z : Place). z.left) same ∙ over) step)
next_is_first place last after next (d ∷ ds) step (mid, step', more) over =
    (ds, ap (λ l. l ∷ ds) (sym (one_step place next d after mid step step').0))

-- The answers to the first statements were written, and statements are left.
pub writes_before : (start : Place) (before after : Sink) (first : List Done) (place : Place)
    → IsLegal start.history → Steps start first place → 0 < length place.left
    → Appends before.written after.written (output_of first) → Answering WritesBefore start before after
writes_before start before after first place legal steps more written =
    let (dones, (last, all, over)) = rest_done start legal in
    let (rest, (is, onward)) = first_follow start place last first dones steps all over in
    let (next, later, starts) = some_next place last rest more onward over in (
      dones,
      (last, all, over),
      record {
        first = first;
        next = next;
        later = later;
        statements = is ∙ ap (λ l. first ++ l) starts;
        written = written;
      },
    )

-- The same, with a prefix of the next statement's answer.
pub writes_within : (start : Place) (before after : Sink) (first : List Done) (next : Done) (place mid : Place)
    (size : ℕ) → IsLegal start.history → Steps start first place → Step place next mid
    → size < length (bytes_of next.answer)
    → Appends before.written after.written (output_of first ++ take size (bytes_of next.answer))
    → Answering WritesWithin start before after
writes_within start before after first next place mid size legal steps step short written =
    let (dones, (last, all, over)) = rest_done start legal in
    let (rest, (is, onward)) = first_follow start place last first dones steps all over in
    let (later, starts) = next_is_first place last mid next rest step onward over in (
      dones,
      (last, all, over),
      record {
        first = first;
        next = next;
        later = later;
        statements = is ∙ ap (λ l. first ++ l) starts;
        size = size;
        short = short;
        written = written;
      },
    )
