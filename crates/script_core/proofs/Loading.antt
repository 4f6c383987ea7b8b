-- Records that are read in order, each by itself.
use Rattle.std.proofs.Common.{◌≡◌, ℕ, ◌+◌, List, [], ◌∷◌, ◌++◌, Result, Ok, Err, sym, ap, ◌∙◌, arith, append_assoc}
use Rattle.row_core.specs.Refusals.{and_then, map_err, map_ok}
use Rattle.script_core.specs.Failure.{Failure, IsFailureOf, IsRecordFailure}
use Rattle.command_core.specs.Records.{Record}
use Rattle.command_core.specs.Refusal.{fault}
use Rattle.script_core.specs.Effects.{all_or_fault}
use Rattle.row_core.specs.declared.failure.Failure.TheVariants.{Refused, NoMemory}
use Rattle.command_core.specs.declared.refusal.Fault.{Fault}
use Rattle.command_core.specs.declared.refusal.Refusal.{Refusal}

-- The values already read, followed by the result for the rest.
abbrev pub behind : {T E : Type 0} → List T → Result (List T) E → Result (List T) E
behind had (Ok more) = Ok (had ++ more)
behind had (Err wrong) = Err wrong

-- The result for one record, followed by the result for the others.
abbrev then_others : {T E : Type 0} → Result T E → Result (List T) E → Result (List T) E
then_others first others = and_then first (λ x. map_ok (λ more. x ∷ more) others)

-- One more value was read.
pub behind-next : {T E : Type 0} (had : List T) (first : Result T E) (x : T) (others : Result (List T) E)
    → first ≡ Ok x → behind had (then_others first others) ≡ behind (had ++ x ∷ []) others
behind-next had first x (Ok more) good =
    ap (λ r. behind had (then_others r (Ok more))) good ∙ ap Ok (sym (append_assoc had (x ∷ []) more))
behind-next had first x (Err wrong) good = ap (λ r. behind had (then_others r (Err wrong))) good

-- The next record is refused.
pub behind-refused : {T E : Type 0} (had : List T) (first : Result T E) (wrong : E) (others : Result (List T) E)
    → first ≡ Err wrong → behind had (then_others first others) ≡ Err wrong
behind-refused had first wrong others bad = ap (λ r. behind had (then_others r others)) bad

-- The value of one record, or its fault.
abbrev one_or_fault : {T : Type 0} → ℕ → Result T Refusal → Result T Fault
one_or_fault number read = map_err (fault number) read

next_record : {T : Type 0} (read : Record → Result T Refusal) (number place : ℕ) (lines rest : List Record)
    (line : Record) → lines ≡ line ∷ rest
    → all_or_fault read (number + place) lines ≡ then_others (one_or_fault (number + place) (read line))
    (all_or_fault read (number + (place + 1)) rest)
next_record read number place lines rest line e =
    let next : number + place + 1 ≡ number + (place + 1) = omega arith in
    ap (all_or_fault read (number + place)) e
    ∙ ap (λ n. then_others (one_or_fault (number + place) (read line)) (all_or_fault read n rest)) next

-- One more record was read.
pub behind-more : {T : Type 0} (read : Record → Result T Refusal) (number place : ℕ) (lines rest : List Record)
    (line : Record) (had : List T) (first : T) → lines ≡ line ∷ rest → read line ≡ Ok first
    → behind had (all_or_fault read (number + place) lines) ≡ behind (had ++ first ∷ [])
    (all_or_fault read (number + (place + 1)) rest)
behind-more read number place lines rest line had first e good =
    ap (behind had) (next_record read number place lines rest line e)
    ∙ behind-next had (one_or_fault (number + place) (read line)) first
    (all_or_fault read (number + (place + 1)) rest) (ap (one_or_fault (number + place)) good)

behind-wrong : {T : Type 0} (read : Record → Result T Refusal) (number place : ℕ) (lines rest : List Record)
    (line : Record) (had : List T) (refusal : Refusal) → lines ≡ line ∷ rest → read line ≡ Err refusal
    → behind had (all_or_fault read (number + place) lines) ≡ Err (fault (number + place) refusal)
behind-wrong read number place lines rest line had refusal e bad =
    ap (behind had) (next_record read number place lines rest line e)
    ∙ behind-refused had (one_or_fault (number + place) (read line)) (fault (number + place) refusal)
    (all_or_fault read (number + (place + 1)) rest) (ap (one_or_fault (number + place)) bad)

-- A record is refused.
pub behind-failed : {T : Type 0} (read : Record → Result T Refusal) (number place : ℕ) (lines rest : List Record)
    (line : Record) (had : List T) (meant : Result (List T) Fault) (failure : Failure) → lines ≡ line ∷ rest
    → meant ≡ behind had (all_or_fault read (number + place) lines)
    → IsRecordFailure (number + place) (read line) failure → IsFailureOf meant failure
behind-failed read number place lines rest line had meant (Refused wrong) e is (refusal, bad, same) =
    is ∙ (behind-wrong read number place lines rest line had refusal e bad ∙ ap Err (sym same))
behind-failed read number place lines rest line had meant NoMemory e is h = tt
