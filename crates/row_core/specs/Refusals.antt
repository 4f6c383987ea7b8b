-- Refusals in the order of their tests.
use Rattle.std.specs.Prelude.{◌≡◌, List, [], ◌∷◌, Bool, if◌then◌else◌, Option, Some, None, Result, Ok, Err, IsOk, ⊤}
use Rattle.std.specs.Result.{result_map_both}
use Rattle.row_core.specs.declared.failure.Failure.{Failure}
use Rattle.row_core.specs.declared.failure.Failure.TheVariants.{Refused, NoMemory}

-- the refusal of the first test that applies
abbrev pub first_of : {E : Type 0} → List (Bool × E) → Option E
first_of [] = None
first_of (test ∷ tests) = if test.0 then Some test.1 else first_of tests

-- the refusal if there is one, otherwise the answer
abbrev pub refused_or : {T E : Type 0} → Option E → T → Result T E
refused_or None answer = Ok answer
refused_or (Some refusal) answer = Err refusal

-- the next result, computed from the value, or the refusal before it
abbrev pub and_then : {T U E : Type 0} → Result T E → (T → Result U E) → Result U E
and_then (Ok value) follow = follow value
and_then (Err refusal) follow = Err refusal

-- the result with its value mapped
abbrev pub map_ok : {T U E : Type 0} → (T → U) → Result T E → Result U E
map_ok make answer = result_map_both make (λ refusal. refusal) answer

-- the result with its refusal mapped
abbrev pub map_err : {T E D : Type 0} → (E → D) → Result T E → Result T D
map_err rename answer = result_map_both (λ value. value) rename answer

-- the values of all elements, or the first refusal
abbrev pub read_each : {T U E : Type 0} → (T → Result U E) → List T → Result (List U) E
read_each read [] = Ok []
read_each read (x ∷ xs) = and_then (read x) (λ first. map_ok (λ others. first ∷ others) (read_each read xs))

-- a call's answer is the expected value or refusal; it may be `NoMemory` only if a value is expected
abbrev pub IsAnswer : {T E : Type 0} → Result T E → Result T (Failure E) → Type 0
IsAnswer meant (Ok value) = meant ≡ Ok value
IsAnswer meant (Err (Refused refusal)) = meant ≡ Err refusal
IsAnswer meant (Err NoMemory) = IsOk meant

-- a call's answer is the refusal if there is one; otherwise it is a value with this property, or `NoMemory`
abbrev pub AnswersOr : {T E : Type 0} → Option E → (T → Type 0) → Result T (Failure E) → Type 0
AnswersOr refusal Is (Ok value) = (refusal ≡ None) × Is value
AnswersOr refusal Is (Err (Refused given)) = refusal ≡ Some given
AnswersOr refusal Is (Err NoMemory) = refusal ≡ None

-- a call's answer represents the expected value, or is the expected refusal; `NoMemory` is always allowed
abbrev pub Reads : {S T E : Type 0} → (T → S) → Result S E → Result T (Failure E) → Type 0
Reads stands meant (Ok value) = meant ≡ Ok (stands value)
Reads stands meant (Err (Refused refusal)) = meant ≡ Err refusal
Reads stands meant (Err NoMemory) = ⊤

-- a failure with its refusal mapped
abbrev pub map_refused : {D E : Type 0} → (E → D) → Failure E → Failure D
map_refused rename (Refused refusal) = Refused (rename refusal)
map_refused rename NoMemory = NoMemory
