-- Values that are read column by column.
use Rattle.std.proofs.Common.{◌≡◌, ℕ, ◌+◌, ◌<◌, ◌≤◌, List, [], ◌∷◌, ◌++◌, length, drop, get_or, refl, sym, ◌∙◌, ap, append_assoc, append-nil, arith}
use Rattle.std.specs.Prelude.{Result, Ok, Err, Some, None}
use Rattle.std.specs.Result.{result_err}
use Rattle.std.proofs.lemmas.List.{drop_all, drop_more, get_or-drop, length-drop}
use Rattle.row_core.specs.Refusals.{IsAnswer, Reads, and_then, map_err, map_ok, map_refused}
use Rattle.row_core.specs.Reading.{field_of, refusal_of_value, values_of}
use Rattle.row_core.specs.Value.{value_of}
use Rattle.row_core.specs.declared.failure.Failure.{Failure}
use Rattle.row_core.specs.declared.failure.Failure.TheVariants.{Refused, NoMemory}
use Rattle.row_core.specs.declared.reading.RowRefused.{RowRefused}
use Rattle.row_core.specs.declared.schema.Column.{Column}
use Rattle.row_core.specs.declared.value.Kind.{Kind}
use Rattle.row_core.specs.declared.value.Value.{Value}
use Rattle.row_core.specs.declared.value.ValueRefused.{ValueRefused}

-- a column's field comes two fields later, after the points
pub field-at : (fs : List (List ℕ)) (i : ℕ) (field : List ℕ) → field ≡ get_or fs (i + 2) []
    → get_or (drop 2 fs) i [] ≡ field
field-at fs i field e =
    let place : 2 + i ≡ i + 2 = omega arith in
    get_or-drop 2 fs i [] ∙ ap (λ n. get_or fs n []) place ∙ sym e

pub field-there : (fs : List (List ℕ)) (i count : ℕ) → i < count → count + 2 ≤ length fs → i < length (drop 2 fs)
field-there fs i count h k = omega (arith, length-drop 2 fs, h, k)

-- one column further
values_of-drop : (cs : List Column) (fs : List (List ℕ)) (i : ℕ) (c : Column) (f : List ℕ) → i < length cs
    → i < length fs
    → values_of (drop i cs) (drop i fs) ≡ and_then (field_of (get_or cs i c).kind (get_or fs i f))
    (λ first. map_ok (λ rest. first ∷ rest) (values_of (drop (i + 1) cs) (drop (i + 1) fs)))
values_of-drop cs fs i c f h k =
    ap (λ l. values_of l (drop i fs)) (drop_more cs i c h)
    ∙ ap (values_of (get_or cs i c ∷ drop (i + 1) cs)) (drop_more fs i f k)

-- one value moves from the remaining values to the first ones
map_both-push : {E : Type 0} (done : List Value) (v : Value) (r : Result (List Value) E)
    → map_ok (λ rest. done ++ rest) (map_ok (λ rest. v ∷ rest) r) ≡ map_ok (λ rest. (done ++ v ∷ []) ++ rest) r
map_both-push done v (Ok rest) = ap Ok (sym (append_assoc done (v ∷ []) rest))
map_both-push done v (Err e) = refl

-- at the start there are no first values
pub append-none : (done : List Value) (r : Result (List Value) RowRefused) → done ≡ []
    → r ≡ map_ok (λ rest. done ++ rest) r
append-none done (Ok rest) none = ap (λ l. Ok (l ++ rest)) (sym none)
append-none done (Err e) none = refl

-- after the last column there are no remaining values
pub values_of-none : (cs : List Column) (fs : List (List ℕ)) (i : ℕ) (done : List Value) → length cs ≤ i
    → values_of cs fs ≡ map_ok (λ rest. done ++ rest) (values_of (drop i cs) (drop i fs)) → values_of cs fs ≡ Ok done
values_of-none cs fs i done past e =
    e ∙ ap (λ l. map_ok (λ rest. done ++ rest) (values_of l (drop i fs))) (drop_all i cs past)
    ∙ ap Ok (append-nil done)

-- a field that is read
field_of-ok : (kind : Kind) (field : List ℕ) (v : Value) → value_of kind field ≡ Ok v → field_of kind field ≡ Ok v
field_of-ok kind field v e = ap (map_err refusal_of_value) e

field_of-err : (kind : Kind) (field : List ℕ) (e : ValueRefused) → value_of kind field ≡ Err e
    → field_of kind field ≡ Err (refusal_of_value e)
field_of-err kind field e h = ap (map_err refusal_of_value) h

-- one value more is read
pub values_of-push : (cs : List Column) (fs : List (List ℕ)) (i : ℕ) (done : List Value) (c : Column) (f : List ℕ)
    (v : Value) → i < length cs → i < length fs → value_of (get_or cs i c).kind (get_or fs i f) ≡ Ok v
    → values_of cs fs ≡ map_ok (λ rest. done ++ rest) (values_of (drop i cs) (drop i fs))
    → values_of cs fs ≡ map_ok (λ rest. (done ++ v ∷ []) ++ rest) (values_of (drop (i + 1) cs) (drop (i + 1) fs))
values_of-push cs fs i done c f v h k given e =
    let rest = values_of (drop (i + 1) cs) (drop (i + 1) fs) in
    e ∙ ap (map_ok (λ rest. done ++ rest))
    (values_of-drop cs fs i c f h k
    ∙ ap (λ read. and_then read (λ first. map_ok (λ rest. first ∷ rest) rest))
    (field_of-ok (get_or cs i c).kind (get_or fs i f) v given))
    ∙ map_both-push done v rest

-- the first field that is refused
values_of-refused : (cs : List Column) (fs : List (List ℕ)) (i : ℕ) (done : List Value) (c : Column) (f : List ℕ)
    (e : RowRefused) → i < length cs → i < length fs → field_of (get_or cs i c).kind (get_or fs i f) ≡ Err e
    → values_of cs fs ≡ map_ok (λ rest. done ++ rest) (values_of (drop i cs) (drop i fs)) → values_of cs fs ≡ Err e
values_of-refused cs fs i done c f e h k given same =
    let rest = values_of (drop (i + 1) cs) (drop (i + 1) fs) in
    same ∙ ap (map_ok (λ rest. done ++ rest))
    (values_of-drop cs fs i c f h k
    ∙ ap (λ read. and_then read (λ first. map_ok (λ rest. first ∷ rest) rest)) given)

-- reading the next value fails: the value is refused, or memory is
pub values_of-failed : (cs : List Column) (fs : List (List ℕ)) (i : ℕ) (done : List Value) (c : Column)
    (f field : List ℕ) (e : Failure ValueRefused) → i < length cs → i < length fs → get_or fs i f ≡ field
    → IsAnswer {T = Value} (value_of (get_or cs i c).kind field) (Err e)
    → values_of cs fs ≡ map_ok (λ rest. done ++ rest) (values_of (drop i cs) (drop i fs))
    → Reads {T = List Value} (λ values. values) (values_of cs fs) (Err (map_refused refusal_of_value e))
values_of-failed cs fs i done c f field (Refused e) h k at given same =
    let refused = ap (field_of (get_or cs i c).kind) at ∙ field_of-err (get_or cs i c).kind field e given in
    values_of-refused cs fs i done c f (refusal_of_value e) h k refused same
values_of-failed cs fs i done c f field NoMemory h k at given same = tt

result_err-map : (v : Value) (r : Result (List Value) RowRefused)
    → result_err (map_ok (λ rest. v ∷ rest) r) ≡ result_err r
result_err-map v (Ok rest) = refl
result_err-map v (Err e) = refl

result_err-then : (rest : Result (List Value) RowRefused) (read : Result Value ValueRefused) → None ≡ result_err read
    → result_err
    (and_then (map_err refusal_of_value read) (λ first. map_ok (λ more. first ∷ more) rest)) ≡ result_err rest
result_err-then rest (Ok v) h = result_err-map v rest
result_err-then rest (Err e) h = absurd (cc)

result_err-stop : (rest : Result (List Value) RowRefused) (read : Result Value ValueRefused) (e : ValueRefused)
    → Some e ≡ result_err read
    → result_err (and_then (map_err refusal_of_value read) (λ first. map_ok (λ more. first ∷ more) rest)) ≡ Some
    (refusal_of_value e)
result_err-stop rest (Ok v) e h = absurd (cc)
result_err-stop rest (Err d) e h = let same : e ≡ d = cc in ap (λ x. Some (refusal_of_value x)) (sym same)

-- if a field isn't refused, the remaining fields decide
pub result_err-next : (cs : List Column) (fs : List (List ℕ)) (i : ℕ) (c : Column) (f : List ℕ) → i < length cs
    → i < length fs → None ≡ result_err (value_of (get_or cs i c).kind (get_or fs i f))
    → result_err (values_of (drop i cs) (drop i fs)) ≡ result_err (values_of (drop (i + 1) cs) (drop (i + 1) fs))
result_err-next cs fs i c f h k none =
    ap result_err (values_of-drop cs fs i c f h k)
    ∙ result_err-then (values_of (drop (i + 1) cs) (drop (i + 1) fs))
    (value_of (get_or cs i c).kind (get_or fs i f)) none

-- a refused field is the first one
pub result_err-here : (cs : List Column) (fs : List (List ℕ)) (i : ℕ) (c : Column) (f : List ℕ) (e : ValueRefused)
    → i < length cs → i < length fs → Some e ≡ result_err (value_of (get_or cs i c).kind (get_or fs i f))
    → result_err (values_of (drop i cs) (drop i fs)) ≡ Some (refusal_of_value e)
result_err-here cs fs i c f e h k some =
    ap result_err (values_of-drop cs fs i c f h k)
    ∙ result_err-stop (values_of (drop (i + 1) cs) (drop (i + 1) fs))
    (value_of (get_or cs i c).kind (get_or fs i f)) e some
