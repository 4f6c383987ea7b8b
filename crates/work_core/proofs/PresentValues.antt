-- Values in their slots.
use Rattle.std.proofs.Common.{◌≡◌, ℕ, ◌<◌, ◌≤◌, All, List, [], ◌∷◌, ◌++◌, Option, Some, None, IsSome, length, map, slice_get, slice_index_or, arith, ap, ◌∙◌, sym, refl}
use Rattle.std.proofs.lemmas.List.{append_assoc, length-map}
use Rattle.std.proofs.lemmas.List.Elements.{All-head, All-tail}
use Rattle.std.proofs.lemmas.Option.{slice_get-map, slice_get_read, slice_get_past, same_Some, none-some}
use Rattle.std.specs.Option.{option_map}
use Rattle.work_core.specs.Collected.{present_values}

-- an empty slot has no value
pub not_none : {T : Type 0} (x : Option T) → x ≡ None → IsSome x → ⊥
not_none None e h = cc
not_none (Some y) e h = cc

-- if each slot has a value, the slots are these values
pub places-present_values : {T : Type 0} (places : List (Option T)) → All IsSome places
    → places ≡ map (λ (x : T). Some x) (present_values places)
places-present_values [] all = refl
places-present_values {T} (Some x ∷ places) all =
    ap (λ (l : List (Option T)). Some x ∷ l) (places-present_values places (All-tail IsSome (Some x) places all))
places-present_values {T} (None ∷ places) all = absurd (not_none {T = T} None refl (All-head IsSome None places all))

-- the numbers of values and slots are equal
pub length-present_values : {T : Type 0} (places : List (Option T)) → All IsSome places
    → length (present_values places) ≡ length places
length-present_values {T} places all =
    let e = ap (λ (l : List (Option T)). length l) (places-present_values places all) in
    sym (e ∙ length-map (present_values places) (λ (x : T). Some x))

-- the value found is the one in the slot
same_option : {T : Type 0} (x : Option T) (y : Option T) → Some x ≡ option_map (λ (z : T). Some z) y → y ≡ x
same_option x (Some z) e = sym (same_Some x (Some z) e)
same_option x None e = absurd (none-some x (sym e))

-- the value in a slot
pub get-present_values : {T : Type 0} (places : List (Option T)) (i : ℕ) (x : Option T) → All IsSome places
    → i < length places → x ≡ slice_index_or places i x → slice_get (present_values places) i ≡ x
get-present_values {T} places i x all inside read =
    let at : slice_get places i ≡ Some x = slice_get_read places (length places) i x refl inside read in
    let e = ap (λ (l : List (Option T)). slice_get l i) (places-present_values places all) in
    let f = slice_get-map (λ (z : T). Some z) (present_values places) i in
    same_option x (slice_get (present_values places) i) (sym at ∙ (e ∙ f))

-- no value past the last slot
pub get-present_values_past : {T : Type 0} (places : List (Option T)) (i : ℕ) → All IsSome places → length places ≤ i
    → slice_get (present_values places) i ≡ None
get-present_values_past places i all past =
    let e = length-present_values places all in slice_get_past (present_values places) i (omega (arith, e, past))

-- the next value is appended to the values before it
pub present_values-next : {T : Type 0} (all values values' : List T) (places rest : List (Option T)) (x : T)
    → Some x ∷ rest ≡ places → values' ≡ values ++ x ∷ [] → values ++ present_values places ≡ all
    → values' ++ present_values rest ≡ all
present_values-next {T} all values values' places rest x split more was =
    ap (λ (l : List T). l ++ present_values rest) more ∙ append_assoc values (x ∷ []) (present_values rest)
    ∙ ap (λ (l : List (Option T)). values ++ present_values l) split ∙ was
