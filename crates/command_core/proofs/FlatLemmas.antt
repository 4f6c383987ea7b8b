-- Fields that are stored flat, and fields appended to them.
use Rattle.std.proofs.Common.{◌≡◌, ℕ, ◌+◌, ◌-◌, ◌≤◌, List, [], ◌∷◌, ◌++◌, length, take, drop, refl, sym, ap, ◌∙◌, arith, length-append, take_at, drop_at, take-add, drop-drop}
use Rattle.std.specs.List.{concat}
use Rattle.std.proofs.lemmas.List.Sums.{sum_by-cons}
use Rattle.csv.specs.Records.{IsRecord, Rising, Row, cut_from, fields_of, text_of}
use Rattle.csv.proofs.RecordFacts.{rising-first}
use Rattle.list_core.specs.Cut.{cut, EndsAt}
use Rattle.list_core.proofs.CutLemmas.{EndsAt-behind, cut-behind}
use Rattle.command_core.specs.Flat.{ends_from, size_of}
use Rattle.command_core.specs.Records.{Record}
use Rattle.command_core.proofs.Cutting.{length-part}

-- One more field.
pub ends_from_push : (start : ℕ) (fields : Record) (field : List ℕ)
    → ends_from start (fields ++ field ∷ []) ≡ ends_from start fields ++ (start + size_of fields + length field) ∷ []
ends_from_push start [] field =
    let here : start + length field ≡ start + size_of [] + length field = omega arith in ap (λ n. n ∷ []) here
ends_from_push start (f ∷ fields) field =
    let here : start + length f + size_of fields + length field ≡ start + size_of (f ∷ fields) + length field =
    omega (arith, sum_by-cons length f fields) in
    ap (λ l. (start + length f) ∷ l)
    (ends_from_push (start + length f) fields field
    ∙ ap (λ n. ends_from (start + length f) fields ++ n ∷ []) here)

-- The fields of a record are a prefix of its bytes.

flat-from : (start : ℕ) (ends bytes : List ℕ) → Rising start ends (length bytes)
    → (concat (cut_from start ends bytes) ≡ take (size_of (cut_from start ends bytes)) (drop start bytes))
    × (start + size_of (cut_from start ends bytes) ≤ length bytes)
unfolding Rising cut_from
flat-from start [] bytes h = (refl, omega (arith, h))
flat-from start (end ∷ ends) bytes (h, more) =
    let part = take (end - start) (drop start bytes) in
    let size = size_of (cut_from end ends bytes) in
    let later = flat-from end ends bytes more in
    let long = length-part start end bytes (rising-first end ends (length bytes) more) in
    let at : start + (end - start) ≡ end = omega (arith, h) in
    let sum : (end - start) + size ≡ size_of (part ∷ cut_from end ends bytes) =
    omega (arith, sum_by-cons length part (cut_from end ends bytes), long) in (
      ap (λ l. part ++ l)
          (later.0 ∙ ap (take size) (sym (drop-drop (end - start) start bytes ∙ ap (λ k. drop k bytes) at)))
          ∙ sym (take-add (end - start) size (drop start bytes))
          ∙ ap (λ n. take n (drop start bytes)) sum,
      omega (arith, h, later.1, sum),
    )

pub record-flat : (row : Row) → IsRecord row
    → (concat (fields_of row) ≡ take (size_of (fields_of row)) (text_of row))
    × (size_of (fields_of row) ≤ length (text_of row))
record-flat row h =
    let flat = flat-from 0 row.ends row.bytes h in (flat.0, omega (arith, flat.1))

-- Appended fields.

cut-fields : (at : ℕ) (fields : Record) (xs : List ℕ) → drop at xs ≡ concat fields
    → cut at (ends_from at fields) xs ≡ fields
cut-fields at [] xs e = refl
cut-fields at (field ∷ fields) xs e =
    let size : at + length field - at ≡ length field = omega arith in
    let here : take (at + length field - at) (drop at xs) ≡ field =
    ap (λ n. take n (drop at xs)) size ∙ ap (take (length field)) e ∙ take_at field (concat fields) (length field) refl in
    let behind : drop (at + length field) xs ≡ concat fields =
    sym (drop-drop (length field) at xs) ∙ ap (drop (length field)) e ∙ drop_at field (concat fields) (length field) refl
    in
    ap (λ l. l ∷ cut (at + length field) (ends_from (at + length field) fields) xs) here
    ∙ ap (λ l. field ∷ l) (cut-fields (at + length field) fields xs behind)

EndsAt-fields : (at : ℕ) (fields : Record) → EndsAt at (ends_from at fields) (at + length (concat fields))
EndsAt-fields at [] = omega arith
EndsAt-fields at (field ∷ fields) =
    let sum : at + length (field ++ concat fields) ≡ at + length field + length (concat fields) =
    omega (arith, length-append field (concat fields)) in
    (omega arith, rw sum (EndsAt-fields (at + length field) fields))

-- A record's fields appended to others, by the record's bytes and the ends of its fields.
pub appended : (row : Row) (ends bytes grown longer text : List ℕ) (start last : ℕ) → IsRecord row
    → EndsAt 0 ends (length bytes) → start ≡ length bytes → last ≡ start + size_of (fields_of row)
    → text ≡ text_of row → grown ≡ ends ++ ends_from start (fields_of row)
    → longer ≡ bytes ++ take (last - start) text
    → EndsAt 0 grown (length longer) × (cut 0 grown longer ≡ cut 0 ends bytes ++ fields_of row)
appended row ends bytes grown longer text start last whole h at sum same g l =
    let fields = fields_of row in
    let size : last - start ≡ size_of fields = omega (arith, sum) in
    let longer_is : longer ≡ bytes ++ concat fields =
    l ∙ ap (λ n. bytes ++ take n text) size ∙ ap (λ t. bytes ++ take (size_of fields) t) same
    ∙ ap (λ t. bytes ++ t) (sym (record-flat row whole).0) in
    let grown_is : grown ≡ ends ++ ends_from (length bytes) fields =
    g ∙ ap (λ n. ends ++ ends_from n fields) at in
    rw (grown_is, longer_is) (
      rw (length-append bytes (concat fields))
          (EndsAt-behind 0 ends (ends_from (length bytes) fields) (length bytes) (length bytes + length (concat fields)) h
          (EndsAt-fields (length bytes) fields)),
      cut-behind 0 ends (ends_from (length bytes) fields) bytes (concat fields) h
          ∙ ap (λ parts. cut 0 ends bytes ++ parts)
          (cut-fields (length bytes) fields (bytes ++ concat fields)
          (drop_at bytes (concat fields) (length bytes) refl)),
    )
