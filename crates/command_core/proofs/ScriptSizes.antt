-- The fields of a script have no more bytes than the script. There are at most two fields for each of its bytes.
use Rattle.std.proofs.Common.{◌≡◌, ℕ, suc, ◌+◌, ◌-◌, ◌^◌, ◌<◌, ◌≤◌, List, [], ◌∷◌, ◌++◌, Bool, true, false, cond, Option, Some, length, take, drop, subst, refl, sym, ap, ◌∙◌, arith, length-append}
use Rattle.std.specs.Prelude.{sum_by}
use Rattle.std.proofs.lemmas.List.{drop-drop, drop_all}
use Rattle.std.proofs.lemmas.List.Sums.{sum_by-cons, sum_by-take-drop, sum_by_push}
use Rattle.csv.specs.Machine.{Read, ends_at_end, field_after, fields_after, is_end, next_record, step}
use Rattle.csv.specs.Reading.{ReadRecord, Reached, default_config, is_bom, source_of, strip_bom}
use Rattle.csv.specs.declared.parser.Action.{Action}
use Rattle.csv.specs.declared.parser.Action.TheVariants as act
use Rattle.csv.specs.declared.parser.Config.{Config}
use Rattle.csv.specs.declared.parser.State.{State}
use Rattle.csv.specs.declared.parser.State.TheVariants as st
use Rattle.csv.specs.declared.reader.Reader.{Reader}
use Rattle.csv.proofs.ReadFacts.{rows-more}
use Rattle.list_core.specs.Cut.{cut, EndsAt}
use Rattle.list_core.proofs.CutLemmas.{EndsAt-from}
use Rattle.command_core.specs.Flat.{size_of}
use Rattle.command_core.specs.Records.{Record}
use Rattle.command_core.proofs.Cutting.{length-part}
use Rattle.command_core.proofs.Shrinking.{at_most_one, work_left}

-- the parts that a list is cut into

-- Sums over the parts add up to the sum over the list.
pub sum_by-cut : {X : Type 0} (f : X → ℕ) (from : ℕ) (ends : List ℕ) (xs : List X) → EndsAt from ends (length xs)
    → sum_by (sum_by f) (cut from ends xs) ≡ sum_by f (drop from xs)
sum_by-cut f from [] xs h = ap (sum_by f) (sym (drop_all from xs (omega (arith, h))))
sum_by-cut f from (end ∷ ends) xs (h, more) =
    let rest : sum_by f (drop (end - from) (drop from xs)) ≡ sum_by f (drop end xs) =
    ap (sum_by f)
    (drop-drop (end - from) from xs
    ∙ (let n : from + (end - from) ≡ end = omega (arith, h) in ap (λ k. drop k xs) n)) in
    omega (
      arith,
      sum_by-cons (sum_by f) (take (end - from) (drop from xs)) (cut end ends xs),
      sum_by-cut f end ends xs more,
      sum_by-take-drop f (drop from xs) (end - from),
      rest,
    )

-- The parts are as long as the list.
pub lengths-cut : {X : Type 0} (from : ℕ) (ends : List ℕ) (xs : List X) → EndsAt from ends (length xs)
    → sum_by length (cut from ends xs) + from ≡ length xs
lengths-cut from [] xs h = omega (arith, h)
lengths-cut from (end ∷ ends) xs (h, more) =
    omega (
      arith,
      h,
      sum_by-cons length (take (end - from) (drop from xs)) (cut end ends xs),
      length-part from end xs (EndsAt-from end ends (length xs) more),
      lengths-cut end ends xs more,
    )

-- a record as it is read

-- What a record takes of a text covers the bytes of its fields, and one unit of work for each field.
abbrev Takes : State → List (List ℕ) → List ℕ → List ℕ → Read → Type 0
Takes s fields field xs read =
    (size_of read.0 + length read.2 ≤ size_of fields + length field + length xs)
    × (length read.0 + work_left read.1 read.2 ≤ length fields + work_left s xs)

size-after : (a : Action) (c : ℕ) (fields : List (List ℕ)) (field : List ℕ)
    → size_of (fields_after a fields field) + length (field_after a c field) ≤ size_of fields + length field + 1
size-after act.Skip c fields field = omega arith
size-after act.Copy c fields field = omega (arith, length-append field (c ∷ []))
size-after act.EndField c fields field = omega (arith, sum_by_push length fields field)
size-after act.EndRecord c fields field = omega (arith, sum_by_push length fields field)

count-after : (a : Action) (fields : List (List ℕ)) (field : List ℕ)
    → length (fields_after a fields field) ≤ length fields + 1
count-after act.Skip fields field = omega arith
count-after act.Copy fields field = omega arith
count-after act.EndField fields field = omega (arith, length-append fields (field ∷ []))
count-after act.EndRecord fields field = omega (arith, length-append fields (field ∷ []))

next_record-takes : (cfg : Config) (s : State) (fields : List (List ℕ)) (field xs : List ℕ) (p : Read)
    → next_record cfg s fields field xs ≡ Some p → Takes s fields field xs p
unfolding next_record
next_record-takes cfg s fields field [] p e = by (ends_at_end s) refl
  where
    by : (b : Bool) → ends_at_end s ≡ b → Takes s fields field [] p
    by true t =
        let same : Some (fields ++ field ∷ [], st.StartRecord, []) ≡ Some p = rw t at e in
        let it : (fields ++ field ∷ [], st.StartRecord, []) ≡ p = cc in
        subst (λ (q : Read). Takes s fields field [] q) it
        (omega (arith, sum_by_push length fields field), rw t (omega (arith, length-append fields (field ∷ []))))
    by false t = absurd (cc (rw t at e))
next_record-takes cfg s fields field (c ∷ rest) p e =
    by (is_end a) refl (next_record-takes cfg (step cfg s c).0 (fields_after a fields field) (field_after a c field) rest p)
  where
    a : Action
    a = (step cfg s c).1

    by : (b : Bool) → is_end (step cfg s c).1 ≡ b
        → (next_record cfg (step cfg s c).0 (fields_after (step cfg s c).1 fields field)
        (field_after (step cfg s c).1 c field) rest ≡ Some p
        → Takes (step cfg s c).0 (fields_after (step cfg s c).1 fields field) (field_after (step cfg s c).1 c field) rest p)
        → Takes s fields field (c ∷ rest) p
    by true t more =
        let same : Some (fields_after (step cfg s c).1 fields field, (step cfg s c).0, rest) ≡ Some p = rw t at e in
        let it : (fields_after (step cfg s c).1 fields field, (step cfg s c).0, rest) ≡ p = cc in
        subst (λ (q : Read). Takes s fields field (c ∷ rest) q) it (
          omega (arith, size-after (step cfg s c).1 c fields field),
          omega (arith, count-after (step cfg s c).1 fields field, at_most_one (ends_at_end (step cfg s c).0)),
        )
    by false t more =
        let later = more (rw t at e) in (
          omega (arith, later.0, size-after (step cfg s c).1 c fields field),
          omega (arith, later.1, count-after (step cfg s c).1 fields field, at_most_one (ends_at_end (step cfg s c).0)),
        )

-- records that are read

Reached-takes : (cfg : Config) (s t : State) (text left : List ℕ) (records : List Record)
    → Reached cfg s text records t left
    → (sum_by size_of records + length left ≤ length text)
    × (sum_by length records + work_left t left ≤ work_left s text)
unfolding Reached
Reached-takes cfg s t text left [] (state, same) = rw (state, same) (omega arith, omega arith)
Reached-takes cfg s t text left (r ∷ rs) (read, is, fields, more) =
    let one = next_record-takes cfg s [] [] text read is in
    let rest = Reached-takes cfg read.1 t read.2 left rs more in (
      omega (arith, sum_by-cons size_of r rs, ap size_of fields, one.0, rest.0),
      omega (arith, sum_by-cons length r rs, ap length fields, one.1, rest.1),
    )

pub strip_bom-le : (text : List ℕ) → length (strip_bom text) ≤ length text
unfolding strip_bom
strip_bom-le [] = omega arith
strip_bom-le (a ∷ []) = omega arith
strip_bom-le (a ∷ b ∷ []) = omega arith
strip_bom-le (a ∷ b ∷ c ∷ rest) =
    elim (is_bom a b c) as (λ t. length (cond t rest (a ∷ b ∷ c ∷ rest)) ≤ suc (suc (suc (length rest)))) [
      | true ↦ omega arith
      | false ↦ omega arith
    ]

-- The records read and one more: 32 bits hold the bytes of their fields and the number of fields.
read-few : (script left : List ℕ) (records : List Record) (row : Record) (t : State) → length script < 2 ^ 31
    → Reached default_config st.StartRecord (strip_bom script) (records ++ row ∷ []) t left
    → (sum_by size_of records + size_of row < 2 ^ 32) × (sum_by length records + length row < 2 ^ 32)
read-few script left records row t few reached =
    let short = strip_bom-le script in
    let taken = Reached-takes default_config st.StartRecord t (strip_bom script) left (records ++ row ∷ []) reached in (
      omega (arith, few, short, taken.0, sum_by_push size_of records row),
      omega (arith, few, short, taken.1, sum_by_push length records row),
    )

-- The same when a reader has read the records and reads one more.
pub next-few : {R : Type 0} (rem : R → Option (List ℕ)) (a b : Reader R) (script left : List ℕ)
    (records : List Record) (row : Record) → length script < 2 ^ 31 → a.config ≡ default_config
    → source_of rem a ≡ Some left
    → Reached default_config st.StartRecord (strip_bom script) records a.state left
    → ReadRecord rem a b true row
    → (sum_by size_of records + size_of row < 2 ^ 32) × (sum_by length records + length row < 2 ^ 32)
next-few rem a b script left records row few config source reached read =
    let more = rows-more rem a b row default_config st.StartRecord (strip_bom script) left records config source
    reached read in
    read-few script more.0 records row b.state few more.2
