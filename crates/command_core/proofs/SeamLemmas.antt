-- What `csv` reads from a text that is cut after a line end.
use Rattle.std.proofs.Common.{◌≡◌, ◌≢◌, ◌⊎◌, ℕ, suc, ◌+◌, ◌<◌, ◌==◌, ◌||◌, ◌&&◌, List, [], ◌∷◌, ◌++◌, Bool, true, false, cond, Option, Some, None, length, refl, sym, ap, subst, inl, inr, ◌∙◌, arith, append-nil, append_assoc, slice_get, ◌-◌, ◌^◌, ◌≤◌, zero, take, drop, get_or, map, length-append, Result, Ok, Err}
use Rattle.std.specs.Prelude.{◌↔◌, IfOk, IfSome, IsFalse, IsTrue, MatchBool, nat_eq, not}
use Rattle.std.specs.List.{starts_with}
use Rattle.std.proofs.lemmas.Bool.{cases_Bool, eq-eqb, eqb-true, ne_eqb}
use Rattle.std.proofs.lemmas.Option.{same_Some, slice_get_read}
use native.Mathlib.Decide.{dec_lt}
use Rattle.std.proofs.lemmas.List.{drop-drop, drop_all, get_or_default, get_or-map, get_or_read, length-map, take-append-drop}
use Rattle.csv.specs.Machine.{Read, ends_at_end, field_after, fields_after, in_field, is_end, next_record, start_field, start_record, step}
use Rattle.csv.specs.Reading.{AreRecords, Reached, default_config, is_bom, strip_bom}
use Rattle.csv.specs.declared.parser.Action.{Action}
use Rattle.csv.specs.declared.parser.Action.TheVariants as act
use Rattle.csv.specs.declared.parser.State.{State}
use Rattle.csv.specs.declared.parser.State.TheVariants as st
use Rattle.list_core.specs.Cut.{cut, EndsAt}
use Rattle.command_core.specs.Records.{AreScriptRecords, Record}
use Rattle.command_core.specs.Seams.{AreRead, AreSeams, EndsInField, IsSeam, joined, last}
use Rattle.command_core.proofs.ScriptSizes.{strip_bom-le}
use Rattle.command_core.proofs.Shrinking.{records-few}

-- states and actions

-- The state is inside a record.
abbrev is_inside : State → Bool
is_inside st.StartRecord = false
is_inside st.StartField = true
is_inside st.InField = true
is_inside st.InQuoted = true
is_inside st.AfterQuote = true
is_inside st.InEscape = true
is_inside st.InComment = false
is_inside st.AfterCr = false

inside-ends : (s : State) → is_inside s ≡ true → ends_at_end s ≡ true
inside-ends st.StartRecord e = e
inside-ends st.StartField e = refl
inside-ends st.InField e = refl
inside-ends st.InQuoted e = refl
inside-ends st.AfterQuote e = refl
inside-ends st.InEscape e = refl
inside-ends st.InComment e = refl
inside-ends st.AfterCr e = e

-- What holds of both cases of a condition.
if-both : (P : State × Action → Type 0) (b : Bool) (p q : State × Action) → P p → P q → P (cond b p q)
if-both P true p q x y = x
if-both P false p q x y = y

-- After a step that ends a record, the state is between records.
abbrev EndsBetween : State × Action → Type 0
EndsBetween q = is_end q.1 ≡ true → ends_at_end q.0 ≡ false

-- After any other step, the state is inside the record.
abbrev StaysInside : State × Action → Type 0
StaysInside q = is_end q.1 ≡ false → is_inside q.0 ≡ true

after-between : (b : Bool) → EndsBetween (cond b st.AfterCr st.StartRecord, act.EndRecord)
after-between true e = refl
after-between false e = refl

in_field-between : (c : ℕ) → EndsBetween (in_field default_config c)
in_field-between c =
    if-both EndsBetween (c == 44) _ _ (λ e. cc e)
    (if-both EndsBetween ((c == 13) || (c == 10)) _ _ (after-between (c == 13)) (λ e. cc e))

start_field-between : (c : ℕ) → EndsBetween (start_field default_config c)
start_field-between c = if-both EndsBetween (c == 34) _ _ (λ e. cc e) (in_field-between c)

start_record-between : (c : ℕ) → EndsBetween (start_record default_config c)
start_record-between c =
    if-both EndsBetween ((c == 13) || (c == 10)) _ _ (λ e. refl) (start_field-between c)

step-between : (s : State) (c : ℕ) → EndsBetween (step default_config s c)
step-between st.StartRecord c = start_record-between c
step-between st.StartField c = start_field-between c
step-between st.InField c = in_field-between c
step-between st.InQuoted c = if-both EndsBetween (c == 34) _ _ (λ e. cc e) (λ e. cc e)
step-between st.AfterQuote c = if-both EndsBetween (c == 34) _ _ (λ e. cc e) (in_field-between c)
step-between st.InEscape c = λ e. cc e
step-between st.InComment c = if-both EndsBetween (c == 10) _ _ (λ e. refl) (λ e. cc e)
step-between st.AfterCr c = if-both EndsBetween (c == 10) _ _ (λ e. refl) (start_record-between c)

in_field-inside : (c : ℕ) → StaysInside (in_field default_config c)
in_field-inside c =
    if-both StaysInside (c == 44) _ _ (λ e. refl)
    (if-both StaysInside ((c == 13) || (c == 10)) _ _ (λ e. cc e) (λ e. refl))

step-inside : (s : State) (c : ℕ) → is_inside s ≡ true → StaysInside (step default_config s c)
step-inside st.StartRecord c i = cc i
step-inside st.StartField c i = if-both StaysInside (c == 34) _ _ (λ e. refl) (in_field-inside c)
step-inside st.InField c i = in_field-inside c
step-inside st.InQuoted c i = if-both StaysInside (c == 34) _ _ (λ e. refl) (λ e. refl)
step-inside st.AfterQuote c i = if-both StaysInside (c == 34) _ _ (λ e. refl) (in_field-inside c)
step-inside st.InEscape c i = λ e. refl
step-inside st.InComment c i = cc i
step-inside st.AfterCr c i = cc i

-- Between records a byte is skipped, or begins a record.
abbrev FromStart : State × Action → Type 0
FromStart q = (q ≡ (st.StartRecord, act.Skip)) ⊎ ((is_end q.1 ≡ false) × (is_inside q.0 ≡ true))

start_record-from : (c : ℕ) → FromStart (start_record default_config c)
start_record-from c = elim (cases_Bool ((c == 13) || (c == 10))) [
  | inl ends ↦ rw ends (inl refl)
  | inr goes ↦
      rw goes (if-both FromStart (c == 34) _ _ (inr (refl, refl))
      (if-both FromStart (c == 44) _ _ (inr (refl, refl)) (inr (refl, refl))))
]

step-from : (s : State) (c : ℕ) → ends_at_end s ≡ false → FromStart (step default_config s c)
step-from st.StartRecord c e = start_record-from c
step-from st.StartField c e = cc e
step-from st.InField c e = cc e
step-from st.InQuoted c e = cc e
step-from st.AfterQuote c e = cc e
step-from st.InEscape c e = cc e
step-from st.InComment c e = cc e
step-from st.AfterCr c e = if-both FromStart (c == 10) _ _ (inl refl) (start_record-from c)

-- one record

-- If a record was begun, one is read.
inside-reads : (s : State) (fields : Record) (field xs : List ℕ) → is_inside s ≡ true
    → next_record default_config s fields field xs ≡ None → ⊥
unfolding next_record
inside-reads s fields field [] i e = cc (rw (inside-ends s i) at e)
inside-reads s fields field (c ∷ rest) i e =
    by (is_end (step default_config s c).1) refl
    (inside-reads (step default_config s c).0 (fields_after (step default_config s c).1 fields field)
    (field_after (step default_config s c).1 c field) rest)
  where
    by : (b : Bool) → is_end (step default_config s c).1 ≡ b
        → (is_inside (step default_config s c).0 ≡ true
        → next_record default_config (step default_config s c).0 (fields_after (step default_config s c).1 fields field)
        (field_after (step default_config s c).1 c field) rest ≡ None → ⊥) → ⊥
    by true t more = cc (rw t at e)
    by false t more = more (step-inside s c i t) (rw t at e)

-- If no record is read, all bytes were skipped.
none-skips : (s : State) (c : ℕ) (rest back : List ℕ) → ends_at_end s ≡ false
    → next_record default_config s [] [] (c ∷ rest) ≡ None
    → next_record default_config s [] [] (c ∷ rest ++ back) ≡ next_record default_config st.StartRecord [] [] back
unfolding next_record
none-skips s c [] back between e = elim (step-from s c between) [
  | inl skips ↦ rw skips refl
  | inr begins ↦
      absurd (inside-reads (step default_config s c).0 (fields_after (step default_config s c).1 [] [])
      (field_after (step default_config s c).1 c []) [] begins.1 (rw begins.0 at e))
]
none-skips s c (d ∷ more) back between e = elim (step-from s c between) [
  | inl skips ↦ rw skips (none-skips st.StartRecord d more back refl (rw skips at e))
  | inr begins ↦
      absurd (inside-reads (step default_config s c).0 (fields_after (step default_config s c).1 [] [])
      (field_after (step default_config s c).1 c []) (d ∷ more) begins.1 (rw begins.0 at e))
]

-- After a record, nothing is left and the state is at a record's start, or the rest ends with a line feed.
abbrev IsLeft : State → List ℕ → Type 0
IsLeft s xs = ((xs ≡ []) × (s ≡ st.StartRecord)) ⊎ (last xs ≡ Some 10)

-- A record read from a text is also read if more text follows.
abbrev ReadsOn : State → Record → List ℕ → List ℕ → List ℕ → Read → Type 0
ReadsOn s fields field xs back read =
    (next_record default_config s fields field (xs ++ back) ≡ Some (read.0, read.1, read.2 ++ back))
    × (ends_at_end read.1 ≡ false) × IsLeft read.1 read.2

-- Only the text's end ended the record, whose last field ends with the line feed.
abbrev EndsCut : Read → Type 0
EndsCut read =
    (fields : Record) × (field : List ℕ) × (read ≡ (fields ++ (field ++ 10 ∷ []) ∷ [], st.StartRecord, []))

read-line : (s : State) (fields : Record) (field back : List ℕ) (read : Read)
    → next_record default_config s fields field (10 ∷ []) ≡ Some read
    → ReadsOn s fields field (10 ∷ []) back read ⊎ EndsCut read
unfolding next_record
read-line st.StartRecord fields field back read e = absurd (cc e)
read-line st.StartField fields field back read e =
    let it : (fields ++ field ∷ [], st.StartRecord, []) ≡ read = cc in
    subst (λ (q : Read). ReadsOn st.StartField fields field (10 ∷ []) back q ⊎ EndsCut q) it
    (inl (refl, refl, inl (refl, refl)))
read-line st.InField fields field back read e =
    let it : (fields ++ field ∷ [], st.StartRecord, []) ≡ read = cc in
    subst (λ (q : Read). ReadsOn st.InField fields field (10 ∷ []) back q ⊎ EndsCut q) it
    (inl (refl, refl, inl (refl, refl)))
read-line st.InQuoted fields field back read e =
    let it : (fields ++ (field ++ 10 ∷ []) ∷ [], st.StartRecord, []) ≡ read = cc in
    inr (fields, field, sym it)
read-line st.AfterQuote fields field back read e =
    let it : (fields ++ field ∷ [], st.StartRecord, []) ≡ read = cc in
    subst (λ (q : Read). ReadsOn st.AfterQuote fields field (10 ∷ []) back q ⊎ EndsCut q) it
    (inl (refl, refl, inl (refl, refl)))
read-line st.InEscape fields field back read e =
    let it : (fields ++ (field ++ 10 ∷ []) ∷ [], st.StartRecord, []) ≡ read = cc in
    inr (fields, field, sym it)
read-line st.InComment fields field back read e = absurd (cc e)
read-line st.AfterCr fields field back read e = absurd (cc e)

read-cut : (s : State) (fields : Record) (field : List ℕ) (c : ℕ) (rest back : List ℕ) (read : Read)
    → last (c ∷ rest) ≡ Some 10 → next_record default_config s fields field (c ∷ rest) ≡ Some read
    → ReadsOn s fields field (c ∷ rest) back read ⊎ EndsCut read
unfolding next_record
read-cut s fields field c [] back read ends e =
    let line : c ≡ 10 = cc in
    subst (λ b. next_record default_config s fields field (b ∷ []) ≡ Some read
    → ReadsOn s fields field (b ∷ []) back read ⊎ EndsCut read) (sym line) (read-line s fields field back read) e
read-cut s fields field c (d ∷ more) back read ends e =
    by (is_end (step default_config s c).1) refl
    (read-cut (step default_config s c).0 (fields_after (step default_config s c).1 fields field)
    (field_after (step default_config s c).1 c field) d more back read ends)
  where
    by : (b : Bool) → is_end (step default_config s c).1 ≡ b
        → (next_record default_config (step default_config s c).0
        (fields_after (step default_config s c).1 fields field) (field_after (step default_config s c).1 c field)
        (d ∷ more) ≡ Some read
        → ReadsOn (step default_config s c).0 (fields_after (step default_config s c).1 fields field)
        (field_after (step default_config s c).1 c field) (d ∷ more) back read ⊎ EndsCut read)
        → ReadsOn s fields field (c ∷ d ∷ more) back read ⊎ EndsCut read
    by true t later =
        let same : Some (fields_after (step default_config s c).1 fields field, (step default_config s c).0, d ∷ more)
        ≡ Some read = rw t at e in
        let it : (fields_after (step default_config s c).1 fields field, (step default_config s c).0, d ∷ more) ≡ read =
        cc in
        subst (λ (q : Read). ReadsOn s fields field (c ∷ d ∷ more) back q ⊎ EndsCut q) it
        (inl (rw t refl, step-between s c t, inr ends))
    by false t later = elim (later (rw t at e)) [
      | inl on ↦ inl (rw t on.0, on.1, on.2)
      | inr ended ↦ inr ended
    ]

-- records

-- If the next record is the same, so are all records.
AreRecords-same : (s t : State) (xs ys : List ℕ) (records : List Record)
    → next_record default_config s [] [] xs ≡ next_record default_config t [] [] ys
    → AreRecords default_config t ys records → AreRecords default_config s xs records
unfolding Reached
AreRecords-same s t xs ys [] same (t2, zs, (state, rest), none) = (s, xs, (refl, refl), rw (same, state, rest) none)
AreRecords-same s t xs ys (r ∷ rs) same (t2, zs, (read, is, fields, more), none) =
    (t2, zs, (read, same ∙ is, fields, more), none)

-- An empty text has no records.
none-left : (records : List Record) → AreRecords default_config st.StartRecord [] records → records ≡ []
unfolding Reached next_record
none-left [] all = refl
none-left (r ∷ rs) (t, zs, (read, is, fields, more), none) = absurd (cc is)

last-append : {X : Type 0} (xs : List X) (y : X) (ys : List X) → last (xs ++ y ∷ ys) ≡ last (y ∷ ys)
last-append [] y ys = refl
last-append (x ∷ []) y ys = refl
last-append (x ∷ z ∷ xs) y ys = last-append (z ∷ xs) y ys

-- The last field of more records.
EndsInField-rest : (first : Record) (records : List Record) → EndsInField (first ∷ records) → EndsInField records
EndsInField-rest first records h = by (joined records) h
  where
    by : (fields : Record) → IfSome (last (first ++ fields)) (λ field. last field ≢ Some 10)
        → IfSome (last fields) (λ field. last field ≢ Some 10)
    by [] h = tt
    by (field ∷ fields) h = subst (λ o. IfSome o (λ f. last f ≢ Some 10)) (last-append first field fields) h

-- A last field that ends with a line feed.
EndsInField-cut : (fields : Record) (field : List ℕ) → EndsInField ((fields ++ (field ++ 10 ∷ []) ∷ []) ∷ []) → ⊥
EndsInField-cut fields field h =
    let whole : last (joined ((fields ++ (field ++ 10 ∷ []) ∷ []) ∷ [])) ≡ Some (field ++ 10 ∷ []) =
    ap last (append-nil (fields ++ (field ++ 10 ∷ []) ∷ [])) ∙ last-append fields (field ++ 10 ∷ []) [] in
    subst (λ o. IfSome o (λ f. last f ≢ Some 10)) whole h (last-append field 10 [])

-- The records of a text, then the records of the text after it.
records-behind : (records : List Record) (s : State) (xs back : List ℕ) (others : List Record) → ends_at_end s ≡ false
    → IsLeft s xs → AreRecords default_config s xs records → EndsInField records
    → AreRecords default_config st.StartRecord back others
    → AreRecords default_config s (xs ++ back) (records ++ others)
unfolding Reached
records-behind records s [] back others between (inr ends) all field more = absurd (cc ends)
records-behind records s [] back others between (inl (none, start)) all field more =
    let nothing : records ≡ [] = none-left records (rw start at all) in rw (nothing, start) more
records-behind records s (c ∷ rest) back others between (inl (none, start)) all field more = absurd (cc none)
records-behind [] s (c ∷ rest) back others between (inr ends) (t, zs, (state, left), none) field more =
    AreRecords-same s st.StartRecord (c ∷ rest ++ back) back others
    (none-skips s c rest back between (rw (state, left) none)) more
records-behind (r ∷ rs) s (c ∷ rest) back others between (inr ends) (t, zs, (read, is, fields, later), none) field
    more = elim (read-cut s [] [] c rest back read ends is) [
      | inl on ↦
          let behind = records-behind rs read.1 read.2 back others on.1 on.2 (t, zs, later, none)
          (EndsInField-rest r rs field) more in
          (behind.0, behind.1, ((read.0, read.1, read.2 ++ back), on.0, fields, behind.2), behind.3)
      | inr ended ↦
          let nothing : rs ≡ [] =
          none-left rs (subst (λ (q : Read). AreRecords default_config q.1 q.2 rs) ended.2 (t, zs, later, none)) in
          let row : r ≡ ended.0 ++ (ended.1 ++ 10 ∷ []) ∷ [] = fields ∙ ap (λ (q : Read). q.0) ended.2 in
          absurd (EndsInField-cut ended.0 ended.1 (rw (nothing, row) at field))
    ]

-- The last item is at index `length - 1`.
pub last-at : {X : Type 0} (items : List X) → last items ≡ slice_get items (length items - 1)
last-at [] = refl
last-at (x ∷ []) = refl
last-at (x ∷ y ∷ items) =
    let next : suc (suc (length items)) - 1 ≡ suc (suc (length items) - 1) = omega arith in
    last-at (y ∷ items) ∙ sym (ap (slice_get (x ∷ y ∷ items)) next)

-- pieces

-- One more piece, and the rest after it.
pub joined-more : {P : Type 0} (text : P → List ℕ) (pieces : List P) (p : P) (back : List ℕ)
    → joined (map text (pieces ++ p ∷ [])) ++ back ≡ joined (map text pieces) ++ (text p ++ back)
joined-more text [] p back = ap (λ l. l ++ back) (append-nil (text p))
joined-more text (q ∷ pieces) p back =
    append_assoc (text q) (joined (map text (pieces ++ p ∷ []))) back
    ∙ ap (λ l. text q ++ l) (joined-more text pieces p back)
    ∙ sym (append_assoc (text q) (joined (map text pieces)) (text p ++ back))

-- A text has no byte order mark if its first byte isn't the mark's.
unmarked : (first : ℕ) (text : List ℕ) → (first == 0xEF) ≡ false → strip_bom (first ∷ text) ≡ first ∷ text
unfolding strip_bom
unmarked a [] other = refl
unmarked a (b ∷ []) other = refl
unmarked a (b ∷ c ∷ rest) other = rw other refl

same_either : (a b : ℕ) → (a == b) ≡ (b == a)
same_either a b = elim (cases_Bool (a == b)) [
  | inl same ↦ rw (eqb-true a b same) refl
  | inr other ↦ rw (other, ne_eqb b a (λ e. cc (sym (eq-eqb a b (sym e)) ∙ other))) refl
]

and_false : (x : Bool) → (x && false) ≡ false
and_false true = refl
and_false false = refl

all_three : (x y z : Bool) → (x && (y && (z && true))) ≡ (x && y && z)
all_three true true true = refl
all_three true true false = refl
all_three true false z = refl
all_three false y z = refl

starts_bom : (a b c : ℕ) → starts_with nat_eq (a ∷ b ∷ c ∷ []) (0xEF ∷ 0xBB ∷ 0xBF ∷ []) ≡ is_bom a b c
starts_bom a b c =
    rw (same_either 0xEF a, same_either 0xBB b, same_either 0xBF c) (all_three (a == 0xEF) (b == 0xBB) (c == 0xBF))

-- Skipping a byte order mark leaves a text unchanged if and only if it has none.
pub marked_or_not : (text : List ℕ)
    → IsFalse (starts_with nat_eq text (0xEF ∷ 0xBB ∷ 0xBF ∷ [])) ↔ (strip_bom text ≡ text)
unfolding strip_bom
marked_or_not [] = (λ none. refl, λ same. refl)
marked_or_not (a ∷ []) = (λ none. refl, λ same. and_false (0xEF == a))
marked_or_not (a ∷ b ∷ []) = (
  λ none. refl,
  λ same. rw (and_false (0xBB == b)) (and_false (0xEF == a)),
)
marked_or_not (a ∷ b ∷ c ∷ rest) = elim (cases_Bool (is_bom a b c)) [
  | inl marked ↦
      let size : rest ≡ a ∷ b ∷ c ∷ rest → ⊥ = λ same. omega (arith, ap (λ (l : List ℕ). length l) same) in
      rw (starts_bom a b c, marked) (λ none. cc none, λ same. absurd (size same))
  | inr plain ↦ rw (starts_bom a b c, plain) (λ none. refl, λ same. refl)
]

-- Appending to a text that ends with a line feed doesn't change whether it has a byte order mark.
strip_bom-append : (text back : List ℕ) → last text ≡ Some 10 → strip_bom (text ++ back) ≡ strip_bom text ++ back
unfolding strip_bom
strip_bom-append [] back ends = absurd (cc ends)
strip_bom-append (a ∷ []) back ends =
    let line : a ≡ 10 = cc in
    subst (λ z. strip_bom (z ∷ back) ≡ z ∷ back) (sym line) (unmarked 10 back refl)
strip_bom-append (a ∷ b ∷ []) [] ends = refl
strip_bom-append (a ∷ b ∷ []) (c ∷ back) ends =
    let line : b ≡ 10 = cc in elim (cases_Bool (a == 0xEF)) [
      | inl first ↦ rw (line, first) refl
      | inr other ↦ rw other refl
    ]
strip_bom-append (a ∷ b ∷ c ∷ rest) back ends = elim (cases_Bool (is_bom a b c)) [
  | inl marked ↦ rw marked refl
  | inr plain ↦ rw plain refl
]

no_bom : (first second : Bool) → (first && second && false) ≡ true → ⊥
no_bom true true e = cc e
no_bom true false e = cc e
no_bom false second e = cc e

-- A text that ends with a line feed does so without its byte order mark.
strip_bom-ends : (text : List ℕ) → last text ≡ Some 10 → last (strip_bom text) ≡ Some 10
unfolding strip_bom
strip_bom-ends [] ends = ends
strip_bom-ends (a ∷ []) ends = ends
strip_bom-ends (a ∷ b ∷ []) ends = ends
strip_bom-ends (a ∷ b ∷ c ∷ rest) ends = elim (cases_Bool (is_bom a b c)) [
  | inl marked ↦ rw marked (by rest ends marked)
  | inr plain ↦ rw plain ends
]
  where
    by : (rest : List ℕ) → last (a ∷ b ∷ c ∷ rest) ≡ Some 10 → is_bom a b c ≡ true → last rest ≡ Some 10
    by [] ends marked = let line : c ≡ 10 = cc in absurd (no_bom (a == 0xEF) (b == 0xBB) (rw line at marked))
    by (d ∷ more) ends marked = ends

-- The records of pieces, where each except the first has no byte order mark.
pieces-records : (texts : List (List ℕ)) (text : List ℕ) (lists : List (List Record)) (list : List Record)
    → AreRead (text ∷ texts) (list ∷ lists) → AreSeams (text ∷ texts) (list ∷ lists)
    → AreRecords default_config st.StartRecord (strip_bom text ++ joined texts) (list ++ joined lists)
pieces-records [] text [] list (same, read) seams =
    rw (append-nil (strip_bom text), append-nil list) (read 0 (omega arith))
pieces-records [] text (l ∷ lists) list (same, read) seams = absurd (omega (arith, same))
pieces-records (t ∷ texts) text [] list (same, read) seams = absurd (omega (arith, same))
pieces-records (t ∷ texts) text (l ∷ lists) list (same, read) seams =
    let seam = seams 0 (omega arith) in
    let later = pieces-records texts t lists l (omega (arith, same), (λ i within. read (suc i) (omega (arith, within))))
    (λ i within. seams (suc i) (omega (arith, within))) in
    records-behind list st.StartRecord (strip_bom text) (t ++ joined texts) (l ++ joined lists) refl
    (inr (strip_bom-ends text seam.ends)) (read 0 (omega arith)) seam.field (rw seam.unmarked at later)

-- The records of all pieces are the records of the whole text.
pub joined-records : (script : List ℕ) (texts : List (List ℕ)) (lists : List (List Record)) → joined texts ≡ script
    → AreRead texts lists → AreSeams texts lists → AreScriptRecords script (joined lists)
unfolding Reached next_record strip_bom
joined-records script [] [] whole read seams =
    rw (sym whole) (st.StartRecord, [], (refl, refl), refl)
joined-records script [] (l ∷ lists) whole (same, read) seams = absurd (omega (arith, same))
joined-records script (t ∷ texts) [] whole (same, read) seams = absurd (omega (arith, same))
joined-records script (t ∷ []) (l ∷ lists) whole read seams =
    rw (sym whole, append-nil t) (rw (append-nil (strip_bom t)) at (pieces-records [] t lists l read seams))
joined-records script (t ∷ u ∷ texts) (l ∷ lists) whole read seams =
    let seam = seams 0 (omega arith) in
    rw (sym whole, strip_bom-append t (joined (u ∷ texts)) seam.ends)
    (pieces-records (u ∷ texts) t lists l read seams)

-- The records of two consecutive texts with a seam between them.
pub records-both : (text back : List ℕ) (records others : List Record) → IsSeam text records back
    → AreScriptRecords text records → AreScriptRecords back others
    → AreScriptRecords (text ++ back) (records ++ others)
records-both text back records others seam are more =
    rw (strip_bom-append text back seam.ends)
    (records-behind records st.StartRecord (strip_bom text) back others refl
    (inr (strip_bom-ends text seam.ends)) are seam.field (rw seam.unmarked at more))

-- An empty text has no records.
pub records-none : (records : List Record) → AreScriptRecords [] records → records ≡ []
unfolding strip_bom
records-none records are = none-left records are

-- Fields that are cut into records and joined again.
joined-cut : {X : Type 0} (from : ℕ) (ends : List ℕ) (xs : List X) → EndsAt from ends (length xs)
    → joined (cut from ends xs) ≡ drop from xs
joined-cut from [] xs h = sym (drop_all from xs (omega (arith, h)))
joined-cut from (end ∷ ends) xs (h, more) =
    let at : from + (end - from) ≡ end = omega (arith, h) in
    ap (λ l. take (end - from) (drop from xs) ++ l)
    (joined-cut end ends xs more ∙ sym (drop-drop (end - from) from xs ∙ ap (λ n. drop n xs) at))
    ∙ take-append-drop (end - from) (drop from xs)

-- The last field of records that are stored flat.
pub last-flat : (ends : List ℕ) (fields : Record) (records : List Record) (found : Option (List ℕ))
    → EndsAt 0 ends (length fields) → cut 0 ends fields ≡ records → found ≡ last fields
    → found ≡ last (joined records)
last-flat ends fields records found at are is =
    let all : joined records ≡ fields = ap joined (sym are) ∙ joined-cut 0 ends fields at in
    is ∙ ap last (sym all)

-- whether the last byte is a line feed

pub line_or_not : (text : List ℕ) (byte : ℕ) → last text ≡ Some byte
    → MatchBool (byte == 10) (last text ≡ Some 10) (last text ≢ Some 10)
line_or_not text byte is = elim (cases_Bool (byte == 10)) [
  | inl same ↦ rw same (is ∙ ap Some (eqb-true byte 10 same))
  | inr other ↦ rw other (λ e. let same : byte ≡ 10 = same_Some byte 10 (sym is ∙ e) in cc (rw same at other))
]

pub none_last : (text : List ℕ) → last text ≡ None → last text ≢ Some 10
none_last text none e = absurd (cc (sym none ∙ e))

pub not_line : (text : List ℕ) (ends : Bool) → MatchBool ends (last text ≡ Some 10) (last text ≢ Some 10)
    → IsTrue (not ends) ↔ (last text ≢ Some 10)
not_line text true is = (λ e. cc e, λ other. absurd (other is))
not_line text false is = (λ e. is, λ other. refl)

-- what threads read

-- A piece isn't longer than the whole text.
pub piece-le : {P : Type 0} (text : P → List ℕ) (pieces : List P) (i : ℕ) (other : P) → i < length pieces
    → length (text (get_or pieces i other)) ≤ length (joined (map text pieces))
piece-le text [] i other within = absurd (omega (arith, within))
piece-le text (p ∷ pieces) zero other within = omega (arith, length-append (text p) (joined (map text pieces)))
piece-le text (p ∷ pieces) (suc i) other within =
    omega (
      arith,
      piece-le text pieces i other (omega (arith, within)),
      length-append (text p) (joined (map text pieces)),
    )

-- If each list has the records of the piece with its index, all are read.
pub all_read : {V E : Type 0} (texts : List (List ℕ)) (items : V → List (List Record)) (result : Result V E)
    → IfOk result (λ found. length (items found) ≡ length texts)
    → IfOk result (λ found. (i : ℕ) (records : List Record) → slice_get (items found) i ≡ Some records
    → AreScriptRecords (get_or texts i []) records)
    → IfOk result (λ found. AreRead texts (items found))
all_read texts items (Err e) len each = tt
all_read texts items (Ok found) len each = (
  sym len,
  λ i within.
      let lists = items found in
      let list = get_or lists i [] in
      let inside : i < length lists = omega (arith, within, len) in
      each i list (slice_get_read lists (length lists) i list refl inside (get_or_default lists i [] list inside)),
)

-- The seam between two neighbouring pieces.
pub seam-at : {P : Type 0} (text : P → List ℕ) (pieces : List P) (lists : List (List Record)) (place : ℕ) (p : P)
    (records : List Record) → place < length pieces → length pieces ≡ length lists
    → records ≡ get_or lists (place - 1) records
    → IsSeam (text (get_or pieces (place - 1) p)) records (text (get_or pieces place p))
    ↔ IsSeam (get_or (map text pieces) (place - 1) []) (get_or lists (place - 1) []) (get_or (map text pieces) place [])
seam-at text pieces lists place p records inside same at =
    let first : text (get_or pieces (place - 1) p) ≡ get_or (map text pieces) (place - 1) [] =
    sym (get_or-map text pieces (place - 1) p [] (omega (arith, inside))) in
    let second : text (get_or pieces place p) ≡ get_or (map text pieces) place [] =
    sym (get_or-map text pieces place p [] inside) in
    let held : records ≡ get_or lists (place - 1) [] =
    get_or_read lists (place - 1) records (omega (arith, inside, same)) at [] in
    rw (first, second, held) (λ seam. seam, λ seam. seam)

-- One more seam.
pub seams-more : {P : Type 0} (text : P → List ℕ) (pieces : List P) (lists : List (List Record)) (place : ℕ) (p : P)
    (records : List Record) → 0 < place → place < length pieces → length pieces ≡ length lists
    → records ≡ get_or lists (place - 1) records
    → ((i : ℕ) → suc i < place
    → IsSeam (get_or (map text pieces) i []) (get_or lists i []) (get_or (map text pieces) (suc i) []))
    → IsSeam (text (get_or pieces (place - 1) p)) records (text (get_or pieces place p))
    → (i : ℕ) → suc i < place + 1
    → IsSeam (get_or (map text pieces) i []) (get_or lists i []) (get_or (map text pieces) (suc i) [])
seams-more text pieces lists place p records some inside same at before seam i within = elim (dec_lt (suc i) place) [
  | yes earlier ↦ before i earlier
  | no last ↦
      let here : place ≡ suc i = omega (arith, within) in
      let front : place - 1 ≡ i = omega (arith, here) in
      rw (front, here) at ((seam-at text pieces lists place p records inside same at).0 seam)
]

-- If one seam is missing, not all are there.
pub no_seams : {P : Type 0} (text : P → List ℕ) (pieces : List P) (lists : List (List Record)) (place : ℕ) (p : P)
    (records : List Record) → 0 < place → place < length pieces → length pieces ≡ length lists
    → records ≡ get_or lists (place - 1) records
    → ¬ IsSeam (text (get_or pieces (place - 1) p)) records (text (get_or pieces place p))
    → ¬ AreSeams (map text pieces) lists
no_seams text pieces lists place p records some inside same at none seams =
    let here : suc (place - 1) ≡ place = omega (arith, some) in
    let count = length-map pieces text in
    none ((seam-at text pieces lists place p records inside same at).1
    (rw here at (seams (place - 1) (omega (arith, here, inside, count)))))

-- 64 bits hold the number of a script's records.
pub countable : (script : List ℕ) (records : List Record) → length script < 2 ^ 31 → AreScriptRecords script records
    → length records < 2 ^ 64
countable script records few (t, left, reached, none) =
    omega (
      arith,
      few,
      strip_bom-le script,
      records-few default_config records st.StartRecord t (strip_bom script) left reached,
    )

-- A script that is read whole.
pub whole_records : (script : List ℕ) (lists : List (List Record)) (records : List Record) → lists ≡ records ∷ []
    → AreScriptRecords script records → AreScriptRecords script (joined lists)
whole_records script lists records one read =
    subst (AreScriptRecords script) (sym (ap joined one ∙ append-nil records)) read
