-- The records of bytes, byte by byte.
use Rattle.std.proofs.Common.{◌≡◌, ℕ, ◌||◌, ◌==◌, Bool, true, false, cond, List, [], ◌∷◌, ◌++◌, Some, refl, sym, ap, ◌∙◌, subst, inl, inr}
use Rattle.std.proofs.lemmas.Bool.{cases_Bool}
use Rattle.csv.specs.Machine.{field_after, fields_after, in_field, is_end, next_record, start_field, start_record, step}
use Rattle.csv.specs.Reading.{AreRecords, Reached, default_config}
use Rattle.csv.specs.declared.parser.Action.{Action}
use Rattle.csv.specs.declared.parser.Action.TheVariants as act
use Rattle.csv.specs.declared.parser.State.{State}
use Rattle.csv.specs.declared.parser.State.TheVariants as st
use Rattle.command_core.specs.Records.{Record}
use Rattle.live_core.specs.Scanning.{folded, state_of}
use Rattle.live_core.specs.Texts.{AreFrom}
use Rattle.live_core.specs.declared.steps.Spot.{Spot}
use Rattle.live_core.specs.declared.steps.Spot.TheVariants as spot

-- ---- as defined by `csv`

pub to-records : (s : State) (xs : List ℕ) (lines : List Record) → AreFrom s [] [] xs lines
    → AreRecords default_config s xs lines
unfolding Reached
to-records s xs [] none = (s, xs, (refl, refl), none)
to-records s xs (line ∷ lines) (read, is, first, more) =
    let (t, ys, reached, none) = to-records read.1 read.2 lines more in (t, ys, (read, is, first, reached), none)

pub from-records : (s : State) (xs : List ℕ) (lines : List Record) → AreRecords default_config s xs lines
    → AreFrom s [] [] xs lines
unfolding Reached
from-records s xs [] (t, ys, (state, text), none) =
    ap (λ z. next_record default_config z [] [] xs) state
    ∙ (ap (λ l. next_record default_config t [] [] l) text ∙ none)
from-records s xs (line ∷ lines) (t, ys, (read, is, first, reached), none) =
    (read, is, first, from-records read.1 read.2 lines (t, ys, reached, none))

-- ---- byte by byte

-- If the next record is the same, so are all records.
pub from-same : (s t : State) (f g : Record) (p o xs ys : List ℕ) (lines : List Record)
    → next_record default_config s f p xs ≡ next_record default_config t g o ys → AreFrom t g o ys lines
    → AreFrom s f p xs lines
from-same s t f g p o xs ys [] same none = same ∙ none
from-same s t f g p o xs ys (line ∷ lines) same (read, is, first, more) = (read, same ∙ is, first, more)

-- After a carriage return, each byte is read as between records.
step-folded : (c : ℕ) → step default_config st.AfterCr c ≡ step default_config st.StartRecord c
step-folded c = elim (cases_Bool (c == 10)) [
  | inl line ↦ elim (cases_Bool (c == 13)) [ inl return ↦ rw (line, return) refl | inr other ↦ rw (line, other) refl ]
  | inr other ↦ rw other refl
]

pub next-folded : (s : State) (f : Record) (p xs : List ℕ)
    → next_record default_config (folded s) f p xs ≡ next_record default_config s f p xs
unfolding next_record
next-folded st.StartRecord f p xs = refl
next-folded st.StartField f p xs = refl
next-folded st.InField f p xs = refl
next-folded st.InQuoted f p xs = refl
next-folded st.AfterQuote f p xs = refl
next-folded st.InEscape f p xs = refl
next-folded st.InComment f p xs = refl
next-folded st.AfterCr f p [] = refl
next-folded st.AfterCr f p (c ∷ rest) =
    ap (λ (q : State × Action). cond (is_end q.1) (Some (fields_after q.1 f p, q.0, rest))
    (next_record default_config q.0 (fields_after q.1 f p) (field_after q.1 c p) rest)) (sym (step-folded c))

-- A byte that doesn't end a record.
pub next-inside : (s : State) (f : Record) (p : List ℕ) (c : ℕ) (rest : List ℕ)
    → is_end (step default_config s c).1 ≡ false
    → next_record default_config s f p (c ∷ rest)
    ≡ next_record default_config (step default_config s c).0 (fields_after (step default_config s c).1 f p)
    (field_after (step default_config s c).1 c p) rest
unfolding next_record
next-inside s f p c rest e = rw e refl

end-fields : (a : Action) (f : Record) (p : List ℕ) → is_end a ≡ true → fields_after a f p ≡ f ++ p ∷ []
end-fields act.Skip f p e = absurd (cc e)
end-fields act.Copy f p e = absurd (cc e)
end-fields act.EndField f p e = absurd (cc e)
end-fields act.EndRecord f p e = refl

-- A byte that ends a record.
pub next-end : (s : State) (f : Record) (p : List ℕ) (c : ℕ) (rest : List ℕ)
    → is_end (step default_config s c).1 ≡ true
    → next_record default_config s f p (c ∷ rest) ≡ Some (f ++ p ∷ [], (step default_config s c).0, rest)
unfolding next_record
next-end s f p c rest e =
    rw e (ap (λ (l : Record). Some (l, (step default_config s c).0, rest))
    (end-fields (step default_config s c).1 f p e))

-- ---- a byte that ends a record

-- The byte is a line feed or a carriage return, and the state after it is between records.
abbrev Ends : ℕ → State × Action → Type 0
Ends c q = is_end q.1 ≡ true → (folded q.0 ≡ st.StartRecord) × (((c == 13) || (c == 10)) ≡ true)

if-both : (P : State × Action → Type 0) (b : Bool) (p q : State × Action) → P p → P q → P (cond b p q)
if-both P true p q x y = x
if-both P false p q x y = y

in_field-ends : (c : ℕ) → Ends c (in_field default_config c)
in_field-ends c = if-both (Ends c) (c == 44) _ _ (λ e. absurd (cc e)) (by ((c == 13) || (c == 10)) refl)
  where
    by : (b : Bool) → ((c == 13) || (c == 10)) ≡ b
        → Ends c (cond b (cond (c == 13) st.AfterCr st.StartRecord, act.EndRecord) (st.InField, act.Copy))
    by true t = λ e. (at (c == 13), t)
      where
        at : (b : Bool) → folded (cond b st.AfterCr st.StartRecord) ≡ st.StartRecord
        at true = refl
        at false = refl
    by false t = λ e. absurd (cc e)

start_field-ends : (c : ℕ) → Ends c (start_field default_config c)
start_field-ends c = if-both (Ends c) (c == 34) _ _ (λ e. absurd (cc e)) (in_field-ends c)

start_record-ends : (c : ℕ) → Ends c (start_record default_config c)
start_record-ends c = if-both (Ends c) ((c == 13) || (c == 10)) _ _ (λ e. absurd (cc e)) (start_field-ends c)

pub step-ends : (s : State) (c : ℕ) → Ends c (step default_config s c)
step-ends st.StartRecord c = start_record-ends c
step-ends st.StartField c = start_field-ends c
step-ends st.InField c = in_field-ends c
step-ends st.InQuoted c = if-both (Ends c) (c == 34) _ _ (λ e. absurd (cc e)) (λ e. absurd (cc e))
step-ends st.AfterQuote c = if-both (Ends c) (c == 34) _ _ (λ e. absurd (cc e)) (in_field-ends c)
step-ends st.InEscape c = λ e. absurd (cc e)
step-ends st.InComment c = if-both (Ends c) (c == 10) _ _ (λ e. absurd (cc e)) (λ e. absurd (cc e))
step-ends st.AfterCr c = if-both (Ends c) (c == 10) _ _ (λ e. absurd (cc e)) (start_record-ends c)

-- ---- positions

-- The state is one that a scan can have.
abbrev pub HasSpot : State → Type 0
HasSpot s = (at : Spot) × (s ≡ state_of at)

abbrev Leads : State × Action → Type 0
Leads q = HasSpot (folded q.0)

in_field-spot : (c : ℕ) → Leads (in_field default_config c)
in_field-spot c =
    if-both Leads (c == 44) _ _ (spot.FieldStart, refl)
    (if-both Leads ((c == 13) || (c == 10)) _ _ (by (c == 13)) (spot.InField, refl))
  where
    by : (b : Bool) → HasSpot (folded (cond b st.AfterCr st.StartRecord))
    by true = (spot.Between, refl)
    by false = (spot.Between, refl)

start_field-spot : (c : ℕ) → Leads (start_field default_config c)
start_field-spot c = if-both Leads (c == 34) _ _ (spot.InQuotes, refl) (in_field-spot c)

start_record-spot : (c : ℕ) → Leads (start_record default_config c)
start_record-spot c = if-both Leads ((c == 13) || (c == 10)) _ _ (spot.Between, refl) (start_field-spot c)

step-spot : (at : Spot) (c : ℕ) → Leads (step default_config (state_of at) c)
step-spot spot.Between c = start_record-spot c
step-spot spot.FieldStart c = start_field-spot c
step-spot spot.InField c = in_field-spot c
step-spot spot.InQuotes c = if-both Leads (c == 34) _ _ (spot.BehindQuote, refl) (spot.InQuotes, refl)
step-spot spot.BehindQuote c = if-both Leads (c == 34) _ _ (spot.InQuotes, refl) (in_field-spot c)

pub spot-step : (s : State) (c : ℕ) → HasSpot s → HasSpot (folded (step default_config s c).0)
spot-step s c (at, is) = subst (λ z. HasSpot (folded (step default_config z c).0)) (sym is) (step-spot at c)
