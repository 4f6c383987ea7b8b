-- The records that are whole in some bytes.
use Rattle.std.proofs.Common.{◌≡◌, ℕ, ◌+◌, ◌≤◌, Bool, true, false, List, [], ◌∷◌, ◌++◌, Some, length, refl, sym, ap, ◌∙◌, inl, inr, arith}
use Rattle.std.specs.Prelude.{sum_by}
use Rattle.std.proofs.lemmas.Bool.{cases_lt}
use Rattle.std.proofs.lemmas.List.{length-append, nil_from_length}
use Rattle.std.proofs.lemmas.List.Sums.{sum_by-append}
use Rattle.csv.specs.Machine.{ends_at_end, field_after, fields_after, is_end, next_record, step}
use Rattle.csv.specs.Reading.{default_config, strip_bom}
use Rattle.csv.specs.declared.parser.State.{State}
use Rattle.csv.specs.declared.parser.State.TheVariants as st
use Rattle.command_core.specs.Records.{AreScriptRecords, Record}
use Rattle.command_core.proofs.RecordsUniqueness.{one_records}
use Rattle.live_core.specs.Scanning.{state_of}
use Rattle.live_core.specs.Texts.{AreFrom, AreLines, IsMarkFront}
use Rattle.live_core.specs.Whole.{AreWhole, BeginWith}
use Rattle.live_core.specs.declared.steps.Spot.{Spot}
use Rattle.live_core.specs.declared.steps.Spot.TheVariants as spot
use Rattle.live_core.proofs.LineLemmas.{from-same, next-end, next-inside, to-records}

-- ---- bytes have records

pub some_from : (s : State) (f : Record) (p xs : List ℕ) → (lines : List Record) × AreFrom s f p xs lines
unfolding next_record
some_from s f p [] = by (ends_at_end s) refl
  where
    by : (b : Bool) → ends_at_end s ≡ b → (lines : List Record) × AreFrom s f p [] lines
    by true e = ((f ++ p ∷ []) ∷ [], ((f ++ p ∷ [], st.StartRecord, []), rw e refl, refl, refl))
    by false e = ([], rw e refl)
some_from s f p (c ∷ rest) =
    by (is_end (step default_config s c).1) refl (some_from (step default_config s c).0 [] [] rest)
    (some_from (step default_config s c).0 (fields_after (step default_config s c).1 f p)
    (field_after (step default_config s c).1 c p) rest)
  where
    by : (b : Bool) → is_end (step default_config s c).1 ≡ b
        → ((lines : List Record) × AreFrom (step default_config s c).0 [] [] rest lines)
        → ((lines : List Record) × AreFrom (step default_config s c).0 (fields_after (step default_config s c).1 f p)
        (field_after (step default_config s c).1 c p) rest lines)
        → (lines : List Record) × AreFrom s f p (c ∷ rest) lines
    by true e (lines, behind) on = (
      (f ++ p ∷ []) ∷ lines,
      ((f ++ p ∷ [], (step default_config s c).0, rest), next-end s f p c rest e, refl, behind),
    )
    by false e behind (lines, on) = (
      lines,
      from-same s (step default_config s c).0 f (fields_after (step default_config s c).1 f p) p
          (field_after (step default_config s c).1 c p) (c ∷ rest) rest lines (next-inside s f p c rest e) on,
    )

-- ---- the whole records are the first

pub begin-with : (bytes : List ℕ) (records : List Record) (s : State) (f : Record) (p : List ℕ)
    → ((more : List ℕ) (later : List Record) → AreFrom s f p more later
    → AreScriptRecords (bytes ++ more) (records ++ later)) → BeginWith bytes records
begin-with bytes records s f p goes_on = λ more all are.
    let (later, from) = some_from s f p more in
    (later, one_records (bytes ++ more) all (records ++ later) are (goes_on more later from))

-- ---- no other record is whole

-- The record that the end of the bytes ends.
abbrev ended : Spot → Record → List ℕ → List Record
ended spot.Between f p = []
ended spot.FieldStart f p = (f ++ p ∷ []) ∷ []
ended spot.InField f p = (f ++ p ∷ []) ∷ []
ended spot.InQuotes f p = (f ++ p ∷ []) ∷ []
ended spot.BehindQuote f p = (f ++ p ∷ []) ∷ []

ended-is : (s : Spot) (f : Record) (p : List ℕ) → AreFrom (state_of s) f p [] (ended s f p)
unfolding next_record
ended-is spot.Between f p = refl
ended-is spot.FieldStart f p = ((f ++ p ∷ [], st.StartRecord, []), refl, refl, refl)
ended-is spot.InField f p = ((f ++ p ∷ [], st.StartRecord, []), refl, refl, refl)
ended-is spot.InQuotes f p = ((f ++ p ∷ [], st.StartRecord, []), refl, refl, refl)
ended-is spot.BehindQuote f p = ((f ++ p ∷ [], st.StartRecord, []), refl, refl, refl)

-- The same record with one more letter.
abbrev longer : Record → List ℕ → List Record
longer f p = (f ++ (p ++ 120 ∷ []) ∷ []) ∷ []

longer-is : (s : Spot) (f : Record) (p : List ℕ) → AreFrom (state_of s) f p (120 ∷ []) (longer f p)
unfolding next_record
longer-is spot.Between f p = ((f ++ (p ++ 120 ∷ []) ∷ [], st.StartRecord, []), refl, refl, refl)
longer-is spot.FieldStart f p = ((f ++ (p ++ 120 ∷ []) ∷ [], st.StartRecord, []), refl, refl, refl)
longer-is spot.InField f p = ((f ++ (p ++ 120 ∷ []) ∷ [], st.StartRecord, []), refl, refl, refl)
longer-is spot.InQuotes f p = ((f ++ (p ++ 120 ∷ []) ∷ [], st.StartRecord, []), refl, refl, refl)
longer-is spot.BehindQuote f p = ((f ++ (p ++ 120 ∷ []) ∷ [], st.StartRecord, []), refl, refl, refl)

-- The number of bytes in records.
abbrev bytes_in : List Record → ℕ
bytes_in records = sum_by (λ (line : Record). sum_by (λ (field : List ℕ). length field) line) records

bytes-one : (records : List Record) (f : Record) (p : List ℕ)
    → bytes_in (records ++ (f ++ p ∷ []) ∷ []) ≡ bytes_in records + sum_by (λ (x : List ℕ). length x) f + length p
bytes-one records f p =
    let all = sum_by-append (λ (line : Record). sum_by (λ (field : List ℕ). length field) line) records
    ((f ++ p ∷ []) ∷ []) in
    let one = sum_by-append (λ (field : List ℕ). length field) f (p ∷ []) in
    omega (arith, all, one)

-- A record that another letter would change isn't known.
differs : (records others back more : List Record) (f : Record) (p : List ℕ)
    → records ++ (f ++ p ∷ []) ∷ [] ≡ others ++ back → records ++ longer f p ≡ others ++ more
    → length others ≤ length records
differs records others back more f p one other = elim (cases_lt (length records) (length others)) [
  | inr few ↦ few
  | inl many ↦
      let size = ap (λ (l : List Record). length l) one in
      let size' = ap (λ (l : List Record). length l) other in
      let len = length-append records ((f ++ p ∷ []) ∷ []) in
      let len' = length-append records (longer f p) in
      let count = length-append others back in
      let count' = length-append others more in
      let none : back ≡ [] = nil_from_length back (omega (arith, size, len, count, many)) in
      let none' : more ≡ [] = nil_from_length more (omega (arith, size', len', count', many)) in
      let same : records ++ (f ++ p ∷ []) ∷ [] ≡ records ++ longer f p =
      one ∙ (ap (λ l. others ++ l) (none ∙ sym none') ∙ sym other) in
      let less = bytes-one records f p in
      let more = bytes-one records f (p ++ 120 ∷ []) in
      absurd (omega (arith, ap bytes_in same, less, more, length-append p (120 ∷ [])))
]

-- Only the records before the current one are known.
pub longest : (bytes : List ℕ) (records : List Record) (s : Spot) (f : Record) (p : List ℕ)
    → AreScriptRecords (bytes ++ []) (records ++ ended s f p)
    → AreScriptRecords (bytes ++ 120 ∷ []) (records ++ longer f p)
    → (others : List Record) → BeginWith bytes others → length others ≤ length records
longest bytes records s f p here there others first = by s here
  where
    at : (line : Record) → line ≡ f ++ p ∷ [] → AreScriptRecords (bytes ++ []) (records ++ line ∷ [])
        → length others ≤ length records
    at line is are =
        let (back, one) = first [] (records ++ line ∷ []) are in
        let (more, other) = first (120 ∷ []) (records ++ longer f p) there in
        differs records others back more f p (ap (λ l. records ++ l ∷ []) (sym is) ∙ one) other

    by : (s : Spot) → AreScriptRecords (bytes ++ []) (records ++ ended s f p) → length others ≤ length records
    by spot.Between are =
        let (back, one) = first [] (records ++ []) are in
        omega (arith, ap (λ (l : List Record). length l) one, length-append others back, length-append records [])
    by spot.FieldStart are = at (f ++ p ∷ []) refl are
    by spot.InField are = at (f ++ p ∷ []) refl are
    by spot.InQuotes are = at (f ++ p ∷ []) refl are
    by spot.BehindQuote are = at (f ++ p ∷ []) refl are

pub whole-at : (bytes : List ℕ) (records : List Record) (s : Spot) (f : Record) (p : List ℕ)
    → ((more : List ℕ) (later : List Record) → AreFrom (state_of s) f p more later
    → AreScriptRecords (bytes ++ more) (records ++ later)) → AreWhole bytes records
whole-at bytes records s f p goes_on = record {
  first = begin-with bytes records (state_of s) f p goes_on;
  longest = longest bytes records s f p (goes_on [] (ended s f p) (ended-is s f p))
      (goes_on (120 ∷ []) (longer f p) (longer-is s f p));
}

-- One line of these bytes.
alone : (bytes : List ℕ) → next_record default_config st.StartRecord [] [] bytes ≡ Some (bytes ∷ [], st.StartRecord, [])
    → AreLines bytes ((bytes ∷ []) ∷ [])
unfolding next_record
alone bytes is = ((bytes ∷ [], st.StartRecord, []), is, refl, refl)

-- A proper prefix of the byte order mark has no whole record.
pub whole-mark : (bytes : List ℕ) → IsMarkFront bytes → AreWhole bytes []
unfolding strip_bom next_record
whole-mark bytes (inl is) = rw is (record {
  first = λ more all are. (all, refl);
  longest = longest [] [] spot.Between [] [] (to-records st.StartRecord [] [] (ended-is spot.Between [] []))
      (to-records st.StartRecord (120 ∷ []) (longer [] []) (longer-is spot.Between [] []));
})
whole-mark bytes (inr (inl is)) = rw is (record {
  first = λ more all are. (all, refl);
  longest = longest (0xEF ∷ []) [] spot.InField [] (0xEF ∷ [])
      (to-records st.StartRecord (0xEF ∷ []) (ended spot.InField [] (0xEF ∷ [])) (alone (0xEF ∷ []) refl))
      (to-records st.StartRecord (0xEF ∷ 120 ∷ []) (longer [] (0xEF ∷ [])) (alone (0xEF ∷ 120 ∷ []) refl));
})
whole-mark bytes (inr (inr is)) = rw is (record {
  first = λ more all are. (all, refl);
  longest = longest (0xEF ∷ 0xBB ∷ []) [] spot.InField [] (0xEF ∷ 0xBB ∷ [])
      (to-records st.StartRecord (0xEF ∷ 0xBB ∷ []) (ended spot.InField [] (0xEF ∷ 0xBB ∷ []))
      (alone (0xEF ∷ 0xBB ∷ []) refl))
      (to-records st.StartRecord (0xEF ∷ 0xBB ∷ 120 ∷ []) (longer [] (0xEF ∷ 0xBB ∷ []))
      (alone (0xEF ∷ 0xBB ∷ 120 ∷ []) refl));
})
