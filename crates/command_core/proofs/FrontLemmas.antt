-- A script that is read prefix by prefix.
use Rattle.std.proofs.Common.{◌≡◌, ◌≢◌, ℕ, suc, ◌+◌, ◌<◌, ◌≤◌, ◌∙◌, List, [], ◌∷◌, ◌++◌, Option, None, Some, ap, append-nil, append_assoc, arith, drop, get_or, inl, inr, length, refl, subst, sym, take, take-append-drop}
use Rattle.std.specs.Prelude.{IfSome}
use Rattle.std.specs.Option.{option_or}
use Rattle.std.proofs.Math.Seq.{take-suc}
use Rattle.std.proofs.lemmas.Bool.{cases_Bool, cases_lt}
use Rattle.std.proofs.lemmas.List.{take_all}
use Rattle.csv.specs.Machine.{next_record}
use Rattle.csv.specs.Reading.{Reached, is_bom, strip_bom}
use Rattle.csv.specs.declared.parser.State.TheVariants as st
use Rattle.command_core.specs.Records.{AreScriptRecords, Record}
use Rattle.command_core.specs.Seams.{AreOfFront, EndsInField, IsCut, IsSeam, joined, last}
use Rattle.command_core.proofs.BatchLemmas.{joined-push, last-both, last-joined}
use Rattle.command_core.proofs.SeamLemmas.{records-both, records-none}

-- ---- byte order marks

-- If a text has no byte order mark, nor has a prefix of it.
unmarked-front : (text back : List ℕ) → strip_bom (text ++ back) ≡ text ++ back → strip_bom text ≡ text
unfolding strip_bom
unmarked-front [] back same = refl
unmarked-front (a ∷ []) back same = refl
unmarked-front (a ∷ b ∷ []) back same = refl
unmarked-front (a ∷ b ∷ c ∷ rest) back same = elim (cases_Bool (is_bom a b c)) [
  | inl marked ↦
      let short : rest ++ back ≡ a ∷ b ∷ c ∷ rest ++ back = rw marked at same in
      absurd (omega (arith, ap (λ (l : List ℕ). length l) short))
  | inr plain ↦ rw plain refl
]

-- If a text of at least three bytes has no byte order mark, nor has a longer one.
pub unmarked-more : (text more : List ℕ) → 3 ≤ length text → strip_bom text ≡ text
    → strip_bom (text ++ more) ≡ text ++ more
unfolding strip_bom
unmarked-more [] more long same = absurd (omega (arith, long))
unmarked-more (a ∷ []) more long same = absurd (omega (arith, long))
unmarked-more (a ∷ b ∷ []) more long same = absurd (omega (arith, long))
unmarked-more (a ∷ b ∷ c ∷ rest) more long same = elim (cases_Bool (is_bom a b c)) [
  | inl marked ↦
      let short : rest ≡ a ∷ b ∷ c ∷ rest = rw marked at same in
      absurd (omega (arith, ap (λ (l : List ℕ). length l) short))
  | inr plain ↦ rw plain refl
]

-- ---- last fields

-- The last field of two lists of records.
EndsInField-both : (records others : List Record) → EndsInField records → EndsInField others
    → EndsInField (records ++ others)
EndsInField-both records others first second =
    subst (λ (o : Option (List ℕ)). IfSome o (λ field. last field ≢ Some 10)) (sym (last-joined records others))
    (by (last (joined others)) second)
  where
    by : (o : Option (List ℕ)) → IfSome o (λ field. last field ≢ Some 10)
        → IfSome (option_or o (last (joined records))) (λ field. last field ≢ Some 10)
    by None second = first
    by (Some field) second = second

-- The last field of the lists up to index `i` and one more.
pub EndsInField-more : (lists : List (List Record)) (i : ℕ) (records : List Record) → i < length lists
    → records ≡ get_or lists i records → EndsInField (joined (take i lists)) → EndsInField records
    → EndsInField (joined (take (i + 1) lists))
EndsInField-more lists i records within is first second =
    let next : i + 1 ≡ suc i = omega arith in
    let all : joined (take (i + 1) lists) ≡ joined (take i lists) ++ records =
    ap (λ n. joined (take n lists)) next
    ∙ ap (λ (l : List (List Record)). joined l)
    (take-suc lists i records within ∙ ap (λ (r : List Record). take i lists ++ r ∷ []) (sym is))
    ∙ joined-push (take i lists) records in
    subst EndsInField (sym all) (EndsInField-both (joined (take i lists)) records first second)

-- if the later records don't end so, all of them don't
EndsInField-not : (records others : List Record) → (EndsInField others → ⊥) → EndsInField (records ++ others) → ⊥
EndsInField-not records others not_so both =
    by (last (joined others)) not_so
    (subst (λ (o : Option (List ℕ)). IfSome o (λ field. last field ≢ Some 10)) (last-joined records others) both)
  where
    by : (o : Option (List ℕ)) → (IfSome o (λ field. last field ≢ Some 10) → ⊥)
        → IfSome (option_or o (last (joined records))) (λ field. last field ≢ Some 10) → ⊥
    by None none whole = none tt
    by (Some field) none whole = none whole

-- if all lists except the last end so, and one list doesn't, the joined lists don't
pub lists-not : (lists : List (List Record)) (i : ℕ) → i < length lists → (EndsInField (get_or lists i []) → ⊥)
    → ((j : ℕ) → suc j < length lists → EndsInField (get_or lists j [])) → EndsInField (joined lists) → ⊥
lists-not lists i inside not_so others whole = elim (cases_lt (suc i) (length lists)) [
  | inl before ↦ not_so (others i before)
  | inr last_one ↦
      let all : joined lists ≡ joined (take i lists) ++ get_or lists i [] =
      ap (λ (l : List (List Record)). joined l)
      (sym (take_all (suc i) lists last_one) ∙ take-suc lists i [] inside)
      ∙ joined-push (take i lists) (get_or lists i []) in
      EndsInField-not (joined (take i lists)) (get_or lists i []) not_so (subst EndsInField all whole)
]

-- Prefixes

-- Nothing was read yet.
pub front-none : (next : List ℕ) → AreOfFront [] [] next
unfolding Reached next_record strip_bom
front-none next = record { are = (st.StartRecord, [], (refl, refl), refl); seam = inl refl }

-- More bytes come next.
pub front-longer : (front next more : List ℕ) (records : List Record) → AreOfFront front records next
    → AreOfFront front records (next ++ more)
front-longer front next more records of = record {
  are = of.are;
  seam = elim of.seam [
    | inl none ↦ inl none
    | inr seam ↦ inr (λ rest. subst (IsSeam front records) (sym (append_assoc next more rest)) (seam (more ++ rest)))
  ];
}

-- The records of a prefix, and of the bytes after it.
front-both : (front text back : List ℕ) (records others : List Record) → AreOfFront front records (text ++ back)
    → AreScriptRecords text others → AreScriptRecords (front ++ text) (records ++ others)
front-both front text back records others of more = elim of.seam [
  | inl none ↦
      let nothing : records ≡ [] = records-none records (rw none at of.are) in rw (none, nothing) more
  | inr seam ↦
      let whole = seam [] in
      let plain : strip_bom text ≡ text =
      unmarked-front text back (subst (λ l. strip_bom l ≡ l) (append-nil (text ++ back)) whole.unmarked) in
      records-both front text records others
      record { ends = whole.ends; field = whole.field; unmarked = plain } of.are more
]

-- The records of the whole script.
pub front-rest : (front text : List ℕ) (records others : List Record) → AreOfFront front records text
    → AreScriptRecords text others → AreScriptRecords (front ++ text) (records ++ others)
front-rest front text records others of more =
    front-both front text [] records others (subst (AreOfFront front records) (sym (append-nil text)) of) more

-- A longer prefix.
pub front-more : (front text : List ℕ) (place : ℕ) (records others : List Record) → AreOfFront front records text
    → IsCut text place → AreScriptRecords (take place text) others → EndsInField others
    → AreOfFront (front ++ take place text) (records ++ others) (drop place text)
front-more front text place records others of cut more field =
    let piece = take place text in
    let all = front-both front piece (drop place text) records others
    (subst (AreOfFront front records) (sym (take-append-drop place text)) of) more in
    let ends : last (front ++ piece) ≡ Some 10 = last-both front piece ∙ by (last piece) cut.ends in record {
      are = all;
      seam = inr (λ rest. record { ends = ends; field = both; unmarked = cut.unmarked rest });
    }
  where
    by : (o : Option ℕ) → o ≡ Some 10 → option_or o (last front) ≡ Some 10
    by None e = absurd (cc e)
    by (Some byte) e = e

    both : EndsInField (records ++ others)
    both = elim of.seam [
      | inl none ↦
          let nothing : records ≡ [] = records-none records (rw none at of.are) in rw nothing field
      | inr seam ↦ EndsInField-both records others (seam []).field field
    ]
