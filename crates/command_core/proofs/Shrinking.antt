-- Reading a record leaves less of a text.
use Rattle.std.proofs.Common.{◌≡◌, ℕ, ◌+◌, ◌*◌, ◌<◌, ◌≤◌, List, [], ◌∷◌, ◌++◌, subst, length, Bool, true, false, cond, Some, refl, sym, arith}
use Rattle.csv.specs.Machine.{Read, ends_at_end, field_after, fields_after, is_end, next_record, step}
use Rattle.csv.specs.Reading.{Reached}
use Rattle.csv.specs.declared.parser.Config.{Config}
use Rattle.csv.specs.declared.parser.State.{State}
use Rattle.csv.specs.declared.parser.State.TheVariants as st
use Rattle.command_core.specs.Records.{Record}

-- The work that is left: two for each byte, and one for a record that the end of the text would end.
abbrev pub work_left : State → List ℕ → ℕ
work_left s xs = 2 * length xs + cond (ends_at_end s) 1 0

pub at_most_one : (b : Bool) → cond b 1 0 ≤ 1
at_most_one true = omega arith
at_most_one false = omega arith

-- Reading one record.
pub next_record-shrinks : (cfg : Config) (s : State) (fields : List (List ℕ)) (field xs : List ℕ) (p : Read)
    → next_record cfg s fields field xs ≡ Some p → work_left p.1 p.2 < work_left s xs
unfolding next_record
next_record-shrinks cfg s fields field [] p e = by (ends_at_end s) refl
  where
    by : (b : Bool) → ends_at_end s ≡ b → work_left p.1 p.2 < work_left s []
    by true t =
        let same : Some (fields ++ field ∷ [], st.StartRecord, []) ≡ Some p = rw t at e in
        let it : (fields ++ field ∷ [], st.StartRecord, []) ≡ p = cc in
        subst (λ (q : Read). work_left q.1 q.2 < work_left s []) it (rw t (omega arith))
    by false t = absurd (cc (rw t at e))
next_record-shrinks cfg s fields field (c ∷ rest) p e =
    by (is_end (step cfg s c).1) refl
    (next_record-shrinks cfg (step cfg s c).0 (fields_after (step cfg s c).1 fields field)
    (field_after (step cfg s c).1 c field) rest p)
  where
    by : (b : Bool) → is_end (step cfg s c).1 ≡ b
        → (next_record cfg (step cfg s c).0 (fields_after (step cfg s c).1 fields field)
        (field_after (step cfg s c).1 c field) rest ≡ Some p → work_left p.1 p.2 < work_left (step cfg s c).0 rest)
        → work_left p.1 p.2 < work_left s (c ∷ rest)
    by true t more =
        let same : Some (fields_after (step cfg s c).1 fields field, (step cfg s c).0, rest) ≡ Some p = rw t at e in
        let it : (fields_after (step cfg s c).1 fields field, (step cfg s c).0, rest) ≡ p = cc in
        subst (λ (q : Read). work_left q.1 q.2 < work_left s (c ∷ rest)) it
        (omega (arith, at_most_one (ends_at_end (step cfg s c).0)))
    by false t more = omega (arith, more (rw t at e), at_most_one (ends_at_end (step cfg s c).0))

-- The same by `Reached`.
pub Reached-shrinks : (cfg : Config) (s s2 : State) (f : List (List ℕ)) (xs z : List ℕ)
    → Reached cfg s xs (f ∷ []) s2 z → work_left s2 z < work_left s xs
unfolding Reached
Reached-shrinks cfg s s2 f xs z (p, e, fields, (state, rest)) =
    rw (sym state, sym rest) (next_record-shrinks cfg s [] [] xs p e)

-- Each record takes some of the text, so there are at most `work_left` of them.
pub records-few : (config : Config) (records : List Record) (s t : State) (text left : List ℕ)
    → Reached config s text records t left → length records ≤ work_left s text
unfolding Reached
records-few config [] s t text left reached = omega arith
records-few config (r ∷ rs) s t text left (read, is, fields, more) =
    omega (arith, next_record-shrinks config s [] [] text read is, records-few config rs read.1 t read.2 left more)
