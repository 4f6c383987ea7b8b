-- A script has only one list of records.
use Rattle.std.proofs.Common.{◌≡◌, List, [], ◌∷◌, ℕ, None, Some, refl, sym, ap, ◌∙◌, subst}
use Rattle.std.proofs.lemmas.Option.{none-some, same_Some}
use Rattle.csv.specs.Machine.{Read, next_record}
use Rattle.csv.specs.Reading.{AreRecords, Reached, default_config, strip_bom}
use Rattle.csv.specs.declared.parser.Config.{Config}
use Rattle.csv.specs.declared.parser.State.{State}
use Rattle.csv.specs.declared.parser.State.TheVariants as st
use Rattle.command_core.specs.Records.{AreScriptRecords, Record}

-- If a record can be read, reading isn't finished.
read_stops : (config : Config) (s t : State) (text left : List ℕ) (read : Read) → s ≡ t → text ≡ left
    → next_record config s [] [] text ≡ Some read → next_record config t [] [] left ≡ None → ⊥
read_stops config s t text left read same same' some none =
    none-some read
    (sym none
    ∙ (sym (ap (λ z. next_record config z [] [] left) same)
    ∙ (sym (ap (λ l. next_record config s [] [] l) same') ∙ some)))

-- A text has only one list of records.
one_reading : (config : Config) (s : State) (text : List ℕ) (one other : List Record) → AreRecords config s text one
    → AreRecords config s text other → one ≡ other
unfolding Reached
one_reading config s text [] [] p q = refl
one_reading config s text [] (r ∷ rs) (s', left, reached, none) (t', left', (read, is, fields, rest), none') =
    absurd (read_stops config s s' text left read reached.0 reached.1 is none)
one_reading config s text (r ∷ rs) [] (s', left, (read, is, fields, rest), none) (t', left', reached, none') =
    absurd (read_stops config s t' text left' read reached.0 reached.1 is none')
one_reading config s text (r ∷ rs) (x ∷ xs) (s', left, (read, is, fields, rest), none)
    (t', left', (read', is', fields', rest'), none') =
    let same : read ≡ read' = same_Some read read' (sym is ∙ is') in
    let others : rs ≡ xs =
    one_reading config read'.1 read'.2 rs xs
    (subst (λ (z : Read). AreRecords config z.1 z.2 rs) same (s', left, rest, none)) (t', left', rest', none') in
    ap (λ l. l ∷ rs) (fields ∙ (ap (λ (z : Read). z.0) same ∙ sym fields')) ∙ ap (λ l. x ∷ l) others

pub one_records : (script : List ℕ) (one other : List Record) → AreScriptRecords script one
    → AreScriptRecords script other → one ≡ other
one_records script one other p q = one_reading default_config st.StartRecord (strip_bom script) one other p q
