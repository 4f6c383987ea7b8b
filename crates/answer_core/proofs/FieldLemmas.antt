-- The text of fields, and which fields need no quotes.
use Rattle.std.proofs.Common.{◌≡◌, ℕ, zero, suc, ◌+◌, ◌<◌, ◌≤◌, ◌/◌, ◌%◌, ◌^◌, ℤ, List, [], ◌∷◌, ◌++◌, Bool, true, false, cond, length, refl, sym, ap, ◌∙◌, arith, append_assoc, append-nil, map}
use Rattle.std.proofs.Math.Seq.{take-suc}
use Rattle.std.specs.Prelude.{take, get_or, All, ◌||◌, ◌==◌, decimal, Option, Some, None}
use Rattle.std.specs.Option.{option_map_or}
use Rattle.std.proofs.lemmas.Bool.{ne_eqb}
use Rattle.std.proofs.lemmas.Fmt.{decimal_by_steps}
use Rattle.std.proofs.lemmas.List.{map-append}
use Rattle.std.proofs.lemmas.List.Elements.{All-append, All-cons}
use Rattle.std.proofs.lemmas.List.Folds.{list_any_none}
use Rattle.csv.specs.Writing.{escaped, field_text, fields_text, needs_byte, needs_quotes, row_body}
use Rattle.csv.proofs.WriteFacts.{escaped-append, escaped-double, escaped-other}
use Rattle.period_core.specs.Point.{HourMinuteSecond, YearMonthDay, date_of_number, date_text, day_of, digits, point_text, second_of, text_behind, time_of_second, time_text}
use Rattle.answer_core.specs.RecordBytes.{answer_writer, field_behind}

-- The fields of two lists.
pub fields_text-append : (xs ys : List (List ℕ))
    → fields_text answer_writer (xs ++ ys) ≡ fields_text answer_writer xs ++ fields_text answer_writer ys
unfolding fields_text
fields_text-append [] ys = refl
fields_text-append (x ∷ xs) ys =
    ap (λ t. 44 ∷ (field_text answer_writer x ++ t)) (fields_text-append xs ys)
    ∙ ap (λ t. 44 ∷ t)
    (sym (append_assoc (field_text answer_writer x) (fields_text answer_writer xs) (fields_text answer_writer ys)))

neither : (a b : Bool) → a ≡ false → b ≡ false → (a || b) ≡ false
neither a b x y = ap (λ (c : Bool). c || b) x ∙ y

-- Bytes from `-` on need no quotes.
plain_byte : (b : ℕ) → 45 ≤ b → needs_byte answer_writer b ≡ false
plain_byte b from =
    let other : (n : ℕ) → n < 45 → (b == n) ≡ false = λ n few. ne_eqb b n (omega (arith, from, few)) in
    neither _ _ (neither _ _ (neither _ _ (neither _ _ (other 44 (omega arith)) (other 34 (omega arith)))
    (neither _ _ (other 13 (omega arith)) (other 10 (omega arith)))) refl) refl

plain : (bytes : List ℕ) → All (λ b. 45 ≤ b) bytes → needs_quotes answer_writer bytes ≡ false
plain bytes from = list_any_none (needs_byte answer_writer) bytes (λ k d within. plain_byte _ (from k d within))

-- Digits need no quotes.
pub decimal_plain : (n : ℕ) → n < 2 ^ 64 → needs_quotes answer_writer (decimal n) ≡ false
decimal_plain n few =
    plain (decimal n)
    (decimal_by_steps (λ m ds. All (λ b. 45 ≤ b) ds)
    (λ m low. All-cons (λ b. 45 ≤ b) (48 + m) [] (omega arith) (λ k d within. absurd (omega (arith, within))))
    (λ m ds from all. All-append (λ b. 45 ≤ b) ds ((48 + m % 10) ∷ []) all
    (All-cons (λ b. 45 ≤ b) (48 + m % 10) [] (omega arith) (λ k d within. absurd (omega (arith, within)))))
    n few)

one_plain : (b : ℕ) → 45 ≤ b → All (λ b. 45 ≤ b) (b ∷ [])
one_plain b from = All-cons (λ b. 45 ≤ b) b [] from (λ k d within. absurd (omega (arith, within)))

digits_plain : (k n : ℕ) → All (λ b. 45 ≤ b) (digits k n)
digits_plain zero n = λ k d within. absurd (omega (arith, within))
digits_plain (suc k) n =
    All-append (λ b. 45 ≤ b) (digits k (n / 10)) ((48 + n % 10) ∷ []) (digits_plain k (n / 10))
    (one_plain (48 + n % 10) (omega arith))

both_plain : (xs ys : List ℕ) → All (λ b. 45 ≤ b) xs → All (λ b. 45 ≤ b) ys → All (λ b. 45 ≤ b) (xs ++ ys)
both_plain xs ys x y = All-append (λ b. 45 ≤ b) xs ys x y

more_plain : (b : ℕ) (ys : List ℕ) → 45 ≤ b → All (λ b. 45 ≤ b) ys → All (λ b. 45 ≤ b) (b ∷ ys)
more_plain b ys x y = All-cons (λ b. 45 ≤ b) b ys x y

date_plain : (d : YearMonthDay) → All (λ b. 45 ≤ b) (date_text d)
date_plain d =
    both_plain (digits 4 d.year) (45 ∷ digits 2 d.month ++ 45 ∷ digits 2 d.day) (digits_plain 4 d.year)
    (more_plain 45 (digits 2 d.month ++ 45 ∷ digits 2 d.day) (omega arith)
    (both_plain (digits 2 d.month) (45 ∷ digits 2 d.day) (digits_plain 2 d.month)
    (more_plain 45 (digits 2 d.day) (omega arith) (digits_plain 2 d.day))))

none_plain : All (λ b. 45 ≤ b) []
none_plain = λ k d within. absurd (omega (arith, within))

behind_plain : (midnight : Bool) (t : HourMinuteSecond) → All (λ b. 45 ≤ b) (cond midnight [] (time_text t))
behind_plain true t = none_plain
behind_plain false t =
    more_plain 84 (digits 2 t.hour ++ 58 ∷ digits 2 t.minute ++ 58 ∷ digits 2 t.second) (omega arith)
    (both_plain (digits 2 t.hour) (58 ∷ digits 2 t.minute ++ 58 ∷ digits 2 t.second) (digits_plain 2 t.hour)
    (more_plain 58 (digits 2 t.minute ++ 58 ∷ digits 2 t.second) (omega arith)
    (both_plain (digits 2 t.minute) (58 ∷ digits 2 t.second) (digits_plain 2 t.minute)
    (more_plain 58 (digits 2 t.second) (omega arith) (digits_plain 2 t.second)))))

found_plain : (found : Option YearMonthDay) → All (λ b. 45 ≤ b) (option_map_or date_text found [])
found_plain None = none_plain
found_plain (Some d) = date_plain d

-- Points need no quotes.
pub point_plain : (n : ℤ) → needs_quotes answer_writer (point_text n) ≡ false
point_plain n =
    plain (point_text n)
    (both_plain (option_map_or date_text (date_of_number (day_of n)) []) (text_behind (second_of n))
    (found_plain (date_of_number (day_of n))) (behind_plain (second_of n == 0) (time_of_second (second_of n))))

-- One more field after others.
fields_more : (front : List (List ℕ)) (field : List ℕ)
    → fields_text answer_writer (front ++ field ∷ []) ≡ fields_text answer_writer front ++ field_behind field
unfolding fields_text
fields_more front field =
    fields_text-append front (field ∷ [])
    ∙ ap (λ t. fields_text answer_writer front ++ 44 ∷ t) (append-nil (field_text answer_writer field))

-- The texts of the items before index `i`, and of one more.
pub fields_so_far : {T : Type 0} (text_of : T → List ℕ) (xs : List T) (i : ℕ) (d : T) → i < length xs
    → fields_text answer_writer (map text_of (take (i + 1) xs))
    ≡ fields_text answer_writer (map text_of (take i xs)) ++ field_behind (text_of (get_or xs i d))
fields_so_far text_of xs i d within =
    let next : i + 1 ≡ suc i = omega arith in
    ap (λ n. fields_text answer_writer (map text_of (take n xs))) next
    ∙ (ap (λ l. fields_text answer_writer (map text_of l)) (take-suc xs i d within)
    ∙ (ap (fields_text answer_writer) (map-append text_of (take i xs) (get_or xs i d ∷ []))
    ∙ fields_more (map text_of (take i xs)) (text_of (get_or xs i d))))

-- The same in a record, after a word and a field.
pub body_so_far : {T : Type 0} (text_of : T → List ℕ) (word field : List ℕ) (xs : List T) (i : ℕ) (d : T)
    (old mid new : List ℕ) → i < length xs
    → mid ≡ old ++ row_body answer_writer (word ∷ field ∷ map text_of (take i xs))
    → new ≡ mid ++ field_behind (text_of (get_or xs i d))
    → new ≡ old ++ row_body answer_writer (word ∷ field ∷ map text_of (take (i + 1) xs))
unfolding fields_text
body_so_far text_of word field xs i d old mid new within first second =
    let fields = λ (n : ℕ). fields_text answer_writer (map text_of (take n xs)) in
    let last = field_behind (text_of (get_or xs i d)) in
    let one = field_text answer_writer word in
    let other = field_text answer_writer field in
    second
    ∙ (ap (λ t. t ++ last) first
    ∙ (append_assoc old (one ++ 44 ∷ (other ++ fields i)) last
    ∙ ap (λ t. old ++ t)
    (append_assoc one (44 ∷ (other ++ fields i)) last
    ∙ ap (λ t. one ++ 44 ∷ t)
    (append_assoc other (fields i) last
    ∙ ap (λ t. other ++ t) (sym (fields_so_far text_of xs i d within))))))

-- Between quotes, a quote is written twice and any other byte once.
pub quote_twice : (b : ℕ) → b ≡ 34 → 34 ∷ 34 ∷ [] ≡ escaped answer_writer (b ∷ [])
quote_twice b is = sym (ap (λ x. escaped answer_writer (x ∷ [])) is ∙ escaped-double answer_writer 34 refl refl)

pub other_once : (b : ℕ) → (b ≡ 34 → ⊥) → b ∷ [] ≡ escaped answer_writer (b ∷ [])
other_once b other = sym (escaped-other answer_writer b other)

-- One more byte between quotes.
pub escaped_so_far : (bytes : List ℕ) (i : ℕ) → i < length bytes
    → escaped answer_writer (take (i + 1) bytes)
    ≡ escaped answer_writer (take i bytes) ++ escaped answer_writer (get_or bytes i 0 ∷ [])
escaped_so_far bytes i within =
    let next : i + 1 ≡ suc i = omega arith in
    ap (λ n. escaped answer_writer (take n bytes)) next
    ∙ (ap (escaped answer_writer) (take-suc bytes i 0 within)
    ∙ escaped-append answer_writer (take i bytes) (get_or bytes i 0 ∷ []))
