-- The numbers that `parse` accepts, compared with printed numbers.
use Rattle.std.proofs.Common.{◌≡◌, ◌≢◌, ℕ, zero, suc, ◌<◌, ◌^◌, List, [], ◌∷◌, Bool, true, false, ◌&&◌, ◌||◌, cond, ◌==◌, ℤ, pos, negsuc, neg_ℤ, length, get_or, drop, refl, sym, ◌∙◌, ap, subst, arith, Some, None, inl, inr}
use Rattle.std.specs.Prelude.{Result, Ok, Err, nat_eq, FitsSigned, MatchResult, is_ok}
use Rattle.std.specs.Int.{w64}
use Rattle.std.specs.Result.{result_ok}
use Rattle.std.specs.Str.Parse.{AllDigits, IsNumeral, digits_value, signed_digits_value, without_leading_sign, without_leading_plus, ParsesSigned}
use Rattle.std.specs.Fmt.{decimal}
use Rattle.std.specs.Cmp.Lexicographic.{pointwise, bytes_decides}
use Rattle.std.proofs.lemmas.Bool.{and_parts, ne_eqb}
use Rattle.std.proofs.lemmas.Bool.Decides.{nat_tests, eqb_tells}
use Rattle.std.proofs.lemmas.Str.Parse.{IsNumeralModel, numerals_by_value, tells_digits, digit_from_value}
use Rattle.std.proofs.lemmas.Str.{IsUtf8-from_ascii}
use Rattle.std.specs.Str.{IsUtf8}
use Rattle.std.specs.Char.{digit_value}
use Rattle.std.proofs.Math.Bool.{or-true}
use Rattle.std.proofs.lemmas.Fmt.{decimal-digits_value, decimal_digit, IsAscii-signed, parse-signed_decimal, first_decimal, decimal_is_IsNumeral, decimal_nonempty}
use lib.Signed.{mag}
use Rattle.row_core.specs.Number.{is_number, number_text, number_of, is_leading, is_plain}

-- std's definitions of digits and their value
own : IsNumeralModel (AllDigits 10) (digits_value 10)
own = numerals_by_value (AllDigits 10) tells_digits

is_number-mag : (z : ℤ) → is_number z ≡ true → mag z < 2 ^ 63
is_number-mag (pos n) h = grind (arith, nat_tests)
is_number-mag (negsuc n) h = grind (arith, nat_tests)

is_number-from_mag : (z : ℤ) → mag z < 2 ^ 63 → is_number z ≡ true
is_number-from_mag (pos n) h = grind (arith, nat_tests)
is_number-from_mag (negsuc n) h = grind (arith, nat_tests)

none_from : (z : ℤ) (test : Bool) → (test ≡ true → ⊥) → cond test (Some z) None ≡ None
none_from z true h = absurd (h refl)
none_from z false h = refl

-- a text that isn't the printed form of a number has no number
pub number_of-none : (text : List ℕ) → ((z : ℤ) → is_number z ≡ true → text ≢ number_text z) → number_of text ≡ None
number_of-none text h =
    let z = signed_digits_value 10 text in
    none_from z (is_number z && pointwise nat_eq (number_text z) text) (λ e.
    let both = and_parts (is_number z) (pointwise nat_eq (number_text z) text) e in
    h z both.0 (sym ((bytes_decides (number_text z) text).0 both.1)))

-- a number's printed form has this number
number_of-some : (text : List ℕ) → is_number (signed_digits_value 10 text) ≡ true
    → number_text (signed_digits_value 10 text) ≡ text → number_of text ≡ Some (signed_digits_value 10 text)
number_of-some text fits same =
    let z = signed_digits_value 10 text in
    ap (λ b. cond (b && pointwise nat_eq (number_text z) text) (Some z) None) fits
    ∙ ap (λ b. cond b (Some z) None) ((bytes_decides (number_text z) text).1 same)

-- without a sign, the digits are the whole text
unsigned : (first : ℕ) (rest : List ℕ) → first ≢ 45 → first ≢ 43 → without_leading_sign (first ∷ rest) ≡ first ∷ rest
unsigned first rest minus plus =
    ap (λ b. cond b rest (without_leading_plus (first ∷ rest))) (ne_eqb first 45 minus)
    ∙ ap (λ b. drop (cond b 1 0) (first ∷ rest)) (ne_eqb first 43 plus)

unsigned_value : (first : ℕ) (rest : List ℕ) → first ≢ 45 → first ≢ 43
    → signed_digits_value 10 (first ∷ rest) ≡ pos (digits_value 10 (first ∷ rest))
unsigned_value first rest minus plus =
    ap (λ b. cond b (neg_ℤ (pos (digits_value 10 (without_leading_sign (first ∷ rest)))))
    (pos (digits_value 10 (without_leading_sign (first ∷ rest))))) (ne_eqb first 45 minus)
    ∙ ap (λ bs. pos (digits_value 10 bs)) (unsigned first rest minus plus)

-- such digits are printed unchanged
unsigned_text : (first : ℕ) (rest : List ℕ) → first ≢ 45 → first ≢ 43 → (first ≡ 48 → length (first ∷ rest) ≡ 1)
    → IsNumeral 10 (without_leading_sign (first ∷ rest)) → is_number (signed_digits_value 10 (first ∷ rest)) ≡ true
    → number_text (signed_digits_value 10 (first ∷ rest)) ≡ first ∷ rest
unsigned_text first rest minus plus sole numeral fits =
    let value = unsigned_value first rest minus plus in
    let digits = subst (IsNumeral 10) (unsigned first rest minus plus) numeral in
    let small : digits_value 10 (first ∷ rest) < 2 ^ 63 =
    is_number-mag (pos (digits_value 10 (first ∷ rest))) (ap is_number (sym value) ∙ fits) in
    ap number_text value ∙ decimal-digits_value own (first ∷ rest) digits.1 digits.0 sole (omega arith)

negative : (n : ℕ) (text : List ℕ) (first : ℕ) (rest : List ℕ) → text ≡ first ∷ rest → first ≢ 48 → decimal n ≡ text
    → number_text (neg_ℤ (pos n)) ≡ 45 ∷ text
negative zero text first rest e lead same =
    let same_head : 48 ∷ [] ≡ first ∷ rest = sym (decimal_digit 0 (omega arith)) ∙ same ∙ e in
    absurd (lead (ap (λ ds. get_or ds 0 0) (sym same_head)))
negative (suc n) text first rest e lead same = ap (λ ds. 45 ∷ ds) same

small_negative : (n : ℕ) → is_number (neg_ℤ (pos n)) ≡ true → n < 2 ^ 64
small_negative zero fits = omega arith
small_negative (suc n) fits = let h : n < 2 ^ 63 = is_number-mag (negsuc n) fits in omega arith

-- so are a minus and digits without a leading zero
signed_text : (first : ℕ) (rest : List ℕ) → is_leading first ≡ true → IsNumeral 10 (first ∷ rest)
    → is_number (signed_digits_value 10 (45 ∷ first ∷ rest)) ≡ true
    → number_text (signed_digits_value 10 (45 ∷ first ∷ rest)) ≡ 45 ∷ first ∷ rest
signed_text first rest lead digits fits =
    let n = digits_value 10 (first ∷ rest) in
    let other : first ≢ 48 = λ e. let t : is_leading 48 ≡ true = ap is_leading (sym e) ∙ lead in absurd (cc) in
    let small : n < 2 ^ 64 = small_negative n fits in
    negative n (first ∷ rest) first rest refl other
    (decimal-digits_value own (first ∷ rest) digits.1 digits.0 (λ e. absurd (other e)) small)

with_minus : (first second : ℕ) (rest : List ℕ) → first ≡ 45 → is_plain (first ∷ second ∷ rest) ≡ true
    → IsNumeral 10 (without_leading_sign (first ∷ second ∷ rest))
    → is_number (signed_digits_value 10 (first ∷ second ∷ rest)) ≡ true
    → number_text (signed_digits_value 10 (first ∷ second ∷ rest)) ≡ first ∷ second ∷ rest
with_minus first second rest e =
    let P : ℕ → Type 0 = λ x. is_plain (x ∷ second ∷ rest) ≡ true
    → IsNumeral 10 (without_leading_sign (x ∷ second ∷ rest))
    → is_number (signed_digits_value 10 (x ∷ second ∷ rest)) ≡ true
    → number_text (signed_digits_value 10 (x ∷ second ∷ rest)) ≡ x ∷ second ∷ rest in
    let it : P 45 = λ plain numeral fits. signed_text second rest plain numeral fits in
    subst P (sym e) it

-- a plain text is the printed form of its value
plain_text : (text : List ℕ) → is_plain text ≡ true → IsNumeral 10 (without_leading_sign text)
    → is_number (signed_digits_value 10 text) ≡ true → number_text (signed_digits_value 10 text) ≡ text
plain_text [] plain numeral fits = absurd (cc)
plain_text (first ∷ []) plain numeral fits =
    let minus : first ≢ 45 = λ e. let t : is_plain (45 ∷ []) ≡ true =
    ap (λ x. is_plain (x ∷ [])) (sym e) ∙ plain in absurd (cc) in
    let plus : first ≢ 43 = λ e. let t : is_plain (43 ∷ []) ≡ true =
    ap (λ x. is_plain (x ∷ [])) (sym e) ∙ plain in absurd (cc) in
    unsigned_text first [] minus plus (λ e. refl) numeral fits
plain_text (first ∷ second ∷ rest) plain numeral fits =
    elim (eqb_tells first 45) as
    (λ _. number_text (signed_digits_value 10 (first ∷ second ∷ rest)) ≡ first ∷ second ∷ rest) [
      | inl h ↦ with_minus first second rest h.1 plain numeral fits
      | inr h ↦
          let lead : is_leading first ≡ true =
          ap (λ b. cond b (is_leading second) (is_leading first)) (sym h.0) ∙ plain in
          let plus : first ≢ 43 = λ e. let t : is_leading 43 ≡ true = ap is_leading (sym e) ∙ lead in absurd (cc) in
          let other : first ≢ 48 = λ e. let t : is_leading 48 ≡ true = ap is_leading (sym e) ∙ lead in absurd (cc) in
          unsigned_text first (second ∷ rest) h.1 plus (λ e. absurd (other e)) numeral fits
    ]

leading : (c : ℕ) → 48 < c → digit_value c < 10 → is_leading c ≡ true
leading c low digit = let range = digit_from_value c digit in grind (arith, nat_tests)

-- digits without a leading zero are plain, and with a minus too
plain_digits : (ds : List ℕ) → 0 < length ds → 48 < get_or ds 0 0 → AllDigits 10 ds → (is_plain ds ≡ true)
    × (is_plain (45 ∷ ds) ≡ true)
plain_digits [] some low digits = absurd (omega arith)
plain_digits (c ∷ []) some low digits =
    let lead = leading c low digits.0 in
    (ap (λ b. c == 48 || b) lead ∙ or-true (c == 48), lead)
plain_digits (c ∷ d ∷ ds) some low digits =
    let lead = leading c low digits.0 in
    let minus : c ≢ 45 = omega arith in
    (ap (λ b. cond b (is_leading d) (is_leading c)) (ne_eqb c 45 minus) ∙ lead, lead)

plain_decimal : (n : ℕ) → 0 < n → n < 2 ^ 64 → (is_plain (decimal n) ≡ true) × (is_plain (45 ∷ decimal n) ≡ true)
plain_decimal n some small =
    plain_digits (decimal n) (decimal_nonempty n small) (first_decimal n some small)
    ((decimal_is_IsNumeral n small).0.1)

-- printed numbers are plain
pub number_text-plain : (z : ℤ) → is_number z ≡ true → is_plain (number_text z) ≡ true
number_text-plain (pos zero) h = ap is_plain (decimal_digit 0 (omega arith))
number_text-plain (pos (suc n)) h =
    let small : suc n < 2 ^ 63 = is_number-mag (pos (suc n)) h in
    (plain_decimal (suc n) (omega arith) (omega arith)).0
number_text-plain (negsuc n) h =
    let small : n < 2 ^ 63 = is_number-mag (negsuc n) h in
    (plain_decimal (suc n) (omega arith) (omega arith)).1

-- printed numbers are UTF-8
pub number_text-utf8 : (z : ℤ) → is_number z ≡ true → IsUtf8 (number_text z)
number_text-utf8 z h = IsUtf8-from_ascii (number_text z) (IsAscii-signed z (is_number-mag z h))

fits_signed : (z : ℤ) → is_number z ≡ true → FitsSigned w64 z
fits_signed z h = record { sfits = is_number-mag z h }

-- for a plain text, `parse` returns its number, or an error if it isn't the printed form of a number
number-from_parse : {E : Type 0} (text : List ℕ) (r : Result ℤ E) → is_plain text ≡ true → ParsesSigned w64 10 text r
    → MatchResult r (λ z. (text ≡ number_text z) × (number_of text ≡ Some z))
    (λ e. (z : ℤ) → is_number z ≡ true → text ≢ number_text z)
number-from_parse text (Ok z) plain parses =
    let fits : is_number (signed_digits_value 10 text) ≡ true =
    is_number-from_mag (signed_digits_value 10 text) parses.0.1.sfits in
    let same = plain_text text plain parses.0.0 fits in
    (sym same ∙ ap number_text (sym parses.1), number_of-some text fits same ∙ ap Some (sym parses.1))
number-from_parse {E} text (Err e) plain parses = λ z h same.
    let it : ◌≡◌ {A = Result ℤ E} (Err e) (Ok z) =
    parse-signed_decimal w64 z text (Err e) (fits_signed z h) (is_number-mag z h) same parses in
    absurd (cc)

-- the same of a result that passes the number on
pub number-handed_on : {E F : Type 0} (text : List ℕ) (r : Result ℤ E) (q : Result ℤ F) (P : E → Type 0)
    → is_plain text ≡ true → ParsesSigned w64 10 text r → MatchResult r (λ z. q ≡ Ok z) P → is_ok q ≡ is_ok r
    → MatchResult q (λ z. (text ≡ number_text z) × (number_of text ≡ Some z))
    (λ e. (z : ℤ) → is_number z ≡ true → text ≢ number_text z)
number-handed_on {E} {F} text (Ok z) q P plain parses same ok =
    let given = number-from_parse {E = E} text (Ok z) plain parses in
    let Q : Result ℤ F
    → Type 0 = λ o. MatchResult o (λ z. (text ≡ number_text z) × (number_of text ≡ Some z))
    (λ e. (z : ℤ) → is_number z ≡ true → text ≢ number_text z) in
    subst Q (sym same) given
number-handed_on text (Err e) (Ok z) P plain parses same ok = absurd (cc)
number-handed_on text (Err e) (Err f) P plain parses same ok = number-from_parse text (Err e) plain parses

-- the number in the result
pub result_ok-number : {F : Type 0} (text : List ℕ) (q : Result ℤ F)
    → MatchResult q (λ z. (text ≡ number_text z) × (number_of text ≡ Some z))
    (λ e. (z : ℤ) → is_number z ≡ true → text ≢ number_text z) → result_ok q ≡ number_of text
result_ok-number text (Ok z) h = sym h.1
result_ok-number text (Err e) h = sym (number_of-none text h)
