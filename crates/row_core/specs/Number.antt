-- Numbers in their printed form, which is decimal.
use Rattle.std.specs.Prelude.{ℕ, ◌^◌, ℤ, pos, negsuc, List, [], ◌∷◌, Bool, false, ◌&&◌, ◌||◌, ◌==◌, if◌then◌else◌, Option, Some, None, bytes_eq, nat_le, nat_lt}
use Rattle.std.specs.Fmt.{signed_decimal}
use Rattle.std.specs.Str.Parse.{signed_digits_value}

-- a 64-bit number, from -(2 ^ 63) to 2 ^ 63 - 1
abbrev pub is_number : ℤ → Bool
is_number (pos n) = nat_lt n (2 ^ 63)
is_number (negsuc n) = nat_lt n (2 ^ 63)

-- the printed form of a number: a minus if it is negative, then its decimal digits without leading zeros
abbrev pub number_text : ℤ → List ℕ
number_text n = signed_decimal n

-- the number that has this printed form, if there is one
abbrev pub number_of : List ℕ → Option ℤ
number_of text = let number = signed_digits_value 10 text in
    if is_number number && bytes_eq (number_text number) text then Some number else None

-- a digit from 1 to 9
abbrev pub is_leading : ℕ → Bool
is_leading byte = nat_le 49 byte && nat_le byte 57

-- a text that begins like a number's: no plus, and no zero before another byte
abbrev pub is_plain : List ℕ → Bool
is_plain [] = false
is_plain (first ∷ []) = first == 48 || is_leading first
is_plain (first ∷ second ∷ rest) = if first == 45 then is_leading second else is_leading first
