-- Names: 1 to 32 lower-case letters, digits and `_`. The first is a letter, and reserved words aren't names.
use Rattle.std.specs.Prelude.{ℕ, ◌-◌, List, [], ◌∷◌, ◌++◌, length, Bool, false, ◌&&◌, ◌||◌, ◌==◌, not, if◌then◌else◌, Option, Some, None, bytes_eq, nat_le, replicate, take_while, codes}
use Rattle.std.specs.List.{list_all, list_any}
use Rattle.row_core.specs.Limits.{name_limit}

-- a letter from a to z
abbrev pub is_letter : ℕ → Bool
is_letter byte = nat_le 97 byte && nat_le byte 122

-- a letter, a digit or `_`
abbrev pub is_name_byte : ℕ → Bool
is_name_byte byte = is_letter byte || ((nat_le 48 byte && nat_le byte 57) || byte == 95)

-- the first byte is a letter
abbrev pub starts_with_letter : List ℕ → Bool
starts_with_letter [] = false
starts_with_letter (first ∷ rest) = is_letter first

-- the words that scripts may have where a name is allowed
abbrev pub reserved_words : List (List ℕ)
reserved_words = codes "asof" ∷ codes "by" ∷ codes "key" ∷ codes "on" ∷ codes "set" ∷ codes "where" ∷ []

-- the text is one of the reserved words
abbrev pub is_reserved : List ℕ → Bool
is_reserved text = list_any (λ word. bytes_eq word text) reserved_words

-- the text is a name
abbrev pub is_name : List ℕ → Bool
is_name text =
    starts_with_letter text &&
    (nat_le (length text) name_limit && (list_all is_name_byte text && not (is_reserved text)))

-- the text, if it is a name
abbrev pub name_of : List ℕ → Option (List ℕ)
name_of text = if is_name text then Some text else None

-- a name as it is stored: padded with zeros to the limit
abbrev pub padded : List ℕ → List ℕ
padded text = text ++ replicate (name_limit - length text) 0

-- the bytes before the first zero
abbrev pub unpadded : List ℕ → List ℕ
unpadded bytes = take_while (λ byte. not (byte == 0)) bytes

-- the names of two columns: one of a left table and one of a right table
abbrev pub NamePair : Type 0
NamePair = List ℕ × List ℕ
