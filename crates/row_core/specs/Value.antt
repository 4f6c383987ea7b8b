-- Values, their kinds, and how they are read.
use Rattle.std.specs.Prelude.{ℕ, List, [], ◌∷◌, length, Bool, true, false, not, option_map, Result, nat_lt}
use Rattle.std.specs.Option.{ok_or}
use Rattle.std.specs.Str.{is_utf8}
use Rattle.row_core.specs.Refusals.{first_of, map_err, map_ok, refused_or}
use Rattle.row_core.specs.Limits.{text_limit}
use Rattle.row_core.specs.Number.{number_of}
use Rattle.row_core.specs.declared.text.TextRefused.{TextRefused}
use Rattle.row_core.specs.declared.text.TextRefused.TheVariants as text
use Rattle.row_core.specs.declared.value.Kind.{Kind}
use Rattle.row_core.specs.declared.value.Kind.TheVariants as kind
use Rattle.row_core.specs.declared.value.Value.{Value}
use Rattle.row_core.specs.declared.value.Value.TheVariants.{Int, Text}
use Rattle.row_core.specs.declared.value.ValueRefused.{ValueRefused}
use Rattle.row_core.specs.declared.value.ValueRefused.TheVariants.{BadNumber, TooLong, BadUtf8}

-- the bytes as a text, or why they aren't one: at most 4,096 bytes of UTF-8
abbrev pub text_of : List ℕ → Result (List ℕ) TextRefused
text_of bytes =
    refused_or
    (first_of ((nat_lt text_limit (length bytes), text.TooLong) ∷ (not (is_utf8 bytes), text.BadUtf8) ∷ [])) bytes

-- a text's refusal, turned into a value's
abbrev pub refusal_of_text : TextRefused → ValueRefused
refusal_of_text text.TooLong = TooLong
refusal_of_text text.BadUtf8 = BadUtf8

-- the bytes as a value of the kind, or why they aren't one
abbrev pub value_of : Kind → List ℕ → Result Value ValueRefused
value_of kind.Int bytes = ok_or (option_map Int (number_of bytes)) BadNumber
value_of kind.Text bytes = map_ok Text (map_err refusal_of_text (text_of bytes))

-- the kind of a value
abbrev pub kind_of : Value → Kind
kind_of (Int number) = kind.Int
kind_of (Text bytes) = kind.Text

-- two kinds are equal
abbrev pub same_kind : Kind → Kind → Bool
same_kind kind.Int kind.Int = true
same_kind kind.Text kind.Text = true
same_kind kind.Int kind.Text = false
same_kind kind.Text kind.Int = false
