-- Which bytes are texts.
use Rattle.std.proofs.Common.{◌≡◌, ℕ, ◌≤◌, List, [], ◌∷◌, Bool, true, false, not, cond, length, refl, ◌∙◌, ap}
use Rattle.std.specs.Prelude.{Result, Ok, Err}
use Rattle.std.specs.Str.{IsUtf8, is_utf8}
use Rattle.std.proofs.lemmas.Bool.{le-ltb}
use Rattle.std.proofs.lemmas.Str.{IsUtf8-from_is_utf8, is_utf8-from_IsUtf8}
use Rattle.row_core.specs.Refusals.{first_of, refused_or}
use Rattle.row_core.specs.Value.{text_of}
use Rattle.row_core.specs.declared.text.TextRefused.{TextRefused}
use Rattle.row_core.specs.declared.text.TextRefused.TheVariants.{TooLong, BadUtf8}
use Rattle.row_core.specs.Limits.{text_limit}

both : (bytes : List ℕ) (test : Bool)
    → refused_or (first_of ((false, TooLong) ∷ (not test, BadUtf8) ∷ [])) bytes ≡ cond test (Ok bytes) (Err BadUtf8)
both bytes true = refl
both bytes false = refl

-- the text of bytes that aren't too many
decided : (bytes : List ℕ) (test : Bool) → length bytes ≤ text_limit → is_utf8 bytes ≡ test
    → text_of bytes ≡ cond test (Ok bytes) (Err BadUtf8)
decided bytes test few e =
    let tests : Bool → Bool → Result (List ℕ) TextRefused =
    λ long utf8. refused_or (first_of ((long, TooLong) ∷ (not utf8, BadUtf8) ∷ [])) bytes in
    ap (λ long. tests long (is_utf8 bytes)) (le-ltb text_limit (length bytes) few) ∙ ap (λ utf8. tests false utf8) e
    ∙ both bytes test

utf8_false : (bytes : List ℕ) (test : Bool) → is_utf8 bytes ≡ test → (IsUtf8 bytes → ⊥) → test ≡ false
utf8_false bytes true e h = absurd (h (IsUtf8-from_is_utf8 bytes e))
utf8_false bytes false e h = refl

pub text_of-utf8 : (bytes : List ℕ) → length bytes ≤ text_limit → IsUtf8 bytes → text_of bytes ≡ Ok bytes
text_of-utf8 bytes few h = decided bytes true few (is_utf8-from_IsUtf8 bytes h)

pub text_of-bad : (bytes : List ℕ) → length bytes ≤ text_limit → (IsUtf8 bytes → ⊥) → text_of bytes ≡ Err BadUtf8
text_of-bad bytes few h = decided bytes false few (utf8_false bytes (is_utf8 bytes) refl h)
