-- What the fields at the first indices say about a record.
use Rattle.std.proofs.Common.{◌≡◌, ◌+◌, ℕ, zero, suc, List, [], ◌∷◌, Bool, true, false, drop, length, take, Some, None, refl, ap, arith}
use Rattle.std.specs.Prelude.{codes, if◌then◌else◌}
use Rattle.std.specs.List.{slice_get}
use Rattle.std.specs.Option.{ok_or}
use Rattle.row_core.specs.Refusals.{and_then, map_ok}
use Rattle.command_core.specs.Fields.{both_ok, claimed, compared, dated, field_before, instant_in, name_in, named, natural_in, point_in, spanned, split_asof}
use Rattle.command_core.specs.Pairs.{compared_by, name_pairs, paired_behind}
use Rattle.command_core.specs.Records.{Record}
use Rattle.command_core.specs.Words.{begins}
use Rattle.command_core.specs.declared.refusal.Refusal.TheVariants.{BadCommand}

pub named-two : (line : Record) (name : List ℕ) → slice_get line 1 ≡ Some name → slice_get line 2 ≡ None
    → named line ≡ name_in name
named-two [] name one two = absurd (cc one)
named-two (word ∷ []) name one two = absurd (cc one)
named-two (word ∷ n ∷ []) name one two = let same : n ≡ name = cc in ap name_in same
named-two (word ∷ n ∷ third ∷ rest) name one two = absurd (cc two)

pub dated-three : (line : Record) (name point : List ℕ) → slice_get line 1 ≡ Some name → slice_get line 2 ≡ Some point
    → slice_get line 3 ≡ None
    → dated line ≡ both_ok (name_in name) (point_in point)
dated-three [] name point one two three = absurd (cc one)
dated-three (word ∷ []) name point one two three = absurd (cc one)
dated-three (word ∷ n ∷ []) name point one two three = absurd (cc two)
dated-three (word ∷ n ∷ p ∷ []) name point one two three =
    let first : n ≡ name = cc in
    let second : p ≡ point = cc in
    rw (first, second) refl
dated-three (word ∷ n ∷ p ∷ fourth ∷ rest) name point one two three = absurd (cc three)

-- A record with just three fields after its word.
three_behind : (P : Record → Type 0) (line : Record) (name second third : List ℕ) → slice_get line 1 ≡ Some name
    → slice_get line 2 ≡ Some second → slice_get line 3 ≡ Some third → slice_get line 4 ≡ None
    → ((word : List ℕ) → P (word ∷ name ∷ second ∷ third ∷ [])) → P line
three_behind P [] name second third one two three four there = absurd (cc one)
three_behind P (word ∷ []) name second third one two three four there = absurd (cc one)
three_behind P (word ∷ n ∷ []) name second third one two three four there = absurd (cc two)
three_behind P (word ∷ n ∷ s ∷ []) name second third one two three four there = absurd (cc three)
three_behind P (word ∷ n ∷ s ∷ t ∷ []) name second third one two three four there =
    let first : n ≡ name = cc in
    let second : s ≡ second = cc in
    let third : t ≡ third = cc in
    rw (first, second, third) (there word)
three_behind P (word ∷ n ∷ s ∷ t ∷ fifth ∷ rest) name second third one two three four there = absurd (cc four)

pub spanned-four : (line : Record) (name first last : List ℕ) → slice_get line 1 ≡ Some name
    → slice_get line 2 ≡ Some first → slice_get line 3 ≡ Some last → slice_get line 4 ≡ None
    → spanned line ≡ both_ok (name_in name) (both_ok (natural_in first) (natural_in last))
spanned-four line name first last one two three four =
    three_behind
    (λ l. spanned l ≡ both_ok (name_in name)
    (both_ok (natural_in first) (natural_in last))) line name first last one two three four (λ word. refl)

pub claimed-four : (line : Record) (name parts instant : List ℕ) → slice_get line 1 ≡ Some name
    → slice_get line 2 ≡ Some parts → slice_get line 3 ≡ Some instant → slice_get line 4 ≡ None
    → claimed line ≡ both_ok (name_in name) (both_ok (natural_in parts) (instant_in instant))
claimed-four line name parts instant one two three four =
    three_behind
    (λ l. claimed l ≡ both_ok (name_in name)
    (both_ok (natural_in parts) (instant_in instant))) line name parts instant one two three four (λ word. refl)

-- A record's two names, and the fields after them.
pub compared-two : (line : Record) (left right : List ℕ) → slice_get line 1 ≡ Some left → slice_get line 2 ≡ Some right
    → compared line ≡ and_then (ok_or (paired_behind (codes "on") (drop 3 line)) BadCommand)
    (λ names. map_ok compared_by (both_ok (both_ok (name_in left) (name_in right)) (name_pairs names)))
compared-two [] left right one two = absurd (cc one)
compared-two (word ∷ []) left right one two = absurd (cc one)
compared-two (word ∷ l ∷ []) left right one two = absurd (cc two)
compared-two (word ∷ l ∷ r ∷ rest) left right one two =
    let first : l ≡ left = cc in
    let second : r ≡ right = cc in
    rw (first, second) refl

-- ---- the suffix

-- The suffix is there if and only if the second to last field is `asof`.
pub split_asof-two : (k : ℕ) (line : Record) (test : Bool) → length line ≡ k + 2
    → begins (codes "asof") (drop k line) ≡ test
    → split_asof line ≡ (if test then (take k line, slice_get line (k + 1)) else (line, None))
split_asof-two zero [] test n e = absurd (omega arith)
split_asof-two zero (only ∷ []) test n e = absurd (omega arith)
split_asof-two zero (word ∷ text ∷ []) test n e = rw e refl
split_asof-two zero (first ∷ second ∷ third ∷ fields) test n e = absurd (omega arith)
split_asof-two (suc k) [] test n e = absurd (omega arith)
split_asof-two (suc k) (only ∷ []) test n e = absurd (omega arith)
split_asof-two (suc k) (first ∷ second ∷ []) test n e = absurd (omega arith)
split_asof-two (suc k) (field ∷ second ∷ third ∷ fields) true n e =
    let next : suc k + 1 ≡ suc (k + 1) = omega arith in
    rw next (ap (field_before field) (split_asof-two k (second ∷ third ∷ fields) true (omega arith) e))
split_asof-two (suc k) (field ∷ second ∷ third ∷ fields) false n e =
    ap (field_before field) (split_asof-two k (second ∷ third ∷ fields) false (omega arith) e)
