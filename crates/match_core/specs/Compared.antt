-- How the values of a column are compared: numbers as they are, texts by a hash first.
use Rattle.std.specs.Prelude.{◌≡◌, ℕ, ℤ, pos, List, [], refl}
use Rattle.std.specs.Cmp.Lexicographic.{slice_cmp, bytes_decides, texts_ties}
use Rattle.std.specs.Hash.FoldHasher.{initial, write, finish}
use Rattle.std.specs.Ordering.{is_eq, ordering_then, nat_cmp, int_cmp}
use Rattle.std.specs.declared.cmp.Ordering.{Ordering}
use Rattle.std.specs.declared.cmp.Ordering.TheVariants.{Less, Equal, Greater}
use Rattle.std.proofs.Common.{sym, subst, ap, ◌∙◌}
use Rattle.std.proofs.lemmas.Cmp.{int_cmp_total, int_ranked, nat_cmp_total, nat_list_cmp_total, tied_itself}
use Rattle.row_core.specs.Value.{kind_of}
use Rattle.row_core.specs.declared.value.Kind.{Kind}
use Rattle.row_core.specs.declared.value.Kind.TheVariants as kind
use Rattle.row_core.specs.declared.value.Value.{Value}
use Rattle.row_core.specs.declared.value.Value.TheVariants.{Int, Text}
use Rattle.match_core.specs.declared.comparable.HashedText.{HashedText}

-- Something is made from each value. Things made from one value compare as equal, and if things made from two values
-- of the kind compare as equal, the values are equal.
pub record Compares {V : Type 0} (kind : Kind) (IsOf : Value → V → Type 0) (cmp : V → V → Ordering) : Type 0 where
  pub made : (value : Value) → (v : V) × IsOf value v
  pub ties : (value : Value) (v w : V) → IsOf value v → IsOf value w → cmp v w ≡ Equal
  pub tells : (a b : Value) (v w : V) → kind_of a ≡ kind → kind_of b ≡ kind → IsOf a v → IsOf b w → cmp v w ≡ Equal
      → a ≡ b

-- ---- numbers

-- The number in a value; 0 for a text.
abbrev pub number_in : Value → ℤ
number_in (Int number) = number
number_in (Text text) = pos 0

-- `number` is the number in the value.
abbrev pub IsNumberIn : Value → ℤ → Type 0
IsNumberIn value number = number ≡ number_in value

-- Equal numbers compare as equal.
same_numbers : (m n : ℤ) → m ≡ n → int_cmp m n ≡ Equal
same_numbers m n same = subst (λ k. int_cmp m k ≡ Equal) same (tied_itself int_cmp_total m)

-- Two values of the number kind with the same number are equal.
one_number : (a b : Value) → kind_of a ≡ kind.Int → kind_of b ≡ kind.Int → number_in a ≡ number_in b → a ≡ b
one_number (Int m) (Int n) k l same = ap Int same
one_number (Int m) (Text t) k l same = absurd (cc)
one_number (Text s) b k l same = absurd (cc)

-- Numbers are compared as they are.
pub numbers_compare : Compares kind.Int IsNumberIn int_cmp
numbers_compare = record {
  made = λ value. (number_in value, refl);
  ties = λ value m n is are. same_numbers m n (is ∙ sym are);
  tells = λ a b m n k l is are tied. one_number a b k l (sym is ∙ int_ranked m n Equal (sym tied) ∙ are);
}

-- ---- texts

-- A hash of a text.
abbrev pub hash_of : List ℕ → ℕ
hash_of text = finish (write initial text)

-- The text in a value; empty for a number.
abbrev pub text_in : Value → List ℕ
text_in (Int number) = []
text_in (Text text) = text

-- The text in the value, with its hash.
pub record IsTextIn (value : Value) (hashed : HashedText) : Type 0 where
  pub hash_is : hashed.hash ≡ hash_of (text_in value)
  pub text_is : hashed.text.now ≡ text_in value

-- The order of texts: by hash, then by text.
abbrev pub hashed_cmp : HashedText → HashedText → Ordering
hashed_cmp a b = ordering_then (nat_cmp a.hash b.hash) (slice_cmp nat_cmp a.text.now b.text.now)

-- Equal texts with equal hashes compare as equal.
same_texts : (g h : ℕ) (s t : List ℕ) → g ≡ h → s ≡ t → ordering_then (nat_cmp g h) (slice_cmp nat_cmp s t) ≡ Equal
same_texts g h s t one same =
    subst (λ k. ordering_then (nat_cmp g k) (slice_cmp nat_cmp s t) ≡ Equal) one
    (ap (λ o. ordering_then o (slice_cmp nat_cmp s t)) (tied_itself nat_cmp_total g)
    ∙ subst (λ l. slice_cmp nat_cmp s l ≡ Equal) same (tied_itself nat_list_cmp_total s))

-- If two orders in sequence compare as equal, so does the second.
second_ties : (r s : Ordering) → ordering_then r s ≡ Equal → s ≡ Equal
second_ties Less s tied = absurd (cc)
second_ties Greater s tied = absurd (cc)
second_ties Equal s tied = tied

-- Texts that compare as equal are equal.
one_text : (s t : List ℕ) → slice_cmp nat_cmp s t ≡ Equal → s ≡ t
one_text s t tied = (bytes_decides s t).0 (texts_ties s t ∙ ap is_eq tied)

-- Two values of the text kind with the same text are equal.
one_value : (a b : Value) → kind_of a ≡ kind.Text → kind_of b ≡ kind.Text → text_in a ≡ text_in b → a ≡ b
one_value (Text s) (Text t) k l same = ap Text same
one_value (Text s) (Int n) k l same = absurd (cc)
one_value (Int m) b k l same = absurd (cc)

-- Texts are compared by hash, and then by text if the hashes are equal.
pub texts_compare : Compares kind.Text IsTextIn hashed_cmp
texts_compare = record {
  made = λ value. (
    record { hash = hash_of (text_in value); text = record { ref_ptr = (0, 0); now = text_in value } },
    record { hash_is = refl; text_is = refl },
  );
  ties = λ value v w is are.
      same_texts v.hash w.hash v.text.now w.text.now (is.hash_is ∙ sym are.hash_is) (is.text_is ∙ sym are.text_is);
  tells = λ a b v w k l is are tied.
      one_value a b k l
      (sym is.text_is
      ∙ one_text v.text.now w.text.now
      (second_ties (nat_cmp v.hash w.hash) (slice_cmp nat_cmp v.text.now w.text.now) tied) ∙ are.text_is);
}
