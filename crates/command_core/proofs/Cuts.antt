-- When the first records of a list belong to one command.
use Rattle.std.proofs.Common.{◌≡◌, ℕ, suc, ◌+◌, ◌<◌, ◌≤◌, List, [], ◌∷◌, ◌++◌, length, take, drop, true, false, Some, None, Option, refl, ap, subst, sym, ◌∙◌, arith, inr, get_or-take, length-take}
use Rattle.std.specs.List.{AllWithin, HoldsAt, slice_get}
use Rattle.std.specs.Option.{IfSome, MatchOption}
use Rattle.std.proofs.lemmas.List.{drop_all, take_all}
use Rattle.std.proofs.lemmas.Option.{slice_get-get_or}
use Rattle.command_core.specs.Records.{Record}
use Rattle.command_core.specs.Words.{is_end, opens_block}
use Rattle.command_core.specs.Meaning.{Meaning, Means, MeansBlock, MeansRecord, IsBody, block_meaning, record_meaning, refuse, meaning_or_refusal}
use Rattle.command_core.specs.declared.refusal.Refusal.TheVariants.{Unended}
use Rattle.command_core.proofs.Cutting.{slice_get-there, take-slice_get}

-- A block up to its `end`.
pub block-means : (xs : List Record) (x : Record) (number n : ℕ) (meaning : Meaning) (rest : List Record)
    → rest ≡ drop 1 xs → slice_get xs 0 ≡ Some x → opens_block x ≡ true
    → n < length rest → IsBody (take n rest) → IfSome (slice_get rest n) (λ line. is_end line ≡ true)
    → meaning ≡ meaning_or_refusal number (block_meaning x (take n (drop 1 xs)))
    → MeansBlock number (take (n + 2) xs) meaning
block-means [] x number n meaning rest r e opens within before last means = absurd (cc e)
block-means (y ∷ ys) x number n meaning rest r e opens within before last means = by (slice_get ys n) refl
  where
    by : (o : Option Record) → slice_get ys n ≡ o → MeansBlock number (take (n + 2) (y ∷ ys)) meaning
    by None t = absurd (slice_get-there ys n (omega (arith, ap length r)) t)
    by (Some z) t =
        let same : y ≡ x = cc in
        let two : n + 2 ≡ suc (n + 1) = omega arith in
        record {
          opening = x;
          body = take n ys;
          last = z;
          whole = rw two (ap (λ l. y ∷ l) (take-slice_get ys n z t) ∙ ap (λ w. w ∷ (take n ys ++ z ∷ [])) same);
          opens = opens;
          inside = subst (λ l. IsBody (take n l)) r before;
          closes = rw (r, t) at last;
          means = means;
        }

-- The first record that ends a block, with the block's body before it.
pub first-end : (lines : List Record) (found : Option ℕ)
    → MatchOption found (AllWithin (λ line. is_end line ≡ false) lines 0 (length lines))
    (λ n. (n < length lines) × HoldsAt (λ line. is_end line ≡ true) lines n
    × AllWithin (λ line. is_end line ≡ false) lines 0 n)
    → IfSome found (λ n. IsBody (take n lines))
    × IfSome found (λ n. IfSome (slice_get lines n) (λ line. is_end line ≡ true))
first-end lines None none = (tt, tt)
first-end lines (Some n) (within, ends, before) = (
  λ k line inside.
      let sooner : k < n = omega (arith, length-take n lines, inside) in
      subst (λ l. is_end l ≡ false) (sym (get_or-take n lines k line sooner)) (before k line (omega arith) sooner),
  subst (λ o. IfSome o (λ line. is_end line ≡ true)) (sym (slice_get-get_or lines n [] within)) (ends []),
)

pub unended-means : (xs : List Record) (x : Record) (number size : ℕ) (rest : List Record) → size ≡ length xs
    → rest ≡ drop 1 xs → slice_get xs 0 ≡ Some x → opens_block x ≡ true → IsBody rest
    → Means number (take size xs) (drop size xs) (refuse number Unended)
unended-means [] x number size rest n r e opens body = absurd (cc e)
unended-means (y ∷ ys) x number size rest n r e opens body =
    let same : y ≡ x = cc in
    let all : length (y ∷ ys) ≤ size = omega arith in
    inr (inr (record {
      opening = x;
      body = ys;
      whole = take_all size (y ∷ ys) all ∙ ap (λ z. z ∷ ys) same;
      opens = opens;
      inside = subst IsBody r body;
      last = drop_all size (y ∷ ys) all;
      means = refl;
    }))

-- A command of one record.
pub record-means : (xs : List Record) (x : Record) (number : ℕ) → slice_get xs 0 ≡ Some x → opens_block x ≡ false
    → MeansRecord number (take 1 xs) (meaning_or_refusal number (record_meaning x))
record-means [] x number e plain = absurd (cc e)
record-means (y ∷ ys) x number e plain =
    let same : y ≡ x = cc in
    record { opening = x; alone = ap (λ z. z ∷ []) same; plain = plain; means = refl }
