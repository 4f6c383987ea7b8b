-- Records of a load that are read range by range.
use Rattle.std.proofs.Common.{◌≡◌, ◌∙◌, ℕ, zero, suc, ◌+◌, ◌-◌, min, List, [], ◌∷◌, ◌++◌, Some, None, Result, Ok, Err, refl, sym, ap, arith, take, drop, length, append-nil, unwrap_or}
use Rattle.std.specs.Prelude.{flat_map}
use Rattle.std.specs.List.{enumerate_from}
use Rattle.std.specs.Ordering.{nat_cmp}
use Rattle.std.specs.declared.alloc.AllocError.{AllocError}
use Rattle.std.proofs.lemmas.List.FromFn.{length-enumerate_from}
use Rattle.work_core.specs.Pieces.{items_within}
use Rattle.work_core.specs.Ranges.{range}
use Rattle.work_core.specs.Shares.{Gives, GivesFrom}
use Rattle.work_core.specs.declared.range.Range.{Range}
use Rattle.work_core.specs.declared.shares.Cut.{Cut}
use Rattle.work_core.proofs.PieceLemmas.{piece-part, piece_cut}
use Rattle.work_core.proofs.ShareLemmas.{all_come}
use Rattle.row_core.specs.Refusals.{and_then, map_err, map_ok, read_each}
use Rattle.row_core.specs.declared.draft.Draft.{Draft}
use Rattle.command_core.specs.Records.{Record}
use Rattle.command_core.specs.Refusal.{fault}
use Rattle.command_core.specs.declared.refusal.Fault.{Fault}
use Rattle.command_core.specs.declared.refusal.Refusal.{Refusal}
use Rattle.script_core.specs.Effects.{all_or_fault, each_or_fault}
use Rattle.script_core.specs.Loads.{all_drafts}
use Rattle.script_core.proofs.Loading.{behind}

-- The numbered items from an index on.
drop-enumerate_from : {X : Type 0} (k n : ℕ) (xs : List X)
    → drop k (enumerate_from n xs) ≡ enumerate_from (n + k) (drop k xs)
drop-enumerate_from zero n xs =
    let same : n ≡ n + 0 = omega arith in ap (λ m. enumerate_from m xs) same
drop-enumerate_from (suc k) n [] = refl
drop-enumerate_from (suc k) n (x ∷ xs) =
    let same : n + 1 + k ≡ n + suc k = omega arith in
    drop-enumerate_from k (n + 1) xs ∙ ap (λ m. enumerate_from m (drop k xs)) same

-- The numbered items before an index.
take-enumerate_from : {X : Type 0} (k n : ℕ) (xs : List X)
    → take k (enumerate_from n xs) ≡ enumerate_from n (take k xs)
take-enumerate_from zero n xs = refl
take-enumerate_from (suc k) n [] = refl
take-enumerate_from (suc k) n (x ∷ xs) = ap (λ l. (n, x) ∷ l) (take-enumerate_from k (n + 1) xs)

-- The values of the records of a range.
pub reported-part : {T : Type 0} (read : Record → Result T Refusal) (places : Range ℕ) (number from to n : ℕ)
    (lines part : List Record) → n ≡ length lines → to ≡ min (unwrap_or places.before n) n
    → from ≡ min (unwrap_or places.from 0) to → part ≡ take (to - from) (drop from lines)
    → each_or_fault read (items_within places (enumerate_from number lines)) ≡ all_or_fault read (number + from) part
reported-part read places number from to n lines part size end start is =
    let numbered = enumerate_from number lines in
    let count : n ≡ length numbered = size ∙ sym (length-enumerate_from number lines) in
    let within : to ≡ min (unwrap_or places.before (length numbered)) (length numbered) =
    end ∙ ap (λ k. min (unwrap_or places.before k) k) count in
    ap (each_or_fault read)
    (piece-part places from to numbered within start
    ∙ ap (take (to - from)) (drop-enumerate_from from number lines)
    ∙ take-enumerate_from (to - from) (number + from) (drop from lines)
    ∙ ap (enumerate_from (number + from)) (sym is))

-- With no earlier values, the result is the rest's.
pub behind-none : {T E : Type 0} (read : Result (List T) E) → behind [] read ≡ read
behind-none (Ok more) = refl
behind-none (Err wrong) = refl

-- The result for one part, followed by the result for the rest.
abbrev then_rest : {T E : Type 0} → Result (List T) E → Result (List T) E → Result (List T) E
then_rest first rest = and_then first (λ had. behind had rest)

-- One value before the values of two parts.
then_rest-first : {T E : Type 0} (x : Result T E) (first rest : Result (List T) E)
    → and_then x (λ v. map_ok (λ more. v ∷ more) (then_rest first rest))
    ≡ then_rest (and_then x (λ v. map_ok (λ more. v ∷ more) first)) rest
then_rest-first (Ok v) (Ok had) (Ok more) = refl
then_rest-first (Ok v) (Ok had) (Err wrong) = refl
then_rest-first (Ok v) (Err wrong) rest = refl
then_rest-first (Err wrong) first rest = refl

-- The result for two lists.
read_each-append : {X T E : Type 0} (read : X → Result T E) (xs ys : List X)
    → read_each read (xs ++ ys) ≡ then_rest (read_each read xs) (read_each read ys)
read_each-append read [] ys = sym (behind-none (read_each read ys))
read_each-append read (x ∷ xs) ys =
    ap (λ r. and_then (read x) (λ v. map_ok (λ more. v ∷ more) r)) (read_each-append read xs ys)
    ∙ then_rest-first (read x) (read_each read xs) (read_each read ys)

-- The rows of one more range at the beginning.
pub all_drafts-more : (rows : List Draft) (ranges : List (Result (List Draft) Fault))
    → all_drafts (Ok rows ∷ ranges) ≡ behind rows (all_drafts ranges)
all_drafts-more rows ranges = more (read_each (λ range. range) ranges)
  where
    more : (read : Result (List (List Draft)) Fault)
        → map_ok (flat_map (λ had. had)) (map_ok (λ others. rows ∷ others) read)
        ≡ behind rows (map_ok (flat_map (λ had. had)) read)
    more (Ok others) = refl
    more (Err wrong) = refl

-- One range, then the others.
all_drafts-range : (range : Result (List Draft) Fault) (ranges : List (Result (List Draft) Fault))
    → all_drafts (range ∷ ranges) ≡ then_rest range (all_drafts ranges)
all_drafts-range (Ok rows) ranges = all_drafts-more rows ranges
all_drafts-range (Err wrong) ranges = refl

-- A single range.
all_drafts-one : (range : Result (List Draft) Fault) → all_drafts (range ∷ []) ≡ range
all_drafts-one (Ok rows) = ap Ok (append-nil rows)
all_drafts-one (Err wrong) = refl

-- The results for all ranges add up to the result for all records.
pub ranges-all : (read : Record → Result Draft Refusal) (numbered : List (ℕ × Record))
    (post : Range ℕ → ℕ → Result (Result (List Draft) Fault) AllocError → Type 0)
    (cuts : List (Cut ℕ)) (ranges : List (Result (List Draft) Fault))
    → ((places : Range ℕ) (n : ℕ) (own : Result (List Draft) Fault) → post places n (Ok own)
    → each_or_fault read (items_within places numbered) ≡ own)
    → GivesFrom nat_cmp (Gives post) None cuts ranges → all_drafts ranges ≡ each_or_fault read numbered
ranges-all read numbered post cuts ranges reported given =
    all_come nat_cmp (Gives post)
    (λ (places : Range ℕ) (all : List (Result (List Draft) Fault)).
    all_drafts all ≡ each_or_fault read (items_within places numbered))
    (λ places own gave. all_drafts-one own ∙ sym (reported places gave.0 own gave.1))
    (λ from at own more begun one others.
    let near = items_within (range from (Some at)) numbered in
    let far = items_within (range (Some at) None) numbered in
    all_drafts-range own more
    ∙ ap (λ r. then_rest r (all_drafts more)) (sym (reported (range from (Some at)) one.0 own one.1))
    ∙ ap (then_rest (each_or_fault read near)) others
    ∙ sym (read_each-append (λ line. map_err (fault line.0) (read line.1)) near far)
    ∙ ap (each_or_fault read) (sym (piece_cut from at numbered begun)))
    None cuts ranges given
