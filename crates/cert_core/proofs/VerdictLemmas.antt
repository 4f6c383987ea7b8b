-- Facts about a claim rule out verdicts.
use Rattle.std.proofs.Common.{◌≡◌, ◌≢◌, ◌⊎◌, ℕ, ◌<◌, ◌≤◌, ℤ, pos, List, [], ◌∷◌, ◌++◌, length, get_or, Some, None, Option, arith, refl, sym, ap, ◌∙◌, subst, inl, inr}
use Rattle.std.specs.Prelude.{All, Contains, map, MatchOption, unwrap_or, ◌↔◌}
use Rattle.std.proofs.lemmas.List.{length-map}
use Rattle.std.proofs.lemmas.List.Elements.{All-contains, All-get_or, Contains-append_right}
use Rattle.std.proofs.lemmas.Option.{slice_get_within, get_or_from_slice_get}
use Rattle.dip_core.specs.declared.item.Item.{Item}
use Rattle.dip_core.specs.Item.{IdsRise, crowd, IsBefore}
use Rattle.dip_core.specs.Division.{IsDivision, IsLeast}
use Rattle.dip_core.proofs.CrowdLemmas.{IsLeast-from_crowd}
use Rattle.dip_core.proofs.DivisionLemmas.{no_parts}
use Rattle.dip_core.proofs.OrderLemmas.{not_before_itself}
use Rattle.cert_core.specs.declared.verdict.Certificate.{Certificate}
use Rattle.cert_core.specs.declared.verdict.Verdict.{Verdict}
use Rattle.cert_core.specs.declared.verdict.Verdict.TheVariants.{WrongCount, EmptyPart, Unknown, Twice, Missing, Overlap, NotCrowded, Yes}
use Rattle.cert_core.specs.Claim.{ids_of, IsEmptyPart}
use Rattle.cert_core.specs.Ids.{IsDistinct, IsTwice}
use Rattle.cert_core.specs.Verdict.{IsWrongCount, HasItem, IsUnknown, IsMissing, HasNoOverlap, IsFirstOverlap, IsOverlap, IsNotCrowded, Applies, rank, IsVerdict, IsCertified}
use Rattle.cert_core.specs.Passes.{Passes}
use Rattle.cert_core.proofs.IdsLemmas.{twice_is_not_distinct, same_item}
use Rattle.cert_core.proofs.PassesLemmas.{IsCertified-from_passes, Passes-from_certified}

-- ---- each fact rules out one verdict

pub not_wrong : (claim : List (List ℕ)) (certificate : Certificate) (n : ℕ) → length claim ≡ certificate.parts
    → IsWrongCount claim certificate n → ⊥
not_wrong claim certificate n counted (is, other) = other (is ∙ counted)

pub not_empty : (claim : List (List ℕ)) (k : ℕ) → All (λ part. 0 < length part) claim → IsEmptyPart claim k → ⊥
not_empty claim k filled is =
    let h : k < length claim = slice_get_within claim k [] is.empty in
    let some : 0 < length (get_or claim k []) = All-get_or (λ part. 0 < length part) claim k [] h filled in
    let none : get_or claim k [] ≡ [] = get_or_from_slice_get claim k [] [] is.empty in
    let size : length (get_or claim k []) ≡ 0 = ap length none in
    omega arith

not_unknown : (items : List Item) (ids : List ℕ) (id : ℕ) → All (HasItem items) ids → IsUnknown items ids id → ⊥
not_unknown items ids id known is =
    let there : Contains (is.before ++ id ∷ is.after) id =
    Contains-append_right is.before (id ∷ is.after) id (0, omega arith, refl) in
    is.unknown (All-contains (HasItem items) ids id known (subst (λ l. Contains l id) (sym is.stands) there))

not_missing : (items : List Item) (ids : List ℕ) (id : ℕ) → All (λ x. Contains ids x.id) items → IsMissing items ids id
    → ⊥
not_missing items ids id complete is =
    let (k, x, h, at, same) = is.known in
    is.missing (subst (Contains ids) same (All-contains (λ x. Contains ids x.id) items x complete (k, h, at)))

pub not_overlapping_part : (items : List Item) (part : List ℕ) (a b : ℕ) → IdsRise items → HasNoOverlap items part
    → IsFirstOverlap items part a b → ⊥
not_overlapping_part items part a b rise none o =
    none o.x o.y o.neighbours.one o.neighbours.other
    (λ same.
    let one : o.x ≡ o.y = same_item items rise o.x o.y o.neighbours.one.0 o.neighbours.other.0 same in
    not_before_itself o.y (subst (λ z. IsBefore z o.y) one o.neighbours.before))
    o.overlap

not_overlapping : (items : List Item) (claim : List (List ℕ)) (a b : ℕ) → IdsRise items
    → All (HasNoOverlap items) claim → IsOverlap items claim a b → ⊥
not_overlapping items claim a b rise none is =
    let h : is.number < length claim = slice_get_within claim is.number is.part is.is_part in
    let here : HasNoOverlap items is.part =
    subst (HasNoOverlap items) (get_or_from_slice_get claim is.number is.part [] is.is_part)
    (All-get_or (HasNoOverlap items) claim is.number [] h none) in
    not_overlapping_part items is.part a b rise here is.overlap

not_crowded : (items : List Item) (parts : ℕ) (instant : Option ℤ)
    → MatchOption instant (items ≡ []) (λ t. (items ≢ []) × (crowd items t ≡ parts))
    → MatchOption instant (items ≢ []) (λ t. (items ≡ []) ⊎ (crowd items t ≢ parts)) → ⊥
not_crowded items parts None right wrong = wrong right
not_crowded items parts (Some t) right (inl none) = right.0 none
not_crowded items parts (Some t) right (inr other) = other right.1

-- ---- the first verdict

-- no verdict of a lower rank applies if each of them is ruled out
pub first_verdict : (items : List Item) (claim : List (List ℕ)) (certificate : Certificate) (i : ℕ) → i ≤ 7
    → ((n : ℕ) → 0 < i → IsWrongCount claim certificate n → ⊥)
    → ((k : ℕ) → 1 < i → IsEmptyPart claim k → ⊥)
    → ((id : ℕ) → 2 < i → IsUnknown items (ids_of claim) id → ⊥)
    → ((id : ℕ) → 3 < i → IsTwice (ids_of claim) id → ⊥)
    → ((id : ℕ) → 4 < i → IsMissing items (ids_of claim) id → ⊥)
    → ((a b : ℕ) → 5 < i → IsOverlap items claim a b → ⊥)
    → ((n : ℕ) → 6 < i → IsNotCrowded items certificate n → ⊥)
    → (w : Verdict) → rank w < i → Applies items claim certificate w → ⊥
first_verdict items claim certificate i small f0 f1 f2 f3 f4 f5 f6 (WrongCount n) less is = f0 n less is
first_verdict items claim certificate i small f0 f1 f2 f3 f4 f5 f6 (EmptyPart k) less is = f1 k less is
first_verdict items claim certificate i small f0 f1 f2 f3 f4 f5 f6 (Unknown id) less is = f2 id less is
first_verdict items claim certificate i small f0 f1 f2 f3 f4 f5 f6 (Twice id) less is = f3 id less is
first_verdict items claim certificate i small f0 f1 f2 f3 f4 f5 f6 (Missing id) less is = f4 id less is
first_verdict items claim certificate i small f0 f1 f2 f3 f4 f5 f6 (Overlap a b) less is = f5 a b less is
first_verdict items claim certificate i small f0 f1 f2 f3 f4 f5 f6 (NotCrowded n) less is = f6 n less is
first_verdict items claim certificate i small f0 f1 f2 f3 f4 f5 f6 Yes less is = omega arith

pub twice-first : (items : List Item) (claim : List (List ℕ)) (certificate : Certificate) (id : ℕ)
    → length claim ≡ certificate.parts → All (λ part. 0 < length part) claim → All (HasItem items) (ids_of claim)
    → IsTwice (ids_of claim) id → IsVerdict items claim certificate (Twice id)
twice-first items claim certificate id counted filled known is = record {
  applies = is;
  first = first_verdict items claim certificate 3 (omega arith) (λ n h. not_wrong claim certificate n counted)
      (λ k h. not_empty claim k filled) (λ id h. not_unknown items (ids_of claim) id known)
      (λ id h. absurd (omega arith)) (λ id h. absurd (omega arith)) (λ a b h. absurd (omega arith))
      (λ n h. absurd (omega arith));
}

pub missing-first : (items : List Item) (claim : List (List ℕ)) (certificate : Certificate) (id : ℕ)
    → length claim ≡ certificate.parts → All (λ part. 0 < length part) claim → All (HasItem items) (ids_of claim)
    → IsDistinct (ids_of claim)
    → IsMissing items (ids_of claim) id → IsVerdict items claim certificate (Missing id)
missing-first items claim certificate id counted filled known distinct is = record {
  applies = is;
  first = first_verdict items claim certificate 4 (omega arith) (λ n h. not_wrong claim certificate n counted)
      (λ k h. not_empty claim k filled) (λ id h. not_unknown items (ids_of claim) id known)
      (λ id h twice. twice_is_not_distinct (ids_of claim) id twice distinct) (λ id h. absurd (omega arith))
      (λ a b h. absurd (omega arith)) (λ n h. absurd (omega arith));
}

pub overlap-first : (items : List Item) (claim : List (List ℕ)) (certificate : Certificate) (a b : ℕ)
    → length claim ≡ certificate.parts → All (λ part. 0 < length part) claim → All (HasItem items) (ids_of claim)
    → IsDistinct (ids_of claim) → All (λ x. Contains (ids_of claim) x.id) items
    → IsOverlap items claim a b → IsVerdict items claim certificate (Overlap a b)
overlap-first items claim certificate a b counted filled known distinct complete is = record {
  applies = is;
  first = first_verdict items claim certificate 5 (omega arith) (λ n h. not_wrong claim certificate n counted)
      (λ k h. not_empty claim k filled) (λ id h. not_unknown items (ids_of claim) id known)
      (λ id h twice. twice_is_not_distinct (ids_of claim) id twice distinct)
      (λ id h. not_missing items (ids_of claim) id complete) (λ a b h. absurd (omega arith))
      (λ n h. absurd (omega arith));
}

pub not_crowded-first : (items : List Item) (claim : List (List ℕ)) (certificate : Certificate) (n : ℕ) → IdsRise items
    → length claim ≡ certificate.parts → All (λ part. 0 < length part) claim → All (HasItem items) (ids_of claim)
    → IsDistinct (ids_of claim) → All (λ x. Contains (ids_of claim) x.id) items → All (HasNoOverlap items) claim
    → IsNotCrowded items certificate n → IsVerdict items claim certificate (NotCrowded n)
not_crowded-first items claim certificate n rise counted filled known distinct complete apart is = record {
  applies = is;
  first = first_verdict items claim certificate 6 (omega arith) (λ n h. not_wrong claim certificate n counted)
      (λ k h. not_empty claim k filled) (λ id h. not_unknown items (ids_of claim) id known)
      (λ id h twice. twice_is_not_distinct (ids_of claim) id twice distinct)
      (λ id h. not_missing items (ids_of claim) id complete) (λ a b h. not_overlapping items claim a b rise apart)
      (λ n h. absurd (omega arith));
}

-- if all tests succeed, only `Yes` applies
passes-first : (items : List Item) (claim : List (List ℕ)) (certificate : Certificate) → IdsRise items
    → Passes items claim certificate
    → (w : Verdict) → rank w < 7 → Applies items claim certificate w → ⊥
passes-first items claim certificate rise passes =
    first_verdict items claim certificate 7 (omega arith) (λ n h. not_wrong claim certificate n passes.counted)
    (λ k h. not_empty claim k passes.filled) (λ id h. not_unknown items (ids_of claim) id passes.known)
    (λ id h twice. twice_is_not_distinct (ids_of claim) id twice passes.distinct)
    (λ id h. not_missing items (ids_of claim) id passes.complete)
    (λ a b h. not_overlapping items claim a b rise passes.apart)
    (λ n h is. not_crowded items certificate.parts certificate.instant passes.crowded is.1)

pub yes-first : (items : List Item) (claim : List (List ℕ)) (certificate : Certificate) → IdsRise items
    → Passes items claim certificate → IsVerdict items claim certificate Yes
yes-first items claim certificate rise passes =
    record { applies = tt; first = passes-first items claim certificate rise passes }

rank-not_yes : (w : Verdict) → w ≢ Yes → rank w < 7
rank-not_yes (WrongCount n) other = omega arith
rank-not_yes (EmptyPart k) other = omega arith
rank-not_yes (Unknown id) other = omega arith
rank-not_yes (Twice id) other = omega arith
rank-not_yes (Missing id) other = omega arith
rank-not_yes (Overlap a b) other = omega arith
rank-not_yes (NotCrowded n) other = omega arith
rank-not_yes Yes other = absurd (other refl)

-- ---- the least number

least-from_instant : (items : List Item) (parts : List (List Item)) (count : ℕ) (instant : Option ℤ)
    → IsDivision items parts → length parts ≡ count
    → MatchOption instant (items ≡ []) (λ t. (items ≢ []) × (crowd items t ≡ count)) → IsLeast items (length parts)
least-from_instant items parts count None division counted none =
    let no_items : crowd items (pos 0) ≡ 0 = ap (λ l. crowd l (pos 0)) none in
    let no_part : length parts ≡ 0 = ap length ((no_parts items parts division).1 none) in
    IsLeast-from_crowd items parts (pos 0) division (no_items ∙ sym no_part)
least-from_instant items parts count (Some t) division counted right =
    IsLeast-from_crowd items parts t division (right.1 ∙ sym counted)

pub IsLeast-from_certified : (items : List Item) (claim : List (List ℕ)) (certificate : Certificate)
    → IsCertified items claim certificate → IsLeast items certificate.parts
IsLeast-from_certified items claim certificate is =
    let size : length claim ≡ length is.parts =
    sym (ap length is.claimed) ∙ length-map is.parts (map (λ (x : Item). x.id)) in
    let same : length is.parts ≡ certificate.parts = sym size ∙ is.counted in
    subst (IsLeast items) same
    (least-from_instant items is.parts certificate.parts certificate.instant is.division same is.crowded)

-- ---- the fault that was found, or `Yes`

pub verdict-from_fault : (items : List Item) (claim : List (List ℕ)) (certificate : Certificate)
    (fault : Option Verdict) → IdsRise items
    → MatchOption fault (Passes items claim certificate) (λ v. IsVerdict items claim certificate v × (v ≢ Yes))
    → IsVerdict items claim certificate (unwrap_or fault Yes)
verdict-from_fault items claim certificate None rise passes = yes-first items claim certificate rise passes
verdict-from_fault items claim certificate (Some v) rise found = found.0

pub yes-from_fault : (items : List Item) (claim : List (List ℕ)) (certificate : Certificate) (fault : Option Verdict)
    → IdsRise items
    → MatchOption fault (Passes items claim certificate) (λ v. IsVerdict items claim certificate v × (v ≢ Yes))
    → (unwrap_or fault Yes ≡ Yes) ↔ IsCertified items claim certificate
yes-from_fault items claim certificate None rise passes =
    (λ e. IsCertified-from_passes items claim certificate rise passes, λ is. refl)
yes-from_fault items claim certificate (Some v) rise found = (
  λ e. absurd (found.1 e),
  λ is. absurd
      (passes-first items claim certificate rise (Passes-from_certified items claim certificate rise is) v
      (rank-not_yes v found.1) found.0.applies),
)
