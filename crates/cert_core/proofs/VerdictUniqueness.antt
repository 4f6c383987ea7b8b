-- At most one verdict is the first that applies.
use Rattle.std.proofs.Common.{◌≡◌, ◌⊎◌, ℕ, zero, suc, ◌<◌, List, [], ◌∷◌, ◌++◌, length, get_or, take, arith, refl, sym, ap, ◌∙◌, subst, inl, inr}
use Rattle.std.specs.Prelude.{Contains}
use Rattle.std.specs.declared.cmp.Ordering.{Ordering}
use Rattle.std.specs.declared.cmp.Ordering.TheVariants.{Less, Equal, Greater}
use Rattle.std.specs.Ordering.{ordering_reverse, ordering_then, int_cmp, nat_cmp, MatchOrdering}
use Rattle.std.proofs.lemmas.Cmp.{ranked}
use Rattle.std.proofs.lemmas.Bool.{cases_lt}
use Rattle.std.proofs.lemmas.List.{get_or_at, get_or_append_left, get_or-take, length-take-le}
use Rattle.std.proofs.lemmas.List.Elements.{All-contains}
use Rattle.std.proofs.lemmas.Option.{slice_get_within, get_or_from_slice_get}
use Rattle.dip_core.specs.declared.item.Item.{Item}
use Rattle.dip_core.specs.Item.{IdsRise, IsBefore, place_cmp}
use Rattle.dip_core.proofs.OrderLemmas.{place_total}
use Rattle.cert_core.specs.declared.verdict.Certificate.{Certificate}
use Rattle.cert_core.specs.declared.verdict.Verdict.{Verdict}
use Rattle.cert_core.specs.declared.verdict.Verdict.TheVariants.{WrongCount, EmptyPart, Unknown, Twice, Missing, Overlap, NotCrowded, Yes}
use Rattle.cert_core.specs.Claim.{ids_of, IsEmptyPart}
use Rattle.cert_core.specs.Ids.{IsTwice}
use Rattle.cert_core.specs.Verdict.{IsWrongCount, HasItem, IsUnknown, IsMissing, HasNoOverlap, IsJustBefore, IsFirstOverlap, IsOverlap, IsNotCrowded, Applies, rank, IsVerdict}
use Rattle.cert_core.proofs.IdsLemmas.{same_item, distinct-differ}
use Rattle.cert_core.proofs.VerdictLemmas.{not_overlapping_part}

-- ---- the lower of two indices

-- if a list is split at two indices, the number at the lower one occurs before the other
sooner : (ids b1 a1 b2 a2 : List ℕ) (x1 x2 : ℕ) → ids ≡ b1 ++ x1 ∷ a1 → ids ≡ b2 ++ x2 ∷ a2 → length b1 < length b2
    → Contains b2 x1
sooner ids b1 a1 b2 a2 x1 x2 one other less =
    let here : get_or (b1 ++ x1 ∷ a1) (length b1) x1 ≡ x1 = get_or_at b1 x1 a1 x1 (length b1) refl in
    let there : get_or (b2 ++ x2 ∷ a2) (length b1) x1 ≡ get_or b2 (length b1) x1 =
    get_or_append_left b2 (x2 ∷ a2) x1 (length b1) less in
    (length b1, less, sym there ∙ (ap (λ l. get_or l (length b1) x1) (sym other ∙ one) ∙ here))

same_split : (ids b1 a1 b2 a2 : List ℕ) (x1 x2 : ℕ) → ids ≡ b1 ++ x1 ∷ a1 → ids ≡ b2 ++ x2 ∷ a2 → length b1 ≡ length b2
    → x1 ≡ x2
same_split ids b1 a1 b2 a2 x1 x2 one other same =
    sym (get_or_at b1 x1 a1 0 (length b1) refl)
    ∙ (ap (λ l. get_or l (length b1) 0) (sym one ∙ other) ∙ get_or_at b2 x2 a2 0 (length b1) (sym same))

-- three cases: less, greater or equal
first_of_two : (m n : ℕ) {G : Type 0} → (m < n → G) → (n < m → G) → (m ≡ n → G) → G
first_of_two m n one other same = elim (cases_lt m n) [
  | inl less ↦ one less
  | inr more ↦ elim (cases_lt n m) [ inl less ↦ other less | inr most ↦ same (omega arith) ]
]

one_empty : (claim : List (List ℕ)) (k j : ℕ) → IsEmptyPart claim k → IsEmptyPart claim j → k ≡ j
one_empty claim k j one other =
    first_of_two k j (λ less. absurd (other.first k less one.empty)) (λ less. absurd (one.first j less other.empty))
    (λ same. same)

one_unknown : (items : List Item) (ids : List ℕ) (a b : ℕ) → IsUnknown items ids a → IsUnknown items ids b → a ≡ b
one_unknown items ids a b one other =
    first_of_two (length one.before) (length other.before)
    (λ less. absurd
    (one.unknown
    (All-contains (HasItem items) other.before a other.first
    (sooner ids one.before one.after other.before other.after a b one.stands other.stands less))))
    (λ less. absurd
    (other.unknown
    (All-contains (HasItem items) one.before b one.first
    (sooner ids other.before other.after one.before one.after b a other.stands one.stands less))))
    (λ same. same_split ids one.before one.after other.before other.after a b one.stands other.stands same)

-- a number that is repeated in a shorter prefix contradicts that a longer prefix has no repetition
twice_sooner : (ids : List ℕ) (a b : ℕ) (one : IsTwice ids a) (other : IsTwice ids b)
    → length one.before < length other.before → ⊥
twice_sooner ids a b one other less =
    let (p, h, is) = one.again in
    let within : p < length other.before = omega arith in
    let front : get_or (one.before ++ a ∷ one.after) p a ≡ get_or one.before p a =
    get_or_append_left one.before (a ∷ one.after) a p h in
    let first : get_or (other.before ++ b ∷ other.after) p a ≡ get_or other.before p a =
    get_or_append_left other.before (b ∷ other.after) a p within in
    let here : get_or (one.before ++ a ∷ one.after) (length one.before) a ≡ a =
    get_or_at one.before a one.after a (length one.before) refl in
    let last : get_or (other.before ++ b ∷ other.after) (length one.before) a ≡ get_or other.before
    (length one.before) a = get_or_append_left other.before (b ∷ other.after) a (length one.before) less in
    let same : other.before ++ b ∷ other.after ≡ one.before ++ a ∷ one.after = sym other.stands ∙ one.stands in
    distinct-differ other.before other.first p (length one.before) a h less
    (sym first
    ∙ (ap (λ l. get_or l p a) same
    ∙ (front ∙ (is ∙ (sym here ∙ (ap (λ l. get_or l (length one.before) a) (sym same) ∙ last))))))

one_twice : (ids : List ℕ) (a b : ℕ) → IsTwice ids a → IsTwice ids b → a ≡ b
one_twice ids a b one other =
    first_of_two (length one.before) (length other.before)
    (λ less. absurd (twice_sooner ids a b one other less))
    (λ less. absurd (twice_sooner ids b a other one less))
    (λ same. same_split ids one.before one.after other.before other.after a b one.stands other.stands same)

one_missing : (items : List Item) (ids : List ℕ) (a b : ℕ) → IsMissing items ids a → IsMissing items ids b → a ≡ b
one_missing items ids a b one other =
    first_of_two a b
    (λ less. absurd (one.missing (other.least a one.known less)))
    (λ less. absurd (other.missing (one.least b other.known less)))
    (λ same. same)

-- ---- the first overlap

last_equal : (r s t : Ordering) → ordering_then r (ordering_then s t) ≡ Equal → t ≡ Equal
last_equal Less s t h = cc (h)
last_equal Equal Less t h = cc (h)
last_equal Equal Equal t h = h
last_equal Equal Greater t h = cc (h)
last_equal Greater s t h = cc (h)

order_cases : (x y : Item) (r : Ordering) → place_cmp x y ≡ r → IsBefore x y ⊎ (IsBefore y x ⊎ (x.id ≡ y.id))
order_cases x y Less e = inl e
order_cases x y Greater e = inr (inl (place_total.antisymm y x ∙ ap ordering_reverse e))
order_cases x y Equal e =
    let equal : nat_cmp x.id y.id ≡ Equal =
    last_equal (int_cmp x.period.from y.period.from) (int_cmp x.period.to y.period.to) (nat_cmp x.id y.id) e in
    let same : MatchOrdering Equal (x.id < y.id) (x.id ≡ y.id) (y.id < x.id) = ranked x.id y.id Equal (sym equal) in
    inr (inr same)

one_just_before : (items : List Item) (part : List ℕ) (x v y : Item) → IsJustBefore items part x y
    → IsJustBefore items part v y → x.id ≡ v.id
one_just_before items part x v y one other = elim (order_cases x v (place_cmp x v) refl) [
  | inl before ↦ absurd (one.between v other.one before other.before)
  | inr (inl before) ↦ absurd (other.between x one.one before one.before)
  | inr (inr same) ↦ same
]

one_first_overlap : (items : List Item) (part : List ℕ) (a b c d : ℕ) → IdsRise items → IsFirstOverlap items part a b
    → IsFirstOverlap items part c d → (a ≡ c) × (b ≡ d)
one_first_overlap items part a b c d rise one other = elim (order_cases one.y other.y (place_cmp one.y other.y) refl) [
  | inl before ↦ absurd (other.first one.x one.y one.neighbours before one.overlap)
  | inr (inl before) ↦ absurd (one.first other.x other.y other.neighbours before other.overlap)
  | inr (inr same) ↦
      let item : one.y ≡ other.y =
      same_item items rise one.y other.y one.neighbours.other.0 other.neighbours.other.0 same in
      let first : one.x.id ≡ other.x.id =
      one_just_before items part one.x other.x one.y one.neighbours
      (subst (IsJustBefore items part other.x) (sym item) other.neighbours) in
      (sym one.ids.0 ∙ (first ∙ other.ids.0), sym one.ids.1 ∙ (same ∙ other.ids.1))
]

overlap_sooner : (items : List Item) (claim : List (List ℕ)) (a b c d : ℕ) → IdsRise items
    → (one : IsOverlap items claim a b) (other : IsOverlap items claim c d) → one.number < other.number → ⊥
overlap_sooner items claim a b c d rise one other less =
    let within : other.number < length claim = slice_get_within claim other.number other.part other.is_part in
    let front : length (take other.number claim) ≡ other.number = length-take-le other.number claim (omega arith) in
    let here : get_or (take other.number claim) one.number [] ≡ one.part =
    get_or-take other.number claim one.number [] less
    ∙ get_or_from_slice_get claim one.number one.part [] one.is_part in
    let none : HasNoOverlap items one.part =
    subst (HasNoOverlap items) here (other.earlier one.number [] (omega arith)) in
    not_overlapping_part items one.part a b rise none one.overlap

one_overlap : (items : List Item) (claim : List (List ℕ)) (a b c d : ℕ) → IdsRise items → IsOverlap items claim a b
    → IsOverlap items claim c d → (a ≡ c) × (b ≡ d)
one_overlap items claim a b c d rise one other =
    first_of_two one.number other.number
    (λ less. absurd (overlap_sooner items claim a b c d rise one other less))
    (λ less. absurd (overlap_sooner items claim c d a b rise other one less))
    (λ same.
    let part : one.part ≡ other.part =
    sym (get_or_from_slice_get claim one.number one.part [] one.is_part)
    ∙ (ap (λ n. get_or claim n []) same ∙ get_or_from_slice_get claim other.number other.part [] other.is_part) in
    one_first_overlap items other.part a b c d rise
    (subst (λ p. IsFirstOverlap items p a b) part one.overlap) other.overlap)

-- ---- a verdict by its rank and its numbers

abbrev first_number : Verdict → ℕ
first_number (WrongCount n) = n
first_number (EmptyPart n) = n
first_number (Unknown n) = n
first_number (Twice n) = n
first_number (Missing n) = n
first_number (Overlap n m) = n
first_number (NotCrowded n) = n
first_number Yes = 0

abbrev second_number : Verdict → ℕ
second_number (WrongCount n) = 0
second_number (EmptyPart n) = 0
second_number (Unknown n) = 0
second_number (Twice n) = 0
second_number (Missing n) = 0
second_number (Overlap n m) = m
second_number (NotCrowded n) = 0
second_number Yes = 0

abbrev made : ℕ → ℕ → ℕ → Verdict
made zero n m = WrongCount n
made (suc zero) n m = EmptyPart n
made (suc (suc zero)) n m = Unknown n
made (suc (suc (suc zero))) n m = Twice n
made (suc (suc (suc (suc zero)))) n m = Missing n
made (suc (suc (suc (suc (suc zero))))) n m = Overlap n m
made (suc (suc (suc (suc (suc (suc zero)))))) n m = NotCrowded n
made (suc (suc (suc (suc (suc (suc (suc k))))))) n m = Yes

made-numbers : (v : Verdict) → made (rank v) (first_number v) (second_number v) ≡ v
made-numbers (WrongCount n) = refl
made-numbers (EmptyPart n) = refl
made-numbers (Unknown n) = refl
made-numbers (Twice n) = refl
made-numbers (Missing n) = refl
made-numbers (Overlap n m) = refl
made-numbers (NotCrowded n) = refl
made-numbers Yes = refl

-- the verdict's statement in terms of these
abbrev AppliesAt : List Item → List (List ℕ) → Certificate → ℕ → ℕ → ℕ → Type 0
AppliesAt items claim certificate zero n m = IsWrongCount claim certificate n × (m ≡ 0)
AppliesAt items claim certificate (suc zero) n m = IsEmptyPart claim n × (m ≡ 0)
AppliesAt items claim certificate (suc (suc zero)) n m = IsUnknown items (ids_of claim) n × (m ≡ 0)
AppliesAt items claim certificate (suc (suc (suc zero))) n m = IsTwice (ids_of claim) n × (m ≡ 0)
AppliesAt items claim certificate (suc (suc (suc (suc zero)))) n m = IsMissing items (ids_of claim) n × (m ≡ 0)
AppliesAt items claim certificate (suc (suc (suc (suc (suc zero))))) n m = IsOverlap items claim n m
AppliesAt items claim certificate (suc (suc (suc (suc (suc (suc zero)))))) n m =
    IsNotCrowded items certificate n × (m ≡ 0)
AppliesAt items claim certificate (suc (suc (suc (suc (suc (suc (suc k))))))) n m = (n ≡ 0) × (m ≡ 0)

applies_at : (items : List Item) (claim : List (List ℕ)) (certificate : Certificate) (v : Verdict)
    → Applies items claim certificate v → AppliesAt items claim certificate (rank v) (first_number v) (second_number v)
applies_at items claim certificate (WrongCount n) is = (is, refl)
applies_at items claim certificate (EmptyPart n) is = (is, refl)
applies_at items claim certificate (Unknown n) is = (is, refl)
applies_at items claim certificate (Twice n) is = (is, refl)
applies_at items claim certificate (Missing n) is = (is, refl)
applies_at items claim certificate (Overlap n m) is = is
applies_at items claim certificate (NotCrowded n) is = (is, refl)
applies_at items claim certificate Yes is = (refl, refl)

one_at : (items : List Item) (claim : List (List ℕ)) (certificate : Certificate) (i a b c d : ℕ) → IdsRise items
    → AppliesAt items claim certificate i a b → AppliesAt items claim certificate i c d → (a ≡ c) × (b ≡ d)
one_at items claim certificate zero a b c d rise one other = (one.0.0 ∙ sym other.0.0, one.1 ∙ sym other.1)
one_at items claim certificate (suc zero) a b c d rise one other =
    (one_empty claim a c one.0 other.0, one.1 ∙ sym other.1)
one_at items claim certificate (suc (suc zero)) a b c d rise one other =
    (one_unknown items (ids_of claim) a c one.0 other.0, one.1 ∙ sym other.1)
one_at items claim certificate (suc (suc (suc zero))) a b c d rise one other =
    (one_twice (ids_of claim) a c one.0 other.0, one.1 ∙ sym other.1)
one_at items claim certificate (suc (suc (suc (suc zero)))) a b c d rise one other =
    (one_missing items (ids_of claim) a c one.0 other.0, one.1 ∙ sym other.1)
one_at items claim certificate (suc (suc (suc (suc (suc zero))))) a b c d rise one other =
    one_overlap items claim a b c d rise one other
one_at items claim certificate (suc (suc (suc (suc (suc (suc zero)))))) a b c d rise one other =
    (one.0.0 ∙ sym other.0.0, one.1 ∙ sym other.1)
one_at items claim certificate (suc (suc (suc (suc (suc (suc (suc k))))))) a b c d rise one other =
    (one.0 ∙ sym other.0, one.1 ∙ sym other.1)

pub one_verdict : (items : List Item) (claim : List (List ℕ)) (certificate : Certificate) (v w : Verdict)
    → IdsRise items → IsVerdict items claim certificate v → IsVerdict items claim certificate w → v ≡ w
one_verdict items claim certificate v w rise one other =
    first_of_two (rank v) (rank w)
    (λ less. absurd (other.first v less one.applies))
    (λ less. absurd (one.first w less other.applies))
    (λ same.
    let (a, b) = one_at items claim certificate (rank w) (first_number v) (second_number v) (first_number w)
    (second_number w) rise
    (subst (λ i. AppliesAt items claim certificate i (first_number v) (second_number v)) same
    (applies_at items claim certificate v one.applies))
    (applies_at items claim certificate w other.applies) in
    sym (made-numbers v) ∙ (ap (λ i. made i (first_number v) (second_number v)) same
    ∙ (ap (λ n. made (rank w) n (second_number v)) a
    ∙ (ap (λ m. made (rank w) (first_number w) m) b ∙ made-numbers w))))
