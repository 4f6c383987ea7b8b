-- What each verdict means for the items, the claim and the certificate, and which verdict is the first.
use Rattle.std.specs.Prelude.{◌≡◌, ◌≢◌, ◌⊎◌, ℕ, ◌<◌, ℤ, List, [], ◌∷◌, ◌++◌, length, take, map, All, Any, Contains, Option, Some, None, MatchOption, slice_get}
use Rattle.period_core.specs.Period.{Overlap}
use Rattle.dip_core.specs.declared.item.Item.{Item}
use Rattle.dip_core.specs.Item.{crowd, IsBefore}
use Rattle.dip_core.specs.Division.{IsDivision}
use Rattle.cert_core.specs.declared.verdict.Certificate.{Certificate}
use Rattle.cert_core.specs.declared.verdict.Verdict.{Verdict}
use Rattle.cert_core.specs.declared.verdict.Verdict.TheVariants.{WrongCount, EmptyPart, Unknown, Twice, Missing, NotCrowded, Yes}
use Rattle.cert_core.specs.declared.verdict.Verdict.TheVariants as verdict
use Rattle.cert_core.specs.Claim.{ids_of, IsEmptyPart}
use Rattle.cert_core.specs.Ids.{IsTwice}

-- ---- the parts and their ids

-- The claim has `n` parts, and the certificate states another number.
abbrev pub IsWrongCount : List (List ℕ) → Certificate → ℕ → Type 0
IsWrongCount claim certificate n = (n ≡ length claim) × (n ≢ certificate.parts)

-- Some item has the id.
abbrev pub HasItem : List Item → ℕ → Type 0
HasItem items id = Any (λ x. x.id ≡ id) items

-- `id` is the first of the ids that no item has.
pub record IsUnknown (items : List Item) (ids : List ℕ) (id : ℕ) : Type 0 where
  pub before : List ℕ
  pub after : List ℕ
  pub stands : ids ≡ before ++ id ∷ after
  pub unknown : HasItem items id → ⊥
  pub first : All (HasItem items) before

-- `id` is the least item id that isn't among the ids.
pub record IsMissing (items : List Item) (ids : List ℕ) (id : ℕ) : Type 0 where
  pub known : HasItem items id
  pub missing : Contains ids id → ⊥
  pub least : (other : ℕ) → HasItem items other → other < id → Contains ids other

-- ---- the overlaps

-- `x` is an item of the part.
abbrev pub IsItemOf : List Item → List ℕ → Item → Type 0
IsItemOf items part x = Contains items x × Contains part x.id

-- No two items of the part overlap. Items are distinguished by their ids.
abbrev pub HasNoOverlap : List Item → List ℕ → Type 0
HasNoOverlap items part =
    (x y : Item) → IsItemOf items part x → IsItemOf items part y → x.id ≢ y.id → Overlap x.period y.period → ⊥

-- `x` is the part's item just before `y`, by start, end and id.
pub record IsJustBefore (items : List Item) (part : List ℕ) (x y : Item) : Type 0 where
  pub one : IsItemOf items part x
  pub other : IsItemOf items part y
  pub before : IsBefore x y
  pub between : (z : Item) → IsItemOf items part z → IsBefore x z → IsBefore z y → ⊥

-- By start, end and id, `b` is the id of the part's first item that overlaps the item just before it, and `a` is the
-- id of the item before it.
pub record IsFirstOverlap (items : List Item) (part : List ℕ) (a b : ℕ) : Type 0 where
  pub x : Item
  pub y : Item
  pub ids : (x.id ≡ a) × (y.id ≡ b)
  pub neighbours : IsJustBefore items part x y
  pub overlap : Overlap x.period y.period
  pub first : (v w : Item) → IsJustBefore items part v w → IsBefore w y → Overlap v.period w.period → ⊥

-- `a` and `b` are the first overlap in the first part that has one.
pub record IsOverlap (items : List Item) (claim : List (List ℕ)) (a b : ℕ) : Type 0 where
  pub number : ℕ
  pub part : List ℕ
  pub is_part : slice_get claim number ≡ Some part
  pub earlier : All (HasNoOverlap items) (take number claim)
  pub overlap : IsFirstOverlap items part a b

-- ---- the instant

-- How many items hold the instant; 0 without an instant.
abbrev pub holders : List Item → Option ℤ → ℕ
holders items None = 0
holders items (Some t) = crowd items t

-- The instant's overlap count is the certificate's number of parts; without items the certificate has no instant.
abbrev pub HasRightInstant : List Item → Certificate → Type 0
HasRightInstant items certificate =
    MatchOption certificate.instant (items ≡ []) (λ t. (items ≢ []) × (crowd items t ≡ certificate.parts))

-- The certificate's instant is wrong: it is missing although there are items, or given although there are none, or its
-- overlap count isn't the certificate's number of parts. `n` items hold it.
abbrev pub IsNotCrowded : List Item → Certificate → ℕ → Type 0
IsNotCrowded items certificate n =
    (n ≡ holders items certificate.instant)
    × MatchOption certificate.instant (items ≢ []) (λ t. (items ≡ []) ⊎ (crowd items t ≢ certificate.parts))

-- ---- the verdict

-- The verdict's statement is true.
abbrev pub Applies : List Item → List (List ℕ) → Certificate → Verdict → Type 0
Applies items claim certificate (WrongCount n) = IsWrongCount claim certificate n
Applies items claim certificate (EmptyPart k) = IsEmptyPart claim k
Applies items claim certificate (Unknown id) = IsUnknown items (ids_of claim) id
Applies items claim certificate (Twice id) = IsTwice (ids_of claim) id
Applies items claim certificate (Missing id) = IsMissing items (ids_of claim) id
Applies items claim certificate (verdict.Overlap a b) = IsOverlap items claim a b
Applies items claim certificate (NotCrowded n) = IsNotCrowded items certificate n
Applies items claim certificate Yes = Unit {0}

-- The order of the verdicts.
abbrev pub rank : Verdict → ℕ
rank (WrongCount n) = 0
rank (EmptyPart k) = 1
rank (Unknown id) = 2
rank (Twice id) = 3
rank (Missing id) = 4
rank (verdict.Overlap a b) = 5
rank (NotCrowded n) = 6
rank Yes = 7

-- The first verdict that applies.
pub record IsVerdict (items : List Item) (claim : List (List ℕ)) (certificate : Certificate)
    (verdict : Verdict) : Type 0 where
  pub applies : Applies items claim certificate verdict
  pub first : (other : Verdict) → rank other < rank verdict → Applies items claim certificate other → ⊥

-- The claim lists, part by part, the ids of a division of the items. Its number of parts is the certificate's, and the
-- certificate's instant is right.
pub record IsCertified (items : List Item) (claim : List (List ℕ)) (certificate : Certificate) : Type 0 where
  pub parts : List (List Item)
  pub division : IsDivision items parts
  pub claimed : map (λ part. map (λ x. x.id) part) parts ≡ claim
  pub counted : length claim ≡ certificate.parts
  pub crowded : HasRightInstant items certificate
