-- The check of a division that is claimed by part numbers.
use Rattle.std.specs.Prelude.{◌≡◌, ◌==◌, ◌⊎◌, ℕ, suc, ◌<◌, ℤ, if◌then◌else◌, Option, Some, None, List, [], ◌∷◌, length, slice_index_or}
use Rattle.std.specs.Global.{Vec}
use Rattle.period_core.specs.Point.{IsPointNumber}
use Rattle.dip_core.specs.declared.item.Item.{Item}
use Rattle.cert_core.specs.declared.verdict.Certificate.{Certificate}
use Rattle.cert_core.specs.declared.verdict.Verdict.{Verdict}
use Rattle.cert_core.specs.declared.verdict.Verdict.TheVariants.{WrongCount, EmptyPart, Unknown, Twice, Missing, Overlap, NotCrowded, Yes}
use Rattle.cert_core.specs.Verdict.{IsVerdict}
use Rattle.ruzgalt_c.specs.Rows.{AreRows, periods}

-- The indices of the numbers that equal `k`, counted from `i` on.
abbrev pub indices_of : ℕ → ℕ → List ℕ → List ℕ
indices_of k i [] = []
indices_of k i (p ∷ ps) = if p == k then i ∷ indices_of k (suc i) ps else indices_of k (suc i) ps

-- Each part has the indices of the rows with its number, in ascending order. A row whose number belongs to no part is
-- in no part.
pub record IsClaimOf (part : List ℕ) (claim : List (List ℕ)) : Type 0 where
  pub each : (k : ℕ) → k < length claim → slice_index_or claim k [] ≡ indices_of k 0 part

-- The same for `count` lists.
pub record AreRowsByPart (part : List ℕ) (count : ℕ) (lists : List (Vec ℕ)) : Type 0 where
  pub len : length lists ≡ count
  pub each : (k : ℕ) (d : Vec ℕ) → k < length lists → (slice_index_or lists k d).items ≡ indices_of k 0 part

-- The certificate of these parts and this instant. Without rows, or if `instant` isn't a second of the years 0001 to
-- 9999, it has no instant.
pub record IsCertificateOf (rows parts : ℕ) (instant : ℤ) (certificate : Certificate) : Type 0 where
  pub parts_are : certificate.parts ≡ parts
  pub none : certificate.instant ≡ None → (rows ≡ 0) ⊎ (IsPointNumber instant → ⊥)
  pub some : (t : ℤ) → certificate.instant ≡ Some t → (t ≡ instant) × (0 < rows)

-- The verdict on the division of the rows that the numbers claim.
pub record IsVerdictOfRows (from to : List ℤ) (part : List ℕ) (certificate : Certificate) (verdict : Verdict)
    : Type 0 where
  pub items : List Item
  pub rows : AreRows (periods from to) items
  pub claim : List (List ℕ)
  pub len : length claim ≡ certificate.parts
  pub claimed : IsClaimOf part claim
  pub is : IsVerdict items claim certificate verdict

-- The number of a verdict, and the verdict's own numbers.
abbrev pub Says : Verdict → ℕ → ℕ → ℕ → Type 0
Says Yes code first second = code ≡ 0
Says (WrongCount parts) code first second = (code ≡ 1) × (first ≡ parts)
Says (EmptyPart number) code first second = (code ≡ 2) × (first ≡ number)
Says (Unknown id) code first second = (code ≡ 3) × (first ≡ id)
Says (Twice id) code first second = (code ≡ 4) × (first ≡ id)
Says (Missing id) code first second = (code ≡ 5) × (first ≡ id)
Says (Overlap one other) code first second = (code ≡ 6) × (first ≡ one) × (second ≡ other)
Says (NotCrowded holds) code first second = (code ≡ 7) × (first ≡ holds)
