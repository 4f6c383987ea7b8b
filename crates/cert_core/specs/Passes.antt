-- The facts that hold if no verdict applies except `Yes`.
use Rattle.std.specs.Prelude.{◌≡◌, ℕ, ◌<◌, List, length, All, Contains}
use Rattle.dip_core.specs.declared.item.Item.{Item}
use Rattle.cert_core.specs.declared.verdict.Certificate.{Certificate}
use Rattle.cert_core.specs.Claim.{ids_of}
use Rattle.cert_core.specs.Ids.{IsDistinct}
use Rattle.cert_core.specs.Verdict.{HasItem, HasNoOverlap, HasRightInstant}

-- All tests of a check succeed.
pub record Passes (items : List Item) (claim : List (List ℕ)) (certificate : Certificate) : Type 0 where
  pub counted : length claim ≡ certificate.parts
  pub filled : All (λ part. 0 < length part) claim
  pub known : All (HasItem items) (ids_of claim)
  pub distinct : IsDistinct (ids_of claim)
  pub complete : All (λ x. Contains (ids_of claim) x.id) items
  pub apart : All (HasNoOverlap items) claim
  pub crowded : HasRightInstant items certificate
