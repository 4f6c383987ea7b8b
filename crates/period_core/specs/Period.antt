-- A period is the set of the numbers t with from <= t < to.
use Rattle.std.specs.Prelude.{◌≡◌, ℤ, ◌<ℤ◌, ◌≤ℤ◌, ◌↔◌, Bool, true, false, not, ◌&&◌, int_lt, refl, Option, Some, None}
use Rattle.std.proofs.Common.{T, subst, sym}
use Rattle.std.specs.Int.{int_min, int_max}
use Rattle.std.specs.Int.Signed.{lt_z_yes}
use Rattle.period_core.specs.declared.period.Period.{Period}

-- the period contains the instant
abbrev pub Holds : Period → ℤ → Type 0
Holds p t = (p.from ≤ℤ t) × (t <ℤ p.to)

-- the same, as a test
abbrev pub holds_at : ℤ → Period → Bool
holds_at t p = not (int_lt t p.from) && int_lt t p.to

-- the periods have a common instant
abbrev pub Overlap : Period → Period → Type 0
Overlap x y = (t : ℤ) × Holds x t × Holds y t

-- both have the same instants
abbrev pub HoldAlike : Period → Period → Type 0
HoldAlike x y = (t : ℤ) → Holds x t ↔ Holds y t

-- each instant of y is one of x
abbrev pub Includes : Period → Period → Type 0
Includes x y = (t : ℤ) → Holds y t → Holds x t

-- each instant of x is before each of y
abbrev pub Precedes : Period → Period → Type 0
Precedes x y = (s t : ℤ) → Holds x s → Holds y t → s <ℤ t

-- each instant of x is before each of y, and no instant is between them
abbrev pub PrecedesAtOnce : Period → Period → Type 0
PrecedesAtOnce x y = Precedes x y × ((t : ℤ) → ((s : ℤ) → Holds x s → s <ℤ t) → ((u : ℤ) → Holds y u → t <ℤ u) → ⊥)

-- the instants of an optional period; `None` has none
abbrev pub HoldsIn : Option Period → ℤ → Type 0
HoldsIn None t = ⊥
HoldsIn (Some p) t = Holds p t

-- the period between two instants, if they are in order
abbrev pub between_if : (from to : ℤ) (ordered : Bool) → int_lt from to ≡ ordered → Option Period
between_if from to true e = Some (record { from = from; to = to; ordered = lt_z_yes (subst T (sym e) tt) })
between_if from to false e = None

-- the period of the instants from one on and before the other, if there is such an instant
abbrev pub between : ℤ → ℤ → Option Period
between from to = between_if from to (int_lt from to) refl

-- the common instants
abbrev pub meet : Period → Period → Option Period
meet x y = between (int_max x.from y.from) (int_min x.to y.to)

-- the instants of x before y starts
abbrev pub before : Period → Period → Option Period
before x y = between x.from (int_min x.to y.from)

-- the instants of x from the end of y on
abbrev pub after : Period → Period → Option Period
after x y = between (int_max x.from y.to) x.to
