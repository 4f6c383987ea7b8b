-- Each instant of a left row is in the join or in the anti-join.
use Rattle.std.proofs.Common.{◌≡◌, ◌⊎◌, ◌↔◌, inl, inr, ℤ, List, [], ◌∷◌, Option, Some, None, refl, sym, subst, arith, ◌∙◌}
use Rattle.std.specs.Prelude.{◌<ℤ◌, ◌≤ℤ◌, Contains}
use Rattle.std.proofs.lemmas.Int.{ints}
use Rattle.period_core.specs.declared.period.Period.{Period}
use Rattle.period_core.specs.Period.{Holds, HoldsIn, meet}
use Rattle.period_core.proofs.PeriodLemmas.{meet-holds}
use Rattle.row_core.specs.Rows.{RowsRise}
use Rattle.row_core.specs.declared.row.Row.{Row}
use Rattle.list_core.proofs.RisingLemmas.{Contains-head, Contains-none}
use Rattle.match_core.specs.Columns.{MatchesOn}
use Rattle.match_core.proofs.Matching.{match_or_not}
use Rattle.match_core.proofs.SentLemmas.{row_once}
use Rattle.merge_core.specs.Hits.{IsShared}
use Rattle.merge_core.proofs.MaximalAround.{maximal_around}
use Rattle.merge_core.proofs.SharedLemmas.{by_order}
use Rattle.join_core.specs.declared.rows.JoinRow.{JoinRow}
use Rattle.join_core.specs.Join.{IsJoin}
use Rattle.anti_core.specs.declared.rows.AntiRow.{AntiRow}
use Rattle.anti_core.specs.Anti.{IsAnti, IsMet, IsUnmet}
use Rattle.anti_core.proofs.AntiExistence.{met-cases, met-more}
use Rattle.query_core.specs.Outer.{EachInstantIsListed, IsAlone, IsJoined, NoInstantIsListedTwice, NoOtherIsListed}

-- it is decidable whether a period holds an instant
holds_or_not : (p : Period) (t : ℤ) → Holds p t ⊎ (Holds p t → ⊥)
holds_or_not p t = elim (by_order p.from t) [
  | inl low ↦ elim (by_order p.to t) [
    | inl late ↦ inr (λ h. let early : t <ℤ p.to = h.1 in omega (arith, ints))
    | inr early ↦ inl (low, early)
  ]
  | inr before ↦ inr (λ h. let low : p.from ≤ℤ t = h.0 in omega (arith, ints))
]

-- two periods that hold an instant share a period that holds it
shared_by : (a b : Period) (t : ℤ) → Holds a t → Holds b t → (met : Option Period)
    → ((u : ℤ) → HoldsIn met u ↔ (Holds a u × Holds b u)) → (p : Period) × IsShared a b p × Holds p t
shared_by a b t one other None holds = absurd ((holds t).1 (one, other))
shared_by a b t one other (Some p) holds = (p, holds, (holds t).1 (one, other))

module _ (Matches : Row → Row → Type 0) (decided : (x y : Row) → Matches x y ⊎ (Matches x y → ⊥)) where
  -- it is decidable whether an instant is met
  met_or_not : (right : List Row) (x : Row) (t : ℤ) → IsMet Matches right x t ⊎ (IsMet Matches right x t → ⊥)
  met_or_not [] x t = inr (λ m. Contains-none m.by m.by_in)
  met_or_not (y ∷ right) x t = elim (met_or_not right x t) [
    | inl met ↦ inl (met-more Matches decided x y right t met)
    | inr unmet ↦ elim (decided x y) [
      | inl same ↦ elim (holds_or_not y.period t) [
        | inl held ↦ inl (record { by = y; by_in = Contains-head y right; matches = same; holds = held })
        | inr free ↦ inr (λ m. elim (met-cases Matches decided x y right t m) [
          | inl now ↦ free now.1
          | inr before ↦ unmet before
        ])
      ]
      | inr differ ↦ inr (λ m. elim (met-cases Matches decided x y right t m) [
        | inl now ↦ differ now.0
        | inr before ↦ unmet before
      ])
    ]
  ]

  -- it is decidable whether it is unmet
  unmet_or_not : (right : List Row) (x : Row) (t : ℤ) → IsUnmet Matches right x t ⊎ (IsUnmet Matches right x t → ⊥)
  unmet_or_not right x t = elim (holds_or_not x.period t) [
    | inl held ↦ elim (met_or_not right x t) [
      | inl met ↦ inr (λ u. u.unmet met)
      | inr unmet ↦ inl (record { held = held; unmet = unmet })
    ]
    | inr free ↦ inr (λ u. free u.held)
  ]

  module _ (left right : List Row) (joined : List JoinRow) (alone : List AntiRow)
      (is_join : IsJoin Matches left right joined)
      (is_anti : IsAnti Matches left right alone) (x : Row) (t : ℤ) (x_in : Contains left x) where
    -- a met instant is in the join
    joined_of : Holds x.period t → IsMet Matches right x t → IsJoined joined x.id t
    joined_of held m =
        let (p, shared, inside) =
        shared_by x.period m.by.period t held m.holds (meet x.period m.by.period) (meet-holds x.period m.by.period) in
        let row : JoinRow = record { period = p; left = x.id; right = m.by.id } in
        record {
          row = row;
          row_in = (is_join.exactly row).1 (record {
            x = x;
            y = m.by;
            x_in = x_in;
            y_in = m.by_in;
            left_id = refl;
            right_id = refl;
            matches = m.matches;
            shared = shared;
          });
          left_id = refl;
          holds = inside;
        }

    -- an unmet instant is in the anti-join
    alone_of : IsUnmet Matches right x t → IsAlone alone x.id t
    alone_of u =
        let (p, inside, maximal) =
        maximal_around (IsUnmet Matches right x) (unmet_or_not right x) x.period.from x.period.to (λ s v. v.held.0)
        (λ s v. v.held.1) t u in
        let row : AntiRow = record { id = x.id; period = p } in
        record {
          row = row;
          row_in = (is_anti.exactly row).1 (record { x = x; x_in = x_in; id = refl; maximal = maximal });
          id_is = refl;
          holds = inside;
        }

    -- so each instant is in one of them
    listed : Holds x.period t → IsJoined joined x.id t ⊎ IsAlone alone x.id t
    listed held = elim (met_or_not right x t) [
      | inl met ↦ inl (joined_of held met)
      | inr unmet ↦ inr (alone_of (record { held = held; unmet = unmet }))
    ]

    module _ (rise : RowsRise left) where
      -- an instant in the join is met
      met_of : IsJoined joined x.id t → Holds x.period t × IsMet Matches right x t
      met_of is =
          let of = (is_join.exactly is.row).0 is.row_in in
          let same : of.x ≡ x = row_once left rise of.x x of.x_in x_in (sym of.left_id ∙ is.left_id) in
          let both : Holds of.x.period t × Holds of.y.period t = (of.shared t).0 is.holds in (
            subst (λ (v : Row). Holds v.period t) same both.0,
            record {
              by = of.y;
              by_in = of.y_in;
              matches = subst (λ (v : Row). Matches v of.y) same of.matches;
              holds = both.1;
            },
          )

      -- an instant in the anti-join is unmet
      unmet_of : IsAlone alone x.id t → IsUnmet Matches right x t
      unmet_of is =
          let of = (is_anti.exactly is.row).0 is.row_in in
          let same : of.x ≡ x = row_once left rise of.x x of.x_in x_in (sym of.id ∙ is.id_is) in
          subst (λ (v : Row). IsUnmet Matches right v t) same (of.maximal.inside t is.holds)

      -- so no instant is in both
      apart : IsJoined joined x.id t → IsAlone alone x.id t → ⊥
      apart one other = (unmet_of other).unmet (met_of one).1

      -- and an instant in one of them is an instant of the row
      only : IsJoined joined x.id t ⊎ IsAlone alone x.id t → Holds x.period t
      only is = elim is [ inl one ↦ (met_of one).0 | inr other ↦ (unmet_of other).held ]

-- for any columns
pub each_instant_is_listed : EachInstantIsListed
each_instant_is_listed left_columns right_columns on left right joined alone is_join is_anti x t x_in =
    listed (MatchesOn left_columns right_columns on) (match_or_not left_columns right_columns on) left right joined alone
    is_join is_anti x t x_in

pub no_instant_is_listed_twice : NoInstantIsListedTwice
no_instant_is_listed_twice left_columns right_columns on left right joined alone is_join is_anti x t x_in rise =
    apart (MatchesOn left_columns right_columns on) (match_or_not left_columns right_columns on) left right joined alone
    is_join is_anti x t x_in rise

pub no_other_is_listed : NoOtherIsListed
no_other_is_listed left_columns right_columns on left right joined alone is_join is_anti x t x_in rise =
    only (MatchesOn left_columns right_columns on) (match_or_not left_columns right_columns on) left right joined alone
    is_join is_anti x t x_in rise
