-- The maximal periods of a row's unmet instants, by their borders.
use Rattle.std.proofs.Common.{◌⊎◌, ◌↔◌, List, [], ◌∷◌, inl, inr, arith}
use Rattle.std.specs.Prelude.{ℤ, pos, ◌-ℤ◌, ◌≤ℤ◌, ◌<ℤ◌}
use Rattle.std.proofs.lemmas.Int.{ints}
use Rattle.period_core.specs.declared.period.Period.{Period}
use Rattle.period_core.specs.Period.{Holds}
use Rattle.row_core.specs.declared.row.Row.{Row}
use Rattle.row_core.specs.declared.schema.Column.{Column}
use Rattle.list_core.proofs.RisingLemmas.{Contains-head, Contains-none}
use Rattle.row_core.specs.Name.{NamePair}
use Rattle.match_core.specs.Columns.{MatchesOn}
use Rattle.match_core.proofs.Matching.{match_or_not}
use Rattle.merge_core.specs.Gaps.{IsMaximal}
use Rattle.merge_core.proofs.SharedLemmas.{by_order, first_held}
use Rattle.anti_core.specs.Anti.{IsMet, IsUnmet, IsBordered}
use Rattle.anti_core.proofs.AntiExistence.{met-more, met-cases}

module _ (Matches : Row → Row → Type 0) (decided : (x y : Row) → Matches x y ⊎ (Matches x y → ⊥)) where
  -- it is decidable whether a period holds an instant
  holds_or_not : (p : Period) (t : ℤ) → Holds p t ⊎ (Holds p t → ⊥)
  holds_or_not p t = elim (by_order p.from t) [
    | inr early ↦ inr (λ h. let lo = h.0 in omega (arith, ints))
    | inl late ↦ elim (by_order p.to t) [
      | inl behind ↦ inr (λ h. let hi = h.1 in omega (arith, ints))
      | inr inside ↦ inl (late, inside)
    ]
  ]

  -- it is decidable whether an instant is met
  met_or_not : (right : List Row) (x : Row) (t : ℤ) → IsMet Matches right x t ⊎ (IsMet Matches right x t → ⊥)
  met_or_not [] x t = inr (λ m. Contains-none m.by m.by_in)
  met_or_not (y ∷ right) x t = elim (met_or_not right x t) [
    | inl m ↦ inl (met-more Matches decided x y right t m)
    | inr none ↦ elim (decided x y) [
      | inr differ ↦ inr (λ m. elim (met-cases Matches decided x y right t m) [
        | inl now ↦ differ now.0
        | inr before ↦ none before
      ])
      | inl same ↦ elim (holds_or_not y.period t) [
        | inl h ↦ inl (record { by = y; by_in = Contains-head y right; matches = same; holds = h })
        | inr out ↦ inr (λ m. elim (met-cases Matches decided x y right t m) [
          | inl now ↦ out now.1
          | inr before ↦ none before
        ])
      ]
    ]
  ]

  -- a maximal period has these borders
  bordered-from_maximal : (right : List Row) (x : Row) (p : Period) → IsMaximal (IsUnmet Matches right x) p
      → IsBordered Matches right x p
  bordered-from_maximal right x p m =
      let proper : p.from <ℤ p.to = p.ordered in
      let first : Holds x.period p.from = (m.inside p.from (first_held p)).held in
      let last : Holds x.period (p.to -ℤ pos 1) =
      (m.inside (p.to -ℤ pos 1) (omega (arith, ints), omega (arith, ints))).held in
      let starts_in : x.period.from ≤ℤ p.from = first.0 in
      let starts_before : p.from <ℤ x.period.to = first.1 in
      let ends_behind : x.period.from ≤ℤ (p.to -ℤ pos 1) = last.0 in
      let ends_in : (p.to -ℤ pos 1) <ℤ x.period.to = last.1 in
      record {
        inside = λ t h. (m.inside t h).held;
        unmet = λ t h. (m.inside t h).unmet;
        starts = elim (met_or_not right x (p.from -ℤ pos 1)) [
          | inl met ↦ inr met
          | inr none ↦ elim (by_order x.period.from (p.from -ℤ pos 1)) [
            | inl h ↦ absurd (m.before (record { held = (h, omega (arith, ints)); unmet = none }))
            | inr h ↦ inl (omega (arith, ints))
          ]
        ];
        ends = elim (met_or_not right x p.to) [
          | inl met ↦ inr met
          | inr none ↦ elim (by_order x.period.to p.to) [
            | inl h ↦ inl (omega (arith, ints))
            | inr h ↦ absurd (m.after (record { held = (omega (arith, ints), h); unmet = none }))
          ]
        ];
      }

  -- a period with these borders is maximal
  maximal-from_bordered : (right : List Row) (x : Row) (p : Period) → IsBordered Matches right x p
      → IsMaximal (IsUnmet Matches right x) p
  maximal-from_bordered right x p b = record {
    inside = λ t h. record { held = b.inside t h; unmet = b.unmet t h };
    before = λ u. elim b.starts [
      | inl e ↦ (let lo = u.held.0 in omega (arith, ints))
      | inr met ↦ u.unmet met
    ];
    after = λ u. elim b.ends [
      | inl e ↦ (let hi = u.held.1 in omega (arith, ints))
      | inr met ↦ u.unmet met
    ];
  }

-- for any pairs of columns
pub maximal-bordered : (left_columns right_columns : List Column) (on : List NamePair) (right : List Row) (x : Row)
    (p : Period) → IsMaximal (IsUnmet (MatchesOn left_columns right_columns on) right x) p
    ↔ IsBordered (MatchesOn left_columns right_columns on) right x p
maximal-bordered left_columns right_columns on right x p =
    let Matches : Row → Row → Type 0 = MatchesOn left_columns right_columns on in
    let decided = match_or_not left_columns right_columns on in
    (bordered-from_maximal Matches decided right x p, maximal-from_bordered Matches decided right x p)
