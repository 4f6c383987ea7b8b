-- Maximal periods of a set of instants, and of its parts before an instant and from it on.
use Rattle.std.proofs.Common.{◌≡◌, inl, inr, refl, subst, arith}
use Rattle.std.specs.Prelude.{ℤ, pos, ◌-ℤ◌, ◌≤ℤ◌, ◌<ℤ◌}
use Rattle.std.proofs.lemmas.Int.{ints}
use Rattle.period_core.specs.declared.period.Period.{Period}
use Rattle.merge_core.specs.Gaps.{IsMaximal}
use Rattle.merge_core.proofs.SharedLemmas.{by_order}

-- The parts of a set before an instant and from it on.
pub record IsCutAt (at : ℤ) (Whole Early Late : ℤ → Type 0) : Type 0 where
  pub early_in : (t : ℤ) → Early t → (t <ℤ at) × Whole t
  pub early_of : (t : ℤ) → t <ℤ at → Whole t → Early t
  pub late_in : (t : ℤ) → Late t → (at ≤ℤ t) × Whole t
  pub late_of : (t : ℤ) → at ≤ℤ t → Whole t → Late t

module _ (at : ℤ) (Whole Early Late : ℤ → Type 0) (c : IsCutAt at Whole Early Late) where
  -- a maximal period of the early part ends at the cut or earlier
  pub early_ends : (p : Period) → IsMaximal Early p → p.to ≤ℤ at
  early_ends p m =
      let proper : p.from <ℤ p.to = p.ordered in
      let last : (p.to -ℤ pos 1) <ℤ at =
      (c.early_in (p.to -ℤ pos 1) (m.inside (p.to -ℤ pos 1) (omega (arith, ints), omega (arith, ints)))).0 in
      omega (arith, ints)

  -- a maximal period of the late part starts at the cut or later
  pub late_starts : (p : Period) → IsMaximal Late p → at ≤ℤ p.from
  late_starts p m =
      let proper : p.from <ℤ p.to = p.ordered in
      (c.late_in p.from (m.inside p.from (omega (arith, ints), omega (arith, ints)))).0

  -- a maximal period of the early part is one of the whole, unless the whole goes on where it ends
  pub early_whole : (p : Period) → IsMaximal Early p → (p.to ≡ at → Whole at → ⊥) → IsMaximal Whole p
  early_whole p m off =
      let proper : p.from <ℤ p.to = p.ordered in
      let ends : p.to ≤ℤ at = early_ends p m in
      record {
        inside = λ t h. (c.early_in t (m.inside t h)).1;
        before = λ w. m.before (c.early_of (p.from -ℤ pos 1) (omega (arith, ints)) w);
        after = λ w. elim (by_order at p.to) [
          | inl h ↦ (let e : p.to ≡ at = omega (arith, ints) in off e (subst Whole e w))
          | inr h ↦ m.after (c.early_of p.to h w)
        ];
      }

  -- a maximal period of the late part is one of the whole, unless the whole holds the instant before it
  pub late_whole : (p : Period) → IsMaximal Late p → (p.from ≡ at → Whole (at -ℤ pos 1) → ⊥) → IsMaximal Whole p
  late_whole p m off =
      let proper : p.from <ℤ p.to = p.ordered in
      let starts : at ≤ℤ p.from = late_starts p m in
      record {
        inside = λ t h. (c.late_in t (m.inside t h)).1;
        before = λ w. elim (by_order at (p.from -ℤ pos 1)) [
          | inl h ↦ m.before (c.late_of (p.from -ℤ pos 1) h w)
          | inr h ↦ (let e : p.from ≡ at = omega (arith, ints) in
              off e (subst (λ (z : ℤ). Whole (z -ℤ pos 1)) e w))
        ];
        after = λ w. m.after (c.late_of p.to (omega (arith, ints)) w);
      }

  -- two periods that meet at the cut are one of the whole
  pub both_whole : (p q j : Period) → IsMaximal Early p → IsMaximal Late q → p.to ≡ at → q.from ≡ at → j.from ≡ p.from
      → j.to ≡ q.to → IsMaximal Whole j
  both_whole p q j m n e f from to =
      let one : p.from <ℤ p.to = p.ordered in
      let other : q.from <ℤ q.to = q.ordered in
      record {
        inside = λ t h. (let lo : j.from ≤ℤ t = h.0 in
            let hi : t <ℤ j.to = h.1 in
            elim (by_order at t) [
              | inl k ↦ (c.late_in t (n.inside t (omega (arith, ints), omega (arith, ints)))).1
              | inr k ↦ (c.early_in t (m.inside t (omega (arith, ints), omega (arith, ints)))).1
            ]);
        before = λ w.
            m.before (c.early_of (p.from -ℤ pos 1) (omega (arith, ints)) (subst (λ (z : ℤ). Whole (z -ℤ pos 1)) from w));
        after = λ w. n.after (c.late_of q.to (omega (arith, ints)) (subst Whole to w));
      }

  -- a maximal period of the whole that ends by the cut is one of the early part
  pub whole_early : (p : Period) → IsMaximal Whole p → p.to ≤ℤ at → IsMaximal Early p
  whole_early p m ends = record {
    inside = λ t h. (let hi : t <ℤ p.to = h.1 in c.early_of t (omega (arith, ints)) (m.inside t h));
    before = λ w. m.before (c.early_in (p.from -ℤ pos 1) w).1;
    after = λ w. m.after (c.early_in p.to w).1;
  }

  -- a maximal period of the whole that starts from the cut on is one of the late part
  pub whole_late : (p : Period) → IsMaximal Whole p → at ≤ℤ p.from → IsMaximal Late p
  whole_late p m starts = record {
    inside = λ t h. (let lo : p.from ≤ℤ t = h.0 in c.late_of t (omega (arith, ints)) (m.inside t h));
    before = λ w. m.before (c.late_in (p.from -ℤ pos 1) w).1;
    after = λ w. m.after (c.late_in p.to w).1;
  }

  -- the part before the cut of a period that the cut divides
  pub whole_front : (p : Period) → IsMaximal Whole p → p.from <ℤ at → at <ℤ p.to
      → (a : Period) × IsMaximal Early a × (a.from ≡ p.from) × (a.to ≡ at)
  whole_front p m before behind = (
    record { from = p.from; to = at; ordered = before },
    record {
      inside = λ t h. (let lo : p.from ≤ℤ t = h.0 in
          let hi : t <ℤ at = h.1 in
          c.early_of t hi (m.inside t (lo, omega (arith, ints))));
      before = λ w. m.before (c.early_in (p.from -ℤ pos 1) w).1;
      after = λ w. (let bad : at <ℤ at = (c.early_in at w).0 in omega (arith, ints));
    },
    refl,
    refl,
  )

  -- and the part from the cut on
  pub whole_back : (p : Period) → IsMaximal Whole p → p.from <ℤ at → at <ℤ p.to
      → (b : Period) × IsMaximal Late b × (b.from ≡ at) × (b.to ≡ p.to)
  whole_back p m before behind = (
    record { from = at; to = p.to; ordered = behind },
    record {
      inside = λ t h. (let lo : at ≤ℤ t = h.0 in
          let hi : t <ℤ p.to = h.1 in
          c.late_of t lo (m.inside t (omega (arith, ints), hi)));
      before = λ w. (let bad : at ≤ℤ (at -ℤ pos 1) = (c.late_in (at -ℤ pos 1) w).0 in omega (arith, ints));
      after = λ w. m.after (c.late_in p.to w).1;
    },
    refl,
    refl,
  )
