-- Each step on the claims word keeps its rule.
use Rattle.std.proofs.Common.{◌≡◌, ◌≢◌, ℕ, ◌+◌, ◌%◌, ◌^◌, ◌<◌, ◌≤◌, List, [], ◌∷◌, ◌++◌, slice_index, slice_set, ap, ◌∙◌, refl, subst, ⊎_elim, arith, set, get_or-set_same, length-set}
use Rattle.std.proofs.lemmas.List.Sums.{sum_by_push}
use mathlib.Core.Option.{some, none}
use lib.ListN.{get_elem?}
use Rattle.atomic_table.specs.Table.{Me, keeps, step, Allows}
use Rattle.atomic_table.proofs.Lists.{at_set, at_snoc}
use Rattle.work_core.specs.Counting.{times}
use Rattle.work_core.specs.Limits.{draw_limit}
use Rattle.work_core.specs.Claims.{AreClaims, IsClaimed, view_left, view_given, joined_view, spent_view, view_after, all_parts, Draws}
use Rattle.work_core.specs.declared.claim_view.ClaimView.{ClaimView}
use Rattle.work_core.proofs.Counting.{times-append, times_below-next, times_below-inside}
use Rattle.work_core.proofs.ViewSums.{sum-set, one-le-sum, sum-whole}

-- a fact about the new view and about all views before is one about all views after one changed
each-set : (P : ClaimView → Type 0) (views : List ClaimView) (id : ℕ) (w : ClaimView) → P w
    → ((j : ℕ) (u : ClaimView) → get_elem? views j ≡ some u → P u)
    → (j : ℕ) (u : ClaimView) → get_elem? (set views id w) j ≡ some u → P u
each-set P views id w here each j u at =
    ⊎_elim (λ (t : (j ≡ id) × (w ≡ u)). subst P t.1 here)
    (λ (t : (j ≢ id) × (get_elem? views j ≡ some u)). each j u t.1) (at_set views id j w u at)

-- the same after a view is added
each-snoc : (P : ClaimView → Type 0) (views : List ClaimView) (w : ClaimView) → P w
    → ((j : ℕ) (u : ClaimView) → get_elem? views j ≡ some u → P u)
    → (j : ℕ) (u : ClaimView) → get_elem? (views ++ w ∷ []) j ≡ some u → P u
each-snoc P views w here each j u at =
    ⊎_elim (λ (e : get_elem? views j ≡ some u). each j u e) (λ (t : w ≡ u). subst P t here) (at_snoc views w u j at)

-- a view without parts knows nothing
abbrev Idle : ClaimView → Type 0
Idle v = v.parts ≡ 0 → v.drawn ≡ []

pub draw-keeps : (word id : ℕ) (v : ClaimView) (views : List ClaimView) → 0 < v.parts → 0 < v.room
    → get_elem? views id ≡ some v → AreClaims word views → AreClaims (word + 1) (set views id (view_after v word))
draw-keeps word id v views part room at c =
    let w = view_after v word in
    record {
      parts = (let t = sum-set (λ u. u.parts) views id v w at in omega (arith, c.parts));
      room = (let t = sum-set (λ u. u.room) views id v w at in omega (arith, c.room));
      once = λ x.
          (let t = sum-set (λ u. times x u.drawn) views id v w at in
          omega (arith, c.once x, times_below-next x word, times-append x v.drawn (word ∷ [])));
      reached = each-set (λ y. y.least ≤ word + 1) views id w (omega arith)
          (λ j u e. let h = c.reached j u e in omega arith);
      idle = each-set Idle views id w (λ none. absurd (omega (arith, part, none))) c.idle;
    }

pub split-keeps : (word id : ℕ) (v : ClaimView) (views : List ClaimView) → 1 < v.parts → draw_limit ≤ v.room
    → get_elem? views id ≡ some v → AreClaims word views
    → AreClaims word (set views id (view_left v) ++ view_given v ∷ [])
split-keeps word id v views part room at c =
    let l = view_left v in
    let r = view_given v in
    let vs = set views id l in
    record {
      parts =
          (let t = sum-set (λ u. u.parts) views id v l at in
          omega (arith, c.parts, sum_by_push (λ u. u.parts) vs r));
      room =
          (let t = sum-set (λ u. u.room) views id v l at in
          omega (arith, c.room, sum_by_push (λ u. u.room) vs r));
      once = λ x.
          (let t = sum-set (λ u. times x u.drawn) views id v l at in
          omega (arith, c.once x, sum_by_push (λ u. times x u.drawn) vs r));
      reached = each-snoc (λ y. y.least ≤ word) vs r (omega arith)
          (each-set (λ y. y.least ≤ word) views id l (c.reached id v at) c.reached);
      idle = each-snoc Idle vs r (λ none. refl)
          (each-set Idle views id l (λ none. absurd (omega (arith, part, none))) c.idle);
    }

pub join-keeps : (word id other : ℕ) (v w : ClaimView) (views : List ClaimView) → ¬ (other ≡ id)
    → get_elem? views id ≡ some v → get_elem? (set views id (joined_view v w)) other ≡ some w
    → AreClaims word views → AreClaims word (set (set views id (joined_view v w)) other spent_view)
join-keeps word id other v w views ne at at' c =
    let b = joined_view v w in
    let vs = set views id b in
    let there : get_elem? views other ≡ some w =
    ⊎_elim (λ (t : (other ≡ id) × (b ≡ w)). absurd (ne t.0))
    (λ (t : (other ≢ id) × (get_elem? views other ≡ some w)). t.1) (at_set views id other b w at') in
    let low = c.reached id v at in
    let high = c.reached other w there in
    record {
      parts =
          (let t = sum-set (λ u. u.parts) views id v b at in
          let t' = sum-set (λ u. u.parts) vs other w spent_view at' in
          omega (arith, c.parts));
      room =
          (let t = sum-set (λ u. u.room) views id v b at in
          let t' = sum-set (λ u. u.room) vs other w spent_view at' in
          omega (arith, c.room));
      once = λ x.
          (let t = sum-set (λ u. times x u.drawn) views id v b at in
          let t' = sum-set (λ u. times x u.drawn) vs other w spent_view at' in
          omega (arith, c.once x, times-append x v.drawn w.drawn));
      reached = each-set (λ y. y.least ≤ word) vs other spent_view (omega arith)
          (each-set (λ y. y.least ≤ word) views id b (omega arith) c.reached);
      idle = each-set Idle vs other spent_view (λ none. refl)
          (each-set Idle views id b
          (λ none.
          let a = c.idle id v at (omega (arith, none)) in
          let a' = c.idle other w there (omega (arith, none)) in
          rw (a, a') refl)
          c.idle);
    }

-- a view with all parts knows that each number below the bound was drawn once
pub all-known : (word id : ℕ) (v : ClaimView) (views : List ClaimView) → v.parts ≡ all_parts
    → get_elem? views id ≡ some v → AreClaims word views → (x : ℕ) → x < v.least → times x v.drawn ≡ 1
all-known word id v views all at c x below =
    let bound = c.reached id v at in
    let whole =
    sum-whole (λ u. times x u.drawn) (λ u. u.parts) views id v
    (λ j u at' none. ap (λ (l : List ℕ). times x l) (c.idle j u at' none)) at (omega (arith, c.parts, all)) in
    omega (arith, whole, c.once x, times_below-inside x word (omega arith))

module _ {S : Type 0} where
  pub may_draw : (slots id : ℕ) (me : Me S ClaimView) → 0 < me.0.parts → 0 < me.0.room
      → Allows {S = S} {V = ClaimView} IsClaimed slots id me 0 (λ n. (n + 1) % 2 ^ 64)
      (Draws (step slots 0 1 0 none) me)
  may_draw slots id me part room s claimed homes at fits =
      let word = slice_index s.words 0 in
      let next = (word + 1) % 2 ^ 64 in
      let low = one-le-sum (λ u. u.room) s.views id me.0 at in
      let more : next ≡ word + 1 = omega (arith, claimed.1.room) in
      let there : slice_index (slice_set s.words 0 next) 0 ≡ word + 1 =
      get_or-set_same s.words 0 next 0 (omega (arith, claimed.0)) ∙ more in (
        view_after me.0 word,
        keeps,
        tt,
        (
          length-set s.words 0 next ∙ claimed.0,
          rw there (draw-keeps word id me.0 s.views part room at claimed.1),
        ),
        (refl, refl, claimed.1.reached id me.0 at),
      )
