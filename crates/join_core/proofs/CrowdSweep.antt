-- How many items hold at once, from their sorted starts and ends.
use Rattle.std.proofs.Common.{not, int_lt, Bool, ◌≡◌, ℕ, suc, zero, ◌+◌, ◌-◌, ◌<◌, ◌≤◌, ℤ, pos, ◌≤ℤ◌, ◌<ℤ◌, true, false, cond, ◌⊎◌, List, [], ◌∷◌, length, map, get_or, inl, inr, arith, refl, sym, subst}
use Rattle.std.specs.Prelude.{IsPermutation, IsSorted}
use Rattle.std.specs.Ordering.{int_cmp, is_lt}
use Rattle.std.proofs.lemmas.Int.{ints}
use Rattle.std.proofs.lemmas.List.{get_or_read}
use Rattle.std.proofs.lemmas.List.Sums.{sum_by-cons, count_by-le-length}
use Rattle.std.proofs.lemmas.List.Sorted.{sum_by-IsPermutation}
use Rattle.std.proofs.lemmas.Bool.{cases_Bool, cases_lt}
use Rattle.period_core.specs.declared.period.Period.{Period}
use Rattle.period_core.specs.Period.{holds_at}
use Rattle.dip_core.specs.declared.item.Item.{Item}
use Rattle.dip_core.specs.Item.{crowd, HasDistinctIds}
use Rattle.dip_core.specs.Division.{IsLeast, IsDivision}
use Rattle.dip_core.proofs.CrowdLemmas.{crowd-le-length}
use Rattle.dip_core.proofs.DipExistence.{some_dip, some_instant}
use Rattle.match_core.specs.Items.{unclassed}
use Rattle.join_core.specs.Crowds.{upto, starts_of, ends_of, AreOrdered, IsMostAtOnce}
use Rattle.join_core.proofs.LeastLemmas.{crowded, IsLeast-unclassed}

-- ---- sorted points

-- No point is above a later one.
abbrev pub Rise : List ℤ → Type 0
Rise xs = (i j : ℕ) (d : ℤ) → i ≤ j → j < length xs → get_or xs i d ≤ℤ get_or xs j d

not_below : (x y : ℤ) → is_lt (int_cmp y x) ≡ false → x ≤ℤ y
not_below x y h = grind (arith, ints)

int_le-trans : (x y z : ℤ) → x ≤ℤ y → y ≤ℤ z → x ≤ℤ z
int_le-trans x y z a b = grind (arith, ints)

cases_int : (x y : ℤ) → (x <ℤ y) ⊎ (y ≤ℤ x)
cases_int x y =
    elim (cases_Bool (int_lt x y)) [
      | inl less ↦ inl (grind (arith, ints))
      | inr more ↦ inr (grind (arith, ints))
    ]

int_le-refl : (x : ℤ) → x ≤ℤ x
int_le-refl x = grind (arith, ints)

Rise-upto : (xs : List ℤ) → IsSorted int_cmp xs → (i n : ℕ) (d : ℤ) → i + n < length xs
    → get_or xs i d ≤ℤ get_or xs (i + n) d
Rise-upto xs sorted i zero d h =
    let e : i ≡ i + 0 = omega arith in
    subst (λ k. get_or xs i d ≤ℤ get_or xs k d) e (int_le-refl (get_or xs i d))
Rise-upto xs sorted i (suc n) d h =
    let rest = Rise-upto xs sorted i n d (omega arith) in
    let step = not_below (get_or xs (i + n) d) (get_or xs (i + n + 1) d) (sorted (i + n) d (omega arith) (omega arith)) in
    let e : i + n + 1 ≡ i + suc n = omega arith in
    subst (λ k. get_or xs i d ≤ℤ get_or xs k d) e
    (int_le-trans (get_or xs i d) (get_or xs (i + n) d) (get_or xs (i + n + 1) d) rest step)

pub Rise-sorted : (xs : List ℤ) → IsSorted int_cmp xs → Rise xs
Rise-sorted xs sorted i j d below inside =
    let e : i + (j - i) ≡ j = omega arith in
    subst (λ k. get_or xs i d ≤ℤ get_or xs k d) e (Rise-upto xs sorted i (j - i) d (omega arith))

Rise-tail : (x : ℤ) (xs : List ℤ) → Rise (x ∷ xs) → Rise xs
Rise-tail x xs rise i j d below inside = rise (suc i) (suc j) d (omega arith) (omega arith)

upto-cons : (x : ℤ) (xs : List ℤ) (t : ℤ) → upto (x ∷ xs) t ≡ cond (not (int_lt t x)) 1 0 + upto xs t
upto-cons x xs t = sum_by-cons (λ y. cond (not (int_lt t y)) 1 0) x xs

counts : (x t : ℤ) → x ≤ℤ t → cond {A = ℕ} (not (int_lt t x)) 1 0 ≡ 1
counts x t h = let e : int_lt t x ≡ false = grind (arith, ints) in rw e refl

counts_not : (x t : ℤ) → t <ℤ x → cond {A = ℕ} (not (int_lt t x)) 1 0 ≡ 0
counts_not x t h = let e : int_lt t x ≡ true = grind (arith, ints) in rw e refl

one_most : (b : Bool) → cond {A = ℕ} (not b) 1 0 ≤ 1
one_most true = omega arith
one_most false = omega arith

counts_some : (x t : ℤ) → cond {A = ℕ} (not (int_lt t x)) 1 0 ≤ 1
counts_some x t = one_most (int_lt t x)

-- points up to one that is no later than the instant are counted
upto-more : (xs : List ℤ) (t : ℤ) (i : ℕ) (d : ℤ) → Rise xs → i < length xs → get_or xs i d ≤ℤ t → i + 1 ≤ upto xs t
upto-more [] t i d rise inside h = absurd (omega arith)
upto-more (x ∷ xs) t zero d rise inside h =
    let split = upto-cons x xs t in let one = counts x t h in omega (arith, split, one)
upto-more (x ∷ xs) t (suc i) d rise inside h =
    let first : x ≤ℤ get_or xs i d = rise 0 (suc i) d (omega arith) inside in
    let split = upto-cons x xs t in
    let one = counts x t (int_le-trans x (get_or xs i d) t first h) in
    let rest = upto-more xs t i d (Rise-tail x xs rise) (omega arith) h in
    omega (arith, split, one, rest)

-- points from a later one on are not
upto-less : (xs : List ℤ) (t : ℤ) (i : ℕ) (d : ℤ) → Rise xs → i < length xs → t <ℤ get_or xs i d → upto xs t ≤ i
upto-less [] t i d rise inside h = absurd (omega arith)
upto-less (x ∷ []) t zero d rise inside h =
    let split = upto-cons x [] t in let one = counts_not x t h in omega (arith, split, one)
upto-less (x ∷ (y ∷ ys)) t zero d rise inside h =
    let first : x ≤ℤ y = rise 0 1 d (omega arith) (omega arith) in
    let later : t <ℤ y = grind (arith, ints) in
    let split = upto-cons x (y ∷ ys) t in
    let one = counts_not x t h in
    let rest = upto-less (y ∷ ys) t 0 d (Rise-tail x (y ∷ ys) rise) (omega arith) later in
    omega (arith, split, one, rest)
upto-less (x ∷ xs) t (suc i) d rise inside h =
    let split = upto-cons x xs t in
    let some = counts_some x t in
    let rest = upto-less xs t i d (Rise-tail x xs rise) (omega arith) h in
    omega (arith, split, some, rest)

-- ---- the sweep

-- The state after `i` starts.
pub record IsSweeping (starts ends : List ℤ) (i k : ℕ) : Type 0 where
  pub few : k ≤ i
  pub reached : 0 < k → (t : ℤ) × (k + upto ends t ≤ upto starts t)
  pub taken : (j : ℕ) (d : ℤ) → k ≤ j → j < i → get_or ends (j - k) d ≤ℤ get_or starts j d

module _ (starts ends : List ℤ) (i k : ℕ) (s e : ℤ) (same : length starts ≡ length ends) (inside : i < length starts)
    (starts_rise : IsSorted int_cmp starts) (ends_rise : IsSorted int_cmp ends)
    (is_s : get_or starts i s ≡ s) (is_e : get_or ends (i - k) e ≡ e) (was : IsSweeping starts ends i k) where
  -- the maximum grows by one
  pub sweeping_more : s <ℤ e → IsSweeping starts ends (i + 1) (k + 1)
  sweeping_more h =
      let few : k ≤ i = was.few in
      let started = upto-more starts s i s (Rise-sorted starts starts_rise) inside
      (subst (λ x. x ≤ℤ s) (sym is_s) (int_le-refl s)) in
      let ended = upto-less ends s (i - k) e (Rise-sorted ends ends_rise) (omega (arith, same, inside))
      (subst (λ x. s <ℤ x) (sym is_e) h) in
      record {
        few = omega (arith, few);
        reached = λ some. (s, omega (arith, started, ended, few));
        taken = λ j d low less.
            (let before = Rise-sorted ends ends_rise (j - (k + 1)) (j - k) d (omega arith)
            (omega (arith, same, inside, less)) in
            elim (cases_lt j i) [
              | inl earlier ↦ int_le-trans (get_or ends (j - (k + 1)) d) (get_or ends (j - k) d) (get_or starts j d) before
                  (was.taken j d (omega arith) earlier)
              | inr last ↦
                  (let e : j ≡ i = omega (arith, less, last) in
                  let prior = was.taken (i - 1) d (omega (arith, low, e)) (omega (arith, low, e)) in
                  let next = Rise-sorted starts starts_rise (i - 1) j d (omega (arith, e)) (omega (arith, e, inside)) in
                  let at : i - 1 - k ≡ j - (k + 1) = omega (arith, e, low) in
                  int_le-trans (get_or ends (j - (k + 1)) d) (get_or starts (i - 1) d) (get_or starts j d)
                  (subst (λ n. get_or ends n d ≤ℤ get_or starts (i - 1) d) at prior) next)
            ]);
      }

  -- the maximum stays
  pub sweeping_same : e ≤ℤ s → IsSweeping starts ends (i + 1) k
  sweeping_same h = record {
    few = (let few = was.few in omega (arith, few));
    reached = was.reached;
    taken = λ j d low less.
        elim (cases_lt j i) [
          | inl earlier ↦ was.taken j d low earlier
          | inr last ↦
              (let at : i ≡ j = omega (arith, less, last) in
              let a : e ≡ get_or ends (i - k) d =
              get_or_read ends (i - k) e (omega (arith, same, inside)) (sym is_e) d in
              let b : s ≡ get_or starts i d = get_or_read starts i s inside (sym is_s) d in
              subst (λ n. get_or ends (n - k) d ≤ℤ get_or starts n d) at
              (subst (λ x. x ≤ℤ get_or starts i d) a (subst (λ x. e ≤ℤ x) b h)))
        ];
  }

-- at the end
pub sweeping_end : (starts ends : List ℤ) (i k : ℕ) → length starts ≡ length ends → IsSorted int_cmp starts
    → IsSorted int_cmp ends → length starts ≤ i → IsSweeping starts ends i k → IsMostAtOnce starts ends k
sweeping_end starts ends i k same starts_rise ends_rise all was = record {
  reached = was.reached;
  most = λ t. most_at t (upto starts t) refl;
}
  where
    most_at : (t : ℤ) (p : ℕ) → p ≡ upto starts t → p ≤ k + upto ends t
    most_at t zero e = omega arith
    most_at t (suc j) e =
        elim (cases_lt j k) [
          | inl less ↦ omega (arith, less)
          | inr enough ↦
              (let most : upto starts t ≤ length starts = count_by-le-length (λ x. not (int_lt t x)) starts in
              let inside : j < length starts = omega (arith, e, most) in
              let low : k ≤ j = omega (arith, enough) in
              let own = get_or starts j (pos 0) in
              let other = get_or ends (j - k) (pos 0) in
              let taken : other ≤ℤ own = was.taken j (pos 0) low (omega (arith, inside, all)) in
              let started : own ≤ℤ t = elim (cases_int t own) [
                | inl later ↦ (let less = upto-less starts t j (pos 0) (Rise-sorted starts starts_rise) inside later in
                    absurd (omega (arith, less, e)))
                | inr is ↦ is
              ] in
              let ended = upto-more ends t (j - k) (pos 0) (Rise-sorted ends ends_rise) (omega (arith, same, inside))
              (int_le-trans other own t taken started) in
              omega (arith, ended, low))
        ]

-- ---- items

upto-permutation : (xs ys : List ℤ) → IsPermutation xs ys → (t : ℤ) → upto ys t ≡ upto xs t
upto-permutation xs ys moved t = sum_by-IsPermutation (λ x. cond (not (int_lt t x)) 1 0) xs ys moved

-- an item holds an instant if it has started and not ended
holds-one : (p : Period) (t : ℤ)
    → cond {A = ℕ} (holds_at t p) 1 0 + cond (not (int_lt t p.to)) 1 0 ≡ cond (not (int_lt t p.from)) 1 0
holds-one p t = let o : p.from <ℤ p.to = p.ordered in grind (arith, ints)

crowd-upto : (items : List Item) (t : ℤ) → crowd items t + upto (ends_of items) t ≡ upto (starts_of items) t
crowd-upto [] t = refl
crowd-upto (x ∷ items) t =
    let a : crowd (x ∷ items) t ≡ cond (holds_at t x.period) 1 0 + crowd items t =
    sum_by-cons (λ (y : Item). cond (holds_at t y.period) 1 0) x items in
    let b = upto-cons x.period.to (ends_of items) t in
    let c = upto-cons x.period.from (starts_of items) t in
    let one = holds-one x.period t in
    let rest = crowd-upto items t in
    omega (arith, a, b, c, one, rest)

-- this number of parts is least
pub IsLeast-most : (items : List Item) (starts ends : List ℤ) (k : ℕ) → HasDistinctIds items
    → AreOrdered (starts_of items) starts → AreOrdered (ends_of items) ends → IsMostAtOnce starts ends k
    → IsLeast (map unclassed items) k
IsLeast-most items starts ends k ids started ended most =
    let (parts, dip) = some_dip items ids in
    let division : IsDivision items parts = dip.divided.division in
    let (instant, is) = some_instant items parts dip.divided in
    let least = IsLeast-unclassed items parts instant division is in
    let (t, held) = crowded items parts instant division is in
    let upper : length parts ≤ k =
    (let m = most.most t in let c = crowd-upto items t in
    let a = upto-permutation (starts_of items) starts started.same t in
    let b = upto-permutation (ends_of items) ends ended.same t in
    omega (arith, m, c, a, b, held)) in
    let lower : k ≤ length parts = elim (cases_lt 0 k) [
      | inl some ↦ (let (u, r) = most.reached some in
          let c = crowd-upto items u in
          let a = upto-permutation (starts_of items) starts started.same u in
          let b = upto-permutation (ends_of items) ends ended.same u in
          let few = crowd-le-length items parts division u in
          omega (arith, r, c, a, b, few))
      | inr none ↦ omega (arith, none)
    ] in
    let e : length parts ≡ k = omega (arith, upper, lower) in
    subst (IsLeast (map unclassed items)) e least
