-- Rows that collide, in the order of their keys.
use Rattle.std.proofs.Common.{◌≡◌, ℕ, ℤ, ◌<ℤ◌, ◌≤ℤ◌, List, map, Bool, true, false, ◌&&◌, Option, Some, None, refl, sym, ap, ◌∙◌, arith}
use Rattle.std.proofs.lemmas.Bool.{and_parts}
use Rattle.std.specs.Prelude.{IsPermutation, IsSortedBy, is_some}
use Rattle.std.specs.declared.cmp.Ordering.{Ordering}
use Rattle.std.specs.declared.cmp.Ordering.TheVariants.{Less, Equal, Greater}
use Rattle.std.specs.Ordering.{is_lt, int_cmp, ordering_then, ordering_reverse}
use Rattle.std.proofs.lemmas.Int.{ints}
use Rattle.std.proofs.lemmas.List.Sorted.{ranks_by}
use Rattle.period_core.specs.Period.{Holds, HoldsIn, meet}
use Rattle.period_core.specs.declared.period.Period.{Period}
use Rattle.period_core.proofs.PeriodLemmas.{meet-holds}
use Rattle.row_core.specs.declared.draft.Draft.{Draft}
use Rattle.draft_core.specs.Lent.{lent_draft}
use Rattle.draft_core.specs.declared.draft_ref.DraftRef.{DraftRef}
use Rattle.version_core.specs.Collisions.{collide, have_collision, same_key}
use Rattle.version_core.specs.KeyOrder.{key_cmp, row_cmp, have_neighbours}
use Rattle.version_core.proofs.KeyOrderLemmas.{key_total, row_total, key-same, key-tie, key-between, same_key-flips}
use Rattle.version_core.proofs.PairLemmas.{have_pair-permutation, have_pair-map, neighbours-pairs_sorted}

-- ---- periods that overlap

some-held : (p : Option Period) (t : ℤ) → HoldsIn p t → is_some p ≡ true
some-held None t h = absurd h
some-held (Some p) t h = refl

held-some : (p : Option Period) → is_some p ≡ true → (t : ℤ) × HoldsIn p t
held-some None e = absurd (cc)
held-some (Some p) e = let proper : p.from <ℤ p.to = p.ordered in (p.from, (omega (arith, ints), proper))

pub shared : (x y : Period) → is_some (meet x y) ≡ true → (t : ℤ) × Holds x t × Holds y t
shared x y e = let at = held-some (meet x y) e in let h = (meet-holds x y at.0).0 at.1 in (at.0, h.0, h.1)

pub shares : (x y : Period) (t : ℤ) → Holds x t → Holds y t → is_some (meet x y) ≡ true
shares x y t h k = some-held (meet x y) t ((meet-holds x y t).1 (h, k))

same_bool : (a b : Bool) → (a ≡ true → b ≡ true) → (b ≡ true → a ≡ true) → a ≡ b
same_bool true b f g = sym (f refl)
same_bool false true f g = g refl
same_bool false false f g = refl

meet-flips : (x y : Period) → is_some (meet x y) ≡ is_some (meet y x)
meet-flips x y = same_bool (is_some (meet x y)) (is_some (meet y x))
    (λ e. (let at = shared x y e in shares y x at.0 at.2 at.1))
    (λ e. (let at = shared y x e in shares x y at.0 at.2 at.1))

-- a period that starts between the starts of two overlapping ones overlaps the first
pub meet-between : (x y z : Period) → x.from ≤ℤ y.from → y.from ≤ℤ z.from → is_some (meet x z) ≡ true
    → is_some (meet x y) ≡ true
meet-between x y z low high e =
    let at = shared x z e in
    let t = at.0 in
    let in_x : t <ℤ x.to = at.1.1 in
    let in_z : z.from ≤ℤ t = at.2.0 in
    let proper : y.from <ℤ y.to = y.ordered in
    shares x y y.from (low, omega (arith, ints)) (omega (arith, ints), proper)

not_less : (a b : ℤ) → is_lt (int_cmp b a) ≡ false → a ≤ℤ b
not_less a b h = grind (arith, ints)

-- ---- rows

pub collide-flips : (key : List ℕ) (a b : Draft) → collide key a b ≡ collide key b a
collide-flips key a b =
    ap (λ t. t && is_some (meet a.period b.period)) (same_key-flips key a.values b.values)
    ∙ ap (λ t. same_key key b.values a.values && t) (meet-flips a.period b.period)

then-not_less : (o p : Ordering) → is_lt (ordering_then o p) ≡ false → is_lt o ≡ false
then-not_less Less p h = h
then-not_less Equal p h = refl
then-not_less Greater p h = refl

then-tied : (o p : Ordering) → o ≡ Equal → is_lt (ordering_then o p) ≡ false → is_lt p ≡ false
then-tied o p e h = sym (ap (λ q. is_lt (ordering_then q p)) e) ∙ h

collide-between : (key : List ℕ) (x y z : Draft) → is_lt (row_cmp key y x) ≡ false → is_lt (row_cmp key z y) ≡ false
    → collide key x z ≡ true → collide key x y ≡ true
collide-between key x y z low high e =
    let xs = x.values in
    let ys = y.values in
    let zs = z.values in
    let both = and_parts (same_key key xs zs) (is_some (meet x.period z.period)) e in
    let tie = key-tie key xs zs both.0 in
    let first = key-between key xs ys zs tie
    (then-not_less (key_cmp key ys xs) (int_cmp y.period.from x.period.from) low)
    (then-not_less (key_cmp key zs ys) (int_cmp z.period.from y.period.from) high) in
    let back : key_cmp key ys xs ≡ Equal = (key_total key).antisymm ys xs ∙ ap ordering_reverse first in
    let next : key_cmp key zs ys ≡ Equal = sym ((key_total key).congr xs zs ys tie) ∙ first in
    let begins = not_less x.period.from y.period.from
    (then-tied (key_cmp key ys xs) (int_cmp y.period.from x.period.from) back low) in
    let goes_on = not_less y.period.from z.period.from
    (then-tied (key_cmp key zs ys) (int_cmp z.period.from y.period.from) next high) in
    ap (λ t. t && is_some (meet x.period y.period)) (key-same key xs ys first)
    ∙ meet-between x.period y.period z.period begins goes_on both.1

-- two of the sorted rows collide if and only if two neighbours do
pub collision-from_neighbours : (key : List ℕ) (rows sorted : List DraftRef) → IsPermutation rows sorted
    → IsSortedBy (λ a b. is_lt (row_cmp key (lent_draft a) (lent_draft b))) sorted
    → have_neighbours (λ a b. collide key (lent_draft a) (lent_draft b)) sorted
    ≡ have_collision key (map lent_draft rows)
collision-from_neighbours key rows sorted moved up =
    neighbours-pairs_sorted (λ a b. collide key (lent_draft a) (lent_draft b))
    (λ a b. is_lt (row_cmp key (lent_draft a) (lent_draft b)))
    (λ x y z. collide-between key (lent_draft x) (lent_draft y) (lent_draft z))
    (ranks_by (row_total key) lent_draft) sorted up
    ∙ sym (have_pair-permutation (λ a b. collide key (lent_draft a) (lent_draft b))
    (λ a b. collide-flips key (lent_draft a) (lent_draft b)) rows sorted moved)
    ∙ sym (have_pair-map (collide key) lent_draft rows)
