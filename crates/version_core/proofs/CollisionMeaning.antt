-- The meaning of rows without a collision.
use Rattle.std.proofs.Common.{◌≡◌, ℕ, suc, List, [], ◌∷◌, get_or, true, false, ◌&&◌, refl, sym, ap, ◌∙◌, arith}
use Rattle.std.specs.Prelude.{All, is_some, slice_get}
use Rattle.std.proofs.lemmas.Map.Keys.{apart_from_distinct}
use Rattle.period_core.specs.Period.{meet}
use Rattle.row_core.specs.declared.draft.Draft.{Draft}
use Rattle.row_core.specs.declared.value.Value.{Value}
use Rattle.row_core.proofs.ValueLemmas.{maybe_decides}
use Rattle.version_core.specs.Collisions.{AreWithoutOverlaps, collide, have_collision, same_key}
use Rattle.version_core.proofs.CollisionLemmas.{shares}
use Rattle.version_core.proofs.PairLemmas.{distinct-from_none}

-- values that are equal in each of the key's columns have the same key
key-equal : (key : List ℕ) (a b : List Value) → All (λ column. slice_get a column ≡ slice_get b column) key
    → same_key key a b ≡ true
key-equal [] a b h = refl
key-equal (column ∷ columns) a b h =
    ap (λ t. t && same_key columns a b)
    ((maybe_decides (slice_get a column) (slice_get b column)).1 (h 0 column (omega arith)))
    ∙ key-equal columns a b (λ k d lt. h (suc k) d (omega arith))

-- rows without a collision are without overlaps
pub without_overlaps : (key : List ℕ) (rows : List Draft) → have_collision key rows ≡ false
    → AreWithoutOverlaps key rows
without_overlaps key rows none i j d below inside t same at_one at_other =
    let a = get_or rows i d in
    let b = get_or rows j d in
    let apart =
    apart_from_distinct (collide key) rows i j d (distinct-from_none (collide key) rows none) below inside in
    let both : collide key a b ≡ true =
    ap (λ s. s && is_some (meet a.period b.period)) (key-equal key a.values b.values same)
    ∙ shares a.period b.period t at_one at_other in
    let bad : true ≡ false = sym both ∙ apart in
    absurd (cc)
