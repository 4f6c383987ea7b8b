-- Clipping items, one by one.
use Rattle.std.proofs.Common.{◌≡◌, Bool, true, false, cond, List, [], ◌∷◌, ◌++◌, inl, inr, refl, sym, ap, ◌∙◌, arith, append-nil, length-append}
use Rattle.std.specs.Prelude.{ℕ, ℤ, Contains}
use Rattle.std.proofs.lemmas.List.{map-append}
use Rattle.std.proofs.lemmas.List.Elements.{filter-append, Contains-append_cases, Contains-append_left, Contains-append_right}
use Rattle.period_core.specs.Period.{Holds, holds_at}
use Rattle.dip_core.specs.declared.item.Item.{Item}
use Rattle.dip_core.proofs.CrowdLemmas.{Holds-from_test, test-from_holds}
use Rattle.list_core.proofs.RisingLemmas.{Contains-head, Contains-cons_cases, Contains-none}
use Rattle.merge_core.specs.Tallies.{amounts, holding}
use Rattle.round_core.specs.ClassLists.{HasItem}
use Rattle.work_core.specs.declared.range.Range.{Range}
use Rattle.round_core.specs.Spans.{AreWithin, IsWithin, Misses}

-- ---- one item at an instant

-- an item that doesn't hold it
pub lone_none : (x : Item) (t : ℤ) → (Holds x.period t → ⊥) → holding (x ∷ []) t ≡ []
lone_none x t off = split (holds_at t x.period) refl
  where
    split : (b : Bool) → holds_at t x.period ≡ b → cond b (x ∷ []) [] ≡ []
    split true e = absurd (off (Holds-from_test t x.period e))
    split false e = refl

-- an item that holds it
lone_held : (x : Item) (t : ℤ) → Holds x.period t → holding (x ∷ []) t ≡ x ∷ []
lone_held x t h = ap (λ b. cond b (x ∷ []) []) (test-from_holds t x.period h)

-- two items of the same amount that both hold it, or both don't, have the same amounts there
pub lone_same : (x y : Item) (t : ℤ) → y.amount ≡ x.amount → (Holds y.period t → Holds x.period t)
    → (Holds x.period t → Holds y.period t) → amounts (holding (y ∷ []) t) ≡ amounts (holding (x ∷ []) t)
lone_same x y t e to back = split (holds_at t x.period) refl
  where
    split : (b : Bool) → holds_at t x.period ≡ b → amounts (holding (y ∷ []) t) ≡ amounts (holding (x ∷ []) t)
    split true f =
        let h = Holds-from_test t x.period f in
        ap amounts (lone_held y t (back h)) ∙ ap (λ a. a ∷ []) e ∙ sym (ap amounts (lone_held x t h))
    split false f =
        let off : Holds x.period t → ⊥ = λ h. (let bad : true ≡ false = sym (test-from_holds t x.period h) ∙ f in cc) in
        ap amounts (lone_none y t (λ h. off (to h))) ∙ sym (ap amounts (lone_none x t off))

-- the items of two lists that hold it
pub holding-append : (xs ys : List Item) (t : ℤ) → holding (xs ++ ys) t ≡ holding xs t ++ holding ys t
holding-append xs ys t = filter-append (λ (x : Item). holds_at t x.period) xs ys

-- and their amounts
pub amounts-append : (xs ys : List Item) (t : ℤ)
    → amounts (holding (xs ++ ys) t) ≡ amounts (holding xs t) ++ amounts (holding ys t)
amounts-append xs ys t =
    ap amounts (holding-append xs ys t) ∙ map-append (λ (x : Item). x.amount) (holding xs t) (holding ys t)

-- ---- classes

has_left : (xs : List Item) (x : Item) (class : ℕ) → HasItem xs class → HasItem (xs ++ x ∷ []) class
has_left xs x class h = record {
  item = h.item;
  item_in = Contains-append_left xs (x ∷ []) h.item h.item_in;
  class_is = h.class_is;
}

has_more : (xs others : List Item) (x cut : Item) → cut.class ≡ x.class
    → ((y : Item) → Contains others y → HasItem xs y.class) → (y : Item) → Contains (others ++ cut ∷ []) y
    → HasItem (xs ++ x ∷ []) y.class
has_more xs others x cut e has y h = elim (Contains-append_cases others (cut ∷ []) y h) [
  | inl k ↦ has_left xs x y.class (has y k)
  | inr k ↦ elim (Contains-cons_cases cut [] y k) [
    | inl f ↦ record {
      item = x;
      item_in = Contains-append_right xs (x ∷ []) x (Contains-head x []);
      class_is = sym e ∙ ap (λ (v : Item). v.class) f;
    }
    | inr n ↦ absurd (Contains-none y n)
  ]
]

-- ---- in a span

-- an empty list
pub within_none : (span : Range ℤ) → AreWithin span [] []
within_none span = record {
  same = λ t h. refl;
  none = λ t h. refl;
  few = omega arith;
  own = λ x h. absurd (Contains-none x h);
}

-- one more item that shares an instant with the span
pub within_more : (span : Range ℤ) (xs held : List Item) (x cut : Item) → IsWithin span x cut → AreWithin span xs held
    → AreWithin span (xs ++ x ∷ []) (held ++ cut ∷ [])
within_more span xs held x cut i w = record {
  same = λ t h. amounts-append held (cut ∷ []) t
      ∙ ap (λ l. l ++ amounts (holding (cut ∷ []) t)) (w.same t h)
      ∙ ap (λ l. amounts (holding xs t) ++ l)
      (lone_same x cut t i.amount (λ k. ((i.holds t).0 k).0) (λ k. (i.holds t).1 (k, h)))
      ∙ sym (amounts-append xs (x ∷ []) t);
  none = λ t off. holding-append held (cut ∷ []) t
      ∙ ap (λ l. l ++ holding (cut ∷ []) t) (w.none t off)
      ∙ lone_none cut t (λ k. off ((i.holds t).0 k).1);
  few = (let few = w.few in
      let m = length-append held (cut ∷ []) in
      let n = length-append xs (x ∷ []) in
      omega (arith, few, m, n));
  own = has_more xs held x cut i.class_is w.own;
}

-- one more item that shares none
pub within_off : (span : Range ℤ) (xs held : List Item) (x : Item) → Misses span x.period → AreWithin span xs held
    → AreWithin span (xs ++ x ∷ []) held
within_off span xs held x off w = record {
  same = λ t h. w.same t h
      ∙ sym (append-nil (amounts (holding xs t)))
      ∙ ap (λ l. amounts (holding xs t) ++ l) (sym (ap amounts (lone_none x t (λ k. off t k h))))
      ∙ sym (amounts-append xs (x ∷ []) t);
  none = w.none;
  few = (let few = w.few in let n = length-append xs (x ∷ []) in omega (arith, few, n));
  own = λ y h. has_left xs x y.class (w.own y h);
}
