-- Hits as the results of a merge of two parts.
use Rattle.std.proofs.Common.{◌≡◌, ℕ, ◌+◌, ◌≤◌, List, [], ◌∷◌, ◌++◌, ◌⊎◌, length, map, drop, refl, sym, subst, ap, ◌∙◌, arith, append_assoc, append-nil}
use Rattle.std.specs.Prelude.{◌≤ℤ◌, ◌<ℤ◌, Contains}
use Rattle.std.proofs.lemmas.Int.{ints}
use Rattle.std.proofs.lemmas.List.{map-append}
use Rattle.period_core.specs.declared.period.Period.{Period}
use Rattle.dip_core.specs.declared.item.Item.{Item}
use Rattle.dip_core.specs.Item.{IsChain}
use Rattle.list_core.specs.Wanted.{IsListOf}
use Rattle.list_core.proofs.RisingLemmas.{Contains-head}
use Rattle.list_core.proofs.WantedLemmas.{IsListOf-same, IsListOf-one}
use Rattle.merge_core.specs.declared.hit.Hit.{Hit}
use Rattle.merge_core.specs.Hits.{IsShared, IsHit, HitStartsBefore, AddsHits}
use Rattle.merge_core.specs.Advances.{advances_of}
use Rattle.merge_core.proofs.SharedLemmas.{shared_once}
use Rattle.merge_core.proofs.PartLemmas.{AllPairs-from_chain}
use Rattle.merge_core.proofs.AdvanceLemmas.{advances_left, advances_right, advances_end}
use Rattle.merge_core.proofs.MergeLemmas.{Contains-only, IsMade, IsMerging, merging_start, merging_left, merging_right, merging_end}

-- The hit of two items.
abbrev pub IsHitOf : Item → Item → Hit → Type 0
IsHitOf x y hit = IsHit (x ∷ []) (y ∷ []) hit

abbrev period_of : Item → Period
period_of x = x.period

abbrev shared_of : Hit → Period
shared_of hit = hit.period

-- The merge of two parts that finds hits.
abbrev pub IsMergingHits : (P Q p q : List Item) → (old now : List Hit) → Type 0
IsMergingHits P Q p q old now =
    IsMerging period_of period_of shared_of IsHitOf P Q p q old now

hit_shares : (x y : Item) (h : Hit) → IsHitOf x y h → IsShared x.period y.period h.period
hit_shares x y h i =
    subst (λ (v : Item). IsShared x.period v.period h.period) (sym (Contains-only y h.right i.right_in))
    (subst (λ (u : Item). IsShared u.period h.right.period h.period) (sym (Contains-only x h.left i.left_in)) i.shared)

made_from_hit : (p q : List Item) (h : Hit) → IsHit p q h → IsMade IsHitOf p q h
made_from_hit p q h i =
    record {
      x = h.left;
      y = h.right;
      x_in = i.left_in;
      y_in = i.right_in;
      made = record {
        left_in = Contains-head h.left [];
        right_in = Contains-head h.right [];
        matches = i.matches;
        shared = i.shared;
      };
    }

hit_from_made : (p q : List Item) (h : Hit) → IsMade IsHitOf p q h → IsHit p q h
hit_from_made p q h m =
    record {
      left_in = subst (Contains p) (Contains-only m.x h.left m.made.left_in) m.x_in;
      right_in = subst (Contains q) (Contains-only m.y h.right m.made.right_in) m.y_in;
      matches = m.made.matches;
      shared = m.made.shared;
    }

hit_made : Item → Item → Period → Hit
hit_made l r p = record { left = l; right = r; period = p }

-- a hit is determined by its two items and its period
pub Hit-same : (h k : Hit) → h.left ≡ k.left → h.right ≡ k.right → h.period ≡ k.period → h ≡ k
unfolding hit_made
Hit-same h k e f g =
    ap (λ l. hit_made l h.right h.period) e ∙ ap (λ r. hit_made k.left r h.period) f
    ∙ ap (λ p. hit_made k.left k.right p) g

-- two items have at most one hit
pub hit_alone : (x y : Item) (h : Hit) → IsHitOf x y h → IsListOf HitStartsBefore (IsHitOf x y) (h ∷ [])
hit_alone x y h i =
    IsListOf-one HitStartsBefore (IsHitOf x y) h i
    (λ k j.
    Hit-same h k
    (sym (Contains-only x h.left i.left_in) ∙ Contains-only x k.left j.left_in)
    (sym (Contains-only y h.right i.right_in) ∙ Contains-only y k.right j.right_in)
    (shared_once x.period y.period h.period k.period (hit_shares x y h i) (hit_shares x y k j)))

-- ---- values made from hits, as they are found

module _ {T : Type 0} (from_hit : Hit → T) where
  -- The state after `n` advances: the values for the hits of `P` and `Q` found, with `p` and `q` left.
  pub record IsJoining (P Q p q : List Item) (old now : List T) (n : ℕ) : Type 0 where
    pub hits : List Hit
    pub split : now ≡ old ++ map from_hit hits
    pub merging : IsMergingHits P Q p q [] hits
    pub count : n + (length p + length q) ≡ length P + length Q
    pub left_shorter : length p ≤ length P
    pub right_shorter : length q ≤ length Q
    pub exact : n + advances_of p q ≡ advances_of P Q

  pub joining_start : (P Q : List Item) (old : List T) → IsChain P → IsChain Q → IsJoining P Q P Q old old 0
  joining_start P Q old left right =
      record {
        hits = [];
        split = sym (append-nil old);
        merging = merging_start period_of period_of shared_of IsHitOf hit_shares
            P Q [] (AllPairs-from_chain P left) (AllPairs-from_chain Q right);
        count = omega arith;
        left_shorter = omega arith;
        right_shorter = omega arith;
        exact = omega arith;
      }

  -- the values for the hits until now, and for two more items
  made_more : (hits more : List Hit) (old mid now : List T) → mid ≡ old ++ map from_hit hits
      → now ≡ mid ++ map from_hit more → now ≡ old ++ map from_hit (hits ++ more)
  made_more hits more old mid now e f =
      f ∙ ap (λ l. l ++ map from_hit more) e ∙ append_assoc old (map from_hit hits) (map from_hit more)
      ∙ ap (λ l. old ++ l) (sym (map-append from_hit hits more))

  pub joining_left : (P Q : List Item) (x : Item) (p : List Item) (y : Item) (q : List Item) (old mid now : List T)
      (n : ℕ) → p ≡ x ∷ drop 1 p → q ≡ y ∷ drop 1 q → x.period.to ≤ℤ y.period.to
      → AddsHits from_hit (x ∷ []) (y ∷ []) mid now
      → IsJoining P Q p q old mid n → IsJoining P Q (drop 1 p) q old now (n + 1)
  joining_left P Q x p y q old mid now n e f first a j =
      let size : length p ≡ length (x ∷ drop 1 p) = ap length e in
      record {
        hits = j.hits ++ a.hits;
        split = made_more j.hits a.hits old mid now j.split a.split;
        merging = merging_left period_of period_of shared_of IsHitOf hit_shares
            P Q x p y q [] j.hits (j.hits ++ a.hits) e f first
            (record { added = a.hits; split = refl; all = a.all }) j.merging;
        count = omega (arith, j.count);
        left_shorter = omega (arith, j.left_shorter);
        right_shorter = j.right_shorter;
        exact = omega (arith, j.exact, advances_left x p y q e f j.merging.right_apart first);
      }

  pub joining_right : (P Q : List Item) (x : Item) (p : List Item) (y : Item) (q : List Item) (old mid now : List T)
      (n : ℕ) → p ≡ x ∷ drop 1 p → q ≡ y ∷ drop 1 q → y.period.to <ℤ x.period.to
      → AddsHits from_hit (x ∷ []) (y ∷ []) mid now
      → IsJoining P Q p q old mid n → IsJoining P Q p (drop 1 q) old now (n + 1)
  joining_right P Q x p y q old mid now n e f later a j =
      let first : y.period.to ≤ℤ x.period.to = omega (arith, ints, later) in
      let size : length q ≡ length (y ∷ drop 1 q) = ap length f in
      record {
        hits = j.hits ++ a.hits;
        split = made_more j.hits a.hits old mid now j.split a.split;
        merging = merging_right period_of period_of shared_of IsHitOf hit_shares
            P Q x p y q [] j.hits (j.hits ++ a.hits) e f first
            (record { added = a.hits; split = refl; all = a.all }) j.merging;
        count = omega (arith, j.count);
        left_shorter = j.left_shorter;
        right_shorter = omega (arith, j.right_shorter);
        exact = omega (arith, j.exact, advances_right x p y q e f j.merging.left_apart later);
      }

  -- once one part is used up, all hits are found
  pub joining_end : (P Q p q : List Item) (old now : List T) (n : ℕ) → (p ≡ []) ⊎ (q ≡ [])
      → IsJoining P Q p q old now n → AddsHits from_hit P Q old now
  joining_end P Q p q old now n over j =
      let all = merging_end period_of period_of shared_of IsHitOf hit_shares
      P Q p q [] j.hits over j.merging in
      record {
        hits = all.added;
        split = j.split ∙ ap (λ l. old ++ map from_hit l) all.split;
        all = IsListOf-same HitStartsBefore (IsMade IsHitOf P Q) (IsHit P Q) all.added
            (hit_from_made P Q) (made_from_hit P Q) all.all;
      }

  -- and all advances are made
  pub joining_exact : (P Q p q : List Item) (old now : List T) (n : ℕ) → (p ≡ []) ⊎ (q ≡ [])
      → IsJoining P Q p q old now n → n ≡ advances_of P Q
  joining_exact P Q p q old now n over j = omega (arith, j.exact, advances_end p q over)

  -- the hit of the two next items is a hit of the parts
  pub joining_hit : (P Q p q : List Item) (x y : Item) (old now : List T) (n : ℕ) (h : Hit) → p ≡ x ∷ drop 1 p
      → q ≡ y ∷ drop 1 q → IsHitOf x y h → IsJoining P Q p q old now n → IsHit P Q h
  joining_hit P Q p q x y old now n h e f i j =
      hit_from_made P Q h
      (record {
        x = x;
        y = y;
        x_in = j.merging.left_within x (subst (λ z. Contains z x) (sym e) (Contains-head x (drop 1 p)));
        y_in = j.merging.right_within y (subst (λ z. Contains z y) (sym f) (Contains-head y (drop 1 q)));
        made = i;
      })
