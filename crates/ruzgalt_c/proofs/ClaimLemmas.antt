-- A claim of the indices of each part's rows.
use Rattle.std.proofs.Common.{◌≡◌, ◌≢◌, ℕ, suc, ◌+◌, ◌<◌, ◌≤◌, cond, Bool, true, false, List, [], ◌∷◌, ◌++◌, length, map, get_or, set, refl, sym, subst, ap, ◌∙◌, arith, inl, inr, append-nil}
use Rattle.std.specs.Prelude.{◌==◌}
use Rattle.std.specs.Global.{Vec}
use Rattle.std.proofs.lemmas.Bool.{cases_eq, cases_lt, eq-eqb, ne_eqb}
use Rattle.std.proofs.lemmas.List.{get_or-map, get_or-set_other, get_or-set_same, length-map, length-set}
use Rattle.dip_core.specs.declared.item.Item.{Item}
use Rattle.dip_core.specs.Item.{IdsRise}
use Rattle.ruzgalt_c.specs.Check.{AreRowsByPart, IsClaimOf, indices_of}
use Rattle.ruzgalt_c.specs.Rows.{AreRows, Columns}

-- ---- one more number

in_front : (b : Bool) (i : ℕ) (xs ys zs : List ℕ) → zs ≡ xs ++ ys → cond b (i ∷ zs) zs ≡ cond b (i ∷ xs) xs ++ ys
in_front true i xs ys zs e = ap (λ (l : List ℕ). i ∷ l) e
in_front false i xs ys zs e = e

indices-more_from : (k i : ℕ) (part : List ℕ) (p : ℕ)
    → indices_of k i (part ++ p ∷ []) ≡ indices_of k i part ++ cond (p == k) ((i + length part) ∷ []) []
indices-more_from k i [] p =
    let e : i ≡ i + 0 = omega arith in
    ap (λ (n : ℕ). cond (p == k) (n ∷ []) []) e
indices-more_from k i (q ∷ part) p =
    let e : suc i + length part ≡ i + suc (length part) = omega arith in
    in_front (q == k) i (indices_of k (suc i) part) (cond (p == k) ((i + suc (length part)) ∷ []) [])
    (indices_of k (suc i) (part ++ p ∷ []))
    (indices-more_from k (suc i) part p
    ∙ ap (λ (n : ℕ). indices_of k (suc i) part ++ cond (p == k) (n ∷ []) []) e)

indices-more : (k : ℕ) (part : List ℕ) (p : ℕ)
    → indices_of k 0 (part ++ p ∷ []) ≡ indices_of k 0 part ++ cond (p == k) (length part ∷ []) []
indices-more k part p =
    let e : 0 + length part ≡ length part = omega arith in
    indices-more_from k 0 part p ∙ ap (λ (n : ℕ). indices_of k 0 part ++ cond (p == k) (n ∷ []) []) e

-- The part of the new row gets the row's index.
indices-own : (k : ℕ) (part : List ℕ) (p : ℕ) → p ≡ k
    → indices_of k 0 (part ++ p ∷ []) ≡ indices_of k 0 part ++ length part ∷ []
indices-own k part p e =
    indices-more k part p
    ∙ ap (λ (b : Bool). indices_of k 0 part ++ cond b (length part ∷ []) []) (eq-eqb p k e)

-- Any other part stays the same.
indices-other : (k : ℕ) (part : List ℕ) (p : ℕ) → p ≢ k → indices_of k 0 (part ++ p ∷ []) ≡ indices_of k 0 part
indices-other k part p ne =
    indices-more k part p
    ∙ ap (λ (b : Bool). indices_of k 0 part ++ cond b (length part ∷ []) []) (ne_eqb p k ne)
    ∙ append-nil (indices_of k 0 part)

-- ---- row by row

-- The row was appended to the list of its part.
pub rows-added : (part : List ℕ) (count : ℕ) (lists lists' : List (Vec ℕ)) (number row : ℕ) (own : Vec ℕ)
    → number < length lists → lists' ≡ set lists number own
    → own.items ≡ (get_or lists number own).items ++ row ∷ [] → row ≡ length part
    → AreRowsByPart part count lists → AreRowsByPart (part ++ number ∷ []) count lists'
rows-added part count lists lists' number row own inside is own_is e are =
    subst (AreRowsByPart (part ++ number ∷ []) count) (sym is) (record {
      len = length-set lists number own ∙ are.len;
      each = λ k d h. elim (cases_eq k number) [
        | inl same ↦
            let within : k < length lists = (let len = length-set lists number own in omega (arith, h, len)) in
            subst
            (λ (n : ℕ). (get_or (set lists number own) n d).items ≡ indices_of n 0 (part ++ number ∷ [])) (sym same)
            (ap (λ (v : Vec ℕ). v.items) (get_or-set_same lists number own d inside)
            ∙ own_is
            ∙ ap (λ (l : List ℕ). l ++ row ∷ []) (are.each number own inside)
            ∙ ap (λ (n : ℕ). indices_of number 0 part ++ n ∷ []) e
            ∙ sym (indices-own number part number refl))
        | inr other ↦
            let within : k < length lists = (let len = length-set lists number own in omega (arith, h, len)) in
            ap (λ (v : Vec ℕ). v.items) (get_or-set_other lists number k own d other)
            ∙ are.each k d within ∙ sym (indices-other k part number (λ f. other (sym f)))
      ];
    })

-- A row that belongs to no part is in no list.
pub rows-kept : (part : List ℕ) (count : ℕ) (lists : List (Vec ℕ)) (number : ℕ) → length lists ≤ number
    → AreRowsByPart part count lists → AreRowsByPart (part ++ number ∷ []) count lists
rows-kept part count lists number past are = record {
  len = are.len;
  each = λ k d h.
      are.each k d h
      ∙ sym (indices-other k part number (λ f. let same : number ≡ k = f in omega (arith, past, h, same)));
}

-- ---- the claim

pub claim-of_lists : (part : List ℕ) (count : ℕ) (lists : List (Vec ℕ)) (claim : List (List ℕ))
    → AreRowsByPart part count lists → claim ≡ map (λ (list : Vec ℕ). list.items) lists
    → (length claim ≡ count) × IsClaimOf part claim
claim-of_lists part count lists claim are is =
    subst (λ (c : List (List ℕ)). (length c ≡ count) × IsClaimOf part c) (sym is) (
      length-map lists (λ (list : Vec ℕ). list.items) ∙ are.len,
      record {
        each = λ k h.
            let len : length (map (λ (list : Vec ℕ). list.items) lists) ≡ length lists =
            length-map lists (λ (list : Vec ℕ). list.items) in
            let within : k < length lists = omega (arith, h, len) in
            listed lists k within part are;
      },
    )
  where
    listed : (lists : List (Vec ℕ)) (k : ℕ) → k < length lists → (part : List ℕ) → {n : ℕ} → AreRowsByPart part n lists
        → get_or (map (λ (list : Vec ℕ). list.items) lists) k [] ≡ indices_of k 0 part
    listed [] k h part are = absurd (omega arith)
    listed (l ∷ ls) k h part are =
        get_or-map (λ (list : Vec ℕ). list.items) (l ∷ ls) k l [] h ∙ are.each k l h

-- ---- ids

pub ids-rise : (rows : Columns) (items : List Item) → AreRows rows items → IdsRise items
ids-rise rows items are = λ k d h.
    let one : (get_or items k d).id ≡ k = (are.each k d (omega arith)).id in
    let other : (get_or items (k + 1) d).id ≡ k + 1 = (are.each (k + 1) d h).id in
    omega (arith, one, other)
