-- The gaps of pairs as they are run, and the gaps of one left part against more and more right parts.
use Rattle.std.proofs.Common.{◌≡◌, ℕ, zero, suc, ◌+◌, ◌-◌, ◌*◌, ◌/◌, ◌%◌, ◌<◌, ◌≤◌, All, List, [], ◌∷◌, ◌++◌, length, take, drop, None, Option, Some, sym, subst, ap, ◌∙◌, arith, append-nil}
use Rattle.std.specs.Prelude.{slice_get}
use Rattle.std.proofs.Math.Seq.{take-add}
use Rattle.std.proofs.lemmas.List.{drop-drop, take_all}
use Rattle.std.proofs.lemmas.Nat.{div-mul-add, mod-mul-add}
use Rattle.dip_core.specs.declared.item.Item.{Item}
use Rattle.dip_core.specs.Item.{IsChain}
use Rattle.dip_core.specs.Division.{all_of, part_at}
use Rattle.dip_core.proofs.PartedLemmas.{all_of-append}
use Rattle.merge_core.specs.declared.gap.Gap.{Gap}
use Rattle.merge_core.specs.Gaps.{ListsGaps}
use Rattle.merge_core.proofs.GapExistence.{ListsGaps-opened}
use Rattle.anti_core.specs.declared.supply.Supply.{Supply}
use Rattle.anti_core.specs.PairGaps.{AreGapsFrom, AreGapsAgainst}

-- ---- running

-- each part of a division is a chain
IsChain-part_at : (ps : List (List Item)) (k : ℕ) → All IsChain ps → IsChain (part_at ps k)
IsChain-part_at [] k all = λ i d h. absurd (omega arith)
IsChain-part_at (p ∷ ps) zero all = all zero p (omega arith)
IsChain-part_at (p ∷ ps) (suc k) all = IsChain-part_at ps k (λ i d h. all (suc i) d (omega arith))

-- the gaps of pairs, from the truncated fact
pub AreGapsFrom-opened : (ps qs : List (List Item)) (first : ℕ) (values : List (List Gap)) → All IsChain ps
    → All IsChain qs
    → ((i : ℕ) (gaps : List Gap) → slice_get values i ≡ Some gaps
    → ∥ ListsGaps (part_at ps ((first + i) / length qs)) (part_at qs ((first + i) % length qs)) gaps ∥₁)
    → AreGapsFrom ps qs first values
AreGapsFrom-opened ps qs first values lefts rights bare i gaps at =
    ListsGaps-opened (part_at ps ((first + i) / length qs)) (part_at qs ((first + i) % length qs)) gaps
    (IsChain-part_at ps ((first + i) / length qs) lefts) (IsChain-part_at qs ((first + i) % length qs) rights)
    (bare i gaps at)

-- the gaps of one left part's pairs are the part's gaps against right parts
pub AreGapsAgainst-from_pairs : (ps qs : List (List Item)) (l done first from count : ℕ) (values : List (List Gap))
    → AreGapsFrom ps qs first values → first + from ≡ l * length qs + done → done + count ≤ length qs
    → AreGapsAgainst (part_at ps l) qs done values from count
AreGapsAgainst-from_pairs ps qs l done first from count values all e inside i gaps h at =
    let right : done + i < length qs = omega (arith, inside, h) in
    let n : first + (from + i) ≡ l * length qs + (done + i) = omega (arith, e) in
    let is : ListsGaps (part_at ps ((l * length qs + (done + i)) / length qs))
    (part_at qs ((l * length qs + (done + i)) % length qs)) gaps =
    subst (λ k. ListsGaps (part_at ps (k / length qs)) (part_at qs (k % length qs)) gaps) n (all (from + i) gaps at) in
    subst (λ k. ListsGaps (part_at ps l) (part_at qs k) gaps) (mod-mul-add l (length qs) (done + i) right)
    (subst (λ k. ListsGaps (part_at ps k) (part_at qs ((l * length qs + (done + i)) % length qs)) gaps)
    (div-mul-add l (length qs) (done + i) right) is)

-- ---- one list of gaps

-- the items of the right part with number `start`
all_of-one : (qs : List (List Item)) (start : ℕ) → start < length qs
    → all_of (take 1 (drop start qs)) ≡ part_at qs start
all_of-one [] start h = absurd (omega arith)
all_of-one (q ∷ []) zero h = append-nil q
all_of-one (q ∷ (r ∷ qs)) zero h = append-nil q
all_of-one (q ∷ qs) (suc start) h = all_of-one qs start (omega arith)

-- the first list is the gaps against the first right part
against-first : (p : List Item) (qs : List (List Item)) (start : ℕ) (values : List (List Gap)) (from count : ℕ)
    (gaps : List Gap) → AreGapsAgainst p qs start values from count → 0 < count → slice_get values from ≡ Some gaps
    → ListsGaps p (part_at qs start) gaps
against-first p qs start values from count gaps all some at =
    let e : from ≡ from + 0 = omega arith in
    let f : start + 0 ≡ start = omega arith in
    subst (λ n. ListsGaps p (part_at qs n) gaps) f (all 0 gaps some (subst (λ n. slice_get values n ≡ Some gaps) e at))

-- so it is the gaps against the items of one right part
one-listed : (p : List Item) (qs : List (List Item)) (start : ℕ) (values : List (List Gap)) (from count : ℕ)
    (only : List Gap) → 0 < count → start < length qs → Some only ≡ slice_get values from
    → AreGapsAgainst p qs start values from count → ListsGaps p (all_of (take 1 (drop start qs))) only
one-listed p qs start values from count only some inside at all =
    subst (λ z. ListsGaps p z only) (sym (all_of-one qs start inside))
    (against-first p qs start values from count only all some (sym at))

-- the gaps of a pair with the only right part
pub only-listed : (ps qs : List (List Item)) (l first from : ℕ) (values : List (List Gap)) (only : List Gap)
    → length qs ≡ 1 → first + from ≡ l → AreGapsFrom ps qs first values → Some only ≡ slice_get values from
    → ListsGaps (part_at ps l) (all_of qs) only
only-listed ps qs l first from values only one e all at =
    let rights : l * length qs ≡ l * 1 = ap (λ n. l * n) one in
    let against : AreGapsAgainst (part_at ps l) qs 0 values from 1 =
    AreGapsAgainst-from_pairs ps qs l 0 first from 1 values all (omega (arith, rights, e)) (omega (arith, one)) in
    subst (λ z. ListsGaps (part_at ps l) (all_of z) only) (take_all 1 qs (omega (arith, one)))
    (one-listed (part_at ps l) qs 0 values from 1 only (omega arith) (omega (arith, one)) at against)

-- a list has an element at each index within it
pub none_past : (values : List (List Gap)) (i : ℕ) → i < length values → None ≡ slice_get values i → ⊥
none_past [] i h e = absurd (omega arith)
none_past (v ∷ values) zero h e = absurd cc
none_past (v ∷ values) (suc i) h e = none_past values i (omega arith) e

-- intersecting it with the part's whole periods changes nothing
pub one-met : (p : List Item) (qs : List (List Item)) (start : ℕ) (values : List (List Gap)) (from count : ℕ)
    (whole only met : List Gap) → count ≡ 1 → start + count ≤ length qs → Some only ≡ slice_get values from
    → AreGapsAgainst p qs start values from count → ListsGaps p [] whole
    → ((right more : List Item) → ListsGaps p right whole → ListsGaps p more only → ListsGaps p (right ++ more) met)
    → ListsGaps p (all_of (take count (drop start qs))) met
one-met p qs start values from count whole only met one inside at all alone both =
    subst (λ n. ListsGaps p (all_of (take n (drop start qs))) met) (sym one)
    (both [] (all_of (take 1 (drop start qs))) alone
    (one-listed p qs start values from count only (omega (arith, one)) (omega (arith, one, inside)) at all))

-- ---- halves

-- the lists of the first half
pub against-front : (p : List Item) (qs : List (List Item)) (start : ℕ) (values : List (List Gap)) (from count half : ℕ)
    → half ≤ count → AreGapsAgainst p qs start values from count → AreGapsAgainst p qs start values from half
against-front p qs start values from count half fewer all i gaps h at = all i gaps (omega (arith, fewer, h)) at

-- the lists of the second half
pub against-back : (p : List Item) (qs : List (List Item)) (start : ℕ) (values : List (List Gap)) (from count half : ℕ)
    → half ≤ count → AreGapsAgainst p qs start values from count
    → AreGapsAgainst p qs (start + half) values (from + half) (count - half)
against-back p qs start values from count half fewer all i gaps h at =
    let e : (from + half) + i ≡ from + (half + i) = omega arith in
    let f : start + (half + i) ≡ (start + half) + i = omega arith in
    subst (λ n. ListsGaps p (part_at qs n) gaps) f
    (all (half + i) gaps (omega (arith, fewer, h)) (subst (λ n. slice_get values n ≡ Some gaps) e at))

-- the items of several parts, from some number on
all_of-halves : (qs : List (List Item)) (start half rest count : ℕ) → half + rest ≡ count
    → all_of (take half (drop start qs)) ++ all_of (take rest (drop (start + half) qs))
    ≡ all_of (take count (drop start qs))
all_of-halves qs start half rest count e =
    ap (λ z. all_of (take half (drop start qs)) ++ all_of (take rest z)) (sym (drop-drop half start qs))
    ∙ sym (all_of-append (take half (drop start qs)) (take rest (drop half (drop start qs))))
    ∙ ap all_of (sym (take-add half rest (drop start qs))) ∙ ap (λ n. all_of (take n (drop start qs))) e

-- both halves intersected
pub halves-met : (p : List Item) (qs : List (List Item)) (start count half : ℕ) (front back met : List Gap)
    → half ≤ count → ListsGaps p (all_of (take half (drop start qs))) front
    → ListsGaps p (all_of (take (count - half) (drop (start + half) qs))) back
    → ((right more : List Item) → ListsGaps p right front → ListsGaps p more back → ListsGaps p (right ++ more) met)
    → ListsGaps p (all_of (take count (drop start qs))) met
halves-met p qs start count half front back met fewer one other both =
    subst (λ z. ListsGaps p z met) (all_of-halves qs start half (count - half) count (omega (arith, fewer)))
    (both (all_of (take half (drop start qs))) (all_of (take (count - half) (drop (start + half) qs))) one other)

-- two lists intersected
pub two-met : (p : List Item) (qs : List (List Item)) (start : ℕ) (values : List (List Gap)) (from count : ℕ)
    (one other met : List Gap) → count ≡ 2 → start + count ≤ length qs → Some one ≡ slice_get values from
    → Some other ≡ slice_get values (from + 1) → AreGapsAgainst p qs start values from count
    → ((right more : List Item) → ListsGaps p right one → ListsGaps p more other → ListsGaps p (right ++ more) met)
    → ListsGaps p (all_of (take count (drop start qs))) met
two-met p qs start values from count one other met two inside first second all both =
    let fewer : 1 ≤ count = omega (arith, two) in
    let rest : count - 1 ≡ 1 = omega (arith, two) in
    halves-met p qs start count 1 one other met fewer
    (one-listed p qs start values from count one fewer (omega (arith, two, inside)) first all)
    (subst (λ n. ListsGaps p (all_of (take n (drop (start + 1) qs))) other) (sym rest)
    (one-listed p qs (start + 1) values (from + 1) (count - 1) other (omega (arith, two)) (omega (arith, two, inside))
    second (against-back p qs start values from count 1 fewer all)))
    both

-- ---- more right parts

-- the gaps until now, intersected with the gaps against more right parts
pub more-met : (p : List Item) (qs : List (List Item)) (done count : ℕ) (gaps more met : List Gap)
    → ListsGaps p (all_of (take done qs)) gaps → ListsGaps p (all_of (take count (drop done qs))) more
    → ((right others : List Item) → ListsGaps p right gaps → ListsGaps p others more
    → ListsGaps p (right ++ others) met)
    → ListsGaps p (all_of (take (done + count) qs)) met
more-met p qs done count gaps more met so_far new both =
    subst (λ z. ListsGaps p z met)
    (sym (all_of-append (take done qs) (take count (drop done qs))) ∙ ap all_of (sym (take-add done count qs)))
    (both (all_of (take done qs)) (all_of (take count (drop done qs))) so_far new)

-- equal supplies have the same gaps
pub supply-held : (ps qs : List (List Item)) (s x : Supply) → ◌≡◌ {A = Option Supply} (Some s) (Some x)
    → AreGapsFrom ps qs s.first s.values → AreGapsFrom ps qs x.first x.values
supply-held ps qs s x e are =
    let same : s ≡ x = cc in
    subst (λ (v : Supply). AreGapsFrom ps qs v.first v.values) same are
