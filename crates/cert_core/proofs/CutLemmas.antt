-- Claims as lists that are cut at indices.
use Rattle.std.proofs.Common.{◌≡◌, ℕ, zero, suc, ◌+◌, ◌-◌, ◌≤◌, List, [], ◌∷◌, ◌++◌, length, take, drop, refl, sym, ap, ◌∙◌, arith}
use Rattle.std.specs.Prelude.{slice_set}
use Rattle.std.proofs.lemmas.List.{append-nil, drop-append-le, take-append-drop, take_all, drop_all, length-drop, drop-drop}
use Rattle.list_core.specs.Cut.{cut, EndsAt}
use Rattle.list_core.proofs.CutLemmas.{EndsAt-from, EndsAt-more, cut-more, part-append}
use Rattle.cert_core.specs.Claim.{ids_of, AddsToLast}

-- one more part, without ids
pub cut-open : (ends xs : List ℕ) → EndsAt 0 ends (length xs)
    → cut 0 (ends ++ length xs ∷ []) xs ≡ cut 0 ends xs ++ [] ∷ []
cut-open ends xs h =
    let same : length xs + 0 ≡ length xs = omega arith in
    rw (same, append-nil xs) at (cut-more 0 ends xs [] h)

pub EndsAt-open : (ends : List ℕ) (size : ℕ) → EndsAt 0 ends size → EndsAt 0 (ends ++ size ∷ []) size
EndsAt-open ends size h = let same : size + 0 ≡ size = omega arith in rw same at (EndsAt-more 0 ends size 0 h)

-- the last part ends at the end of a longer list
pub EndsAt-last : (from : ℕ) (ends : List ℕ) (size longer k : ℕ) → suc k ≡ length ends → size ≤ longer
    → EndsAt from ends size → EndsAt from (slice_set ends k longer) longer
EndsAt-last from [] size longer k last le h = absurd (omega (arith, last))
EndsAt-last from (end ∷ []) size longer zero last le (h, e) = (omega (arith, h, e, le), refl)
EndsAt-last from (end ∷ []) size longer (suc k) last le h = absurd (omega (arith, last))
EndsAt-last from (end ∷ (next ∷ ends)) size longer zero last le h = absurd (omega (arith, last))
EndsAt-last from (end ∷ (next ∷ ends)) size longer (suc k) last le (h, more) =
    (h, EndsAt-last end (next ∷ ends) size longer k (omega (arith, last)) le more)

-- the last part gets one more id
last-push : (from : ℕ) (xs : List ℕ) (x : ℕ) → from ≤ length xs
    → take (length (xs ++ x ∷ []) - from) (drop from (xs ++ x ∷ [])) ≡ take (length xs - from)
    (drop from xs) ++ x ∷ []
last-push from xs x le =
    let long : length (drop from (xs ++ x ∷ [])) ≤ length (xs ++ x ∷ []) - from =
    omega (arith, length-drop from (xs ++ x ∷ [])) in
    let whole : length (drop from xs) ≤ length xs - from = omega (arith, length-drop from xs) in
    take_all (length (xs ++ x ∷ []) - from) (drop from (xs ++ x ∷ [])) long
    ∙ (drop-append-le from xs (x ∷ []) le
    ∙ ap (λ l. l ++ x ∷ []) (sym (take_all (length xs - from) (drop from xs) whole)))

-- one more id in the last part
pub cut-last : (from : ℕ) (ends xs : List ℕ) (x k : ℕ) → suc k ≡ length ends → EndsAt from ends (length xs)
    → AddsToLast (cut from ends xs) (cut from (slice_set ends k (length (xs ++ x ∷ []))) (xs ++ x ∷ [])) x
cut-last from [] xs x k lasts h before last e = absurd (omega (arith, lasts))
cut-last from (end ∷ []) xs x (suc k) lasts h before last e = absurd (omega (arith, lasts))
cut-last from (end ∷ (next ∷ ends)) xs x zero lasts h before last e = absurd (omega (arith, lasts))
cut-last from (end ∷ []) xs x zero lasts (h, at_end) [] last e =
    let same : take (end - from) (drop from xs) ≡ last = cc in
    let within : from ≤ length xs = omega (arith, h, at_end) in
    ap (λ l. l ∷ [])
    (last-push from xs x within
    ∙ ap (λ l. l ++ x ∷ []) (ap (λ n. take (n - from) (drop from xs)) (sym at_end) ∙ same))
cut-last from (end ∷ []) xs x zero lasts h (b ∷ []) last e = absurd (cc e)
cut-last from (end ∷ []) xs x zero lasts h (b ∷ (c ∷ before)) last e = absurd (cc e)
cut-last from (end ∷ (next ∷ ends)) xs x (suc k) lasts h [] last e = absurd (cc e)
cut-last from (end ∷ (next ∷ ends)) xs x (suc k) lasts (h, more) (b ∷ before) last e =
    let within : end ≤ length xs = EndsAt-from end (next ∷ ends) (length xs) more in
    let first : take (end - from) (drop from xs) ≡ b = cc in
    let rest : cut end (next ∷ ends) xs ≡ before ++ last ∷ [] = cc in
    ap (λ l. l ∷ cut end (slice_set (next ∷ ends) k (length (xs ++ x ∷ []))) (xs ++ x ∷ []))
    (part-append from end xs (x ∷ []) h within ∙ first)
    ∙ ap (λ parts. b ∷ parts) (cut-last end (next ∷ ends) xs x k (omega (arith, lasts)) more before last rest)

-- all parts together are the list from the first cut on
flat-cut : (from : ℕ) (ends xs : List ℕ) → EndsAt from ends (length xs) → ids_of (cut from ends xs) ≡ drop from xs
flat-cut from [] xs h = sym (drop_all from xs (omega (arith, h)))
flat-cut from (end ∷ ends) xs (h, more) =
    let add : from + (end - from) ≡ end = omega (arith, h) in
    let later : drop (end - from) (drop from xs) ≡ drop end xs =
    drop-drop (end - from) from xs ∙ ap (λ n. drop n xs) add in
    ap (λ l. take (end - from) (drop from xs) ++ l) (flat-cut end ends xs more ∙ sym later)
    ∙ take-append-drop (end - from) (drop from xs)

pub ids_of-cut : (ends xs : List ℕ) → EndsAt 0 ends (length xs) → ids_of (cut 0 ends xs) ≡ xs
ids_of-cut ends xs h = flat-cut 0 ends xs h
