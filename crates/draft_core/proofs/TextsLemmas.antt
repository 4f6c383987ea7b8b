-- Texts stored one after another: adding, truncating and reading.
use Rattle.std.proofs.Common.{ℕ, zero, suc, ◌≡◌, ◌<◌, ◌≤◌, ◌+◌, ◌-◌, List, [], ◌∷◌, ◌++◌, All, Some, length, take, drop, map, slice_get, refl, sym, subst, ap, ◌∙◌, arith, length-append, length-take-le, drop-drop, take_at, take-append-drop}
use Rattle.std.proofs.Math.Seq.{drop-append_seam}
use Rattle.std.proofs.lemmas.List.Elements.{All-append, All-cons, All-nil, All-push, All-tail, All-take}
use Rattle.list_core.specs.Cut.{cut, EndsAt, start_at}
use Rattle.list_core.proofs.CutLemmas.{EndsAt-behind, EndsAt-from, EndsAt-more, cut-behind, cut-more, part-append}
use Rattle.row_core.specs.Texts.{IsText}

-- the ends fit the bytes, and each part is a text
abbrev pub AreTexts : List ℕ → List ℕ → Type 0
AreTexts ends bytes = EndsAt 0 ends (length bytes) × All IsText (cut 0 ends bytes)

-- the same for equal ends and bytes
pub same_texts : (ends bytes ends' bytes' : List ℕ) → ends' ≡ ends → bytes' ≡ bytes → AreTexts ends bytes
    → AreTexts ends' bytes'
same_texts ends bytes ends' bytes' e b are = rw (e, b) are

-- the ends as they were before more were added
pub texts-back : (ends bytes more grown ends' bytes' : List ℕ) (n : ℕ) → grown ≡ ends ++ more → n ≡ length ends
    → ends' ≡ take n grown → bytes' ≡ bytes → AreTexts ends bytes → AreTexts ends' bytes'
texts-back ends bytes more grown ends' bytes' n g size e b are =
    same_texts ends bytes ends' bytes' (e ∙ ap (take n) g ∙ take_at ends more n (sym size)) b are

-- a text at an index
pub text-there : (texts : List (List ℕ)) (i : ℕ) (text : List ℕ) → All IsText texts → slice_get texts i ≡ Some text
    → IsText text
text-there [] i text all e = cc
text-there (first ∷ texts) zero text all e =
    let same : first ≡ text = cc in subst IsText same (all 0 first (omega arith))
text-there (first ∷ texts) (suc i) text all e = text-there texts i text (All-tail IsText first texts all) e

-- ---- one text more

-- with its end, as it is borrowed
pub pushed-text : (ends bytes text lent grown longer : List ℕ) (end : ℕ) → AreTexts ends bytes → IsText text
    → lent ≡ bytes → end ≡ length lent + length text → grown ≡ ends ++ end ∷ [] → longer ≡ bytes ++ text
    → AreTexts grown longer × (cut 0 grown longer ≡ cut 0 ends bytes ++ text ∷ [])
pushed-text ends bytes text lent grown longer end (at, all) is b e g l =
    let grown_is : grown ≡ ends ++ (length bytes + length text) ∷ [] =
    g ∙ ap (λ n. ends ++ n ∷ []) (e ∙ ap (λ l. length l + length text) b) in
    let parts : cut 0 grown longer ≡ cut 0 ends bytes ++ text ∷ [] =
    rw (grown_is, l) (cut-more 0 ends bytes text at) in (
      (
        rw (grown_is, l, length-append bytes text) (EndsAt-more 0 ends (length bytes) (length text) at),
        subst (All IsText) (sym parts) (All-push IsText (cut 0 ends bytes) text all is),
      ),
      parts,
    )

-- ---- more texts

-- the ends of texts after the first `n` bytes
abbrev pub behind : ℕ → List ℕ → List ℕ
behind n ends = map (λ end. n + end) ends

cut-shifted : (n from : ℕ) (ends xs ys : List ℕ) → n ≡ length xs
    → cut (n + from) (behind n ends) (xs ++ ys) ≡ cut from ends ys
cut-shifted n from [] xs ys e = refl
cut-shifted n from (end ∷ ends) xs ys e =
    let size : n + end - (n + from) ≡ end - from = omega arith in
    let start : drop (n + from) (xs ++ ys) ≡ drop from ys =
    sym (drop-drop from n (xs ++ ys)) ∙ ap (λ k. drop from (drop k (xs ++ ys))) e
    ∙ ap (drop from) (drop-append_seam xs ys) in
    ap (λ k. take k (drop (n + from) (xs ++ ys)) ∷ cut (n + end) (behind n ends) (xs ++ ys)) size
    ∙ ap (λ l. take (end - from) l ∷ cut (n + end) (behind n ends) (xs ++ ys)) start
    ∙ ap (λ l. take (end - from) (drop from ys) ∷ l) (cut-shifted n end ends xs ys e)

EndsAt-shifted : (n from : ℕ) (ends : List ℕ) (size : ℕ) → EndsAt from ends size
    → EndsAt (n + from) (behind n ends) (n + size)
EndsAt-shifted n from [] size h = ap (λ k. n + k) h
EndsAt-shifted n from (end ∷ ends) size (h, more) = (omega (arith, h), EndsAt-shifted n end ends size more)

-- other texts, as they are borrowed
pub appended-texts : (ends bytes more text lent shared grown longer : List ℕ) (start : ℕ) → AreTexts ends bytes
    → AreTexts more text → start ≡ length bytes → lent ≡ more → shared ≡ text → grown ≡ ends ++ behind start lent
    → longer ≡ bytes ++ shared → AreTexts grown longer × (cut 0 grown longer ≡ cut 0 ends bytes ++ cut 0 more text)
appended-texts ends bytes more text lent shared grown longer start (at, all) (at', all') s m t g l =
    let n = length bytes in
    let grown_is : grown ≡ ends ++ behind n more =
    g ∙ ap (λ k. ends ++ behind k lent) s ∙ ap (λ e. ends ++ behind n e) m in
    let longer_is : longer ≡ bytes ++ text = l ∙ ap (λ b. bytes ++ b) t in
    let zero_on : n + 0 ≡ n = omega arith in
    let later : EndsAt n (behind n more) (n + length text) =
    subst (λ k. EndsAt k (behind n more) (n + length text)) zero_on (EndsAt-shifted n 0 more (length text) at') in
    let parts : cut 0 grown longer ≡ cut 0 ends bytes ++ cut 0 more text =
    ap (λ e. cut 0 e longer) grown_is ∙ ap (cut 0 (ends ++ behind n more)) longer_is
    ∙ cut-behind 0 ends (behind n more) bytes text at
    ∙ ap (λ l. cut 0 ends bytes ++ l)
    (ap (λ k. cut k (behind n more) (bytes ++ text)) (sym zero_on) ∙ cut-shifted n 0 more bytes text refl) in (
      (
        rw (grown_is, longer_is, length-append bytes text)
            (EndsAt-behind 0 ends (behind n more) n (n + length text) at later),
        subst (All IsText) (sym parts) (All-append IsText (cut 0 ends bytes) (cut 0 more text) all all'),
      ),
      parts,
    )

-- no text ends after the last byte
pub ends-within : (from : ℕ) (ends : List ℕ) (size : ℕ) → EndsAt from ends size → All (λ end. end ≤ size) ends
ends-within from [] size h = All-nil (λ end. end ≤ size)
ends-within from (end ∷ ends) size (h, more) =
    All-cons (λ end. end ≤ size) end ends (EndsAt-from end ends size more) (ends-within end ends size more)

-- ---- the first texts

start_at-next : (from end : ℕ) (ends : List ℕ) (k : ℕ) → start_at from (end ∷ ends) (suc k) ≡ start_at end ends k
start_at-next from end ends zero = refl
start_at-next from end ends (suc k) = refl

-- a text starts within the bytes
start_at-within : (from : ℕ) (ends : List ℕ) (size k : ℕ) → EndsAt from ends size → k < length ends
    → (from ≤ start_at from ends k) × (start_at from ends k ≤ size)
start_at-within from [] size k h lt = absurd (omega arith)
start_at-within from (end ∷ ends) size zero (h, more) lt =
    (omega arith, omega (arith, h, EndsAt-from end ends size more))
start_at-within from (end ∷ ends) size (suc zero) (h, more) lt = (h, EndsAt-from end ends size more)
start_at-within from (end ∷ ends) size (suc (suc k)) (h, more) lt =
    let later = start_at-within end ends size (suc k) more (omega arith) in (omega (arith, h, later.0), later.1)

EndsAt-first : (from : ℕ) (ends : List ℕ) (size k : ℕ) → EndsAt from ends size → k < length ends
    → EndsAt from (take k ends) (start_at from ends k)
EndsAt-first from [] size k h lt = absurd (omega arith)
EndsAt-first from (end ∷ ends) size zero h lt = refl
EndsAt-first from (end ∷ ends) size (suc k) (h, more) lt =
    (h, rw (start_at-next from end ends k) (EndsAt-first end ends size k more (omega arith)))

cut-first : (from : ℕ) (ends xs : List ℕ) (k : ℕ) → EndsAt from ends (length xs) → k < length ends
    → cut from (take k ends) (take (start_at from ends k) xs) ≡ take k (cut from ends xs)
cut-first from [] xs k h lt = absurd (omega arith)
cut-first from (end ∷ ends) xs zero h lt = refl
cut-first from (end ∷ ends) xs (suc k) (h, more) lt =
    let s = start_at end ends k in
    let within = start_at-within end ends (length xs) k more (omega arith) in
    let room : end ≤ length (take s xs) = omega (arith, within, length-take-le s xs within.1) in
    let part : take (end - from) (drop from (take s xs)) ≡ take (end - from) (drop from xs) =
    sym (part-append from end (take s xs) (drop s xs) h room)
    ∙ ap (λ l. take (end - from) (drop from l)) (take-append-drop s xs) in
    ap (λ n. cut from (end ∷ take k ends) (take n xs)) (start_at-next from end ends k)
    ∙ ap (λ l. l ∷ cut end (take k ends) (take s xs)) part
    ∙ ap (λ l. take (end - from) (drop from xs) ∷ l) (cut-first end ends xs k more (omega arith))

pub first-texts : (ends bytes fewer shorter : List ℕ) (k start : ℕ) → AreTexts ends bytes → k < length ends
    → start ≡ start_at 0 ends k → fewer ≡ take k ends → shorter ≡ take start bytes
    → AreTexts fewer shorter × (cut 0 fewer shorter ≡ take k (cut 0 ends bytes))
first-texts ends bytes fewer shorter k start (at, all) lt s f b =
    let shorter_is : shorter ≡ take (start_at 0 ends k) bytes = b ∙ ap (λ n. take n bytes) s in
    let within = start_at-within 0 ends (length bytes) k at lt in
    let parts : cut 0 fewer shorter ≡ take k (cut 0 ends bytes) =
    ap (λ e. cut 0 e shorter) f ∙ ap (cut 0 (take k ends)) shorter_is ∙ cut-first 0 ends bytes k at lt in (
      (
        rw (f, shorter_is, length-take-le (start_at 0 ends k) bytes within.1)
            (EndsAt-first 0 ends (length bytes) k at lt),
        subst (All IsText) (sym parts) (All-take IsText k (cut 0 ends bytes) all),
      ),
      parts,
    )
