-- The first command takes its records in only one way, and has only one meaning.
use Rattle.std.proofs.Common.{◌≡◌, ℕ, List, [], ◌∷◌, ◌++◌, false, true, ap, sym, ◌∙◌, refl, subst, inl, inr, append_assoc}
use Rattle.std.proofs.lemmas.Bool.{both_ways}
use Rattle.std.proofs.lemmas.List.{append-nil}
use Rattle.std.proofs.lemmas.List.Elements.{All-head, All-tail}
use Rattle.command_core.specs.Meaning.{IsBody, Meaning, Means, MeansBlock, MeansRecord, MeansUnended, block_meaning, record_meaning, meaning_or_refusal}
use Rattle.command_core.specs.Records.{Record}
use Rattle.command_core.specs.Words.{is_end, opens_block}

pub same_head : (x y : Record) (xs ys : List Record) → x ∷ xs ≡ y ∷ ys → x ≡ y
same_head x y xs ys e = cc

pub same_tail : (x y : Record) (xs ys : List Record) → x ∷ xs ≡ y ∷ ys → xs ≡ ys
same_tail x y xs ys e = cc

-- ---- the records of a command and the records after it

record_whole : (number : ℕ) (own later : List Record) (meaning : Meaning) (r : MeansRecord number own meaning)
    → own ++ later ≡ r.opening ∷ later
record_whole number own later meaning r = ap (λ l. l ++ later) r.alone

block_whole : (number : ℕ) (own later : List Record) (meaning : Meaning) (b : MeansBlock number own meaning)
    → own ++ later ≡ b.opening ∷ (b.body ++ b.last ∷ later)
block_whole number own later meaning b =
    ap (λ l. l ++ later) b.whole ∙ ap (λ l. b.opening ∷ l) (append_assoc b.body (b.last ∷ []) later)

unended_whole : (number : ℕ) (own later : List Record) (meaning : Meaning) (u : MeansUnended number own later meaning)
    → own ++ later ≡ u.opening ∷ u.body
unended_whole number own later meaning u =
    ap (λ l. l ++ later) u.whole ∙ (ap (λ l. (u.opening ∷ u.body) ++ l) u.last ∙ append-nil (u.opening ∷ u.body))

-- ---- the first `end`

-- A record that ends a block isn't in its body.
not_inside : (first last : Record) (body : List Record) → IsBody (first ∷ body) → is_end last ≡ true → first ≡ last → ⊥
not_inside first last body inside ends same =
    both_ways (is_end last)
    (subst (λ line. is_end line ≡ false) same (All-head (λ line. is_end line ≡ false) first body inside)) ends

IsBody-tail : (first : Record) (body : List Record) → IsBody (first ∷ body) → IsBody body
IsBody-tail first body inside = All-tail (λ line. is_end line ≡ false) first body inside

-- There is only one way to split records at their first `end`.
same_split : (one other : List Record) (last end : Record) (later left : List Record) → IsBody one → IsBody other
    → is_end last ≡ true → is_end end ≡ true
    → one ++ last ∷ later ≡ other ++ end ∷ left → (one ≡ other) × (last ≡ end) × (later ≡ left)
same_split [] [] last end later left inside inside' ends ends' e =
    (refl, same_head last end later left e, same_tail last end later left e)
same_split [] (y ∷ ys) last end later left inside inside' ends ends' e =
    absurd (not_inside y last ys inside' ends (sym (same_head last y later (ys ++ end ∷ left) e)))
same_split (x ∷ xs) [] last end later left inside inside' ends ends' e =
    absurd (not_inside x end xs inside ends' (same_head x end (xs ++ last ∷ later) left e))
same_split (x ∷ xs) (y ∷ ys) last end later left inside inside' ends ends' e =
    let first : x ≡ y = same_head x y (xs ++ last ∷ later) (ys ++ end ∷ left) e in
    let rest = same_split xs ys last end later left (IsBody-tail x xs inside) (IsBody-tail y ys inside') ends ends'
    (same_tail x y (xs ++ last ∷ later) (ys ++ end ∷ left) e) in
    (ap (λ l. l ∷ xs) first ∙ ap (λ l. y ∷ l) rest.0, rest.1, rest.2)

-- A body has no `end`.
none_ends : (one other : List Record) (last : Record) (later : List Record) → IsBody other → is_end last ≡ true
    → one ++ last ∷ later ≡ other → ⊥
none_ends one [] last later inside ends e = not_empty one e where
  not_empty : (one : List Record) → one ++ last ∷ later ≡ [] → ⊥
  not_empty [] e = cc e
  not_empty (x ∷ xs) e = cc e
none_ends [] (y ∷ ys) last later inside ends e = not_inside y last ys inside ends (sym (same_head last y later ys e))
none_ends (x ∷ xs) (y ∷ ys) last later inside ends e =
    none_ends xs ys last later (IsBody-tail y ys inside) ends (same_tail x y (xs ++ last ∷ later) ys e)

-- ---- two meanings of the same records

-- A command of one record isn't a block.
no_block : (one other : Record) (xs ys : List Record) → opens_block one ≡ false → opens_block other ≡ true
    → one ∷ xs ≡ other ∷ ys → ⊥
no_block one other xs ys plain opens e =
    both_ways (opens_block other) (subst (λ line. opens_block line ≡ false) (same_head one other xs ys e) plain) opens

module _ (number : ℕ) (own later taken left : List Record) (one other : Meaning)
    (e : own ++ later ≡ taken ++ left) where
  record_record : MeansRecord number own one → MeansRecord number taken other → (own ≡ taken) × (later ≡ left)
      × (one ≡ other)
  record_record r s =
      let whole : r.opening ∷ later ≡ s.opening ∷ left =
      sym (record_whole number own later one r) ∙ (e ∙ record_whole number taken left other s) in
      let first : r.opening ≡ s.opening = same_head r.opening s.opening later left whole in (
        r.alone ∙ (ap (λ l. l ∷ []) first ∙ sym s.alone),
        same_tail r.opening s.opening later left whole,
        r.means ∙ (ap (λ line. meaning_or_refusal number (record_meaning line)) first ∙ sym s.means),
      )

  record_block : MeansRecord number own one → MeansBlock number taken other → ⊥
  record_block r b =
      no_block r.opening b.opening later (b.body ++ b.last ∷ left) r.plain b.opens
      (sym (record_whole number own later one r) ∙ (e ∙ block_whole number taken left other b))

  pub record_unended : MeansRecord number own one → MeansUnended number taken left other → ⊥
  record_unended r u =
      no_block r.opening u.opening later u.body r.plain u.opens
      (sym (record_whole number own later one r) ∙ (e ∙ unended_whole number taken left other u))

  block_block : MeansBlock number own one → MeansBlock number taken other → (own ≡ taken) × (later ≡ left)
      × (one ≡ other)
  block_block b d =
      let whole : b.opening ∷ (b.body ++ b.last ∷ later) ≡ d.opening ∷ (d.body ++ d.last ∷ left) =
      sym (block_whole number own later one b) ∙ (e ∙ block_whole number taken left other d) in
      let first : b.opening ≡ d.opening =
      same_head b.opening d.opening (b.body ++ b.last ∷ later) (d.body ++ d.last ∷ left) whole in
      let rest = same_split b.body d.body b.last d.last later left b.inside d.inside b.closes d.closes
      (same_tail b.opening d.opening (b.body ++ b.last ∷ later) (d.body ++ d.last ∷ left) whole) in (
        b.whole
            ∙ (ap (λ l. l ∷ (b.body ++ b.last ∷ [])) first
            ∙ (ap (λ l. d.opening ∷ (l ++ b.last ∷ [])) rest.0
            ∙ (ap (λ l. d.opening ∷ (d.body ++ l ∷ [])) rest.1 ∙ sym d.whole))),
        rest.2,
        b.means
            ∙ (ap (λ line. meaning_or_refusal number (block_meaning line b.body)) first
            ∙ (ap (λ body. meaning_or_refusal number (block_meaning d.opening body)) rest.0 ∙ sym d.means)),
      )

  pub block_unended : MeansBlock number own one → MeansUnended number taken left other → ⊥
  block_unended b u =
      let whole : b.opening ∷ (b.body ++ b.last ∷ later) ≡ u.opening ∷ u.body =
      sym (block_whole number own later one b) ∙ (e ∙ unended_whole number taken left other u) in
      none_ends b.body u.body b.last later u.inside b.closes
      (same_tail b.opening u.opening (b.body ++ b.last ∷ later) u.body whole)

  unended_unended : MeansUnended number own later one → MeansUnended number taken left other → (own ≡ taken)
      × (later ≡ left) × (one ≡ other)
  unended_unended u v =
      let whole : u.opening ∷ u.body ≡ v.opening ∷ v.body =
      sym (unended_whole number own later one u) ∙ (e ∙ unended_whole number taken left other v) in
      (u.whole ∙ (whole ∙ sym v.whole), u.last ∙ sym v.last, u.means ∙ sym v.means)

pub one_meaning : (number : ℕ) (own later taken left : List Record) (one other : Meaning) → own ++ later ≡ taken ++ left
    → Means number own later one → Means number taken left other → (own ≡ taken) × (later ≡ left) × (one ≡ other)
one_meaning number own later taken left one other e (inl r) (inl s) =
    record_record number own later taken left one other e r s
one_meaning number own later taken left one other e (inl r) (inr (inl b)) =
    absurd (record_block number own later taken left one other e r b)
one_meaning number own later taken left one other e (inl r) (inr (inr u)) =
    absurd (record_unended number own later taken left one other e r u)
one_meaning number own later taken left one other e (inr (inl b)) (inl s) =
    absurd (record_block number taken left own later other one (sym e) s b)
one_meaning number own later taken left one other e (inr (inl b)) (inr (inl d)) =
    block_block number own later taken left one other e b d
one_meaning number own later taken left one other e (inr (inl b)) (inr (inr u)) =
    absurd (block_unended number own later taken left one other e b u)
one_meaning number own later taken left one other e (inr (inr u)) (inl s) =
    absurd (record_unended number taken left own later other one (sym e) s u)
one_meaning number own later taken left one other e (inr (inr u)) (inr (inl b)) =
    absurd (block_unended number taken left own later other one (sym e) b u)
one_meaning number own later taken left one other e (inr (inr u)) (inr (inr v)) =
    unended_unended number own later taken left one other e u v
