-- Records have at most one first statement.
use Rattle.std.proofs.Common.{◌≡◌, ℕ, ◌+◌, List, [], ◌∷◌, ◌++◌, false, true, ap, sym, ◌∙◌, subst, inl, inr, append_assoc}
use Rattle.std.specs.Prelude.{codes}
use Rattle.std.proofs.lemmas.Bool.{both_ways}
use Rattle.std.proofs.lemmas.List.{append-nil}
use Rattle.std.proofs.lemmas.Slice.Eq.{bytes_eq-Decides}
use Rattle.command_core.specs.Records.{Record}
use Rattle.command_core.specs.Statement.{FirstStatement, IsOpen, One, Statement, States, StatesOne, StatesTogether, StatesUnended, placed_in, stated, opened_together}
use Rattle.command_core.specs.Words.{begins, is_end, opens_block}
use Rattle.command_core.proofs.Members.{open-none, same_members}
use Rattle.command_core.proofs.MeaningUniqueness.{one_meaning, same_head, same_tail}

-- An `end` opens no block.
end_opens_none : (line : Record) → is_end line ≡ true → opens_block line ≡ true → ⊥
end_opens_none [] ends opens = cc
end_opens_none (first ∷ []) ends opens =
    let word : first ≡ codes "end" = (bytes_eq-Decides first (codes "end")).0 ends in
    let none : opens_block (codes "end" ∷ []) ≡ true =
    subst (λ w. opens_block (w ∷ []) ≡ true) word opens in
    cc none
end_opens_none (first ∷ second ∷ rest) ends opens = cc ends

-- Records that begin with an `end` don't wait for one.
closed_or_open : (last : Record) (later rest : List Record) → is_end last ≡ true → IsOpen rest → last ∷ later ≡ rest → ⊥
closed_or_open last later [] ends unclosed e = cc
closed_or_open last later (first ∷ behind) ends unclosed e =
    let same : last ≡ first = same_head last first later behind e in
    end_opens_none first (subst (λ line. is_end line ≡ true) same ends) unclosed.0

-- ---- the records of a statement and the records after it

one_whole : (number : ℕ) (own later : List Record) (statement : Statement) (o : StatesOne number own later statement)
    → own ++ later ≡ o.opening ∷ (o.behind ++ later)
one_whole number own later statement o = ap (λ l. l ++ later) o.whole

together_whole : (number : ℕ) (own later : List Record) (statement : Statement)
    (t : StatesTogether number own statement) → own ++ later ≡ t.opening ∷ (t.body ++ t.last ∷ later)
together_whole number own later statement t =
    ap (λ l. l ++ later) t.whole ∙ ap (λ l. t.opening ∷ l) (append_assoc t.body (t.last ∷ []) later)

unended_whole : (number : ℕ) (own later : List Record) (statement : Statement)
    (u : StatesUnended number own later statement) → own ++ later ≡ u.opening ∷ (u.body ++ u.rest)
unended_whole number own later statement u =
    ap (λ l. l ++ later) u.whole
    ∙ (ap (λ l. (u.opening ∷ (u.body ++ u.rest)) ++ l) u.last ∙ append-nil (u.opening ∷ (u.body ++ u.rest)))

-- ---- two statements of the same records

-- A command that opens no block of commands isn't one.
no_together : (one other : Record) (xs ys : List Record) → begins (codes "together") one ≡ false
    → begins (codes "together") other ≡ true → one ∷ xs ≡ other ∷ ys → ⊥
no_together one other xs ys plain opens e =
    both_ways (begins (codes "together") other)
    (subst (λ line. begins (codes "together") line ≡ false) (same_head one other xs ys e) plain) opens

module _ (number : ℕ) (own later taken left : List Record) (one other : Statement)
    (e : own ++ later ≡ taken ++ left) where
  one_one : StatesOne number own later one → StatesOne number taken left other → (own ≡ taken) × (later ≡ left)
      × (one ≡ other)
  one_one o p =
      let same = one_meaning number own later taken left o.meaning p.meaning e o.means p.means in
      (same.0, same.1, o.states ∙ (ap One same.2 ∙ sym p.states))

  one_together : StatesOne number own later one → StatesTogether number taken other → ⊥
  one_together o t =
      no_together o.opening t.opening (o.behind ++ later) (t.body ++ t.last ∷ left) o.plain t.opens
      (sym (one_whole number own later one o) ∙ (e ∙ together_whole number taken left other t))

  one_unended : StatesOne number own later one → StatesUnended number taken left other → ⊥
  one_unended o u =
      no_together o.opening u.opening (o.behind ++ later) (u.body ++ u.rest) o.plain u.opens
      (sym (one_whole number own later one o) ∙ (e ∙ unended_whole number taken left other u))

  together_together : StatesTogether number own one → StatesTogether number taken other → (own ≡ taken)
      × (later ≡ left) × (one ≡ other)
  together_together t s =
      let whole : t.opening ∷ (t.body ++ t.last ∷ later) ≡ s.opening ∷ (s.body ++ s.last ∷ left) =
      sym (together_whole number own later one t) ∙ (e ∙ together_whole number taken left other s) in
      let first : t.opening ≡ s.opening =
      same_head t.opening s.opening (t.body ++ t.last ∷ later) (s.body ++ s.last ∷ left) whole in
      let same = same_members (number + 1) t.body (t.last ∷ later) s.body (s.last ∷ left) t.members s.members
      (same_tail t.opening s.opening (t.body ++ t.last ∷ later) (s.body ++ s.last ∷ left) whole) t.inside s.inside
      (inl t.closes) (inl s.closes) in
      let last : t.last ≡ s.last = same_head t.last s.last later left same.1 in (
        t.whole
            ∙ (ap (λ l. l ∷ (t.body ++ t.last ∷ [])) first
            ∙ (ap (λ l. s.opening ∷ (l ++ t.last ∷ [])) same.0
            ∙ (ap (λ l. s.opening ∷ (s.body ++ l ∷ [])) last ∙ sym s.whole))),
        same_tail t.last s.last later left same.1,
        t.states
            ∙ (ap (λ line. stated number (opened_together line (placed_in false t.members))) first
            ∙ (ap (λ ms. stated number (opened_together s.opening (placed_in false ms))) same.2 ∙ sym s.states)),
      )

  together_unended : StatesTogether number own one → StatesUnended number taken left other → ⊥
  together_unended t u =
      let whole : t.opening ∷ (t.body ++ t.last ∷ later) ≡ u.opening ∷ (u.body ++ u.rest) =
      sym (together_whole number own later one t) ∙ (e ∙ unended_whole number taken left other u) in
      let same = same_members (number + 1) t.body (t.last ∷ later) u.body u.rest t.members u.members
      (same_tail t.opening u.opening (t.body ++ t.last ∷ later) (u.body ++ u.rest) whole) t.inside u.inside
      (inl t.closes) (open-none u.rest u.unclosed) in
      closed_or_open t.last later u.rest t.closes u.unclosed same.1

  unended_unended : StatesUnended number own later one → StatesUnended number taken left other → (own ≡ taken)
      × (later ≡ left) × (one ≡ other)
  unended_unended u v =
      let whole : u.opening ∷ (u.body ++ u.rest) ≡ v.opening ∷ (v.body ++ v.rest) =
      sym (unended_whole number own later one u) ∙ (e ∙ unended_whole number taken left other v) in
      (u.whole ∙ (whole ∙ sym v.whole), u.last ∙ sym v.last, u.states ∙ sym v.states)

pub one_statement : (number : ℕ) (own later taken left : List Record) (one other : Statement)
    → own ++ later ≡ taken ++ left → States number own later one → States number taken left other
    → (own ≡ taken) × (later ≡ left) × (one ≡ other)
one_statement number own later taken left one other e (inl o) (inl p) =
    one_one number own later taken left one other e o p
one_statement number own later taken left one other e (inl o) (inr (inl t)) =
    absurd (one_together number own later taken left one other e o t)
one_statement number own later taken left one other e (inl o) (inr (inr u)) =
    absurd (one_unended number own later taken left one other e o u)
one_statement number own later taken left one other e (inr (inl t)) (inl o) =
    absurd (one_together number taken left own later other one (sym e) o t)
one_statement number own later taken left one other e (inr (inl t)) (inr (inl s)) =
    together_together number own later taken left one other e t s
one_statement number own later taken left one other e (inr (inl t)) (inr (inr u)) =
    absurd (together_unended number own later taken left one other e t u)
one_statement number own later taken left one other e (inr (inr u)) (inl o) =
    absurd (one_unended number taken left own later other one (sym e) o u)
one_statement number own later taken left one other e (inr (inr u)) (inr (inl t)) =
    absurd (together_unended number taken left own later other one (sym e) t u)
one_statement number own later taken left one other e (inr (inr u)) (inr (inr v)) =
    unended_unended number own later taken left one other e u v

pub one_first_statement : (number : ℕ) (records : List Record) (one other : FirstStatement number records)
    → (one.own ≡ other.own) × (one.later ≡ other.later) × (one.statement ≡ other.statement)
one_first_statement number records one other =
    one_statement number one.own one.later other.own other.later one.statement other.statement
    (sym one.taken ∙ other.taken) one.states other.states
