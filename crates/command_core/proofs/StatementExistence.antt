-- Non-empty records have a first statement.
use Rattle.std.proofs.Common.{◌≡◌, ◌⊎◌, ℕ, suc, zero, ◌+◌, ◌<◌, ◌≤◌, List, [], ◌∷◌, ◌++◌, false, true, length, arith, ap, sym, subst, ◌∙◌, refl, inl, inr, append_assoc}
use Rattle.std.specs.Prelude.{codes}
use Rattle.std.proofs.lemmas.Bool.{cases_Bool}
use Rattle.std.proofs.lemmas.List.{append-nil, length-append}
use Rattle.command_core.specs.Meaning.{Meaning, Means, MeansBlock, MeansRecord, refuse}
use Rattle.command_core.specs.Records.{Record}
use Rattle.command_core.specs.Statement.{AreMembers, FirstStatement, IsMember, IsOpen, Member, One, placed_in, stated, opened_together}
use Rattle.command_core.specs.Words.{begins, is_end}
use Rattle.command_core.specs.declared.refusal.Refusal.TheVariants.{Unended}
use Rattle.command_core.proofs.MeaningExistence.{FirstCommand, some_meaning}
use Rattle.command_core.proofs.Members.{HaveNone, Opens, closed-means, closed-member, first_own, opened}

-- The members at the beginning of records

-- Some records belong to members, and no member begins with the records after them.
record Fronted (number : ℕ) (records : List Record) : Type 0 where
  body : List Record
  rest : List Record
  members : List Member
  split : records ≡ body ++ rest
  are : AreMembers number body members
  stops : HaveNone rest

none_fronted : (number : ℕ) (records : List Record) → HaveNone records → Fronted number records
none_fronted number records stops =
    record { body = []; rest = records; members = []; split = refl; are = refl; stops = stops }

-- One more member at the beginning.
more_fronted : (number : ℕ) (records own later : List Record) (member : Member) → records ≡ own ++ later
    → member.number ≡ number → IsMember own member → Fronted (number + length own) later → Fronted number records
more_fronted number records own later member taken first is found = record {
  body = own ++ found.body;
  rest = found.rest;
  members = member ∷ found.members;
  split = taken ∙ (ap (λ l. own ++ l) found.split ∙ sym (append_assoc own found.body found.rest));
  are = (own, found.body, refl, first, is, found.are);
  stops = found.stops;
}

-- Fewer records are left after a command.
fewer : (most : ℕ) (records own later : List Record) → length records ≤ suc most → records ≡ own ++ later → Opens own
    → length later ≤ most
fewer most records own later few taken o =
    omega (arith, few, ap length taken, length-append own later, ap length o.whole)

-- The records after a command begin with members.
abbrev BehindFronted : ℕ → List Record → Type 0
BehindFronted number records =
    (own later : List Record) → records ≡ own ++ later → Opens own → Fronted (number + length own) later

closed_fronted : (number : ℕ) (x : Record) (xs own later : List Record) (meaning : Meaning) → is_end x ≡ false
    → BehindFronted number (x ∷ xs) → x ∷ xs ≡ own ++ later
    → MeansRecord number own meaning ⊎ MeansBlock number own meaning → Fronted number (x ∷ xs)
closed_fronted number x xs own later meaning stands behind taken means =
    more_fronted number (x ∷ xs) own later (record { number = number; opening = x; alone = meaning }) taken refl
    (closed-member number x xs own later meaning taken stands means)
    (behind own later taken (opened number own later meaning (closed-means number own later meaning means)))

next_fronted : (number : ℕ) (x : Record) (xs own later : List Record) (meaning : Meaning) → is_end x ≡ false
    → BehindFronted number (x ∷ xs) → x ∷ xs ≡ own ++ later → Means number own later meaning
    → Fronted number (x ∷ xs)
next_fronted number x xs own later meaning stands behind taken (inl r) =
    closed_fronted number x xs own later meaning stands behind taken (inl r)
next_fronted number x xs own later meaning stands behind taken (inr (inl b)) =
    closed_fronted number x xs own later meaning stands behind taken (inr b)
next_fronted number x xs own later meaning stands behind taken (inr (inr u)) =
    let whole : x ∷ xs ≡ u.opening ∷ u.body =
    taken ∙ (ap (λ l. l ++ later) u.whole
    ∙ (ap (λ l. (u.opening ∷ u.body) ++ l) u.last ∙ append-nil (u.opening ∷ u.body))) in
    none_fronted number (x ∷ xs) (subst HaveNone (sym whole) (inr (u.opens, u.inside)))

fronted : (most number : ℕ) (records : List Record) → length records ≤ most → Fronted number records
fronted most number [] few = none_fronted number [] tt
fronted zero number (x ∷ xs) few = absurd (omega arith)
fronted (suc most) number (x ∷ xs) few =
    let some : 0 < length (x ∷ xs) = omega arith in
    let f = some_meaning number (x ∷ xs) some in
    elim (cases_Bool (is_end x)) [
      | inl ends ↦ none_fronted number (x ∷ xs) (inl ends)
      | inr stands ↦
          next_fronted number x xs f.own f.later f.meaning stands
          (λ own later taken o. fronted most (number + length own) later (fewer most (x ∷ xs) own later few taken o))
          f.taken f.means
    ]

-- ---- statements

some_block : (number : ℕ) (opening : Record) (behind : List Record) → begins (codes "together") opening ≡ true
    → Fronted (number + 1) behind → FirstStatement number (opening ∷ behind)
some_block number opening behind opens found =
    by found.body found.rest found.members found.split found.are found.stops
  where
    unended : (body rest : List Record) (members : List Member) → behind ≡ body ++ rest
        → AreMembers (number + 1) body members → IsOpen rest → FirstStatement number (opening ∷ behind)
    unended body rest members split are unclosed = record {
      own = opening ∷ behind;
      later = [];
      statement = One (refuse number Unended);
      taken = sym (append-nil (opening ∷ behind));
      states = inr (inr (record {
        opening = opening;
        body = body;
        rest = rest;
        members = members;
        whole = ap (λ l. opening ∷ l) split;
        opens = opens;
        inside = are;
        unclosed = unclosed;
        last = refl;
        states = refl;
      }));
    }

    by : (body rest : List Record) (members : List Member) → behind ≡ body ++ rest
        → AreMembers (number + 1) body members → HaveNone rest → FirstStatement number (opening ∷ behind)
    by body [] members split are stops = unended body [] members split are stops
    by body (last ∷ later) members split are (inl ends) = record {
      own = opening ∷ (body ++ last ∷ []);
      later = later;
      statement = stated number (opened_together opening (placed_in false members));
      taken = ap (λ l. opening ∷ l) (split ∙ sym (append_assoc body (last ∷ []) later));
      states = inr (inl (record {
        opening = opening;
        body = body;
        last = last;
        members = members;
        whole = refl;
        opens = opens;
        inside = are;
        closes = ends;
        states = refl;
      }));
    }
    by body (last ∷ later) members split are (inr unclosed) = unended body (last ∷ later) members split are unclosed

some_command : (number : ℕ) (opening : Record) (behind : List Record) → begins (codes "together") opening ≡ false
    → FirstCommand number (opening ∷ behind) → FirstStatement number (opening ∷ behind)
some_command number opening behind plain f =
    let o = opened number f.own f.later f.meaning f.means in record {
      own = f.own;
      later = f.later;
      statement = One f.meaning;
      taken = f.taken;
      states = inl (record {
        opening = o.opening;
        behind = o.behind;
        whole = o.whole;
        plain = subst (λ line. begins (codes "together") line ≡ false)
            (first_own opening behind f.own f.later o f.taken) plain;
        meaning = f.meaning;
        means = f.means;
        states = refl;
      });
    }

pub some_statement : (number : ℕ) (records : List Record) → 0 < length records → FirstStatement number records
some_statement number [] some = absurd (omega arith)
some_statement number (opening ∷ behind) some = elim (cases_Bool (begins (codes "together") opening)) [
  | inl opens ↦
      let few : length behind ≤ length behind = omega arith in
      some_block number opening behind opens (fronted (length behind) (number + 1) behind few)
  | inr plain ↦ some_command number opening behind plain (some_meaning number (opening ∷ behind) some)
]
