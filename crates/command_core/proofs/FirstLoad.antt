-- The search for the first load of a block of commands.
use Rattle.std.proofs.Common.{◌≡◌, ℕ, ◌+◌, ◌<◌, ◌≤◌, List, [], ◌∷◌, ◌++◌, All, length, take, drop, true, false, Some, refl, ap, sym, subst, ◌∙◌, arith, append_assoc, length-take}
use Rattle.std.specs.List.{slice_get}
use Rattle.std.specs.Prelude.{codes}
use Rattle.std.proofs.lemmas.List.{append-nil, drop-drop, drop_all, length-drop, take-append-drop}
use Rattle.std.proofs.lemmas.List.Elements.{All-append, All-cons, All-nil}
use Rattle.command_core.specs.Records.{Record}
use Rattle.command_core.specs.Statement.{AreMembers, IsOpen, IsSplit, Member, begins_load}
use Rattle.command_core.specs.Words.{begins}
use Rattle.command_core.proofs.Blocks.{HaveMeaning, HaveMembers, take-own}
use Rattle.command_core.proofs.Cutting.{drop-slice_get}
use Rattle.command_core.proofs.Members.{AreMembers-more, closed-means}
use Rattle.command_core.proofs.Next.{Firsts-opening, alone-opening, firsts, members-alone, members-closed}

-- The member isn't a load.
abbrev IsPlain : Member → Type 0
IsPlain member = begins_load member ≡ false

-- No member before index `at` is a load.
pub record Searched (lines : List Record) (at number : ℕ) (members : List Member) : Type 0 where
  pub front : List Member
  pub back : List Member
  pub are : members ≡ front ++ back
  pub before : AreMembers number (take at lines) front
  pub from : AreMembers (number + at) (drop at lines) back
  pub none : All IsPlain front

-- The same for each list of members, whatever the number of the first.
abbrev pub IsSearched : List Record → ℕ → Type 0
IsSearched lines at =
    (number : ℕ) (members : List Member) → AreMembers number lines members → Searched lines at number members

pub searched-none : (lines : List Record) → IsSearched lines 0
searched-none lines number members are =
    let start : number ≡ number + 0 = omega arith in
    record {
      front = [];
      back = members;
      are = refl;
      before = refl;
      from = subst (λ n. AreMembers n lines members) start are;
      none = All-nil IsPlain;
    }

-- Before the end, some records are left.
left : (lines : List Record) (at : ℕ) → at < length lines → 0 < length (drop at lines)
left lines at within = omega (arith, length-drop at lines)

placed : (lines : List Record) (at : ℕ) → at < length lines → length (take at lines) ≡ at
placed lines at within = omega (arith, length-take at lines)

-- One more member that isn't a load.
pub searched-more : (lines rest : List Record) (x : Record) (at n : ℕ) → rest ≡ drop at lines
    → slice_get lines at ≡ Some x → at < length lines → n ≤ length rest → begins (codes "load") x ≡ false
    → HaveMeaning (take n rest) → IsSearched lines at → IsSearched lines (at + n)
searched-more lines rest x at n r e within fits plain whole found number members are =
    let old = found number members are in
    let command = whole (number + at) in
    let split : drop at lines ≡ take n rest ++ drop n rest = sym r ∙ sym (take-append-drop n rest) in
    let some = left lines at within in
    let own = members-alone (number + at) (drop at lines) (take n rest) (drop n rest) old.back command.0 some split
    old.from (closed-means (number + at) (take n rest) (drop n rest) command.0 command.1) in
    let place : own.member.number ≡ number + length (take at lines) =
    own.first ∙ ap (λ k. number + k) (sym (placed lines at within)) in
    let size : number + at + length (take n rest) ≡ number + (at + n) = omega (arith, length-take n rest) in
    let later : drop n rest ≡ drop (at + n) lines = ap (drop n) r ∙ drop-drop n at lines in
    let opening = alone-opening (number + at) old.back (take n rest) (drop n rest) command.0 own x (drop (at + 1) lines)
    (sym (drop-slice_get lines at x e) ∙ split) in
    record {
      front = old.front ++ own.member ∷ [];
      back = own.more;
      are = old.are ∙ (ap (λ l. old.front ++ l) own.are ∙ sym (append_assoc old.front (own.member ∷ []) own.more));
      before = subst (λ l. AreMembers number l (old.front ++ own.member ∷ [])) (sym (take-own lines rest at n r))
          (AreMembers-more number (take at lines) (take n rest) old.front own.member old.before place own.is);
      from = subst (λ l. AreMembers (number + (at + n)) l own.more) later
          (subst (λ k. AreMembers k (drop n rest) own.more) size own.behind);
      none = All-append IsPlain old.front (own.member ∷ []) old.none
          (All-cons IsPlain own.member [] (subst (λ line. begins (codes "load") line ≡ false) opening plain)
          (All-nil IsPlain));
    }

-- The member at index `at` is a load.
pub searched-found : (lines : List Record) (x : Record) (at number : ℕ) (members : List Member)
    → slice_get lines at ≡ Some x → at < length lines → begins (codes "load") x ≡ true
    → Searched lines at number members → IsSplit number members (take at lines) (drop at lines)
searched-found lines x at number members e within loads old =
    let f = firsts (number + at) (drop at lines) old.back (left lines at within) old.from in
    let opening = Firsts-opening (number + at) (drop at lines) old.back f x (drop (at + 1) lines)
    (drop-slice_get lines at x e) in
    let place : number + at ≡ number + length (take at lines) =
    ap (λ k. number + k) (sym (placed lines at within)) in
    record {
      front = old.front;
      load = f.member;
      back = f.more;
      are = old.are ∙ ap (λ l. old.front ++ l) f.are;
      loads = subst (λ line. begins (codes "load") line ≡ true) opening loads;
      none = old.none;
      before = old.before;
      from = subst (λ n. AreMembers n (drop at lines) (f.member ∷ f.more)) place
          (subst (λ l. AreMembers (number + at) (drop at lines) l) f.are old.from);
    }

-- At the end, no member is a load.
pub searched-all : (lines : List Record) (at number : ℕ) (members : List Member) → length lines ≤ at
    → Searched lines at number members → All IsPlain members
searched-all lines at number members beyond old =
    subst (λ l. All IsPlain l)
    (sym (old.are ∙ (ap (λ l. old.front ++ l) (by old.back old.from) ∙ append-nil old.front))) old.none
  where
    by : (back : List Member) → AreMembers (number + at) (drop at lines) back → back ≡ []
    by [] from = refl
    by (member ∷ more) (own, later, split, first, is, behind) =
        let none : [] ≡ member.opening ∷ (is.behind ++ later) =
        sym (drop_all at lines beyond) ∙ (split ∙ ap (λ l. l ++ later) is.whole) in
        absurd (cc none)

-- The member at index `at` has its `end`.
pub searched-closed : (lines rest : List Record) (at : ℕ) → rest ≡ drop at lines → at < length lines
    → IsSearched lines at → HaveMembers lines → IsOpen rest → ⊥
searched-closed lines rest at r within found whole unclosed =
    let all = whole 0 in
    let old = found 0 all.0 all.1 in
    members-closed (0 + at) (drop at lines) old.back (left lines at within) old.from (subst IsOpen r unclosed)
