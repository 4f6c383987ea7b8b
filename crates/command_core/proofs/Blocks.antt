-- When the first records of a list are a block of commands.
use Rattle.std.proofs.Common.{◌≡◌, ◌⊎◌, ℕ, suc, ◌+◌, ◌<◌, ◌≤◌, List, [], ◌∷◌, ◌++◌, length, take, drop, true, false, Some, None, Option, Ok, Err, refl, ap, sym, subst, ◌∙◌, arith, inl, inr, length-take}
use Rattle.std.specs.List.{slice_get}
use Rattle.std.specs.Option.{IfSome}
use Rattle.std.specs.Prelude.{codes}
use Rattle.std.proofs.Math.Seq.{take-add}
use Rattle.std.proofs.lemmas.List.{drop_all, take-append-drop, take_all}
use Rattle.command_core.specs.Records.{Record}
use Rattle.command_core.specs.Words.{begins, is_end}
use Rattle.command_core.specs.Meaning.{Meaning, Means, MeansBlock, MeansRecord, block_meaning, record_meaning, refuse, meaning_or_refusal}
use Rattle.command_core.specs.Statement.{AreMembers, IsMember, IsOpen, Member, One, Placed, StatesOne, StatesTogether, StatesUnended, placed_in, stated, opened_together}
use Rattle.command_core.specs.declared.refusal.Refusal.TheVariants.{BadCommand, Unended}
use Rattle.command_core.proofs.Cutting.{drop-slice_get, slice_get-there, take-slice_get}
use Rattle.command_core.proofs.Members.{AreMembers-more, closed-member, first_own, opened}

-- These records belong to some commands, whatever the number of the first.
abbrev pub HaveMembers : List Record → Type 0
HaveMembers records = (number : ℕ) → (members : List Member) × AreMembers number records members

-- These records belong to one command, whatever the number of the first.
abbrev pub HaveMeaning : List Record → Type 0
HaveMeaning records = (number : ℕ) → (alone : Meaning)
    × (MeansRecord number records alone ⊎ MeansBlock number records alone)

pub no-members : HaveMembers []
no-members number = ([], refl)

-- The records before an index, then the records of the command there.
pub take-own : (xs rest : List Record) (at n : ℕ) → rest ≡ drop at xs → take (at + n) xs ≡ take at xs ++ take n rest
take-own xs rest at n r = take-add at n xs ∙ ap (λ l. take at xs ++ take n l) (sym r)

-- The records from an index on begin with the records of the command there.
first-own : (xs rest : List Record) (x : Record) (at n : ℕ) → rest ≡ drop at xs → slice_get xs at ≡ Some x
    → x ∷ drop (at + 1) xs ≡ take n rest ++ drop n rest
first-own xs rest x at n r e = sym (drop-slice_get xs at x e) ∙ (sym r ∙ sym (take-append-drop n rest))

-- One more command.
pub members-more : (xs rest : List Record) (x : Record) (at n : ℕ) → rest ≡ drop at xs → slice_get xs at ≡ Some x
    → at < length xs → is_end x ≡ false → HaveMeaning (take n rest) → HaveMembers (take at xs)
    → HaveMembers (take (at + n) xs)
members-more xs rest x at n r e within stands whole have number =
    let front = have number in
    let command = whole (number + at) in
    let member : Member = record { number = number + at; opening = x; alone = command.0 } in
    let is : IsMember (take n rest) member =
    closed-member (number + at) x (drop (at + 1) xs) (take n rest) (drop n rest) command.0
    (first-own xs rest x at n r e) stands command.1 in
    let place : number + at ≡ number + length (take at xs) = omega (arith, length-take at xs) in (
      front.0 ++ member ∷ [],
      subst (λ l. AreMembers number l (front.0 ++ member ∷ [])) (sym (take-own xs rest at n r))
          (AreMembers-more number (take at xs) (take n rest) front.0 member front.1 place is),
    )

-- ---- the block

module _ (xs rest : List Record) (x : Record) (number : ℕ) (r : rest ≡ drop 1 xs) (e : slice_get xs 0 ≡ Some x)
    (opens : begins (codes "together") x ≡ true) where
  -- A block up to its `end`.
  pub states-together : (n : ℕ) (members : List Member) → n < length rest
      → AreMembers (number + 1) (take n rest) members → IfSome (slice_get rest n) (λ line. is_end line ≡ true)
      → StatesTogether number (take (n + 2) xs) (stated number (opened_together x (placed_in false members)))
  states-together n members within inside last = by (slice_get rest n) refl last
    where
      by : (o : Option Record) → slice_get rest n ≡ o → IfSome o (λ line. is_end line ≡ true)
          → StatesTogether number (take (n + 2) xs) (stated number (opened_together x (placed_in false members)))
      by None t ends = absurd (slice_get-there rest n within t)
      by (Some z) t ends =
          let whole : xs ≡ x ∷ rest = drop-slice_get xs 0 x e ∙ ap (λ l. x ∷ l) (sym r) in
          let size : n + 2 ≡ suc (n + 1) = omega arith in
          record {
            opening = x;
            body = take n rest;
            last = z;
            members = members;
            whole = ap (λ l. take (n + 2) l) whole ∙ rw size (ap (λ l. x ∷ l) (take-slice_get rest n z t));
            opens = opens;
            inside = inside;
            closes = ends;
            states = refl;
          }

  -- A block without its `end`.
  pub states-unended : (size n : ℕ) (members : List Member) → size ≡ length xs
      → AreMembers (number + 1) (take n rest) members → IsOpen (drop n rest)
      → StatesUnended number (take size xs) (drop size xs) (One (refuse number Unended))
  states-unended size n members all inside unclosed =
      let fits : length xs ≤ size = omega arith in
      record {
        opening = x;
        body = take n rest;
        rest = drop n rest;
        members = members;
        whole = take_all size xs fits
            ∙ (drop-slice_get xs 0 x e
            ∙ (ap (λ l. x ∷ l) (sym r) ∙ ap (λ l. x ∷ l) (sym (take-append-drop n rest))));
        opens = opens;
        inside = inside;
        unclosed = unclosed;
        last = drop_all size xs fits;
        states = refl;
      }

-- The first record has one field, or more.
pub opened-one : (opening : Record) (commands : List Placed) → length opening ≡ 1
    → opened_together opening commands ≡ Ok commands
opened-one [] commands e = absurd (omega arith)
opened-one (word ∷ []) commands e = refl
opened-one (word ∷ second ∷ fields) commands e = absurd (omega arith)

pub opened-more : (opening : Record) (commands : List Placed) → (length opening ≡ 1 → ⊥)
    → opened_together opening commands ≡ Err BadCommand
opened-more [] commands more = refl
opened-more (word ∷ []) commands more = absurd (more refl)
opened-more (word ∷ second ∷ fields) commands more = refl

-- ---- a command

-- A command that opens no block of commands.
pub states-one : (xs : List Record) (x : Record) (number taken : ℕ) (meaning : Meaning) → slice_get xs 0 ≡ Some x
    → begins (codes "together") x ≡ false → Means number (take taken xs) (drop taken xs) meaning
    → StatesOne number (take taken xs) (drop taken xs) (One meaning)
states-one xs x number taken meaning e plain means =
    let o = opened number (take taken xs) (drop taken xs) meaning means in
    let first = first_own x (drop 1 xs) (take taken xs) (drop taken xs) o
    (sym (drop-slice_get xs 0 x e) ∙ sym (take-append-drop taken xs)) in
    record {
      opening = o.opening;
      behind = o.behind;
      whole = o.whole;
      plain = subst (λ line. begins (codes "together") line ≡ false) first plain;
      meaning = meaning;
      means = means;
      states = refl;
    }

-- ---- other numbers

-- What the command means by itself, with another number.
renumbered-closed : (number other : ℕ) (own : List Record) (alone : Meaning)
    → MeansRecord number own alone ⊎ MeansBlock number own alone
    → (again : Meaning) × (MeansRecord other own again ⊎ MeansBlock other own again)
renumbered-closed number other own alone (inl r) = (
  meaning_or_refusal other (record_meaning r.opening),
  inl (record { opening = r.opening; alone = r.alone; plain = r.plain; means = refl }),
)
renumbered-closed number other own alone (inr b) = (
  meaning_or_refusal other (block_meaning b.opening b.body),
  inr (record {
    opening = b.opening;
    body = b.body;
    last = b.last;
    whole = b.whole;
    opens = b.opens;
    inside = b.inside;
    closes = b.closes;
    means = refl;
  }),
)

-- Whether records belong to commands doesn't depend on the first number.
pub have-members : (number : ℕ) (records : List Record) (members : List Member) → AreMembers number records members
    → HaveMembers records
have-members number records [] are other = ([], are)
have-members number records (member ∷ more) (own, later, split, first, is, behind) other =
    let again = renumbered-closed member.number other own member.alone is.means in
    let rest = have-members (number + length own) later more behind (other + length own) in (
      record { number = other; opening = member.opening; alone = again.0 } ∷ rest.0,
      (
        own,
        later,
        split,
        refl,
        record { behind = is.behind; whole = is.whole; stands = is.stands; means = again.1 },
        rest.1,
      ),
    )
