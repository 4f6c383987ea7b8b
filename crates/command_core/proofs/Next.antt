-- How the first records of a block of commands are its next command.
use Rattle.std.proofs.Common.{◌≡◌, ◌⊎◌, ℕ, ◌+◌, ◌<◌, List, [], ◌∷◌, ◌++◌, length, take, drop, Bool, true, false, Some, refl, ap, sym, subst, ◌∙◌, arith}
use Rattle.std.specs.List.{slice_get}
use Rattle.std.proofs.lemmas.List.{take-append-drop}
use Rattle.command_core.specs.Meaning.{Meaning, Means, MeansBlock, MeansRecord, refuse}
use Rattle.command_core.specs.Records.{Record}
use Rattle.command_core.specs.Statement.{AreMembers, IsMember, IsNext, IsOpen, Member, is_barred, meaning_inside}
use Rattle.command_core.specs.declared.refusal.Refusal.TheVariants.{NotInBlock}
use Rattle.command_core.proofs.Cutting.{drop-slice_get}
use Rattle.command_core.proofs.MeaningUniqueness.{one_meaning}
use Rattle.command_core.proofs.Members.{closed-means, first_own, none_begins, open-none}

-- The records of a block's first command, and of the commands after it.
pub record Firsts (number : ℕ) (records : List Record) (members : List Member) : Type 0 where
  pub member : Member
  pub more : List Member
  pub own : List Record
  pub later : List Record
  pub are : members ≡ member ∷ more
  pub split : records ≡ own ++ later
  pub first : member.number ≡ number
  pub is : IsMember own member
  pub behind : AreMembers (number + length own) later more

pub firsts : (number : ℕ) (records : List Record) (members : List Member) → 0 < length records
    → AreMembers number records members → Firsts number records members
firsts number records [] some are = absurd (omega (arith, some, ap length are))
firsts number records (member ∷ more) some (own, later, split, first, is, behind) = record {
  member = member;
  more = more;
  own = own;
  later = later;
  are = refl;
  split = split;
  first = first;
  is = is;
  behind = behind;
}

-- The command's first record is the first of all.
pub Firsts-opening : (number : ℕ) (records : List Record) (members : List Member) (f : Firsts number records members)
    (x : Record) (xs : List Record) → records ≡ x ∷ xs → x ≡ f.member.opening
Firsts-opening number records members f x xs e =
    first_own x xs f.own f.later (record { opening = f.member.opening; behind = f.is.behind; whole = f.is.whole })
    (sym e ∙ f.split)

-- The first command of a block has its `end`.
pub members-closed : (number : ℕ) (records : List Record) (members : List Member) → 0 < length records
    → AreMembers number records members → IsOpen records → ⊥
members-closed number records members some are unclosed =
    let f = firsts number records members some are in
    none_begins records f.own f.later f.member (open-none records unclosed) f.split f.is

-- The records `own` belong to the block's first command, which would mean `alone` outside the block.
pub record IsAlone (number : ℕ) (members : List Member) (own later : List Record) (alone : Meaning) : Type 0 where
  pub member : Member
  pub more : List Member
  pub are : members ≡ member ∷ more
  pub is : IsMember own member
  pub first : member.number ≡ number
  pub means : alone ≡ member.alone
  pub behind : AreMembers (number + length own) later more

pub members-alone : (number : ℕ) (records own later : List Record) (members : List Member) (alone : Meaning)
    → 0 < length records → records ≡ own ++ later → AreMembers number records members → Means number own later alone
    → IsAlone number members own later alone
members-alone number records own later members alone some taken are means =
    let f = firsts number records members some are in
    let meant = closed-means number f.own f.later f.member.alone
    (subst (λ n. MeansRecord n f.own f.member.alone ⊎ MeansBlock n f.own f.member.alone) f.first f.is.means) in
    let same = one_meaning number own later f.own f.later alone f.member.alone (sym taken ∙ f.split) means meant in
    record {
      member = f.member;
      more = f.more;
      are = f.are;
      is = subst (λ l. IsMember l f.member) (sym same.0) f.is;
      first = f.first;
      means = same.2;
      behind = subst (λ l. AreMembers (number + length own) l f.more) (sym same.1)
          (subst (λ l. AreMembers (number + length l) f.later f.more) (sym same.0) f.behind);
    }

-- The command's first record is the first of all.
pub alone-opening : (number : ℕ) (members : List Member) (own later : List Record) (alone : Meaning)
    (a : IsAlone number members own later alone) (x : Record) (xs : List Record) → x ∷ xs ≡ own ++ later
    → x ≡ a.member.opening
alone-opening number members own later alone a x xs split =
    first_own x xs own later (record { opening = a.member.opening; behind = a.is.behind; whole = a.is.whole }) split

inside-free : (has_load : Bool) (member : Member) → is_barred has_load member.opening ≡ false
    → member.alone ≡ meaning_inside has_load member
inside-free has_load member free = rw free refl

inside-barred : (has_load : Bool) (member : Member) → is_barred has_load member.opening ≡ true
    → refuse member.number NotInBlock ≡ meaning_inside has_load member
inside-barred has_load member barred = rw barred refl

module _ (has_load : Bool) (number : ℕ) (xs : List Record) (x : Record) (e : slice_get xs 0 ≡ Some x) (n : ℕ)
    (alone : Meaning) (members : List Member) (some : 0 < length xs) (are : AreMembers number xs members)
    (means : Means number (take n xs) (drop n xs) alone) where
  own : IsAlone number members (take n xs) (drop n xs) alone
  own = members-alone number xs (take n xs) (drop n xs) members alone some (sym (take-append-drop n xs)) are means

  opening : x ≡ own.member.opening
  opening =
      alone-opening number members (take n xs) (drop n xs) alone own x (drop 1 xs)
      (sym (drop-slice_get xs 0 x e) ∙ sym (take-append-drop n xs))

  -- A command that isn't barred.
  pub next-free : is_barred has_load x ≡ false → IsNext has_load number members (take n xs) (drop n xs) alone
  next-free free = record {
    member = own.member;
    more = own.more;
    are = own.are;
    is = own.is;
    numbered = own.first;
    means = own.means
        ∙ inside-free has_load own.member (subst (λ line. is_barred has_load line ≡ false) opening free);
    behind = own.behind;
  }

  -- A command that is barred.
  pub next-barred : is_barred has_load x ≡ true
      → IsNext has_load number members (take n xs) (drop n xs) (refuse number NotInBlock)
  next-barred barred = record {
    member = own.member;
    more = own.more;
    are = own.are;
    is = own.is;
    numbered = own.first;
    means = ap (λ n. refuse n NotInBlock) (sym own.first)
        ∙ inside-barred has_load own.member (subst (λ line. is_barred has_load line ≡ true) opening barred);
    behind = own.behind;
  }
