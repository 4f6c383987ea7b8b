-- There is only one way to split records into a block's commands.
use Rattle.std.proofs.Common.{◌≡◌, ◌⊎◌, ℕ, ◌+◌, List, [], ◌∷◌, ◌++◌, length, false, true, ap, sym, ◌∙◌, refl, subst, inl, inr, append_assoc, arith}
use Rattle.std.specs.Bool.{⊤}
use Rattle.std.proofs.lemmas.Bool.{both_ways}
use Rattle.std.proofs.lemmas.List.{append-nil, length-append}
use Rattle.command_core.specs.Meaning.{Meaning, Means, MeansBlock, MeansRecord, MeansUnended, refuse}
use Rattle.command_core.specs.Records.{Record}
use Rattle.command_core.specs.Statement.{AreMembers, IsMember, IsOpen, Member}
use Rattle.command_core.specs.Words.{is_end}
use Rattle.command_core.specs.declared.refusal.Refusal.TheVariants.{Unended}
use Rattle.command_core.proofs.MeaningUniqueness.{block_unended, one_meaning, record_unended, same_head}

-- ---- one member

-- A command has a first record.
pub record Opens (own : List Record) : Type 0 where
  pub opening : Record
  pub behind : List Record
  pub whole : own ≡ opening ∷ behind

pub opened : (number : ℕ) (own later : List Record) (meaning : Meaning) → Means number own later meaning → Opens own
opened number own later meaning (inl r) = record { opening = r.opening; behind = []; whole = r.alone }
opened number own later meaning (inr (inl b)) =
    record { opening = b.opening; behind = b.body ++ b.last ∷ []; whole = b.whole }
opened number own later meaning (inr (inr u)) = record { opening = u.opening; behind = u.body; whole = u.whole }

pub first_own : (x : Record) (xs own later : List Record) (o : Opens own) → x ∷ xs ≡ own ++ later → x ≡ o.opening
first_own x xs own later o e = same_head x o.opening xs (o.behind ++ later) (e ∙ ap (λ l. l ++ later) o.whole)

-- A command of one record, or a block with its `end`.
abbrev pub MeansClosed : ℕ → List Record → Meaning → Type 0
MeansClosed number own meaning = MeansRecord number own meaning ⊎ MeansBlock number own meaning

pub closed-means : (number : ℕ) (own later : List Record) (meaning : Meaning)
    → MeansClosed number own meaning → Means number own later meaning
closed-means number own later meaning (inl r) = inl r
closed-means number own later meaning (inr b) = inr (inl b)

-- A command is a member if its first record isn't `end`.
pub closed-member : (number : ℕ) (x : Record) (xs own later : List Record) (alone : Meaning) → x ∷ xs ≡ own ++ later
    → is_end x ≡ false → MeansClosed number own alone
    → IsMember own (record { number = number; opening = x; alone = alone })
closed-member number x xs own later alone taken stands means =
    let o = opened number own later alone (closed-means number own later alone means) in
    record {
      behind = o.behind;
      whole = o.whole ∙ ap (λ y. y ∷ o.behind) (sym (first_own x xs own later o taken));
      stands = stands;
      means = means;
    }

member-same : (one other : Member) → one.number ≡ other.number → one.opening ≡ other.opening
    → one.alone ≡ other.alone → one ≡ other
member-same one other number opening alone =
    ap (λ n. make n one.opening one.alone) number
    ∙ (ap (λ o. make other.number o one.alone) opening ∙ ap (λ m. make other.number other.opening m) alone)
  where
    make : ℕ → Record → Meaning → Member
    make n o m = record { number = n; opening = o; alone = m }

-- The first member takes its records in only one way.
same_member : (number : ℕ) (own later taken left : List Record) (one other : Member)
    → own ++ later ≡ taken ++ left → one.number ≡ number → other.number ≡ number
    → IsMember own one → IsMember taken other → (own ≡ taken) × (later ≡ left) × (one ≡ other)
same_member number own later taken left one other e first second is was =
    let means = closed-means number own later one.alone
    (subst (λ n. MeansClosed n own one.alone) first is.means) in
    let meant = closed-means number taken left other.alone
    (subst (λ n. MeansClosed n taken other.alone) second was.means) in
    let same = one_meaning number own later taken left one.alone other.alone e means meant in
    let opening : one.opening ≡ other.opening =
    same_head one.opening other.opening is.behind was.behind (sym is.whole ∙ (same.0 ∙ was.whole)) in
    (same.0, same.1, member-same one other (first ∙ sym second) opening same.2)

-- ---- where members end

-- No member begins with the first of these records: there is no record, or the first is an `end`, or the `end` that it
-- needs is missing.
abbrev pub HaveNone : List Record → Type 0
HaveNone [] = ⊤
HaveNone (first ∷ behind) = (is_end first ≡ true) ⊎ IsOpen (first ∷ behind)

pub open-none : (records : List Record) → IsOpen records → HaveNone records
open-none [] unclosed = unclosed
open-none (first ∷ behind) unclosed = inr unclosed

pub none_begins : (records own later : List Record) (member : Member) → HaveNone records → records ≡ own ++ later
    → IsMember own member → ⊥
none_begins [] own later member none e is =
    let taken : [] ≡ member.opening ∷ (is.behind ++ later) = e ∙ ap (λ l. l ++ later) is.whole in cc
none_begins (first ∷ behind) own later member (inl ends) e is =
    let same : first ≡ member.opening =
    same_head first member.opening behind (is.behind ++ later) (e ∙ ap (λ l. l ++ later) is.whole) in
    both_ways (is_end member.opening) is.stands (subst (λ line. is_end line ≡ true) same ends)
none_begins (first ∷ behind) own later member (inr unclosed) e is = by is.means
  where
    number : ℕ
    number = member.number

    unended : MeansUnended number (first ∷ behind) [] (refuse number Unended)
    unended = record {
      opening = first;
      body = behind;
      whole = refl;
      opens = unclosed.0;
      inside = unclosed.1;
      last = refl;
      means = refl;
    }

    split : own ++ later ≡ (first ∷ behind) ++ []
    split = sym e ∙ sym (append-nil (first ∷ behind))

    by : MeansRecord number own member.alone ⊎ MeansBlock number own member.alone → ⊥
    by (inl r) =
        record_unended number own later (first ∷ behind) [] member.alone (refuse number Unended) split r unended
    by (inr b) =
        block_unended number own later (first ∷ behind) [] member.alone (refuse number Unended) split b unended

-- ---- all members

-- Records begin with only one list of members, if no member begins after it.
pub same_members : (number : ℕ) (body rest taken left : List Record) (one other : List Member)
    → body ++ rest ≡ taken ++ left → AreMembers number body one → AreMembers number taken other → HaveNone rest
    → HaveNone left → (body ≡ taken) × (rest ≡ left) × (one ≡ other)
same_members number body rest taken left [] [] e are were stops stopped =
    (are ∙ sym were, ap (λ l. l ++ rest) (sym are) ∙ (e ∙ ap (λ l. l ++ left) were), refl)
same_members number body rest taken left [] (member ∷ more) e are (own, later, split, first, is, behind) stops stopped =
    absurd (none_begins rest own (later ++ left) member stops
    (ap (λ l. l ++ rest) (sym are) ∙ (e ∙ (ap (λ l. l ++ left) split ∙ append_assoc own later left))) is)
same_members number body rest taken left (member ∷ more) [] e (own, later, split, first, is, behind) were stops
    stopped =
    absurd (none_begins left own (later ++ rest) member stopped
    (ap (λ l. l ++ left) (sym were) ∙ (sym e ∙ (ap (λ l. l ++ rest) split ∙ append_assoc own later rest))) is)
same_members number body rest taken left (one ∷ ones) (other ∷ others) e (own, later, split, first, is, behind)
    (own', later', split', second, was, behind') stops stopped =
    let whole : own ++ (later ++ rest) ≡ own' ++ (later' ++ left) =
    sym (append_assoc own later rest)
    ∙ (ap (λ l. l ++ rest) (sym split)
    ∙ (e ∙ (ap (λ l. l ++ left) split' ∙ append_assoc own' later' left))) in
    let same = same_member number own (later ++ rest) own' (later' ++ left) one other whole first second is was in
    let are = subst (λ l. AreMembers (number + length l) later ones) same.0 behind in
    let more = same_members (number + length own') later rest later' left ones others same.1 are behind' stops
    stopped in (
      split ∙ (ap (λ l. l ++ later) same.0 ∙ (ap (λ l. own' ++ l) more.0 ∙ sym split')),
      more.1,
      ap (λ m. m ∷ ones) same.2 ∙ ap (λ l. other ∷ l) more.2,
    )

-- ---- members of more records

-- Members, followed by the members of the records after them.
AreMembers-append : (number : ℕ) (body rest : List Record) (front back : List Member)
    → AreMembers number body front → AreMembers (number + length body) rest back
    → AreMembers number (body ++ rest) (front ++ back)
AreMembers-append number body rest [] back are behind =
    let zero : number + length body ≡ number = omega (arith, ap length are) in
    subst (λ n. AreMembers n (body ++ rest) back) zero
    (subst (λ l. AreMembers (number + length body) l back) (ap (λ l. l ++ rest) (sym are)) behind)
AreMembers-append number body rest (member ∷ more) back (own, later, split, first, is, inner) behind =
    let size : number + length body ≡ number + length own + length later =
    omega (arith, ap length split, length-append own later) in (
      own,
      later ++ rest,
      ap (λ l. l ++ rest) split ∙ append_assoc own later rest,
      first,
      is,
      AreMembers-append (number + length own) later rest more back inner
          (subst (λ n. AreMembers n rest back) size behind),
    )

-- A single member.
AreMembers-one : (number : ℕ) (own : List Record) (member : Member) → member.number ≡ number → IsMember own member
    → AreMembers number own (member ∷ [])
AreMembers-one number own member first is = (own, [], sym (append-nil own), first, is, refl)

-- Members and one more after them.
pub AreMembers-more : (number : ℕ) (body own : List Record) (front : List Member) (member : Member)
    → AreMembers number body front → member.number ≡ number + length body → IsMember own member
    → AreMembers number (body ++ own) (front ++ member ∷ [])
AreMembers-more number body own front member are first is =
    AreMembers-append number body own front (member ∷ []) are
    (AreMembers-one (number + length body) own member first is)
