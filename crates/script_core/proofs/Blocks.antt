-- How the commands of a block are answered: the queries before the load, the load, and the queries after it.
use Rattle.std.proofs.Common.{◌≡◌, ◌⊎◌, ◌∙◌, ◌+◌, ◌^◌, ◌<◌, ◌≤◌, ℕ, suc, List, [], ◌∷◌, ◌++◌, Bool, Result, Ok, Err, ap, append_assoc, arith, cond, drop, false, inl, inr, length, refl, subst, sym, take, true}
use Rattle.std.specs.Prelude.{All, IfOk, codes, ◌||◌, if◌then◌else◌}
use Rattle.std.proofs.lemmas.List.{append-nil, drop-drop, drop_all, length-append, length-take}
use Rattle.std.proofs.lemmas.Result.{IfOk-at_ok}
use Rattle.std.proofs.lemmas.List.Sums.{sum_by-append, sum_by-cons}
use Rattle.list_core.proofs.PlaceLemmas.{All-seam}
use Rattle.row_core.specs.Refusals.{map_ok}
use Rattle.book_core.specs.History.{History}
use Rattle.command_core.specs.Fields.{named}
use Rattle.command_core.specs.Meaning as meaning
use Rattle.command_core.specs.Meaning.{Meaning, MeansBlock, MeansRecord, block_meaning, check_meaning, load_meaning, meaning_or_refusal, refuse}
use Rattle.command_core.specs.Records.{Record}
use Rattle.command_core.specs.Statement.{AreMembers, IsMember, IsNext, IsSplit, Member, Placed, Together, begins_load, is_allowed, is_barred, is_load, meaning_inside, placed_in}
use Rattle.command_core.specs.Words.{begins, opens_block}
use Rattle.command_core.specs.declared.refusal.Refusal.{Refusal}
use Rattle.command_core.specs.declared.refusal.Refusal.TheVariants.{NotInBlock}
use Rattle.command_core.proofs.MeaningUniqueness.{same_head}
use Rattle.answer_core.specs.PrintedRecords.{IsPrintedAs, errors_in, together_record}
use Rattle.answer_core.specs.Unwritten.{Adds}
use Rattle.answer_core.specs.declared.answer.Answer.{Answer}
use Rattle.answer_core.proofs.Printing.{Adds-trans}
use Rattle.row_core.specs.declared.failure.Failure.TheVariants.{Refused, NoMemory}
use Rattle.script_core.specs.Answer.{AnswersEach, IsAnswerTo}
use Rattle.script_core.specs.BlockCuts.{first_load_meaning}
use Rattle.script_core.specs.Failure.{Failure}
use Rattle.script_core.specs.Performing.{AsksLoad, CanBeJoined, IsAnswerOf, Performs, PrintsAnswer, PrintsBlock, PrintsOne, PrintsQueries, PrintsSection, PrintsStatement}
use Rattle.script_core.specs.declared.outcome.Outcome.{Outcome}
use Rattle.script_core.specs.declared.together.FirstLoad.{FirstLoad}
use Rattle.script_core.specs.declared.together.FirstLoad.TheVariants as load_variant
use Rattle.script_core.proofs.TogetherExistence.{reads-allowed}

-- ---- one command

-- The answer that an outcome stands for answers the command.
pub performed-answer : (before : History) (number : ℕ) (meant : Meaning) (outcome : Result Answer Failure)
    (after : History) (given : Answer) → Performs before number meant outcome after → IsAnswerOf outcome given
    → IsAnswerTo before number meant given after
performed-answer before number meant (Ok reported) after given performs is =
    subst (λ (g : Answer). IsAnswerTo before number meant g after) (sym is) performs
performed-answer before number meant (Err (Refused wrong)) after given performs is =
    subst (λ (g : Answer). IsAnswerTo before number meant g after) (sym is) performs
performed-answer before number meant (Err NoMemory) after given performs is = absurd is

-- The command is answered if that answer was printed.
pub command-printed : {E : Type 0} (before : History) (number : ℕ) (meant : Meaning) (outcome : Result Answer Failure)
    (after : History) (given : Result Answer E) (old new : List ℕ) (errors : ℕ)
    → Performs before number meant outcome after → IfOk given (IsAnswerOf outcome)
    → (answer : Answer) × (given ≡ Ok answer) × PrintsAnswer answer old new errors
    → PrintsOne before number meant after old new errors
command-printed before number meant outcome after given old new errors performs is (answer, was, said) =
    let own = IfOk-at_ok (IsAnswerOf outcome) was is in
    record {
      answer = said.records;
      answers = (answer, performed-answer before number meant outcome after answer performs own, said.are);
      printed = said.printed;
      errors = said.errors;
    }

-- An answer to the block's load. If the load is refused, nothing changes.
abbrev LoadAnswered : History → History → ℕ → Meaning → Answer → Type 0
LoadAnswered before after number meant given =
    IsAnswerTo before number meant given (if is_load meant then after else before)
    × (is_load meant ≡ false → after ≡ before)

load-answered : (before after : History) (number : ℕ) (meant : Meaning) (given : Answer) → AsksLoad meant
    → IsAnswerTo before number meant given after → LoadAnswered before after number meant given
load-answered before after number (meaning.Refuse wrong) given asks is = ((is.0, refl), λ _. is.1)
load-answered before after number (meaning.Load name body) given asks is = (is, λ e. absurd (cc))
load-answered before after number (meaning.Make name columns) given asks is = absurd asks
load-answered before after number (meaning.Update name portion sets conds) given asks is = absurd asks
load-answered before after number (meaning.Delete name portion conds) given asks is = absurd asks
load-answered before after number (meaning.Rows name asof) given asks is = absurd asks
load-answered before after number (meaning.At name point asof) given asks is = absurd asks
load-answered before after number (meaning.Between name first last) given asks is = absurd asks
load-answered before after number (meaning.FromTo name first end) given asks is = absurd asks
load-answered before after number (meaning.Dip name asof) given asks is = absurd asks
load-answered before after number (meaning.Join tables asof) given asks is = absurd asks
load-answered before after number (meaning.Anti tables asof) given asks is = absurd asks
load-answered before after number (meaning.Agg asked asof) given asks is = absurd asks
load-answered before after number (meaning.Check name parts instant asof body) given asks is = absurd asks
load-answered before after number meaning.Log given asks is = absurd asks

-- A command with the word `load` is a load, or refused.
asks-reported : (number : ℕ) (body : List Record) (named : Result (List ℕ) Refusal)
    → AsksLoad (meaning_or_refusal number (map_ok (λ name. meaning.Load name body) named))
asks-reported number body (Ok name) = tt
asks-reported number body (Err refusal) = tt

asks-if : (b : Bool) (number : ℕ) (meant : Meaning) → AsksLoad meant
    → AsksLoad (if b then refuse number NotInBlock else meant)
asks-if true number meant asks = tt
asks-if false number meant asks = asks

asks-alone : (own behind : List Record) (member : Member) → own ≡ member.opening ∷ behind → begins_load member ≡ true
    → MeansRecord member.number own member.alone ⊎ MeansBlock member.number own member.alone → AsksLoad member.alone
asks-alone own behind member whole loads (inl r) =
    let same : member.opening ≡ r.opening = same_head member.opening r.opening behind [] (sym whole ∙ r.alone) in
    let opens : opens_block r.opening ≡ true =
    subst (λ o. opens_block o ≡ true) same (ap (λ b. b || begins (codes "check") member.opening) loads) in
    let plain : opens_block r.opening ≡ false = r.plain in absurd (cc)
asks-alone own behind member whole loads (inr b) =
    let same : member.opening ≡ b.opening =
    same_head member.opening b.opening behind (b.body ++ b.last ∷ []) (sym whole ∙ b.whole) in
    let word : begins (codes "load") b.opening ≡ true = subst (λ o. begins (codes "load") o ≡ true) same loads in
    let load : block_meaning b.opening b.body ≡ load_meaning b.opening b.body =
    ap (λ w. if w then load_meaning b.opening b.body else check_meaning b.opening b.body) word in
    subst AsksLoad (sym (b.means ∙ ap (meaning_or_refusal member.number) load))
    (asks-reported member.number b.body (named b.opening))

pub load-asks : (has_load : Bool) (own : List Record) (member : Member) → IsMember own member
    → begins_load member ≡ true → AsksLoad (meaning_inside has_load member)
load-asks has_load own member is loads =
    asks-if (is_barred has_load member.opening) member.number member.alone
    (asks-alone own is.behind member is.whole loads is.means)

pub first-asks : (load : FirstLoad) → AsksLoad (first_load_meaning load)
first-asks (load_variant.Refused fault) = tt
first-asks (load_variant.Rows table body) = tt

-- ---- many commands

errors-append : (xs ys : List Record) → errors_in (xs ++ ys) ≡ errors_in xs + errors_in ys
errors-append xs ys = sum_by-append (λ (line : Record). cond (begins (codes "error") line) 1 0) xs ys

each-append : (before after : History) (front back : List Placed) (xs ys : List Record)
    → AnswersEach before after front xs → AnswersEach before after back ys
    → AnswersEach before after (front ++ back) (xs ++ ys)
each-append before after [] back xs ys first last =
    subst (AnswersEach before after back) (ap (λ l. l ++ ys) (sym first)) last
each-append before after (command ∷ more) back xs ys (own, later, split, answers, others) last = (
  own,
  later ++ ys,
  ap (λ l. l ++ ys) split ∙ append_assoc own later ys,
  answers,
  each-append before after more back later ys others last,
)

-- A command that isn't a load, whatever history the block's load leads to.
query-each : (before after : History) (number : ℕ) (meant : Meaning) (given : Answer) (own : List Record)
    → is_load meant ≡ false → IsAnswerTo before number meant given before → IsPrintedAs given own
    → AnswersEach before after (record { number = number; meaning = meant } ∷ []) own
query-each before after number meant given own unloading is printed =
    let stays : before ≡ (if is_load meant then after else before) =
    sym (ap (λ (b : Bool). if b then after else before) unloading) in
    (own, [], sym (append-nil own), (given, subst (IsAnswerTo before number meant given) stays is, printed), refl)

placed-more : (front : List Member) (member : Member) → placed_in true (front ++ member ∷ [])
    ≡ placed_in true front ++ record { number = member.number; meaning = meaning_inside true member } ∷ []
placed-more [] member = refl
placed-more (first ∷ front) member =
    ap (λ l. record { number = first.number; meaning = meaning_inside true first } ∷ l) (placed-more front member)

-- A command without the word `load` means the same before and after a load.
inside-same : (member : Member) → begins_load member ≡ false → meaning_inside true member ≡ meaning_inside false member
inside-same member none =
    ap
    (λ (b : Bool). if
    begins (codes "table") member.opening || begins (codes "update") member.opening
    || begins (codes "delete") member.opening || begins (codes "log") member.opening
    || begins (codes "together") member.opening || b
    then refuse member.number NotInBlock else member.alone) none

rest-none : (member : Member) (more : List Member) → All (λ m. begins_load m ≡ false) (member ∷ more)
    → All (λ m. begins_load m ≡ false) more
rest-none member more none k d l = none (suc k) d (omega arith)

-- The same for members without a load among them.
placed-none : (members : List Member) → All (λ m. begins_load m ≡ false) members
    → placed_in true members ≡ placed_in false members
placed-none [] none = refl
placed-none (member ∷ more) none =
    let first : begins_load member ≡ false = none 0 member (omega arith) in
    let flag : placed_in (begins_load member) more ≡ placed_in false more = ap (λ b. placed_in b more) first in
    ap (λ m. record { number = member.number; meaning = m } ∷ placed_in true more) (inside-same member first)
    ∙ ap (λ l. record { number = member.number; meaning = meaning_inside false member } ∷ l)
    (placed-none more (rest-none member more none) ∙ sym flag)

-- The members up to the first load, and after it.
placed-split : (front back : List Member) (load : Member) → All (λ m. begins_load m ≡ false) front
    → begins_load load ≡ true → placed_in false (front ++ load ∷ back) ≡ placed_in true front
    ++ record { number = load.number; meaning = meaning_inside false load } ∷ placed_in true back
placed-split [] back load none loads =
    ap (λ b. record { number = load.number; meaning = meaning_inside false load } ∷ placed_in b back) loads
placed-split (member ∷ front) back load none loads =
    let first : begins_load member ≡ false = none 0 member (omega arith) in
    ap (λ b. record { number = member.number; meaning = meaning_inside false member }
    ∷ placed_in b (front ++ load ∷ back)) first
    ∙ (ap (λ l. record { number = member.number; meaning = meaning_inside false member } ∷ l)
    (placed-split front back load (rest-none member front none) loads)
    ∙ ap (λ m. record { number = member.number; meaning = m } ∷ (placed_in true front
    ++ record { number = load.number; meaning = meaning_inside false load } ∷ placed_in true back))
    (sym (inside-same member first)))

-- ---- the loop over queries

-- Some queries were answered with this outcome, and the members from index `at` on are left.
pub record QueriesTo (before : History) (number : ℕ) (records : List Record) (at : ℕ) (members : List Member)
    (old new : List ℕ) (reported : Outcome) : Type 0 where
  pub gone : List Member
  pub left : List Member
  pub are : members ≡ gone ++ left
  pub behind : AreMembers (number + at) (drop at records) left
  pub printed : PrintsQueries before (placed_in true gone) old new reported

-- The same for all members that the records have.
abbrev pub QueriesDone : History → ℕ → List Record → ℕ → List ℕ → List ℕ → Outcome → Type 0
QueriesDone before number records at old new reported =
    (members : List Member) → AreMembers number records members
    → QueriesTo before number records at members old new reported

-- One more query is answered.
pub queries-more : (before : History) (number : ℕ) (records : List Record) (at taken : ℕ) (old mid new : List ℕ)
    (reported next : Outcome) (meant : Meaning) (errors : ℕ) → QueriesDone before number records at old mid reported
    → taken ≤ length (drop at records)
    → ((members : List Member) → AreMembers (number + at) (drop at records) members
    → IsNext true (number + at) members (take taken (drop at records)) (drop taken (drop at records)) meant)
    → is_allowed true meant ≡ true → PrintsOne before (number + at) meant before mid new errors
    → next.commands ≡ reported.commands + 1 → next.errors ≡ reported.errors + errors
    → QueriesDone before number records (at + taken) old new next
queries-more before number records at taken old mid new reported next meant errors done within next_is allowed one
    commands more members are =
    let d = done members are in
    let n = next_is d.left d.behind in
    let own : length (take taken (drop at records)) ≡ taken = omega (arith, length-take taken (drop at records)) in
    let place : number + at + length (take taken (drop at records)) ≡ number + (at + taken) = omega (arith, own) in
    let command : Placed = record { number = n.member.number; meaning = meaning_inside true n.member } in
    let same : record { number = number + at; meaning = meant } ≡ command =
    ap (λ k. placed k meant) (sym n.numbered) ∙ ap (placed n.member.number) n.means in
    let placed_all : placed_in true (d.gone ++ n.member ∷ []) ≡ placed_in true d.gone ++ command ∷ [] =
    placed-more d.gone n.member in
    let unloading : is_load meant ≡ false = reads-allowed meant allowed in
    record {
      gone = d.gone ++ n.member ∷ [];
      left = n.more;
      are = d.are ∙ (ap (λ l. d.gone ++ l) n.are ∙ sym (append_assoc d.gone (n.member ∷ []) n.more));
      behind = subst (λ k. AreMembers k (drop (at + taken) records) n.more) place
          (subst (λ l. AreMembers (number + at + length (take taken (drop at records))) l n.more)
          (drop-drop taken at records) n.behind);
      printed = record {
        answers = d.printed.answers ++ one.answer;
        each = λ after.
            subst (λ l. AnswersEach before after l (d.printed.answers ++ one.answer)) (sym placed_all)
            (each-append before after (placed_in true d.gone) (command ∷ []) d.printed.answers one.answer
            (d.printed.each after)
            (subst (λ (c : Placed). AnswersEach before after (c ∷ []) one.answer) same
            (query-each before after (number + at) meant one.answers.0 one.answer unloading one.answers.1
            one.answers.2)));
        printed = Adds-trans old mid new d.printed.answers one.answer d.printed.printed one.printed;
        commands = omega (
          arith,
          commands,
          d.printed.commands,
          ap length placed_all,
          length-append (placed_in true d.gone) (command ∷ []),
        );
        errors = omega (arith, more, d.printed.errors, errors-append d.printed.answers one.answer, one.errors);
      };
    }
  where
    placed : ℕ → Meaning → Placed
    placed k m = record { number = k; meaning = m }

none-left : (number : ℕ) (records : List Record) (members : List Member) → records ≡ []
    → AreMembers number records members → members ≡ []
none-left number records [] empty are = refl
none-left number records (member ∷ more) empty (own, later, split, first, is, behind) =
    let taken : [] ≡ member.opening ∷ (is.behind ++ later) =
    sym empty ∙ (split ∙ ap (λ l. l ++ later) is.whole) in
    absurd (cc)

-- All queries are answered.
pub queries-all : (before : History) (number : ℕ) (records : List Record) (at : ℕ) (old new : List ℕ)
    (reported : Outcome) → QueriesDone before number records at old new reported → length records ≤ at
    → (members : List Member) → AreMembers number records members
    → PrintsQueries before (placed_in true members) old new reported
queries-all before number records at old new reported done over members are =
    let d = done members are in
    let empty : d.left ≡ [] = none-left (number + at) (drop at records) d.left (drop_all at records over) d.behind in
    let whole : d.gone ≡ members = sym (d.are ∙ (ap (λ l. d.gone ++ l) empty ∙ append-nil d.gone)) in
    subst (λ l. PrintsQueries before (placed_in true l) old new reported) whole d.printed

-- ---- the whole block

-- Appending another printer's bytes.
appended : (old later new : List ℕ) (ys : List Record) → Adds [] later ys
    → new ≡ old ++ later → Adds old new ys
appended old later new ys adds is = is ∙ ap (λ t. old ++ t) adds

-- The queries before a load, the load, and the queries after it.
pub block-printed : (before after : History) (members front back : List Member) (load : Member)
    (errors : ℕ) (old mid near later new : List ℕ) (first last reported : Outcome)
    → members ≡ front ++ load ∷ back → All (λ m. begins_load m ≡ false) front → begins_load load ≡ true
    → AsksLoad (meaning_inside false load) → PrintsQueries before (placed_in true front) old mid first
    → PrintsOne before load.number (meaning_inside false load) after mid near errors
    → PrintsQueries before (placed_in true back) [] later last
    → new ≡ near ++ later
    → reported.commands ≡ first.commands + last.commands + 1 → reported.errors ≡ first.errors + last.errors + errors
    → PrintsBlock before (placed_in false members) after old new reported
block-printed before after members front back load errors old mid near later new first last reported are none loads
    asks ahead one others joined commands more =
    let command : Placed = record { number = load.number; meaning = meaning_inside false load } in
    let split : placed_in false members ≡ placed_in true front ++ command ∷ placed_in true back =
    ap (placed_in false) are ∙ placed-split front back load none loads in
    let answered = load-answered before after load.number
    (meaning_inside false load) one.answers.0 asks one.answers.1 in
    let tail : List Record = one.answer ++ others.answers in
    let near_new : Adds near new others.answers = appended near later new others.answers others.printed joined in
    record {
      answers = ahead.answers ++ tail;
      block = record {
        each = subst (λ l. AnswersEach before after l (ahead.answers ++ tail)) (sym split)
            (each-append before after (placed_in true front) (command ∷ placed_in true back) ahead.answers tail
            (ahead.each after)
            (one.answer, others.answers, refl, (one.answers.0, answered.0, one.answers.2), others.each after));
        unloaded = λ all.
            answered.1
            (All-seam (λ c. is_load c.meaning ≡ false) (placed_in true front) command (placed_in true back)
            (subst (All (λ c. is_load c.meaning ≡ false)) split all));
      };
      printed = Adds-trans old mid new ahead.answers tail ahead.printed
          (Adds-trans mid near new one.answer others.answers one.printed near_new);
      commands = omega (
        arith,
        commands,
        ahead.commands,
        others.commands,
        ap length split,
        length-append (placed_in true front) (command ∷ placed_in true back),
      );
      errors = omega (
        arith,
        more,
        ahead.errors,
        others.errors,
        one.errors,
        errors-append ahead.answers tail,
        errors-append one.answer others.answers,
      );
    }

-- A block with queries only.
pub queries-block : (before after : History) (members : List Member) (old new : List ℕ) (reported : Outcome)
    → All (λ m. begins_load m ≡ false) members → after ≡ before
    → PrintsQueries before (placed_in true members) old new reported
    → PrintsBlock before (placed_in false members) after old new reported
queries-block before after members old new reported none same printed =
    let p = subst (λ l. PrintsQueries before l old new reported) (placed-none members none) printed in
    record {
      answers = p.answers;
      block = record { each = p.each after; unloaded = λ _. same };
      printed = p.printed;
      commands = p.commands;
      errors = p.errors;
    }

-- The block's answer after its first record.
pub block-stated : (before : History) (number : ℕ) (commands : List Placed) (after : History) (old mid new : List ℕ)
    (reported next : Outcome) (own : List Record) → own ≡ together_record (length before) ∷ [] → Adds old mid own
    → PrintsBlock before commands after mid new reported → next.commands ≡ reported.commands + 1
    → next.errors ≡ reported.errors → PrintsStatement before number (Together commands) after old new next
block-stated before number commands after old mid new counted next own is opened block count errors =
    let first : Record = together_record (length before) in
    let quiet : begins (codes "error") first ≡ false = refl in
    record {
      answer = first ∷ block.answers;
      answers = record { answers = block.answers; block = block.block; printed = refl };
      printed = Adds-trans old mid new (first ∷ []) block.answers (subst (Adds old mid) is opened) block.printed;
      commands = omega (arith, count, block.commands);
      errors = omega (
        arith,
        errors,
        block.errors,
        sum_by-cons (λ (line : Record). cond (begins (codes "error") line) 1 0) first block.answers,
        ap {B = ℕ} (λ b. cond b 1 0) quiet,
      );
    }

-- ---- the position of the load

-- A block's members, cut at the first load, which takes `taken` records from index `place` on.
pub record IsCut (number : ℕ) (lines : List Record) (place taken : ℕ) (members : List Member) (meant : Meaning)
    : Type 0 where
  pub front : List Member
  pub load : Member
  pub back : List Member
  pub are : members ≡ front ++ load ∷ back
  pub none : All (λ m. begins_load m ≡ false) front
  pub loads : begins_load load ≡ true
  pub before : AreMembers number (take place lines) front
  pub from : AreMembers (number + place) (drop place lines) (load ∷ back)
  pub numbered : load.number ≡ number + place
  pub means : meant ≡ meaning_inside false load
  pub asks : AsksLoad meant
  pub behind : AreMembers (number + place + taken) (drop taken (drop place lines)) back

from-place : (number : ℕ) (lines : List Record) (place : ℕ) (members : List Member) → place < length lines
    → AreMembers (number + length (take place lines)) (drop place lines) members
    → AreMembers (number + place) (drop place lines) members
from-place number lines place members within are =
    let size : number + length (take place lines) ≡ number + place = omega (arith, length-take place lines) in
    subst (λ n. AreMembers n (drop place lines) members) size are

-- The members from the load on.
pub load-members : (number : ℕ) (lines : List Record) (place : ℕ) (members : List Member) → place < length lines
    → IsSplit number members (take place lines) (drop place lines)
    → (some : List Member) × AreMembers (number + place) (drop place lines) some
load-members number lines place members within split =
    (split.load ∷ split.back, from-place number lines place (split.load ∷ split.back) within split.from)

first-same : (x y : Member) (xs ys : List Member) → x ∷ xs ≡ y ∷ ys → (x ≡ y) × (xs ≡ ys)
first-same x y xs ys e = (cc, cc)

pub load-cut : (number : ℕ) (lines : List Record) (place taken : ℕ) (members : List Member) (meant : Meaning)
    → place < length lines → taken ≤ length (drop place lines)
    → IsSplit number members (take place lines) (drop place lines)
    → ((some : List Member) → AreMembers (number + place) (drop place lines) some
    → IsNext false (number + place) some (take taken (drop place lines)) (drop taken (drop place lines)) meant)
    → IsCut number lines place taken members meant
load-cut number lines place taken members meant within few split next_is =
    let all : List Member = split.load ∷ split.back in
    let from = from-place number lines place all within split.from in
    let n = next_is all from in
    let same = first-same split.load n.member split.back n.more n.are in
    let loads : begins_load n.member ≡ true = subst (λ m. begins_load m ≡ true) same.0 split.loads in
    let size : number + place + length (take taken (drop place lines)) ≡ number + place + taken =
    omega (arith, length-take taken (drop place lines)) in
    record {
      front = split.front;
      load = split.load;
      back = split.back;
      are = split.are;
      none = split.none;
      loads = split.loads;
      before = split.before;
      from = from;
      numbered = ap (λ (m : Member). m.number) same.0 ∙ n.numbered;
      means = n.means ∙ ap (meaning_inside false) (sym same.0);
      asks = subst AsksLoad (sym n.means) (load-asks false (take taken (drop place lines)) n.member n.is loads);
      behind = subst (λ k. AreMembers k (drop taken (drop place lines)) split.back) size
          (subst (λ l. AreMembers (number + place + length (take taken (drop place lines)))
          (drop taken (drop place lines)) l) (sym same.1) n.behind);
    }

-- The outcomes of two printed sections can be added up.
pub sections-joined : {E : Type 0} (before : History) (near far : ℕ) (front back : List Record)
    (old new empty later : List ℕ) (queries : Result (Outcome × Outcome) E)
    → length front + length back + 1 < 2 ^ 64
    → IfOk queries (λ reported. PrintsSection before near front old new reported.0)
    → IfOk queries (λ reported. PrintsSection before far back empty later reported.1)
    → IfOk queries (λ reported. CanBeJoined reported.0 reported.1)
sections-joined before near far front back old new empty later (Ok reported) few first last =
    record { before = first.few; behind = last.few; fits = omega (arith, first.fewer, last.fewer) }
sections-joined before near far front back old new empty later (Err error) few first last = tt
