-- A block of commands has an answer.
use Rattle.std.proofs.Common.{◌≡◌, ℕ, ◌+◌, Bool, true, false, ◌||◌, ◌&&◌, cond, codes, List, [], ◌∷◌, ◌++◌, length, refl, sym, ap, ◌∙◌, subst}
use Rattle.std.proofs.lemmas.List.{append-nil}
use Rattle.std.proofs.lemmas.List.Elements.{All-head, All-tail}
use Rattle.book_core.specs.History.{History, IsLegal}
use Rattle.command_core.specs.Meaning.{Meaning, refuse, Refuse, Make, Load, Update, Delete, Rows, At, Between, FromTo, Dip, Join, Anti, Agg, Check, Log}
use Rattle.command_core.specs.Records.{Record}
use Rattle.command_core.specs.Statement.{AreMembers, IsMember, Member, Placed, begins_load, is_allowed, is_barred, is_load, meaning_inside, placed_in}
use Rattle.command_core.proofs.Inside.{means-allowed}
use Rattle.command_core.proofs.Members.{closed-means}
use Rattle.answer_core.specs.PrintedRecords.{together_record}
use Rattle.answer_core.specs.declared.answer.Answer.{Answer}
use Rattle.command_core.specs.Words.{begins}
use Rattle.command_core.specs.declared.refusal.Fault.{Fault}
use Rattle.command_core.specs.declared.refusal.Refusal.TheVariants.{NotInBlock}
use Rattle.std.specs.Prelude.{Result, Ok, Err}
use Rattle.script_core.specs.Answer.{AnswersEach, AnswersOne, AnswersQuery, AnswersTogether, IsAnswerTo}
use Rattle.script_core.proofs.AnswerExistence.{Reply, answers_by, some_reply}
use Rattle.script_core.proofs.TogetherUniqueness.{HaveNoLoad}

-- ---- queries

-- A command that is allowed after a load isn't a load.
pub reads-allowed : (meaning : Meaning) → is_allowed true meaning ≡ true → is_load meaning ≡ false
reads-allowed (Refuse wrong) allowed = refl
reads-allowed (Make name columns) allowed = refl
reads-allowed (Load name body) allowed = cc allowed
reads-allowed (Update name portion sets conds) allowed = refl
reads-allowed (Delete name portion conds) allowed = refl
reads-allowed (Rows name asof) allowed = refl
reads-allowed (At name point asof) allowed = refl
reads-allowed (Between name first last) allowed = refl
reads-allowed (FromTo name first end) allowed = refl
reads-allowed (Dip name asof) allowed = refl
reads-allowed (Join tables asof) allowed = refl
reads-allowed (Anti tables asof) allowed = refl
reads-allowed (Agg asked asof) allowed = refl
reads-allowed (Check name parts instant asof body) allowed = refl
reads-allowed Log allowed = refl

-- A command that is allowed before a load and isn't one is allowed after it.
allowed-behind : (meaning : Meaning) → is_allowed false meaning ≡ true → is_load meaning ≡ false
    → is_allowed true meaning ≡ true
allowed-behind (Refuse wrong) allowed reads = refl
allowed-behind (Make name columns) allowed reads = allowed
allowed-behind (Load name body) allowed reads = cc reads
allowed-behind (Update name portion sets conds) allowed reads = allowed
allowed-behind (Delete name portion conds) allowed reads = allowed
allowed-behind (Rows name asof) allowed reads = refl
allowed-behind (At name point asof) allowed reads = refl
allowed-behind (Between name first last) allowed reads = refl
allowed-behind (FromTo name first end) allowed reads = refl
allowed-behind (Dip name asof) allowed reads = refl
allowed-behind (Join tables asof) allowed reads = refl
allowed-behind (Anti tables asof) allowed reads = refl
allowed-behind (Agg asked asof) allowed reads = refl
allowed-behind (Check name parts instant asof body) allowed reads = refl
allowed-behind Log allowed reads = allowed

query-keeps : {S : Type 0} (before : History) (read : Result S Fault) (Is : S → Answer → Type 0) (given : Answer)
    (after : History) → AnswersQuery before read Is given after → after ≡ before
query-keeps before (Ok s) Is given after (is, kept) = kept
query-keeps before (Err wrong) Is given after (is, kept) = kept

-- A query changes nothing.
keeps : (before : History) (number : ℕ) (meaning : Meaning) (given : Answer) (after : History)
    → is_allowed true meaning ≡ true → IsAnswerTo before number meaning given after → after ≡ before
keeps before number (Refuse wrong) given after allowed is = is.1
keeps before number (Make name columns) given after allowed is = cc allowed
keeps before number (Load name body) given after allowed is = cc allowed
keeps before number (Update name portion sets conds) given after allowed is = cc allowed
keeps before number (Delete name portion conds) given after allowed is = cc allowed
keeps before number (Rows name asof) given after allowed is = query-keeps before _ _ given after is
keeps before number (At name point asof) given after allowed is = query-keeps before _ _ given after is
keeps before number (Between name first last) given after allowed is = query-keeps before _ _ given after is
keeps before number (FromTo name first end) given after allowed is = query-keeps before _ _ given after is
keeps before number (Dip name asof) given after allowed is = query-keeps before _ _ given after is
keeps before number (Join tables asof) given after allowed is = query-keeps before _ _ given after is
keeps before number (Anti tables asof) given after allowed is = query-keeps before _ _ given after is
keeps before number (Agg asked asof) given after allowed is = query-keeps before _ _ given after is
keeps before number (Check name parts instant asof body) given after allowed is =
    query-keeps before _ _ given after is
keeps before number Log given after allowed is = cc allowed

-- The answer to a query of a block, whatever history the block's load leads to.
some_query : (before after : History) (number : ℕ) (meaning : Meaning) → IsLegal before
    → is_allowed true meaning ≡ true
    → (answer : List Record) × AnswersOne before number meaning answer (cond (is_load meaning) after before)
some_query before after number meaning legal allowed =
    let reply : Reply (IsAnswerTo before number meaning) = some_reply before number meaning legal in
    let kept : reply.after ≡ before =
    keeps before number meaning reply.reported.given reply.after allowed reply.reported.is in
    let same : reply.after ≡ cond (is_load meaning) after before =
    kept ∙ sym (ap (λ loads. cond loads after before) (reads-allowed meaning allowed)) in (
      reply.reported.records,
      subst (AnswersOne before number meaning reply.reported.records) same
          (answers_by before number meaning reply),
    )

-- ---- the commands of a block

-- What a command means in a block is allowed there.
is_allowed-inside : (has_load : Bool) (own : List Record) (member : Member) → IsMember own member
    → is_allowed has_load (meaning_inside has_load member) ≡ true
is_allowed-inside has_load own member is = by (is_barred has_load member.opening) refl
  where
    by : (barred : Bool) → is_barred has_load member.opening ≡ barred
        → is_allowed has_load (cond barred (refuse member.number NotInBlock) member.alone) ≡ true
    by true barred = refl
    by false free =
        means-allowed has_load member.number member.opening is.behind own [] member.alone
        (sym (append-nil own ∙ is.whole)) free (closed-means member.number own [] member.alone is.means)

-- A load before a command that isn't a load doesn't change whether it is allowed.
barred-same : (opening : Record) → begins (codes "load") opening ≡ false
    → is_barred true opening ≡ is_barred false opening
barred-same opening none =
    ap (λ loads. begins (codes "table") opening || begins (codes "update") opening || begins (codes "delete") opening
    || begins (codes "log") opening || begins (codes "together") opening || (true && loads)) none

pub allowed-unloaded : (own : List Record) (member : Member) → IsMember own member → begins_load member ≡ false
    → is_allowed true (meaning_inside false member) ≡ true
allowed-unloaded own member is none =
    subst (λ barred. is_allowed true (cond barred (refuse member.number NotInBlock) member.alone) ≡ true)
    (barred-same member.opening none) (is_allowed-inside true own member is)

-- After a load, all commands are queries or refused.
some_queries : (before after : History) (number : ℕ) (records : List Record) (members : List Member) → IsLegal before
    → AreMembers number records members
    → (answers : List Record) × AnswersEach before after (placed_in true members) answers
some_queries before after number records [] legal are = ([], refl)
some_queries before after number records (member ∷ more) legal (own, later, split, first, is, behind) =
    let (answer, answered) = some_query before after member.number (meaning_inside true member) legal
    (is_allowed-inside true own member is) in
    let (answers, each) = some_queries before after (number + length own) later more legal behind in
    (answer ++ answers, (answer, answers, refl, answered, each))

-- The answers to the commands of a block, and the legal history that its load leads to.
record Replies (before : History) (commands : List Placed) : Type 0 where
  after : History
  answers : List Record
  each : AnswersEach before after commands answers
  legal : IsLegal after
  unloaded : HaveNoLoad commands → after ≡ before

abbrev placed : Bool → Member → Placed
placed has_load member = record { number = member.number; meaning = meaning_inside has_load member }

-- The answer to a block's first load, and the history after it.
load_reply : (before : History) (number : ℕ) (meaning : Meaning) → IsLegal before → is_allowed false meaning ≡ true
    → (answer : List Record) × (after : History)
    × AnswersOne before number meaning answer (cond (is_load meaning) after before)
    × IsLegal after × (is_load meaning ≡ false → after ≡ before)
load_reply before number meaning legal allowed =
    let reply : Reply (IsAnswerTo before number meaning) = some_reply before number meaning legal in
    let kept : is_load meaning ≡ false → reply.after ≡ before =
    λ reads. keeps before number meaning reply.reported.given reply.after
    (allowed-behind meaning allowed reads) reply.reported.is in
    let same : reply.after ≡ cond (is_load meaning) reply.after before = by (is_load meaning) reply.after kept in (
      reply.reported.records,
      reply.after,
      subst (AnswersOne before number meaning reply.reported.records) same (answers_by before number meaning reply),
      reply.legal,
      kept,
    )
  where
    by : (loads : Bool) (after : History) → (loads ≡ false → after ≡ before) → after ≡ cond loads after before
    by true after kept = refl
    by false after kept = kept refl

some_replies : (before : History) (number : ℕ) (records : List Record) (members : List Member) → IsLegal before
    → AreMembers number records members → Replies before (placed_in false members)
some_replies before number records [] legal are =
    record { after = before; answers = []; each = refl; legal = legal; unloaded = λ none. refl }
some_replies before number records (member ∷ more) legal (own, later, split, first, is, behind) =
    by (begins_load member) refl (some_replies before (number + length own) later more legal behind)
  where
    command : Placed
    command = placed false member

    by : (loads : Bool) → begins_load member ≡ loads → Replies before (placed_in false more)
        → Replies before (command ∷ placed_in loads more)
    by true loads rest =
        let (answer, after, answered, lawful, kept) =
        load_reply before member.number command.meaning legal (is_allowed-inside false own member is) in
        let (answers, each) = some_queries before after (number + length own) later more legal behind in
        record {
          after = after;
          answers = answer ++ answers;
          each = (answer, answers, refl, answered, each);
          legal = lawful;
          unloaded = λ none. kept (All-head (λ (c : Placed). is_load c.meaning ≡ false) command
              (placed_in true more) none);
        }
    by false none rest =
        let (answer, answered) = some_query before rest.after member.number command.meaning legal
        (allowed-unloaded own member is none) in
        record {
          after = rest.after;
          answers = answer ++ rest.answers;
          each = (answer, rest.answers, refl, answered, rest.each);
          legal = rest.legal;
          unloaded = λ reads. rest.unloaded
              (All-tail (λ (c : Placed). is_load c.meaning ≡ false) command (placed_in false more) reads);
        }

pub some_block : (before : History) (number : ℕ) (records : List Record) (members : List Member) → IsLegal before
    → AreMembers number records members
    → (answer : List Record) × (after : History) × AnswersTogether before (placed_in false members) answer after
    × IsLegal after
some_block before number records members legal are =
    let replies : Replies before (placed_in false members) = some_replies before number records members legal are in (
      together_record (length before) ∷ replies.answers,
      replies.after,
      record {
        answers = replies.answers;
        block = record { each = replies.each; unloaded = replies.unloaded };
        printed = refl;
      },
      replies.legal,
    )
