-- A statement has only one answer.
use Rattle.std.proofs.Common.{◌≡◌, ◌⊎◌, ℕ, length, Bool, true, false, cond, List, [], ◌∷◌, ◌++◌, sym, ap, ◌∙◌, inl, inr}
use Rattle.std.specs.Prelude.{All}
use Rattle.std.proofs.lemmas.Bool.{cases_Bool}
use Rattle.std.proofs.lemmas.List.Elements.{All-cons, All-nil}
use Rattle.book_core.specs.History.{History}
use Rattle.command_core.specs.Records.{Record}
use Rattle.command_core.specs.Statement.{Placed, Statement, One, Together, is_load}
use Rattle.answer_core.specs.PrintedRecords.{together_record}
use Rattle.script_core.specs.Answer.{Answers, AnswersEach, AnswersTogether}
use Rattle.script_core.proofs.AnswerUniqueness.{one_answer}

-- None of these commands is a load.
abbrev pub HaveNoLoad : List Placed → Type 0
HaveNoLoad commands = All (λ command. is_load command.meaning ≡ false) commands

-- A load determines the history after it.
load_same : (loads : Bool) (before f g : History) → loads ≡ true → cond loads f before ≡ cond loads g before → f ≡ g
load_same true before f g is same = same
load_same false before f g is same = cc is

-- Two histories after a block's commands are equal, unless none of the commands is a load.
same_after : (before f g : History) (commands : List Placed) (a b : List Record) → AnswersEach before f commands a
    → AnswersEach before g commands b → HaveNoLoad commands ⊎ (f ≡ g)
same_after before f g [] a b each other = inl (All-nil (λ (command : Placed). is_load command.meaning ≡ false))
same_after before f g (c ∷ more) a b (own, later, whole, answered, each) (own', later', whole', answered', other) =
    elim (cases_Bool (is_load c.meaning)) [
      | inl loads ↦
          inr
          (load_same (is_load c.meaning) before f g loads
          (one_answer before c.number c.meaning own own' _ _ answered answered').1)
      | inr reads ↦ elim (same_after before f g more later later' each other) [
        | inl none ↦
            inl (All-cons (λ (command : Placed). is_load command.meaning ≡ false) c more reads none)
        | inr same ↦ inr same
      ]
    ]

same_answers : (before f g : History) (commands : List Placed) (a b : List Record) → AnswersEach before f commands a
    → AnswersEach before g commands b → a ≡ b
same_answers before f g [] a b each other = each ∙ sym other
same_answers before f g (c ∷ more) a b (own, later, whole, answered, each) (own', later', whole', answered', other) =
    whole
    ∙ (ap (λ l. l ++ later) (one_answer before c.number c.meaning own own' _ _ answered answered').0
    ∙ (ap (λ l. own' ++ l) (same_answers before f g more later later' each other) ∙ sym whole'))

one_block : (before : History) (commands : List Placed) (a b : List Record) (f g : History)
    → AnswersTogether before commands a f → AnswersTogether before commands b g → (a ≡ b) × (f ≡ g)
one_block before commands a b f g t u = (
  t.printed
      ∙ (ap (λ l. together_record (length before) ∷ l)
      (same_answers before f g commands t.answers u.answers t.block.each u.block.each)
      ∙ sym u.printed),
  elim (same_after before f g commands t.answers u.answers t.block.each u.block.each) [
    | inl none ↦ t.block.unloaded none ∙ sym (u.block.unloaded none)
    | inr same ↦ same
  ],
)

pub one_statement_answer : (before : History) (number : ℕ) (statement : Statement) (a b : List Record) (f g : History)
    → Answers before number statement a f → Answers before number statement b g → (a ≡ b) × (f ≡ g)
one_statement_answer before number (One meaning) a b f g one other = one_answer before number meaning a b f g one other
one_statement_answer before number (Together commands) a b f g one other = one_block before commands a b f g one other
