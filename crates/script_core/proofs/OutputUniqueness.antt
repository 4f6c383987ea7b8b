-- A script has only one output.
use Rattle.std.proofs.Common.{◌≡◌, ℕ, ◌+◌, List, [], ◌∷◌, ◌++◌, length, refl, sym, ap, ◌∙◌, subst, inl, inr}
use Rattle.command_core.specs.Records.{AreScriptRecords, Record}
use Rattle.command_core.specs.Statement.{States, Statement}
use Rattle.command_core.proofs.StatementUniqueness.{one_statement}
use Rattle.command_core.proofs.RecordsUniqueness.{one_records}
use Rattle.book_core.specs.History.{History}
use Rattle.script_core.specs.Answer.{Answers}
use Rattle.script_core.specs.Script.{AreStatementsOf, Done, Finished, IsOutput, Place, Step, Steps, Tells, output_of, start_of}
use Rattle.script_core.specs.declared.outcome.Outcome.{Outcome}
use Rattle.script_core.proofs.TogetherUniqueness.{one_statement_answer}

-- ---- one step

abbrev done_of : Statement → List Record → Done
done_of statement answer = record { statement = statement; answer = answer }

abbrev place_of : History → ℕ → List Record → Place
place_of history number left = record { history = history; number = number; left = left }

pub one_step : (old : Place) (one other : Done) (p q : Place) → Step old one p → Step old other q
    → (one ≡ other) × (p ≡ q)
one_step old one other p q s t =
    let meant = one_statement old.number s.own p.left t.own q.left one.statement other.statement
    (sym s.taken ∙ t.taken) s.states t.states in
    let answered = one_statement_answer old.history old.number other.statement one.answer other.answer p.history
    q.history
    (subst (λ said. Answers old.history old.number said one.answer p.history) meant.2 s.answers) t.answers in
    let number : p.number ≡ q.number = s.number ∙ (ap (λ l. old.number + length l) meant.0 ∙ sym t.number) in (
      ap (λ m. done_of m one.answer) meant.2 ∙ ap (λ a. done_of other.statement a) answered.0,
      ap (λ h. place_of h p.number p.left) answered.1
          ∙ (ap (λ n. place_of q.history n p.left) number ∙ ap (λ l. place_of q.history q.number l) meant.1),
    )

-- A statement takes at least one record.
pub takes_one : (number : ℕ) (own later : List Record) (statement : Statement) → States number own later statement
    → (first : Record) × (rest : List Record) × (own ≡ first ∷ rest)
takes_one number own later statement (inl o) = (o.opening, o.behind, o.whole)
takes_one number own later statement (inr (inl t)) = (t.opening, t.body ++ t.last ∷ [], t.whole)
takes_one number own later statement (inr (inr u)) = (u.opening, u.body ++ u.rest, u.whole)

none_more : (first : Record) (own left : List Record) → [] ≡ (first ∷ own) ++ left → ⊥
none_more first own left e = cc e

-- Without records no statement follows.
pub no_step : (old : Place) (done : Done) (new : Place) → old.left ≡ [] → Step old done new → ⊥
no_step old done new over s =
    let (first, rest, is) = takes_one old.number s.own new.left done.statement s.states in
    none_more first rest new.left (sym over ∙ (s.taken ∙ ap (λ l. l ++ new.left) is))

-- ---- all steps

one_way : (old : Place) (one other : List Done) (p q : Place) → Steps old one p → Steps old other q → p.left ≡ []
    → q.left ≡ [] → one ≡ other
one_way old [] [] p q steps steps' over over' = refl
one_way old [] (d ∷ ds) p q steps (mid, step, rest) over over' =
    absurd (no_step old d mid (ap (λ (z : Place). z.left) steps ∙ over) step)
one_way old (c ∷ cs) [] p q (mid, step, rest) steps' over over' =
    absurd (no_step old c mid (ap (λ (z : Place). z.left) steps' ∙ over') step)
one_way old (c ∷ cs) (d ∷ ds) p q (mid, step, rest) (mid', step', rest') over over' =
    let first = one_step old c d mid mid' step step' in
    ap (λ l. l ∷ cs) first.0
    ∙ ap (λ l. d ∷ l) (one_way mid' cs ds p q (subst (λ z. Steps z cs p) first.1 rest) rest' over over')

one_run : (records : List Record) (one other : List Done) → Finished records one → Finished records other
    → one ≡ other
one_run records one other f g = one_way (start_of records) one other f.place g.place f.steps g.steps f.over g.over

-- ---- the output

-- A script has only one list of statements and answers.
pub one_list_of_dones : (script read : List ℕ) (one other : List Done) → script ≡ read
    → AreStatementsOf script one → AreStatementsOf read other → one ≡ other
one_list_of_dones script read one other same p q =
    let records : p.records ≡ q.records =
    one_records read p.records q.records (subst (λ bytes. AreScriptRecords bytes p.records) same p.parsed) q.parsed in
    one_run q.records one other (subst (λ rs. Finished rs one) records p.finished) q.finished

pub one_output : (script one other : List ℕ) → IsOutput script one → IsOutput script other → one ≡ other
one_output script one other p q =
    p.is ∙ (ap output_of (one_list_of_dones script script p.dones q.dones refl p.statements q.statements) ∙ sym q.is)

abbrev outcome_of : ℕ → ℕ → Outcome
outcome_of commands errors = record { commands = commands; errors = errors }

pub one_outcome : (dones : List Done) (one other : Outcome) → Tells one dones → Tells other dones → one ≡ other
one_outcome dones one other p q =
    ap (λ n. outcome_of n one.errors) (p.commands ∙ sym q.commands)
    ∙ ap (λ n. outcome_of other.commands n) (p.errors ∙ sym q.errors)
