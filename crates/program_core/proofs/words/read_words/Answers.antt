use Rattle.std.proofs.Common.{arith, ◌≡◌, ◌⊎◌, ◌∙◌, ap₂, sym, subst, inl, inr, map, ℕ, List, Some, codes}
use Rattle.std.specs.Fmt.{decimal}
use Rattle.std.proofs.lemmas.Fmt.{decimal_digit}
use Rattle.std.proofs.lemmas.Option.{none-some, same_Some}
use Rattle.clap.specs.Words.{IsAmong, app_of, fault_of, first_value, found_of, takes}
use Rattle.clap.specs.declared.error.kind.ErrorKind.{ErrorKind}
use Rattle.clap.specs.declared.error.kind.ErrorKind.TheVariants as kind
use Rattle.program_core.specs.Words.{NamesWorkers, program_app}
use Rattle.program_core.proofs.ReadingLemmas.{decimal-NamesWorkers, no_faults-error, alone-value, alone-taken, decimal-IsPlainWord, help-asked, plain-unknown, plain-met, error-kind, error-kinds, faults, help-AsksFor, known_faults, known_value, no_faults, no_parse, run-AsksFor, value-matches}
use Rattle.program_core.proofs.words.read_words.Goals as goal

pub returns-in-Err-clause-asked : goal.returns-in-Err-clause-asked
returns-in-Err-clause-asked c =
    let words = map (λ word. word.now) c.args.words.now in
    let fails = faults c.try_get_matches_from.result (app_of c.in_ok-command.command) words
    c.in_ok-command.ensures c.try_get_matches_from.ensures.kinds in
    let among =
    error-kinds c.try_get_matches_from.result c.in-Err.error (fault_of program_app words) c.in-Err.is fails in
    help-AsksFor c.unmatched.result words c.kind.result c.unmatched.ensures.only
    (subst (λ (k : ErrorKind). (k ≡ kind.OutOfMemory) ⊎ IsAmong k (fault_of program_app words))
    (sym c.kind.ensures) among)

pub returns-in-Some-clause-asked : goal.returns-in-Some-clause-asked
returns-in-Some-clause-asked c =
    let words = map (λ word. word.now) c.args.words.now in
    let fails = faults c.try_get_matches_from.result (app_of c.in_ok-command.command) words
    c.in_ok-command.ensures c.try_get_matches_from.ensures.kinds in
    let matched = value-matches c.in-Ok.matches (app_of c.in_ok-command.command) words
    c.in_ok-command.ensures c.in-Ok.ensures.matches in
    run-AsksFor c.run_with.result words c.in-Some.text.now
    (no_faults c.try_get_matches_from.result c.in-Ok.matches (fault_of program_app words) c.in-Ok.is fails)
    (sym (c.in-Some.ensures ∙ matched)) c.run_with.ensures.only

pub returns-in-Err-clause-granted : goal.returns-in-Err-clause-granted
returns-in-Err-clause-granted c = λ n asked.
    let (none, text, value, names) = asked in
    let words = map (λ word. word.now) c.args.words.now in
    let fails = faults c.try_get_matches_from.result (app_of c.in_ok-command.command) words
    c.in_ok-command.ensures c.try_get_matches_from.ensures.kinds in
    inr (c.unmatched.ensures.memory (c.kind.ensures ∙ no_faults-error c.try_get_matches_from.result c.in-Err.error
    (fault_of program_app words) c.in-Err.is fails none))

pub returns-in-Some-clause-granted : goal.returns-in-Some-clause-granted
returns-in-Some-clause-granted c = λ n asked.
    let (none, text, value, names) = asked in
    let words = map (λ word. word.now) c.args.words.now in
    let matched = value-matches c.in-Ok.matches (app_of c.in_ok-command.command) words
    c.in_ok-command.ensures c.in-Ok.ensures.matches in
    let same : c.in-Some.text.now ≡ text = same_Some c.in-Some.text.now text (c.in-Some.ensures ∙ matched ∙ value) in
    inl (c.run_with.ensures.named n (subst (λ (t : List ℕ). NamesWorkers t n) (sym same) names))

pub returns-clause-granted : goal.returns-clause-granted
returns-clause-granted c = λ n asked.
    let (none, text, value, names) = asked in
    let words = map (λ word. word.now) c.args.words.now in
    let matched = value-matches c.in-Ok.matches (app_of c.in_ok-command.command) words
    c.in_ok-command.ensures c.in-Ok.ensures.matches in
    absurd (none-some text (c.in-None.ensures ∙ matched ∙ value))

pub returns-in-Err-clause-alone : goal.returns-in-Err-clause-alone
returns-in-Err-clause-alone c = λ name is.
    inr (c.unmatched.ensures.memory (c.kind.ensures
    ∙ c.in-Err.ensures.passes (ap₂ takes c.in_ok-command.ensures is ∙ alone-taken name)))

pub returns-in-Err-clause-workers : goal.returns-in-Err-clause-workers
returns-in-Err-clause-workers c = λ name n workers is.
    inr (c.unmatched.ensures.memory (c.kind.ensures
    ∙ c.in-Err.ensures.passes (ap₂ takes c.in_ok-command.ensures is
    ∙ (plain-met name (decimal n) (decimal-IsPlainWord n (omega arith))).1)))

pub returns-in-Err-clause-wrong_number : goal.returns-in-Err-clause-wrong_number
returns-in-Err-clause-wrong_number c = λ name text value unnamed is.
    inr (c.unmatched.ensures.memory (c.kind.ensures
    ∙ c.in-Err.ensures.passes (ap₂ takes c.in_ok-command.ensures is ∙ (plain-met name text value).1)))

pub returns-in-Err-clause-stray : goal.returns-in-Err-clause-stray
returns-in-Err-clause-stray c = λ name word value is.
    let kinds = known_faults c.try_get_matches_from.result (app_of c.in_ok-command.command) _ _ kind.UnknownArgument
    c.in_ok-command.ensures is (plain-unknown name word value) c.try_get_matches_from.ensures.kinds in
    elim (error-kind c.try_get_matches_from.result c.in-Err.error kind.UnknownArgument c.in-Err.is kinds) [
      | inl memory ↦ inr (c.unmatched.ensures.memory (c.kind.ensures ∙ memory))
      | inr unknown ↦ inl (c.unmatched.ensures.unknown (c.kind.ensures ∙ unknown))
    ]

pub returns-in-Err-clause-help : goal.returns-in-Err-clause-help
returns-in-Err-clause-help c = λ name is.
    let kinds = known_faults c.try_get_matches_from.result (app_of c.in_ok-command.command) _ _ kind.DisplayHelp
    c.in_ok-command.ensures is (help-asked name) c.try_get_matches_from.ensures.kinds in
    elim (error-kind c.try_get_matches_from.result c.in-Err.error kind.DisplayHelp c.in-Err.is kinds) [
      | inl memory ↦ inr (c.unmatched.ensures.memory (c.kind.ensures ∙ memory))
      | inr help ↦ inl (c.unmatched.ensures.help (c.kind.ensures ∙ help))
    ]

pub returns-in-Some-clause-alone : goal.returns-in-Some-clause-alone
returns-in-Some-clause-alone c = λ name is.
    let value : first_value (found_of c.in-Ok.matches) (codes "workers") ≡ Some (codes "4") =
    known_value c.in-Ok.matches (app_of c.in_ok-command.command) _ _ (codes "4")
    c.in_ok-command.ensures is c.in-Ok.ensures.matches (alone-value name) in
    let digit : decimal 4 ≡ codes "4" = decimal_digit 4 (omega arith) in
    let same : c.in-Some.text.now ≡ decimal 4 =
    same_Some c.in-Some.text.now (codes "4") (c.in-Some.ensures ∙ value) ∙ sym digit in
    inl (c.run_with.ensures.named 4 (subst (λ (t : List ℕ). NamesWorkers t 4) (sym same)
    (decimal-NamesWorkers 4 (omega arith, omega arith))))

pub returns-in-Some-clause-workers : goal.returns-in-Some-clause-workers
returns-in-Some-clause-workers c = λ name n workers is.
    let value : first_value (found_of c.in-Ok.matches) (codes "workers") ≡ Some (decimal n) =
    known_value c.in-Ok.matches (app_of c.in_ok-command.command) _ _ (decimal n)
    c.in_ok-command.ensures is c.in-Ok.ensures.matches
    (plain-met name (decimal n) (decimal-IsPlainWord n (omega arith))).0 in
    let same : c.in-Some.text.now ≡ decimal n =
    same_Some c.in-Some.text.now (decimal n) (c.in-Some.ensures ∙ value) in
    inl (c.run_with.ensures.named n (subst (λ (t : List ℕ). NamesWorkers t n) (sym same)
    (decimal-NamesWorkers n workers)))

pub returns-in-Some-clause-wrong_number : goal.returns-in-Some-clause-wrong_number
returns-in-Some-clause-wrong_number c = λ name text plain unnamed is.
    let value : first_value (found_of c.in-Ok.matches) (codes "workers") ≡ Some text =
    known_value c.in-Ok.matches (app_of c.in_ok-command.command) _ _ text
    c.in_ok-command.ensures is c.in-Ok.ensures.matches (plain-met name text plain).0 in
    let same : c.in-Some.text.now ≡ text = same_Some c.in-Some.text.now text (c.in-Some.ensures ∙ value) in
    inl (c.run_with.ensures.unnamed (λ n names. unnamed n (subst (λ (t : List ℕ). NamesWorkers t n) same names)))

pub returns-in-Some-clause-stray : goal.returns-in-Some-clause-stray
returns-in-Some-clause-stray c = λ name word value is.
    absurd (no_parse c.try_get_matches_from.result c.in-Ok.matches kind.UnknownArgument c.in-Ok.is
    (known_faults c.try_get_matches_from.result (app_of c.in_ok-command.command) _ _ kind.UnknownArgument
    c.in_ok-command.ensures is (plain-unknown name word value) c.try_get_matches_from.ensures.kinds))

pub returns-in-Some-clause-help : goal.returns-in-Some-clause-help
returns-in-Some-clause-help c = λ name is.
    absurd (no_parse c.try_get_matches_from.result c.in-Ok.matches kind.DisplayHelp c.in-Ok.is
    (known_faults c.try_get_matches_from.result (app_of c.in_ok-command.command) _ _ kind.DisplayHelp
    c.in_ok-command.ensures is (help-asked name) c.try_get_matches_from.ensures.kinds))

pub returns-clause-alone : goal.returns-clause-alone
returns-clause-alone c = λ name is.
    let value : first_value (found_of c.in-Ok.matches) (codes "workers") ≡ Some (codes "4") =
    known_value c.in-Ok.matches (app_of c.in_ok-command.command) _ _ (codes "4")
    c.in_ok-command.ensures is c.in-Ok.ensures.matches (alone-value name) in
    absurd (none-some (codes "4") (c.in-None.ensures ∙ value))

pub returns-clause-workers : goal.returns-clause-workers
returns-clause-workers c = λ name n workers is.
    let value : first_value (found_of c.in-Ok.matches) (codes "workers") ≡ Some (decimal n) =
    known_value c.in-Ok.matches (app_of c.in_ok-command.command) _ _ (decimal n)
    c.in_ok-command.ensures is c.in-Ok.ensures.matches
    (plain-met name (decimal n) (decimal-IsPlainWord n (omega arith))).0 in
    absurd (none-some (decimal n) (c.in-None.ensures ∙ value))

pub returns-clause-help : goal.returns-clause-help
returns-clause-help c = λ name is.
    absurd (no_parse c.try_get_matches_from.result c.in-Ok.matches kind.DisplayHelp c.in-Ok.is
    (known_faults c.try_get_matches_from.result (app_of c.in_ok-command.command) _ _ kind.DisplayHelp
    c.in_ok-command.ensures is (help-asked name) c.try_get_matches_from.ensures.kinds))
