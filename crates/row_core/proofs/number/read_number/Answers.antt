use Rattle.std.proofs.Common.{◌≡◌, ◌≢◌, sym, ◌∙◌, ap, ℤ, true}
use Rattle.row_core.specs.Number.{is_number, is_plain, number_of, number_text}
use Rattle.row_core.proofs.NumberLemmas.{number_of-none, number_text-plain, number_text-utf8, number-handed_on, result_ok-number}
use Rattle.std.proofs.lemmas.Result.{MatchResult-weaker}
use Rattle.std.specs.Prelude.{MatchResult, Some}
use Rattle.row_core.proofs.number.read_number.Goals as goal

pub returns-then-not-is_plain-clause-text : goal.returns-then-not-is_plain-clause-text
returns-then-not-is_plain-clause-text c = λ number fits e.
    let plain : is_plain c.args.text.now ≡ true = ap is_plain e ∙ number_text-plain number fits in
    let not_plain = c.is_plain.ensures in
    let test = c.if-not-is_plain.true in
    absurd (cc)

pub returns-then-not-is_plain-clause-number : goal.returns-then-not-is_plain-clause-number
returns-then-not-is_plain-clause-number c =
    sym (number_of-none c.args.text.now (returns-then-not-is_plain-clause-text c))

pub returns-in_default-clause-text : goal.returns-in_default-clause-text
returns-in_default-clause-text c = λ number fits e. c.in_default.ensures.cases.0 (rw e (number_text-utf8 number fits))

pub returns-in_default-clause-number : goal.returns-in_default-clause-number
returns-in_default-clause-number c = sym (number_of-none c.args.text.now (returns-in_default-clause-text c))

-- the answer for a plain text
answered : (c : goal.After-map_err)
    → MatchResult c.map_err.result (λ z. (c.args.text.now ≡ number_text z) × (number_of c.args.text.now ≡ Some z))
    (λ e. (z : ℤ) → is_number z ≡ true → c.args.text.now ≢ number_text z)
answered c =
    let plain : is_plain c.args.text.now ≡ true = sym c.is_plain.ensures ∙ c.if-not-is_plain.false in
    number-handed_on c.args.text.now c.parse.result c.map_err.result _ plain
    (rw c.in-Ok.ensures.cases.0 at c.parse.ensures.value.0) c.map_err.ensures.cases c.map_err.ensures.variant

pub returns-clause-number : goal.returns-clause-number
returns-clause-number c = result_ok-number c.args.text.now c.map_err.result (answered c)

pub returns-clause-text : goal.returns-clause-text
returns-clause-text c = MatchResult-weaker c.map_err.result (answered c) (λ z h. h.0) (λ e h. h)
