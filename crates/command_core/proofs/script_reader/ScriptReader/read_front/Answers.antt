use Rattle.std.proofs.Common.{◌≡◌, ◌<◌, ◌∙◌, ◌++◌, ℕ, List, [], ap, arith, drop, get_or, inl, inr, length, refl, subst, sym, take}
use Rattle.command_core.specs.Records.{Record}
use Rattle.command_core.specs.Seams.{AreOfFront, EndsInField, joined}
use Rattle.command_core.proofs.FrontLemmas.{front-more, lists-not}
use Rattle.command_core.proofs.script_reader.ScriptReader.read_front.Goals as goal

pub returns-clause-read : goal.returns-clause-read
returns-clause-read g c front of =
    let text = c.args.text.now in
    let cut = c.last_cut-cut.result in
    let read = c.in_ok-read.read.items in
    let some : 0 < cut = omega (arith, c.if-cut-eq0.false) in
    let all : joined c.add_batches.new.batches.items ≡ c.args.self.now ++ joined read =
    c.in_ok-add_batches.ensures ∙ ap (λ (l : List Record). l ++ joined read) c.self.view_is in
    subst (λ (l : List Record). AreOfFront (front ++ take cut text) l (drop cut text)) (sym all)
    (front-more front text cut c.args.self.now (joined read) of (c.last_cut-cut.ensures.cut some)
    c.in_ok-read.ensures.records
    (subst (λ (l : List (List Record)). EndsInField (joined l)) c.deref.ensures.value (c.if-not-end_in_fields.ensures.yes refl)))

pub returns-then-cut-eq0-clause-none : goal.returns-then-cut-eq0-clause-none
returns-then-cut-eq0-clause-none g c = λ none. inl (c.last_cut-cut.ensures.none c.if-cut-eq0.true)

pub returns-then-not-end_in_fields-clause-none : goal.returns-then-not-end_in_fields-clause-none
returns-then-not-end_in_fields-clause-none g c = λ none.
    let read = c.in_ok-read.read.items in
    let (i, inside, not_so) = subst
    (λ (l : List (List Record)). (i : ℕ) × (i < length l) × (EndsInField (get_or l i []) → ⊥)) c.deref.ensures.value
    (c.end_in_fields.ensures.no c.if-not-end_in_fields.true) in
    inr (record {
      place = c.last_cut-cut.result;
      cut = c.last_cut-cut.ensures.cut (omega (arith, c.if-cut-eq0.false));
      records = joined read;
      are = c.in_ok-read.ensures.records;
      within = lists-not read i inside not_so c.in_ok-read.ensures.seams;
    })
