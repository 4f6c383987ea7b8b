use Rattle.std.proofs.Common.{◌≡◌, ◌∙◌, ◌++◌, List, ap, arith, length-append, subst, sym}
use Rattle.command_core.specs.Records.{AreScriptRecords, Record}
use Rattle.command_core.specs.Seams.{joined}
use Rattle.command_core.proofs.FrontLemmas.{front-rest}
use Rattle.command_core.proofs.SeamLemmas.{countable}
use Rattle.command_core.proofs.script_reader.ScriptReader.read_rest.Goals as goal

pub of-requires : goal.of-requires
of-requires g c =
    let (front, of, few) = c.requires in
    let text = c.args.text.now in
    let read = c.in_ok-read.read.items in
    let all : joined c.add_batches.new.batches.items ≡ c.args.self ++ joined read =
    c.in_ok-add_batches.ensures ∙ ap (λ (l : List Record). l ++ joined read) c.self.view_is in
    countable (front ++ text) (joined c.add_batches.new.batches.items)
    (omega (arith, few, length-append front text))
    (subst (AreScriptRecords (front ++ text)) (sym all)
    (front-rest front text c.args.self (joined read) of c.in_ok-read.ensures.records))

pub returns : goal.returns
returns g c front of =
    let text = c.args.text.now in
    let read = c.in_ok-read.read.items in
    let all : joined c.add_batches.new.batches.items ≡ c.args.self ++ joined read =
    c.in_ok-add_batches.ensures ∙ ap (λ (l : List Record). l ++ joined read) c.self.view_is in
    subst (AreScriptRecords (front ++ text)) (sym (c.of.ensures ∙ all))
    (front-rest front text c.args.self (joined read) of c.in_ok-read.ensures.records)
