use Rattle.std.proofs.Common.{arith, List, ℕ, map, Vec, Global}
use Rattle.std.proofs.lemmas.List.{length-map}
use Rattle.std.proofs.lemmas.Result.{IfOk-weaker}
use denote.Ref.{Bor}
use Rattle.command_core.specs.Records.{Record}
use Rattle.command_core.proofs.SeamLemmas.{all_read}
use Rattle.command_core.proofs.script_reader.read_each.Goals as goal

pub returns : goal.returns
returns g c =
    let pieces = c.args.pieces.now in
    let now : Bor (List ℕ) → List ℕ = λ p. p.now in
    all_read (map now pieces) (λ (found : Vec (List Record) Global). found.items) c.call_each.result
    (IfOk-weaker c.call_each.result _ _ (λ (found : Vec (List Record) Global) len. omega (arith, len, length-map pieces now))
    c.call_each.ensures.len)
    (IfOk-weaker c.call_each.result _ _ (λ (found : Vec (List Record) Global) each i records at. each i records at)
    c.call_each.ensures.each)
