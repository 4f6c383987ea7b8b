use Rattle.std.proofs.Common.{◌≡◌, ◌∙◌, ◌+◌, ◌*◌, ◌<◌, ap, arith, length, sym, take, Some, suc}
use Rattle.std.specs.Prelude.{codes, option_map}
use Rattle.command_core.specs.Lines.{fields_in}
use Rattle.command_core.specs.Pairs.{pairs_of}
use Rattle.command_core.specs.Portions.{conditions_in}
use Rattle.command_core.specs.Words.{begins}
use Rattle.command_core.proofs.Cutting.{part-first, part-none, rest-from}
use Rattle.command_core.proofs.PortionLemmas.{parts-all, parts_from, parts-next, parts-over, parts-where}
use Rattle.command_core.proofs.portions.parts_in.Goals as goal

pub returns-in_err-conds : goal.returns-in_err-conds
returns-in_err-conds c =
    let fields = fields_in c.args.line in
    let k = c.loop-pair.pair in
    let lt : 2 * k + 1 < length fields = omega (arith, c.loop-pair-test.true, c.len-pair-end.ensures) in
    let rest = rest-from fields (fields_in c.range-rest.result) c.len.result
    (2 * k) c.len.ensures c.range-rest.ensures in
    let word = ap (begins (codes "where")) (sym rest) ∙ (sym c.begins.ensures ∙ c.if-begins.true) in
    let here = parts-where k fields lt word in
    let none = sym (c.in_err-conds.ensures ∙ ap conditions_in rest) in
    rw c.from_residual.ensures
    (sym (c.loop-pair.invariant ∙ (here ∙ ap (option_map (λ conds. (pairs_of (take (2 * k) fields), conds))) none)))

pub returns-then-begins : goal.returns-then-begins
returns-then-begins c =
    let fields = fields_in c.args.line in
    let k = c.loop-pair.pair in
    let lt : 2 * k + 1 < length fields = omega (arith, c.loop-pair-test.true, c.len-pair-end.ensures) in
    let rest = rest-from fields (fields_in c.range-rest.result) c.len.result
    (2 * k) c.len.ensures c.range-rest.ensures in
    let word = ap (begins (codes "where")) (sym rest) ∙ (sym c.begins.ensures ∙ c.if-begins.true) in
    let here = parts-where k fields lt word in
    let sets = part-first fields (fields_in c.range.result) (2 * k) c.range.ensures in
    let conds = c.in_ok-conds.ensures ∙ ap conditions_in rest in
    ap (λ l. Some (pairs_of l, pairs_of (fields_in c.in_ok-conds.conds))) sets
    ∙ (ap (option_map (λ conds. (pairs_of (take (2 * k) fields), conds))) conds ∙ sym (c.loop-pair.invariant ∙ here))

pub loop-pair-preserved : goal.loop-pair-preserved
loop-pair-preserved c =
    let fields = fields_in c.args.line in
    let k = c.loop-pair.pair in
    let lt : 2 * k + 1 < length fields = omega (arith, c.loop-pair-test.true, c.len-pair-end.ensures) in
    let rest = rest-from fields (fields_in c.range-rest.result) c.len.result
    (2 * k) c.len.ensures c.range-rest.ensures in
    let next : suc k ≡ k + 1 = omega arith in
    let word = ap (begins (codes "where")) (sym rest) ∙ (sym c.begins.ensures ∙ c.if-begins.false) in
    c.loop-pair.invariant ∙ parts-next k fields lt word
    ∙ ap (λ n. parts_from n fields) next

pub returns-then-len-eq0 : goal.returns-then-len-eq0
returns-then-len-eq0 c =
    let fields = fields_in c.args.line in
    let k = c.loop-pair.pair in
    let all : length fields ≡ 2 * k =
    omega (
      arith,
      c.loop-pair-test.false,
      c.loop-pair.auto.pair-end,
      c.len-pair-end.ensures,
      c.len-2.ensures,
      c.if-len-eq0.true,
    ) in
    let same : c.len-then-len-eq0-2.result ≡ c.len-then-len-eq0.result =
    c.len-then-len-eq0-2.ensures ∙ sym c.len-then-len-eq0.ensures in
    let none = part-none fields
    (fields_in c.range-then-len-eq0.result) c.len-then-len-eq0-2.result c.len-then-len-eq0.result same
    c.range-then-len-eq0.ensures in
    ap (λ l. Some (pairs_of fields, pairs_of l)) none ∙ sym (c.loop-pair.invariant ∙ parts-all k fields all)

pub returns-else-len-eq0 : goal.returns-else-len-eq0
returns-else-len-eq0 c =
    let fields = fields_in c.args.line in
    let k = c.loop-pair.pair in
    let odd : length fields ≡ 2 * k + 1 =
    omega (
      arith,
      c.loop-pair-test.false,
      c.loop-pair.auto.pair-end,
      c.len-pair-end.ensures,
      c.len-2.ensures,
      c.if-len-eq0.false,
    ) in
    sym (c.loop-pair.invariant ∙ parts-over k fields odd)
