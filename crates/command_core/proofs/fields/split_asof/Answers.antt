use Rattle.std.proofs.Common.{◌≡◌, ◌∙◌, ◌+◌, ◌-◌, true, false, ap, arith, length, sym}
use Rattle.std.specs.List.{slice_get}
use Rattle.std.specs.Prelude.{codes}
use Rattle.command_core.specs.Lines.{fields_in}
use Rattle.command_core.specs.Words.{begins}
use Rattle.command_core.proofs.Cutting.{part-first, rest-from}
use Rattle.command_core.proofs.FieldLemmas.{split_asof-two}
use Rattle.command_core.proofs.fields.split_asof.Goals as goal

pub returns-then-begins-clause-front : goal.returns-then-begins-clause-front
returns-then-begins-clause-front c =
    let line = fields_in c.args.line in
    let k = c.len-len.result - 2 in
    let two : length line ≡ k + 2 = omega (arith, c.len-len.ensures, c.if-len-lt2.false) in
    let rest = rest-from line (fields_in c.range.result) c.len-len.result k c.len-len.ensures c.range.ensures in
    let word = ap (begins (codes "asof")) (sym rest) ∙ (sym c.begins.ensures ∙ c.if-begins.true) in
    let named = split_asof-two k line true two word in
    part-first line (fields_in c.range-then-begins.result) k c.range-then-begins.ensures
    ∙ sym (ap (λ parts. parts.0) named)

pub returns-then-begins-clause-text : goal.returns-then-begins-clause-text
returns-then-begins-clause-text c =
    let line = fields_in c.args.line in
    let k = c.len-len.result - 2 in
    let two : length line ≡ k + 2 = omega (arith, c.len-len.ensures, c.if-len-lt2.false) in
    let rest = rest-from line (fields_in c.range.result) c.len-len.result k c.len-len.ensures c.range.ensures in
    let word = ap (begins (codes "asof")) (sym rest) ∙ (sym c.begins.ensures ∙ c.if-begins.true) in
    let named = split_asof-two k line true two word in
    let last : c.len-len.result - 1 ≡ k + 1 = omega (arith, c.if-len-lt2.false) in
    c.get.ensures ∙ (ap (slice_get line) last ∙ sym (ap (λ parts. parts.1) named))

pub returns-else-begins-clause-front : goal.returns-else-begins-clause-front
returns-else-begins-clause-front c =
    let line = fields_in c.args.line in
    let k = c.len-len.result - 2 in
    let two : length line ≡ k + 2 = omega (arith, c.len-len.ensures, c.if-len-lt2.false) in
    let rest = rest-from line (fields_in c.range.result) c.len-len.result k c.len-len.ensures c.range.ensures in
    let word = ap (begins (codes "asof")) (sym rest) ∙ (sym c.begins.ensures ∙ c.if-begins.false) in
    let none = split_asof-two k line false two word in
    sym (ap (λ parts. parts.0) none)

pub returns-else-begins-clause-text : goal.returns-else-begins-clause-text
returns-else-begins-clause-text c =
    let line = fields_in c.args.line in
    let k = c.len-len.result - 2 in
    let two : length line ≡ k + 2 = omega (arith, c.len-len.ensures, c.if-len-lt2.false) in
    let rest = rest-from line (fields_in c.range.result) c.len-len.result k c.len-len.ensures c.range.ensures in
    let word = ap (begins (codes "asof")) (sym rest) ∙ (sym c.begins.ensures ∙ c.if-begins.false) in
    let none = split_asof-two k line false two word in
    sym (ap (λ parts. parts.1) none)
