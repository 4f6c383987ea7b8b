use Rattle.std.proofs.Common.{ℕ, List, ◌≡◌, ◌-◌, ◌+◌, ◌≤◌, ◌∙◌, ap, arith, drop, inl, inr, length, length-take, subst, sym, take}
use Rattle.std.proofs.lemmas.List.{length-drop}
use Rattle.command_core.specs.Lines.{fields_in, lines_in}
use Rattle.command_core.specs.Meaning.{behind_length, block_meaning, meaning_or_refusal}
use Rattle.command_core.specs.Records.{Record}
use Rattle.command_core.proofs.BehindLemmas.{block-behind}
use Rattle.command_core.proofs.Cuts.{block-means, unended-means}
use Rattle.command_core.proofs.Cutting.{rest-from}
use Rattle.command_core.proofs.reading.next_block.Goals as goal

take-short : (n : ℕ) (xs : List Record) → length (take n xs) ≤ n
take-short n xs = omega (arith, length-take n xs)

pub returns-in-Some-clause-means : goal.returns-in-Some-clause-means
returns-in-Some-clause-means c =
    let lines = lines_in c.args.lines in
    let opening = fields_in c.args.opening in
    let found = c.in-Some.ensures in
    let rest = rest-from lines (lines_in c.range.result) c.len.result 1 c.len.ensures c.range.ensures in
    let size : c.in-Some.len + 1 - 1 ≡ c.in-Some.len = omega arith in
    inr (inl (block-means lines opening c.args.number c.in-Some.len _
    (lines_in c.range.result) rest c.requires.first c.requires.opens
    found.within found.before found.last
    (c.read_block.ensures
    ∙ ap (λ body. meaning_or_refusal c.args.number (block_meaning opening body))
    (c.range-in-Some.ensures ∙ ap (λ n. take n (drop 1 lines)) size))))

pub returns-in-None-clause-means : goal.returns-in-None-clause-means
returns-in-None-clause-means c =
    let lines = lines_in c.args.lines in
    let rest = rest-from lines (lines_in c.range.result) c.len.result 1 c.len.ensures c.range.ensures in
    rw c.refused.ensures
    (unended-means lines (fields_in c.args.opening) c.args.number c.len-in-None.result
    (lines_in c.range.result) c.len-in-None.ensures rest c.requires.first c.requires.opens c.in-None.ensures.none)

pub returns-in-Some-clause-behind : goal.returns-in-Some-clause-behind
returns-in-Some-clause-behind c =
    let lines = lines_in c.args.lines in
    let body = lines_in c.range-in-Some.result in
    let few = subst (λ m. behind_length m ≤ length body + 1) (sym c.read_block.ensures)
    (block-behind c.args.number (fields_in c.args.opening) body) in
    let size : length body ≤ c.in-Some.len + 1 - 1 =
    subst (λ l. length l ≤ c.in-Some.len + 1 - 1) (sym c.range-in-Some.ensures)
    (take-short (c.in-Some.len + 1 - 1) (drop 1 lines)) in
    let rest : length (lines_in c.range.result) + 1 ≤ length lines =
    omega (
      arith,
      ap length
          (rest-from lines (lines_in c.range.result) c.len.result 1 c.len.ensures c.range.ensures),
      length-drop 1 lines,
      c.in-Some.ensures.within,
    ) in
    omega (arith, few, size, rest, c.in-Some.ensures.within)
