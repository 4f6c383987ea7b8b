use Rattle.std.proofs.Common.{◌≡◌, ◌∙◌, ◌+◌, ◌-◌, ap, arith, drop, length, length-drop, subst, sym, take}
use Rattle.std.proofs.lemmas.List.{length-take}
use Rattle.command_core.specs.Command.{meaning_of}
use Rattle.command_core.specs.Lines.{lines_in}
use Rattle.command_core.specs.Meaning.{behind_length}
use Rattle.command_core.specs.Statement.{AreMembers}
use Rattle.command_core.proofs.Cutting.{rest-from}
use Rattle.script_core.proofs.Blocks.{load-cut, load-members}
use Rattle.script_core.proofs.together.cut_at.Goals as goal

pub next_inside-command-requires-clause-whole : goal.next_inside-command-requires-clause-whole
next_inside-command-requires-clause-whole c =
    let number = c.args.block.first in
    let lines = lines_in c.args.block.lines in
    let place = c.args.place in
    let rest = rest-from lines (lines_in c.range-rest.result) c.len.result place c.len.ensures c.range-rest.ensures in
    let whole = c.requires.whole in
    let some = load-members number lines place whole.0 c.requires.within (c.requires.split whole.0 whole.1) in
    (some.0, subst (λ l. AreMembers (number + place) l some.0) (sym rest) some.1)

pub load_asked-requires : goal.load_asked-requires
load_asked-requires c =
    let number = c.args.block.first in
    let lines = lines_in c.args.block.lines in
    let place = c.args.place in
    let rest = rest-from lines (lines_in c.range-rest.result) c.len.result place c.len.ensures c.range-rest.ensures in
    let next = rw rest at c.next_inside-command.ensures in
    let whole = c.requires.whole in
    let cut = load-cut number lines place c.next_inside-command.result.taken whole.0
    (meaning_of c.next_inside-command.result.command)
    c.requires.within next.within (c.requires.split whole.0 whole.1) next.next in
    cut.asks

pub returns-clause-cut : goal.returns-clause-cut
returns-clause-cut c = λ members are.
    let number = c.args.block.first in
    let lines = lines_in c.args.block.lines in
    let place = c.args.place in
    let rest = rest-from lines (lines_in c.range-rest.result) c.len.result place c.len.ensures c.range-rest.ensures in
    let taken = c.next_inside-command.result.taken in
    let next = rw rest at c.next_inside-command.ensures in
    let cut = load-cut number lines place taken members (meaning_of c.next_inside-command.result.command)
    c.requires.within next.within (c.requires.split members are) next.next in
    let whole_place : place - 0 ≡ place = omega arith in
    let front : lines_in c.range.result ≡ take place lines = c.range.ensures ∙ ap (λ n. take n lines) whole_place in
    let back = rest-from (lines_in c.range-rest.result) (lines_in c.range-2.result) c.len-2.result taken
    c.len-2.ensures c.range-2.ensures in
    let last = back ∙ ap (drop taken) rest in
    record {
      front = cut.front;
      load = cut.load;
      back = cut.back;
      are = cut.are;
      none = cut.none;
      loads = cut.loads;
      before = subst (λ l. AreMembers number l cut.front) (sym front) cut.before;
      numbered = cut.numbered;
      means = c.load_asked.ensures ∙ cut.means;
      behind = subst (λ l. AreMembers (number + place + taken) l cut.back) (sym last) cut.behind;
    }

pub returns-clause-numbers : goal.returns-clause-numbers
returns-clause-numbers c =
    let lines = lines_in c.args.block.lines in
    let place = c.args.place in
    let rest = rest-from lines (lines_in c.range-rest.result) c.len.result place c.len.ensures c.range-rest.ensures in
    let taken = c.next_inside-command.result.taken in
    let next = rw rest at c.next_inside-command.ensures in
    let left = length-drop place lines in
    let back = rest-from (lines_in c.range-rest.result) (lines_in c.range-2.result) c.len-2.result taken
    c.len-2.ensures c.range-2.ensures in
    let last = ap length (back ∙ ap (drop taken) rest) in
    record {
      before = omega (arith, ap length c.range.ensures, length-take (place - 0) lines);
      load = omega (arith, ap behind_length c.load_asked.ensures, next.behind, left);
      behind = omega (arith, last, length-drop taken (drop place lines), left, next.within);
      few = omega (
        arith,
        ap length c.range.ensures,
        length-take (place - 0) lines,
        last,
        length-drop taken (drop place lines),
        left,
        next.some,
        next.within,
      );
    }

pub returns-clause-within : goal.returns-clause-within
returns-clause-within c =
    let lines = lines_in c.args.block.lines in
    let place = c.args.place in
    let rest = rest-from lines (lines_in c.range-rest.result) c.len.result place c.len.ensures c.range-rest.ensures in
    let taken = c.next_inside-command.result.taken in
    let next = rw rest at c.next_inside-command.ensures in
    let back = rest-from (lines_in c.range-rest.result) (lines_in c.range-2.result) c.len-2.result taken
    c.len-2.ensures c.range-2.ensures in
    let last = ap length (back ∙ ap (drop taken) rest) in
    omega (
      arith,
      ap length c.range.ensures,
      length-take (place - 0) lines,
      last,
      length-drop taken (drop place lines),
      length-drop place lines,
      next.some,
      next.within,
    )
