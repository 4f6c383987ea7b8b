use Rattle.std.proofs.Common.{◌≡◌, ◌∙◌, ◌+◌, ◌<◌, ℕ, suc, List, Some, refl, ap, arith, get_or, length, set, subst, sym}
use Rattle.std.specs.Global.{Vec}
use Rattle.std.specs.Prelude.{All, slice_get}
use Rattle.std.proofs.lemmas.Option.{get_or_from_slice_get, slice_get_read, slice_get_within}
use Rattle.list_core.specs.Chunks.{all_in}
use Rattle.match_core.specs.declared.cells.Cell.{Cell}
use Rattle.match_core.specs.Cells.{AreRankedUpto, count_before}
use Rattle.match_core.proofs.RankLemmas.{count_before-more, next_from_last, ranked_more, slice_get-all_in}
use Rattle.match_core.proofs.ranks.rank_list.Goals as goal

-- a key of a list is one of all keys
listed : {V : Type 0} (lists : List (Vec (Cell V))) (number i : ℕ) (list : Vec (Cell V)) (cells : List (Cell V))
    (cell : Cell V) → number < length lists → list ≡ get_or lists number list → cells ≡ list.items → i < length cells
    → cell ≡ get_or cells i cell → slice_get (all_in lists) (count_before number lists + i) ≡ Some cell
listed {V} lists number i list cells cell lt is own within here =
    slice_get-all_in lists number i list cell lt is
    (ap (λ (l : List (Cell V)). slice_get l i) (sym own) ∙ slice_get_read cells (length cells) i cell refl within here)

-- a key at an index is within the list
there : {V : Type 0} (cells : List (Cell V)) (i : ℕ) (cell : Cell V) → slice_get cells i ≡ Some cell
    → (i < length cells) × (cell ≡ get_or cells i cell)
there cells i cell at = (slice_get_within cells i cell at, sym (get_or_from_slice_get cells i cell cell at))

-- and its row's index is within the ranks
room : {V : Type 0} (cells : List (Cell V)) (n i : ℕ) (cell : Cell V) → All (λ (x : Cell V). x.place < n) cells
    → slice_get cells i ≡ Some cell → cell.place < n
room {V} cells n i cell within at =
    let inside = within i cell (there cells i cell at).0 in
    let same = ap (λ (x : Cell V). x.place) (there cells i cell at).1 in
    omega (arith, inside, same)

pub enter_cell-requires-clause-upto : goal.enter_cell-requires-clause-upto
enter_cell-requires-clause-upto g c =
    let all = all_in c.args.lists.now in
    let place = count_before c.args.number c.args.lists.now + c.loop-i.i in
    let cell = c.index-cells-i.result in
    let at = there all place cell
    (listed c.args.lists.now c.args.number c.loop-i.i c.index-lists-number.result c.as_slice-cells.result.now
    c.index-cells-i.result c.requires.number c.index-lists-number.is c.as_slice-cells.ensures.value c.loop-i-test.true
    c.index-cells-i.is) in
    next_from_last g.V.Ord.cmp g.met.V.Ord.total all place c.loop-i.firsts.items c.loop-i.ranks c.loop-i.places.items
    cell c.requires.rise at.0 at.1 c.loop-i.invariant

pub bounds-ranks-cell : goal.bounds-ranks-cell
bounds-ranks-cell g c =
    let same = c.loop-i.auto.ranks in
    let inside = room (all_in c.args.lists.now) (length c.args.ranks.now)
    (count_before c.args.number c.args.lists.now + c.loop-i.i)
    c.index-cells-i.result c.requires.within
    (listed c.args.lists.now c.args.number c.loop-i.i c.index-lists-number.result c.as_slice-cells.result.now
    c.index-cells-i.result c.requires.number c.index-lists-number.is c.as_slice-cells.ensures.value c.loop-i-test.true
    c.index-cells-i.is) in
    omega (arith, same, inside)

pub offset_bounds-ranks-cell : goal.offset_bounds-ranks-cell
offset_bounds-ranks-cell g c = let inside = bounds-ranks-cell g c in omega (arith, inside)

pub loop-i-preserved : goal.loop-i-preserved
loop-i-preserved g c =
    let cmp = g.V.Ord.cmp in
    let new = c.enter_cell.new.firsts.items in
    let all = all_in c.args.lists.now in
    let count = count_before c.args.number c.args.lists.now in
    let place = count + c.loop-i.i in
    let cell = c.index-cells-i.result in
    let one = listed c.args.lists.now c.args.number c.loop-i.i c.index-lists-number.result c.as_slice-cells.result.now
    cell c.requires.number c.index-lists-number.is c.as_slice-cells.ensures.value c.loop-i-test.true
    c.index-cells-i.is in
    let at = there all place cell one in
    let same = c.loop-i.auto.ranks in
    let inside = room all (length c.args.ranks.now) place cell c.requires.within one in
    let next : place + 1 ≡ count + (c.loop-i.i + 1) = omega arith in
    let rank = c.in_ok-rank.rank in
    let put = c.push.new.self.items in
    subst (λ n. AreRankedUpto cmp all n new (set c.loop-i.ranks cell.place rank) put) next
    (ranked_more cmp g.met.V.Ord.total all place c.loop-i.firsts.items new rank cell c.loop-i.ranks
    c.loop-i.places.items put at.0 at.1 (omega (arith, same, inside)) c.requires.agree c.loop-i.invariant
    c.in_ok-rank.ensures c.in_ok-push.ensures.items)

pub returns : goal.returns
returns g c =
    let lists = c.args.lists.now in
    let number = c.args.number in
    let list = c.index-lists-number.result in
    let past = c.loop-i-test.false in
    let end = c.loop-i.auto.i-end in
    let len = ap length c.as_slice-cells.ensures.value in
    let one : suc number ≡ number + 1 = omega arith in
    let more : count_before (suc number) lists ≡ count_before number lists + length list.items =
    count_before-more lists number list c.requires.number c.index-lists-number.is in
    let last : count_before number lists + c.loop-i.i ≡ count_before (suc number) lists =
    omega (arith, past, end, len, more) in
    subst (λ n. AreRankedUpto g.V.Ord.cmp (all_in lists) n c.loop-i.firsts.items c.loop-i.ranks c.loop-i.places.items)
    (last ∙ ap (λ n. count_before n lists) one) c.loop-i.invariant
