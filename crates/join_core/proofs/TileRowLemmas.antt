-- The rows of items, tile by tile.
use Rattle.std.proofs.Common.{◌≡◌, ◌≢◌, ℕ, ◌+◌, ◌<◌, ◌≤◌, ◌*◌, ◌<ℤ◌, AllPairs, List, [], ◌∷◌, ◌++◌, inl, inr, length, min, take, drop, get_or, sym, subst, ap, ◌∙◌, arith, append_assoc, append-nil}
use Rattle.std.specs.Prelude.{Contains}
use Rattle.std.proofs.lemmas.List.{get_or-take, get_or_read, length-take, take-append-drop, take_more}
use Rattle.std.proofs.lemmas.List.Elements.{All-contains, Contains-append_cases, Contains-append_left, Contains-append_right, Contains-get_or}
use Rattle.std.proofs.lemmas.List.Sums.{sum_by-append}
use Rattle.std.proofs.lemmas.Int.{ints}
use Rattle.list_core.specs.Wanted.{IsListOf}
use Rattle.list_core.proofs.RisingLemmas.{Contains-cons_cases, Contains-head, Contains-none}
use Rattle.list_core.proofs.WantedLemmas.{IsListOf-append, IsListOf-none, IsListOf-same}
use Rattle.period_core.specs.declared.period.Period.{Period}
use Rattle.period_core.specs.Period.{Overlap}
use Rattle.dip_core.specs.declared.item.Item.{Item}
use Rattle.dip_core.specs.Item.{HasDistinctIds}
use Rattle.dip_core.proofs.PartedLemmas.{one_item}
use Rattle.merge_core.specs.Hits.{IsShared}
use Rattle.join_core.specs.declared.rows.JoinRow.{JoinRow}
use Rattle.join_core.specs.declared.tiles.Tile.{Tile}
use Rattle.join_core.specs.Found.{AddsItemsRows}
use Rattle.join_core.specs.ItemJoin.{IsItemsJoinRow}
use Rattle.join_core.specs.Tiles.{AddsTilesRows, AreSome, AreTiles, HaveNoRow, IsRowOf, reads_in}

abbrev IsRowIn : List Tile → JoinRow → Type 0
IsRowIn tiles row = (tile : Tile) × Contains tiles tile × IsRowOf tile row

-- no tiles have no rows
pub AddsTilesRows-none : (rows : List JoinRow) → AddsTilesRows [] rows rows
AddsTilesRows-none rows = record {
  added = [];
  split = sym (append-nil rows);
  all = IsListOf-none (λ (a b : JoinRow). a ≢ b) (IsRowIn []) (λ row is. Contains-none is.0 is.1);
}

-- a tile has no row of an earlier tile
earlier-tile : (tiles : List Tile) (i : ℕ) (tile a : Tile) → i < length tiles → tile ≡ get_or tiles i tile
    → AllPairs HaveNoRow tiles → Contains (take i tiles) a → HaveNoRow a tile
earlier-tile tiles i tile a inside at apart h =
    let few : h.0 < min i (length tiles) = subst (λ (n : ℕ). h.0 < n) (length-take i tiles) h.1 in
    let less : h.0 < i = omega (arith, few) in
    let is : get_or tiles h.0 a ≡ a = sym (get_or-take i tiles h.0 a less) ∙ h.2 in
    subst (λ (t : Tile). HaveNoRow t tile) is
    (subst (HaveNoRow (get_or tiles h.0 a)) (sym (get_or_read tiles i tile inside at a)) (apart h.0 i a less inside))

-- one more tile
pub AddsTilesRows-more : (tiles : List Tile) (i : ℕ) (tile : Tile) (old rows new : List JoinRow) → i < length tiles
    → tile ≡ get_or tiles i tile → AllPairs HaveNoRow tiles → AddsTilesRows (take i tiles) old rows
    → AddsItemsRows tile.left.items tile.right.items rows new → AddsTilesRows (take (i + 1) tiles) old new
AddsTilesRows-more tiles i tile old rows new inside at apart is more = record {
  added = is.added ++ more.added;
  split = more.split ∙ ap (λ l. l ++ more.added) is.split ∙ append_assoc old is.added more.added;
  all = subst (λ (l : List Tile). IsListOf (λ (a b : JoinRow). a ≢ b) (IsRowIn l) (is.added ++ more.added))
      (sym (take_more tiles i tile inside ∙ ap (λ t. take i tiles ++ (t ∷ [])) (sym at)))
      (rows-more (take i tiles) tile is.added more.added (λ a h. earlier-tile tiles i tile a inside at apart h) is.all
      more.rows);
}
  where
    rows-more : (done : List Tile) (last : Tile) (added further : List JoinRow)
        → ((a : Tile) → Contains done a → HaveNoRow a last)
        → IsListOf (λ (a b : JoinRow). a ≢ b) (IsRowIn done) added
        → IsListOf (λ (a b : JoinRow). a ≢ b) (IsRowOf last) further
        → IsListOf (λ (a b : JoinRow). a ≢ b) (IsRowIn (done ++ (last ∷ []))) (added ++ further)
    rows-more done last added further none one other =
        IsListOf-append (λ (a b : JoinRow). a ≢ b) (IsRowIn done) (IsRowOf last) (IsRowIn (done ++ (last ∷ []))) added
        further one other (λ a b p q same. none p.0 p.1 a p.2 (subst (IsRowOf last) (sym same) q))
        (λ row p. (p.0, Contains-append_left done (last ∷ []) p.0 p.1, p.2))
        (λ row p. (last, Contains-append_right done (last ∷ []) last (Contains-head last []), p))
        (λ row p. elim (Contains-append_cases done (last ∷ []) p.0 p.1) [
          | inl h ↦ inl (p.0, h, p.2)
          | inr h ↦ elim (Contains-cons_cases last [] p.0 h) [
            | inl e ↦ inr (subst (λ t. IsRowOf t row) (sym e) p.2)
            | inr never ↦ absurd (Contains-none p.0 never)
          ]
        ])

-- and its reads
pub reads_in-more : (tiles : List Tile) (i : ℕ) (tile : Tile) → i < length tiles → tile ≡ get_or tiles i tile
    → reads_in (take (i + 1) tiles)
    ≡ reads_in (take i tiles) + 2 * (length tile.left.items * length tile.right.items)
reads_in-more tiles i tile inside at =
    let more : take (i + 1) tiles ≡ take i tiles ++ (tile ∷ []) =
    take_more tiles i tile inside ∙ ap (λ t. take i tiles ++ (t ∷ [])) (sym at) in
    let both = sum_by-append (λ (t : Tile). 2 * (length t.left.items * length t.right.items)) (take i tiles)
    (tile ∷ []) in
    ap reads_in more ∙ both ∙ omega arith

-- the first tiles have no more reads than all
pub reads_in-take : (tiles : List Tile) (i : ℕ) → reads_in (take i tiles) ≤ reads_in tiles
reads_in-take tiles i =
    let both = sum_by-append (λ (t : Tile). 2 * (length t.left.items * length t.right.items)) (take i tiles)
    (drop i tiles) in
    let whole = ap reads_in (take-append-drop i tiles) in
    omega (arith, both, whole)

-- ---- the rows of all tiles

-- periods that share a period overlap
Overlap-shared : (x y p : Period) → IsShared x y p → Overlap x y
Overlap-shared x y p shared =
    let inside : p.from <ℤ p.to = p.ordered in
    let both = (shared p.from).0 (omega (arith, ints), inside) in
    (p.from, both.0, both.1)

module _ (left right : List Item) (tiles : List Tile) (are : AreTiles left right tiles) where
  left-among : (tile : Tile) (x : Item) → Contains tiles tile → Contains tile.left.items x → Contains left x
  left-among tile x h k =
      (All-contains (λ (t : Tile). AreSome left t.left.items) tiles tile are.lefts h).among x k

  right-among : (tile : Tile) (y : Item) → Contains tiles tile → Contains tile.right.items y → Contains right y
  right-among tile y h k =
      (All-contains (λ (t : Tile). AreSome right t.right.items) tiles tile are.rights h).among y k

  -- no row belongs to two tiles
  pub apart-rows : HasDistinctIds left → HasDistinctIds right → AllPairs HaveNoRow tiles
  apart-rows left_ids right_ids i j d less inside = λ row p q.
      (let a = get_or tiles i d in
      let b = get_or tiles j d in
      let there : Contains tiles a = Contains-get_or tiles i d (omega (arith, less, inside)) in
      let other : Contains tiles b = Contains-get_or tiles j d inside in
      let one : q.x ≡ p.x =
      one_item left q.x p.x left_ids (left-among b q.x other q.x_in) (left-among a p.x there p.x_in)
      (sym q.left_id ∙ p.left_id) in
      let same : q.y ≡ p.y =
      one_item right q.y p.y right_ids (right-among b q.y other q.y_in) (right-among a p.y there p.y_in)
      (sym q.right_id ∙ p.right_id) in
      are.once i j d less inside p.x p.y (p.x_in, p.y_in)
      (subst (λ z. Contains b.left.items z) one q.x_in, subst (λ z. Contains b.right.items z) same q.y_in))

  -- a row of a tile is a row of the items
  of_tile : (row : JoinRow) → IsRowIn tiles row → IsItemsJoinRow left right row
  of_tile row p = record {
    x = p.2.x;
    y = p.2.y;
    x_in = left-among p.0 p.2.x p.1 p.2.x_in;
    y_in = right-among p.0 p.2.y p.1 p.2.y_in;
    left_id = p.2.left_id;
    right_id = p.2.right_id;
    matches = p.2.matches;
    shared = p.2.shared;
  }

  -- and each row of the items is a row of a tile
  in_tile : (row : JoinRow) → IsItemsJoinRow left right row → IsRowIn tiles row
  in_tile row is =
      let (tile, there, both) = are.whole is.x is.y is.x_in is.y_in
      (Overlap-shared is.x.period is.y.period row.period is.shared) in (
        tile,
        there,
        record {
          x = is.x;
          y = is.y;
          x_in = both.0;
          y_in = both.1;
          left_id = is.left_id;
          right_id = is.right_id;
          matches = is.matches;
          shared = is.shared;
        },
      )

  -- so they are the rows of the items
  pub AddsItemsRows-tiles : (old new : List JoinRow) → AddsTilesRows tiles old new → AddsItemsRows left right old new
  AddsItemsRows-tiles old new adds = record {
    added = adds.added;
    split = adds.split;
    rows = IsListOf-same (λ (a b : JoinRow). a ≢ b) (IsRowIn tiles) (IsItemsJoinRow left right) adds.added of_tile
        in_tile adds.all;
  }
