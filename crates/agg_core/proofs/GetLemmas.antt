-- The row at an index of some shares.
use Rattle.std.proofs.Common.{◌≡◌, ◌<◌, ◌≤◌, ◌-◌, ◌+◌, ℕ, List, [], ◌∷◌, ◌++◌, length, map, take, get_or, add-one, append-nil, append_assoc, sym, ap, ◌∙◌, arith}
use Rattle.std.proofs.Math.Seq.{take-suc}
use Rattle.std.proofs.lemmas.Grind.{flat_map-append}
use Rattle.std.specs.Prelude.{slice_get}
use Rattle.std.proofs.lemmas.List.{length-map, map-append}
use Rattle.std.specs.Global.{Vec}
use Rattle.list_core.specs.Chunks.{all_in}
use Rattle.list_core.proofs.ChunkLemmas.{all_in-more}
use Rattle.round_core.specs.declared.plateau.Plateau.{Plateau}
use Rattle.agg_core.specs.declared.rows.AggRow.{AggRow}
use Rattle.list_core.proofs.PlaceLemmas.{slice_get-append_right, slice_get-before}
use Rattle.agg_core.specs.declared.rows.AggShare.{AggShare}
use Rattle.agg_core.specs.Grouping.{agg_row_of}
use Rattle.agg_core.specs.Shares.{rows_in, rows_in_shares}

-- a share has a row for each constant interval
pub share_length : (share : AggShare) → length (rows_in share) ≡ length share.plateaus
share_length share = length-map share.plateaus (agg_row_of share.groups.items)

-- a row of the first share
pub row_first : (shares rest : List AggShare) (share : AggShare) (i : ℕ) → shares ≡ share ∷ rest
    → i < length share.plateaus → slice_get (rows_in_shares shares) i ≡ slice_get (rows_in share) i
row_first shares rest share i e inside =
    let long = share_length share in
    ap (λ l. slice_get (rows_in_shares l) i) e
    ∙ slice_get-before (rows_in share) (rows_in_shares rest) i (omega (arith, long, inside))

-- a row after the first share
pub row_later : (shares rest : List AggShare) (share : AggShare) (i : ℕ) → shares ≡ share ∷ rest
    → length share.plateaus ≤ i
    → slice_get (rows_in_shares shares) i ≡ slice_get (rows_in_shares rest) (i - length share.plateaus)
row_later shares rest share i e past =
    let long = share_length share in
    let whole : i ≡ length (rows_in share) + (i - length share.plateaus) = omega (arith, long, past) in
    ap (λ l. slice_get (rows_in_shares l) i) e ∙ ap (slice_get (rows_in share ++ rows_in_shares rest)) whole
    ∙ slice_get-append_right (rows_in share) (rows_in_shares rest) (i - length share.plateaus)

-- only one share
pub rows-alone : (shares : List AggShare) (share : AggShare) → shares ≡ share ∷ []
    → rows_in_shares shares ≡ rows_in share
rows-alone shares share e = ap (λ l. rows_in_shares l) e ∙ append-nil (rows_in share)

-- the rows of one more share
pub rows-next : (shares : List AggShare) (i : ℕ) (share : AggShare) (old new : List AggRow) → i < length shares
    → share ≡ get_or shares i share → old ≡ rows_in_shares (take i shares) → new ≡ old ++ rows_in share
    → new ≡ rows_in_shares (take (i + 1) shares)
rows-next shares i share old new inside at was is =
    let so_far = take i shares in
    let step : take (i + 1) shares ≡ so_far ++ share ∷ [] =
    ap (λ n. take n shares) (add-one i) ∙ take-suc shares i share inside ∙ ap (λ s. so_far ++ s ∷ []) (sym at) in
    is ∙ ap (λ (l : List AggRow). l ++ rows_in share) was
    ∙ ap (λ (l : List AggRow). rows_in_shares so_far ++ l) (sym (append-nil (rows_in share)))
    ∙ sym (flat_map-append rows_in so_far (share ∷ [])) ∙ ap (λ l. rows_in_shares l) (sym step)

-- the rows of one more chunk of constant intervals
pub chunk-next : (f : Plateau → AggRow) (base : List AggRow) (chunks : List (Vec Plateau)) (i : ℕ) (chunk : Vec Plateau)
    (old new : List AggRow) → i < length chunks → chunk ≡ get_or chunks i chunk
    → old ≡ base ++ map f (all_in (take i chunks)) → new ≡ old ++ map f chunk.items
    → new ≡ base ++ map f (all_in (take (i + 1) chunks))
chunk-next f base chunks i chunk old new inside at was is =
    let so_far = take i chunks in
    let step : take (i + 1) chunks ≡ so_far ++ chunk ∷ [] =
    ap (λ n. take n chunks) (add-one i) ∙ take-suc chunks i chunk inside ∙ ap (λ s. so_far ++ s ∷ []) (sym at) in
    is ∙ ap (λ (l : List AggRow). l ++ map f chunk.items) was
    ∙ append_assoc base (map f (all_in so_far)) (map f chunk.items)
    ∙ ap (λ (l : List AggRow). base ++ l) (sym (map-append f (all_in so_far) chunk.items))
    ∙ ap (λ (l : List Plateau). base ++ map f l) (sym (all_in-more so_far chunk))
    ∙ ap (λ (l : List (Vec Plateau)). base ++ map f (all_in l)) (sym step)
