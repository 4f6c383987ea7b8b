-- The state of a scan after the bytes that were read.
use Rattle.std.proofs.Common.{◌≡◌, ℕ, suc, ◌+◌, ◌<◌, Bool, true, false, cond, List, [], ◌∷◌, ◌++◌, get_or, length, take, refl, sym, ap, ◌∙◌, subst, arith}
use Rattle.std.proofs.Math.Seq.{take-suc}
use Rattle.std.proofs.lemmas.List.{length-append}
use Rattle.csv.specs.Machine.{is_end, step}
use Rattle.csv.specs.Reading.{default_config}
use Rattle.command_core.specs.Records.{Record}
use Rattle.live_core.specs.Scanning.{IsCutAt, Knows, Reading, block_after, closes, closing, ends_statement, folded, is_outside, line_at_hand, next_block, read_byte, read_bytes, state_of}
use Rattle.live_core.specs.declared.blocks.Block.{Block}
use Rattle.live_core.specs.declared.blocks.Block.TheVariants as block
use Rattle.live_core.specs.declared.scan.Scan.{Scan}

-- ---- statements

pub block_after-append : (b : Block) (lines more : List Record)
    → block_after b (lines ++ more) ≡ block_after (block_after b lines) more
block_after-append b [] more = refl
block_after-append b (line ∷ lines) more = block_after-append (next_block b line) lines more

pub outside-is : (b : Block) → is_outside b ≡ true → b ≡ block.Outside
outside-is block.Outside e = refl
outside-is block.Rows e = absurd (cc e)
outside-is block.Together e = absurd (cc e)
outside-is block.RowsInside e = absurd (cc e)

-- ---- a byte that ends a record

pub knows-end : (scan : Scan) (r : Reading) (c : ℕ) → is_end (step default_config r.state c).1 ≡ true
    → state_of scan.spot ≡ folded (step default_config r.state c).0 → scan.first.items ≡ [] → scan.is_first ≡ true
    → scan.block ≡ next_block (block_after block.Outside r.pending) (line_at_hand r)
    → Knows scan (read_byte r c) × (is_outside scan.block ≡ ends_statement r c)
knows-end scan r c ends spot first is_first at = rw ends (by (closes r) refl)
  where
    by : (b : Bool) → closes r ≡ b → Knows scan (closing r c (step default_config r.state c).0 (line_at_hand r) b)
        × (is_outside scan.block ≡ b)
    by true t = (
      record {
        spot = spot;
        first = first;
        is_first = is_first;
        block = at ∙ outside-is (next_block (block_after block.Outside r.pending) (line_at_hand r)) t;
      },
      ap is_outside at ∙ t,
    )
    by false t = (
      record {
        spot = spot;
        first = first;
        is_first = is_first;
        block = at ∙ sym (block_after-append block.Outside r.pending (line_at_hand r ∷ []));
      },
      ap is_outside at ∙ t,
    )

-- ---- bytes

pub read_bytes-append : (r : Reading) (bytes more : List ℕ)
    → read_bytes r (bytes ++ more) ≡ read_bytes (read_bytes r bytes) more
read_bytes-append r [] more = refl
read_bytes-append r (c ∷ rest) more = read_bytes-append (read_byte r c) rest more

-- The number of bytes that were read.
abbrev size_of : Reading → ℕ
size_of r = length r.whole + length r.behind

-- The effect of one byte on the last cut.
record IsCutBy (old new : Reading) (ends : Bool) : Type 0 where
  size : size_of new ≡ suc (size_of old)
  at : ends ≡ true → length new.whole ≡ suc (size_of old)
  none : ends ≡ false → (new.whole ≡ old.whole) × (new.done ≡ old.done)

cut-closing : (r : Reading) (c : ℕ) (b : Bool)
    → IsCutBy r (closing r c (step default_config r.state c).0 (line_at_hand r) b) b
cut-closing r c true = record {
  size = omega (arith, length-append r.whole (r.behind ++ c ∷ []), length-append r.behind (c ∷ []));
  at = λ e. omega (arith, length-append r.whole (r.behind ++ c ∷ []), length-append r.behind (c ∷ []));
  none = λ e. absurd (cc e);
}
cut-closing r c false = record {
  size = omega (arith, length-append r.behind (c ∷ []));
  at = λ e. absurd (cc e);
  none = λ e. (refl, refl);
}

cut-by : (r : Reading) (c : ℕ) → IsCutBy r (read_byte r c) (ends_statement r c)
cut-by r c = by (is_end (step default_config r.state c).1) refl
  where
    by : (b : Bool) → is_end (step default_config r.state c).1 ≡ b → IsCutBy r (read_byte r c) (ends_statement r c)
    by true t = rw t (cut-closing r c (closes r))
    by false t =
        rw t (record {
          size = omega (arith, length-append r.behind (c ∷ []));
          at = λ e. absurd (cc e);
          none = λ e. (refl, refl);
        })

-- The scan's state after `place` bytes, and the last cut.
pub record IsReadTo (scan : Scan) (r new : Reading) (place last : ℕ) : Type 0 where
  pub knows : Knows scan new
  pub cut : IsCutAt r new last
  pub size : size_of new ≡ size_of r + place

pub read-none : (scan : Scan) (r : Reading) → Knows scan r → IsReadTo scan r r 0 0
read-none scan r knows = record {
  knows = knows;
  cut = record { none = λ e. (refl, refl); some = λ e. absurd (omega (arith, e)) };
  size = omega arith;
}

-- One more byte.
pub read-byte : (old new : Scan) (r mid : Reading) (place cut : ℕ) (c : ℕ) (ends : Bool)
    → IsReadTo old r mid place cut → Knows new (read_byte mid c) → ends ≡ ends_statement mid c
    → IsReadTo new r (read_byte mid c) (place + 1) (cond ends (place + 1) cut)
read-byte old new r mid place cut c true to knows is =
    let b = cut-by mid c in
    record {
      knows = knows;
      cut = record {
        none = λ e. absurd (omega (arith, e));
        some = λ e. omega (arith, b.at (sym is), to.size);
      };
      size = omega (arith, b.size, to.size);
    }
read-byte old new r mid place cut c false to knows is =
    let b = cut-by mid c in
    let same = b.none (sym is) in
    record {
      knows = knows;
      cut = record {
        none = λ e. (same.0 ∙ (to.cut.none e).0, same.1 ∙ (to.cut.none e).1);
        some = λ e. ap length same.0 ∙ to.cut.some e;
      };
      size = omega (arith, b.size, to.size);
    }

-- The next of some bytes.
pub read-on : (old new : Scan) (r : Reading) (bytes : List ℕ) (place cut next : ℕ) (ends : Bool)
    → place < length bytes → IsReadTo old r (read_bytes r (take place bytes)) place cut
    → ((r : Reading) → Knows old r → Knows new (read_byte r (get_or bytes place 0))
    × (ends ≡ ends_statement r (get_or bytes place 0))) → next ≡ cond ends (place + 1) cut
    → IsReadTo new r (read_bytes r (take (place + 1) bytes)) (place + 1) next
read-on old new r bytes place cut next ends within to reads is =
    let mid = read_bytes r (take place bytes) in
    let c = get_or bytes place 0 in
    let one = reads mid to.knows in
    let next_place : place + 1 ≡ suc place = omega arith in
    let more : read_bytes r (take (place + 1) bytes) ≡ read_byte mid c =
    ap (λ n. read_bytes r (take n bytes)) next_place
    ∙ (ap (λ (l : List ℕ). read_bytes r l) (take-suc bytes place 0 within)
    ∙ read_bytes-append r (take place bytes) (c ∷ [])) in
    subst (λ n. IsReadTo new r (read_bytes r (take (place + 1) bytes)) (place + 1) n) (sym is)
    (subst (λ m. IsReadTo new r m (place + 1) (cond ends (place + 1) cut)) (sym more)
    (read-byte old new r mid place cut c ends to one.0 one.1))
