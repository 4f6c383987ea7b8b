-- Bytes that were fed, and the text that is left of them.
use Rattle.std.proofs.Common.{◌≡◌, ◌≢◌, ◌⊎◌, ℕ, ◌+◌, ◌-◌, List, [], ◌∷◌, ◌++◌, drop, length, take, refl, sym, ap, ◌∙◌, subst, inl, inr, append_assoc, append-nil, arith}
use Rattle.std.proofs.Math.Seq.{drop-append_seam, take-append_seam}
use Rattle.std.proofs.lemmas.List.{length-append}
use Rattle.csv.specs.Machine.{next_record}
use Rattle.csv.specs.Reading.{strip_bom}
use Rattle.csv.specs.declared.parser.State.TheVariants as st
use Rattle.command_core.specs.Records.{AreScriptRecords, Record}
use Rattle.command_core.proofs.RecordsUniqueness.{one_records}
use Rattle.live_core.specs.Scanning.{Knows, Reading}
use Rattle.live_core.specs.Texts.{AreLines, IsBegun, IsLineEnd, IsRest, IsScanned}
use Rattle.live_core.specs.declared.scan.Scan.{Scan}
use Rattle.live_core.proofs.LineLemmas.{from-records, from-same}
use Rattle.live_core.proofs.TextLemmas.{lead-all, lead-front}

-- ---- the bytes that follow

-- More bytes.
pub rest-more : (bytes text more : List ℕ) (passed : List Record) → IsRest bytes passed text
    → IsRest (bytes ++ more) passed (text ++ more)
rest-more bytes text more passed rest = record {
  gone = rest.gone;
  is = ap (λ l. l ++ more) rest.is ∙ append_assoc rest.gone text more;
  goes_on = λ on later are.
      subst (λ l. AreScriptRecords l (passed ++ later)) (sym (append_assoc bytes more on))
      (rest.goes_on (more ++ on) later
      (subst (λ l. AreScriptRecords l later) (append_assoc text more on) are));
}

-- After the end of a record, the following bytes have the other records.
lines-end : (byte : ℕ) (bytes : List ℕ) (lines : List Record) → IsLineEnd byte → AreScriptRecords (byte ∷ bytes) lines
    → AreLines bytes lines
unfolding strip_bom next_record
lines-end byte [] lines (inl e) all =
    from-same st.StartRecord st.StartRecord [] [] [] [] [] (10 ∷ []) lines refl
    (from-records st.StartRecord (10 ∷ []) lines (rw e at all))
lines-end byte (a ∷ []) lines (inl e) all =
    from-same st.StartRecord st.StartRecord [] [] [] [] (a ∷ []) (10 ∷ a ∷ []) lines refl
    (from-records st.StartRecord (10 ∷ a ∷ []) lines (rw e at all))
lines-end byte (a ∷ b ∷ rest) lines (inl e) all =
    from-same st.StartRecord st.StartRecord [] [] [] [] (a ∷ b ∷ rest) (10 ∷ a ∷ b ∷ rest) lines refl
    (from-records st.StartRecord (10 ∷ a ∷ b ∷ rest) lines (rw e at all))
lines-end byte [] lines (inr e) all =
    from-same st.StartRecord st.StartRecord [] [] [] [] [] (13 ∷ []) lines refl
    (from-records st.StartRecord (13 ∷ []) lines (rw e at all))
lines-end byte (a ∷ []) lines (inr e) all =
    from-same st.StartRecord st.StartRecord [] [] [] [] (a ∷ []) (13 ∷ a ∷ []) lines refl
    (from-records st.StartRecord (13 ∷ a ∷ []) lines (rw e at all))
lines-end byte (a ∷ b ∷ rest) lines (inr e) all =
    from-same st.StartRecord st.StartRecord [] [] [] [] (a ∷ b ∷ rest) (13 ∷ a ∷ b ∷ rest) lines refl
    (from-records st.StartRecord (13 ∷ a ∷ b ∷ rest) lines (rw e at all))

-- ---- a text whose complete statements are answered

-- The last byte of the complete statements, and the bytes before it.
pub record Cut (text : List ℕ) (r : Reading) (lead : List ℕ) : Type 0 where
  pub front : List ℕ
  pub byte : ℕ
  pub whole : r.whole ≡ front ++ byte ∷ []
  pub ends : IsLineEnd byte
  pub splits : text ≡ (lead ++ front) ++ byte ∷ r.behind

pub cut-of : (text : List ℕ) (r : Reading) (s : IsScanned text r) → r.whole ≢ [] → Cut text r s.lead
cut-of text r s some = by s.read.cut
  where
    by : (r.whole ≡ []) ⊎ ((front : List ℕ) × (byte : ℕ) × (r.whole ≡ front ++ byte ∷ []) × IsLineEnd byte)
        → Cut text r s.lead
    by (inl none) = absurd (some none)
    by (inr (front, byte, whole, ends)) = record {
      front = front;
      byte = byte;
      whole = whole;
      ends = ends;
      splits = s.is
          ∙ (ap (λ l. s.lead ++ (l ++ r.behind)) whole
          ∙ (ap (λ l. s.lead ++ l) (append_assoc front (byte ∷ []) r.behind)
          ∙ sym (append_assoc s.lead front (byte ∷ r.behind))));
    }

-- The bytes that stay in memory.
pub cut-left : (text : List ℕ) (r : Reading) (lead : List ℕ) (end : ℕ) (c : Cut text r lead)
    → end ≡ length lead + length r.whole → drop (end - 1) text ≡ c.byte ∷ r.behind
cut-left text r lead end c is =
    let size : end - 1 ≡ length (lead ++ c.front) =
    omega (arith, is, ap (λ (l : List ℕ). length l) c.whole, length-append c.front (c.byte ∷ []), length-append lead c.front) in
    ap (λ n. drop n text) size
    ∙ (ap (drop (length (lead ++ c.front))) c.splits ∙ drop-append_seam (lead ++ c.front) (c.byte ∷ r.behind))

pub rest-cut : (bytes text : List ℕ) (passed : List Record) (r : Reading) (s : IsScanned text r) (c : Cut text r s.lead)
    → IsRest bytes passed text → IsRest bytes (passed ++ r.done) (c.byte ∷ r.behind)
rest-cut bytes text passed r s c rest = record {
  gone = rest.gone ++ (s.lead ++ c.front);
  is = rest.is ∙ (ap (λ l. rest.gone ++ l) c.splits
      ∙ sym (append_assoc rest.gone (s.lead ++ c.front) (c.byte ∷ r.behind)));
  goes_on = λ on later are.
      let behind : AreLines (r.behind ++ on) later = lines-end c.byte (r.behind ++ on) later c.ends are in
      let lines : AreLines ((r.whole ++ r.behind) ++ on) (r.done ++ later) =
      subst (λ l. AreLines l (r.done ++ later)) (sym (append_assoc r.whole r.behind on))
      (s.read.whole (r.behind ++ on) later behind) in
      let all : AreScriptRecords (text ++ on) (r.done ++ later) =
      subst (λ l. AreScriptRecords (l ++ on) (r.done ++ later)) (sym s.is)
      (lead-all s.lead (r.whole ++ r.behind) on (r.done ++ later) s.leads lines) in
      subst (AreScriptRecords (bytes ++ on)) (sym (append_assoc passed r.done later))
      (rest.goes_on on (r.done ++ later) all);
}

pub begun-cut : (text : List ℕ) (r : Reading) (scan : Scan) (s : IsScanned text r) (c : Cut text r s.lead)
    → Knows scan r → IsBegun (c.byte ∷ r.behind) scan
begun-cut text r scan s c knows = record {
  reading = record {
    whole = [];
    done = [];
    behind = r.behind;
    pending = r.pending;
    state = r.state;
    fields = r.fields;
    field = r.field;
  };
  nothing = refl;
  none = refl;
  scanned = record {
    lead = c.byte ∷ [];
    is = refl;
    leads = inr (inr (c.byte, refl, c.ends));
    read = record {
      whole = λ more later all. all;
      cut = inl refl;
      closed = refl;
      pending = s.read.pending;
      opens = s.read.opens;
    };
  };
  knows = record { spot = knows.spot; first = knows.first; is_first = knows.is_first; block = knows.block };
}

-- A prefix of the text has the records of the complete statements.
pub front-records : (text : List ℕ) (r : Reading) (s : IsScanned text r) (end : ℕ) (records : List Record)
    → end ≡ length s.lead + length r.whole → AreScriptRecords (take end text) records → records ≡ r.done
unfolding next_record
front-records text r s end records is are =
    let size : end ≡ length (s.lead ++ r.whole) = omega (arith, is, length-append s.lead r.whole) in
    let all : text ≡ (s.lead ++ r.whole) ++ r.behind = s.is ∙ sym (append_assoc s.lead r.whole r.behind) in
    let front : take end text ≡ s.lead ++ r.whole =
    ap (λ n. take n text) size
    ∙ (ap (take (length (s.lead ++ r.whole))) all ∙ take-append_seam (s.lead ++ r.whole) r.behind) in
    let lines : AreLines r.whole r.done =
    subst (λ l. AreLines l r.done) (append-nil r.whole)
    (subst (AreLines (r.whole ++ [])) (append-nil r.done) (s.read.whole [] [] refl)) in
    one_records (s.lead ++ r.whole) records r.done (subst (λ l. AreScriptRecords l records) front are)
    (lead-front s.lead r.whole r.behind r.done s.leads lines)
