-- A text that is read byte by byte.
use Rattle.std.proofs.Common.{◌≡◌, ◌⊎◌, ℕ, ◌||◌, ◌==◌, Bool, true, false, List, [], ◌∷◌, ◌++◌, refl, sym, ap, ◌∙◌, subst, inl, inr, append_assoc, append-nil, arith, length, nat_eq}
use Rattle.std.specs.List.{starts_with}
use Rattle.std.proofs.lemmas.Bool.{cases_Bool, eqb-true}
use Rattle.csv.specs.Machine.{field_after, fields_after, is_end, next_record, step}
use Rattle.csv.specs.Reading.{default_config, is_bom, strip_bom}
use Rattle.csv.specs.declared.parser.State.TheVariants as st
use Rattle.command_core.specs.Records.{AreScriptRecords, Record}
use Rattle.live_core.specs.Scanning.{Reading, block_after, by_action, closes, closing, folded, inside, line_at_hand, next_block, nothing_read, read_byte, read_bytes}
use Rattle.live_core.specs.Texts.{AreFrom, AreLines, IsLead, IsLineEnd, IsMarkFront, IsRead, IsScanned, Opens, mark}
use Rattle.live_core.specs.declared.blocks.Block.TheVariants as block
use Rattle.live_core.proofs.BlockLemmas.{opens-more}
use Rattle.live_core.proofs.LineLemmas.{HasSpot, from-same, next-end, next-folded, next-inside, spot-step, step-ends, to-records}
use Rattle.live_core.proofs.ScanLemmas.{block_after-append, outside-is}

-- ---- the bytes before those that are read

-- More bytes.
pub lead-more : (lead bytes more : List ℕ) → IsLead lead bytes → IsLead lead (bytes ++ more)
lead-more lead bytes more (inl is) = inl is
lead-more lead bytes more (inr (inl (none, unmarked))) =
    inr (inl (
      none,
      λ rest.
          subst (λ l. strip_bom l ≡ l) (sym (append_assoc bytes more rest)) (unmarked (more ++ rest)),
    ))
lead-more lead bytes more (inr (inr end)) = inr (inr end)

-- The end of a record isn't the start of a byte order mark, and is skipped.
pub end-lines : (byte : ℕ) (bytes : List ℕ) (lines : List Record) → IsLineEnd byte → AreLines bytes lines
    → AreScriptRecords (byte ∷ bytes) lines
unfolding strip_bom next_record
end-lines byte [] lines (inl e) all =
    rw e (to-records st.StartRecord (10 ∷ []) lines
    (from-same st.StartRecord st.StartRecord [] [] [] [] (10 ∷ []) [] lines refl all))
end-lines byte (a ∷ []) lines (inl e) all =
    rw e (to-records st.StartRecord (10 ∷ a ∷ []) lines
    (from-same st.StartRecord st.StartRecord [] [] [] [] (10 ∷ a ∷ []) (a ∷ []) lines refl all))
end-lines byte (a ∷ b ∷ rest) lines (inl e) all =
    rw e (to-records st.StartRecord (10 ∷ a ∷ b ∷ rest) lines
    (from-same st.StartRecord st.StartRecord [] [] [] [] (10 ∷ a ∷ b ∷ rest) (a ∷ b ∷ rest) lines refl all))
end-lines byte [] lines (inr e) all =
    rw e (to-records st.StartRecord (13 ∷ []) lines
    (from-same st.StartRecord st.StartRecord [] [] [] [] (13 ∷ []) [] lines refl all))
end-lines byte (a ∷ []) lines (inr e) all =
    rw e (to-records st.StartRecord (13 ∷ a ∷ []) lines
    (from-same st.StartRecord st.StartRecord [] [] [] [] (13 ∷ a ∷ []) (a ∷ []) lines refl all))
end-lines byte (a ∷ b ∷ rest) lines (inr e) all =
    rw e (to-records st.StartRecord (13 ∷ a ∷ b ∷ rest) lines
    (from-same st.StartRecord st.StartRecord [] [] [] [] (13 ∷ a ∷ b ∷ rest) (a ∷ b ∷ rest) lines refl all))

-- If a text has no byte order mark, nor has a prefix of it.
unmarked-front : (text back : List ℕ) → strip_bom (text ++ back) ≡ text ++ back → strip_bom text ≡ text
unfolding strip_bom
unmarked-front [] back same = refl
unmarked-front (a ∷ []) back same = refl
unmarked-front (a ∷ b ∷ []) back same = refl
unmarked-front (a ∷ b ∷ c ∷ rest) back same = elim (cases_Bool (is_bom a b c)) [
  | inl marked ↦ absurd (shorter rest back (rw marked at same))
  | inr plain ↦ rw plain refl
]
  where
    shorter : (rest back : List ℕ) → rest ++ back ≡ a ∷ b ∷ c ∷ rest ++ back → ⊥
    shorter rest back short = absurd (omega (arith, ap (λ (l : List ℕ). length l) short))

mark-lines : (bytes : List ℕ) (lines : List Record) → AreLines bytes lines → AreScriptRecords (mark ++ bytes) lines
unfolding strip_bom
mark-lines bytes lines all = to-records st.StartRecord bytes lines all

-- The records of a prefix of the bytes.
pub lead-front : (lead front back : List ℕ) (lines : List Record) → IsLead lead (front ++ back) → AreLines front lines
    → AreScriptRecords (lead ++ front) lines
lead-front lead front back lines (inl is) all = rw is (mark-lines front lines all)
lead-front lead front back lines (inr (inl (none, unmarked))) all =
    let whole : strip_bom (front ++ back) ≡ front ++ back =
    subst (λ l. strip_bom l ≡ l) (append-nil (front ++ back)) (unmarked []) in
    let same = unmarked-front front back whole in
    rw (none, same) (to-records st.StartRecord front lines all)
lead-front lead front back lines (inr (inr (byte, is, ends))) all = rw is (end-lines byte front lines ends all)

-- The records of all bytes, and of the bytes that follow.
pub lead-all : (lead bytes more : List ℕ) (lines : List Record) → IsLead lead bytes → AreLines (bytes ++ more) lines
    → AreScriptRecords ((lead ++ bytes) ++ more) lines
lead-all lead bytes more lines leads all =
    subst (λ l. AreScriptRecords l lines) (sym (append_assoc lead bytes more))
    (lead-front lead (bytes ++ more) [] lines
    (subst (IsLead lead) (sym (append-nil (bytes ++ more))) (lead-more lead bytes more leads)) all)

-- ---- one byte

-- A byte that ends a record is a line feed or a carriage return.
end-byte : (c : ℕ) → ((c == 13) || (c == 10)) ≡ true → IsLineEnd c
end-byte c e = elim (cases_Bool (c == 13)) [
  | inl return ↦ inr (eqb-true c 13 return)
  | inr other ↦ inl (eqb-true c 10 (rw other at e))
]

module _ (r : Reading) (c : ℕ) (s : IsRead r) where
  -- The byte doesn't end a record.
  inside-pending : is_end (step default_config r.state c).1 ≡ false → (more : List ℕ) (later : List Record)
      → AreFrom (folded (step default_config r.state c).0)
      (fields_after (step default_config r.state c).1 r.fields r.field)
      (field_after (step default_config r.state c).1 c r.field) more later
      → AreLines ((r.behind ++ c ∷ []) ++ more) (r.pending ++ later)
  inside-pending e more later all =
      let q = step default_config r.state c in
      let fields = fields_after q.1 r.fields r.field in
      let field = field_after q.1 c r.field in
      let at : AreFrom r.state r.fields r.field (c ∷ more) later =
      from-same r.state (folded q.0) r.fields fields r.field field (c ∷ more) more later
      (next-inside r.state r.fields r.field c more e ∙ sym (next-folded q.0 fields field more)) all in
      subst (λ l. AreLines l (r.pending ++ later)) (sym (append_assoc r.behind (c ∷ []) more))
      (s.pending (c ∷ more) later at)

  read-inside : is_end (step default_config r.state c).1 ≡ false
      → IsRead (inside r c (step default_config r.state c))
  read-inside e = record {
    whole = s.whole;
    cut = s.cut;
    closed = s.closed;
    pending = inside-pending e;
    opens = s.opens;
  }

  -- The byte ends a record.
  ended-pending : is_end (step default_config r.state c).1 ≡ true → (more : List ℕ) (later : List Record)
      → AreLines more later → AreLines ((r.behind ++ c ∷ []) ++ more) ((r.pending ++ line_at_hand r ∷ []) ++ later)
  ended-pending e more later all =
      let q = step default_config r.state c in
      let line = line_at_hand r in
      let from : AreFrom q.0 [] [] more later =
      from-same q.0 (folded q.0) [] [] [] [] more more later (sym (next-folded q.0 [] [] more))
      (subst (λ z. AreFrom z [] [] more later) (sym (step-ends r.state c e).0) all) in
      let at : AreFrom r.state r.fields r.field (c ∷ more) (line ∷ later) =
      ((line, q.0, more), next-end r.state r.fields r.field c more e, refl, from) in
      subst (λ l. AreLines l ((r.pending ++ line ∷ []) ++ later)) (sym (append_assoc r.behind (c ∷ []) more))
      (subst (λ l. AreLines (r.behind ++ c ∷ more) l) (sym (append_assoc r.pending (line ∷ []) later))
      (s.pending (c ∷ more) (line ∷ later) at))

  read-ended : is_end (step default_config r.state c).1 ≡ true → closes r ≡ false
      → IsRead (closing r c (step default_config r.state c).0 (line_at_hand r) false)
  read-ended e stays =
      let line = line_at_hand r in
      let at : block_after block.Outside (r.pending ++ line ∷ []) ≡ next_block (block_after block.Outside r.pending) line =
      block_after-append block.Outside r.pending (line ∷ []) in
      record {
        whole = s.whole;
        cut = s.cut;
        closed = s.closed;
        pending = λ more later all.
            ended-pending e more later (subst (λ z. AreFrom z [] [] more later) (step-ends r.state c e).0 all);
        opens = subst (λ b. Opens b (r.pending ++ line ∷ [])) (sym at)
            (opens-more (block_after block.Outside r.pending) r.pending line s.opens stays);
      }

  read-closed : is_end (step default_config r.state c).1 ≡ true → closes r ≡ true
      → IsRead (closing r c (step default_config r.state c).0 (line_at_hand r) true)
  read-closed e ends =
      let line = line_at_hand r in
      let bytes = r.behind ++ c ∷ [] in
      let lines = r.pending ++ line ∷ [] in
      let at : block_after block.Outside lines ≡ block.Outside =
      block_after-append block.Outside r.pending (line ∷ [])
      ∙ outside-is (next_block (block_after block.Outside r.pending) line) ends in
      record {
        whole = λ more later all.
            subst (λ l. AreLines l ((r.done ++ lines) ++ later)) (sym (append_assoc r.whole bytes more))
            (subst (λ l. AreLines (r.whole ++ (bytes ++ more)) l) (sym (append_assoc r.done lines later))
            (s.whole (bytes ++ more) (lines ++ later) (ended-pending e more later all)));
        cut = inr (
          r.whole ++ r.behind,
          c,
          sym (append_assoc r.whole r.behind (c ∷ [])),
          end-byte c (step-ends r.state c e).1,
        );
        closed = block_after-append block.Outside r.done lines
            ∙ (ap (λ b. block_after b lines) s.closed ∙ at);
        pending = λ more later all. subst (λ z. AreFrom z [] [] more later) (step-ends r.state c e).0 all;
        opens = refl;
      }

read-byte : (r : Reading) (c : ℕ) → IsRead r → IsRead (read_byte r c)
read-byte r c s = by (is_end (step default_config r.state c).1) refl
  where
    ended : is_end (step default_config r.state c).1 ≡ true → (b : Bool) → closes r ≡ b
        → IsRead (closing r c (step default_config r.state c).0 (line_at_hand r) b)
    ended e true ends = read-closed r c s e ends
    ended e false stays = read-ended r c s e stays

    by : (b : Bool) → is_end (step default_config r.state c).1 ≡ b
        → IsRead (by_action r c (step default_config r.state c) b)
    by true e = ended e (closes r) refl
    by false e = read-inside r c s e

-- ---- more bytes

pub read-bytes : (r : Reading) (bytes : List ℕ) → IsRead r → IsRead (read_bytes r bytes)
read-bytes r [] s = s
read-bytes r (c ∷ rest) s = read-bytes (read_byte r c) rest (read-byte r c s)

-- The bytes that were read.
abbrev pub all_read : Reading → List ℕ
all_read r = r.whole ++ r.behind

all_read-byte : (r : Reading) (c : ℕ) → all_read (read_byte r c) ≡ all_read r ++ c ∷ []
all_read-byte r c = by (is_end (step default_config r.state c).1)
  where
    ended : (b : Bool) → all_read (closing r c (step default_config r.state c).0 (line_at_hand r) b)
        ≡ all_read r ++ c ∷ []
    ended true = append-nil (r.whole ++ (r.behind ++ c ∷ [])) ∙ sym (append_assoc r.whole r.behind (c ∷ []))
    ended false = sym (append_assoc r.whole r.behind (c ∷ []))

    by : (b : Bool) → all_read (by_action r c (step default_config r.state c) b) ≡ all_read r ++ c ∷ []
    by true = ended (closes r)
    by false = sym (append_assoc r.whole r.behind (c ∷ []))

pub all_read-bytes : (r : Reading) (bytes : List ℕ) → all_read (read_bytes r bytes) ≡ all_read r ++ bytes
all_read-bytes r [] = sym (append-nil (all_read r))
all_read-bytes r (c ∷ rest) =
    all_read-bytes (read_byte r c) rest
    ∙ (ap (λ l. l ++ rest) (all_read-byte r c) ∙ append_assoc (all_read r) (c ∷ []) rest)

abbrev pub scanned-bytes : (text : List ℕ) (r : Reading) (bytes : List ℕ) → IsScanned text r
    → IsScanned (text ++ bytes) (read_bytes r bytes)
scanned-bytes text r bytes s = record {
  lead = s.lead;
  is = ap (λ l. l ++ bytes) s.is
      ∙ (append_assoc s.lead (all_read r) bytes ∙ ap (λ l. s.lead ++ l) (sym (all_read-bytes r bytes)));
  leads = subst (IsLead s.lead) (sym (all_read-bytes r bytes)) (lead-more s.lead (all_read r) bytes s.leads);
  read = read-bytes r bytes s.read;
}

pub spot-bytes : (r : Reading) (bytes : List ℕ) → HasSpot r.state → HasSpot (read_bytes r bytes).state
spot-bytes r [] at = at
spot-bytes r (c ∷ rest) at = spot-bytes (read_byte r c) rest (by (is_end (step default_config r.state c).1))
  where
    ended : (b : Bool) → HasSpot (closing r c (step default_config r.state c).0 (line_at_hand r) b).state
    ended true = spot-step r.state c at
    ended false = spot-step r.state c at

    by : (b : Bool) → HasSpot (by_action r c (step default_config r.state c) b).state
    by true = ended (closes r)
    by false = spot-step r.state c at

-- ---- a text's first bytes

-- The start of the records, unless the bytes may still become a byte order mark.
pub record Begins (text : List ℕ) : Type 0 where
  pub lead : List ℕ
  pub rest : List ℕ
  pub is : text ≡ lead ++ rest
  pub leads : (lead ≡ mark) ⊎ ((lead ≡ []) × ((more : List ℕ) → strip_bom (rest ++ more) ≡ rest ++ more))

pub begins-lead : (text : List ℕ) (b : Begins text) → IsLead b.lead b.rest
begins-lead text b = elim b.leads [ inl marked ↦ inl marked | inr unmarked ↦ inr (inl unmarked) ]

unmarked-text : (text : List ℕ) → ((more : List ℕ) → strip_bom (text ++ more) ≡ text ++ more) → Begins text
unmarked-text text unmarked = record { lead = []; rest = text; is = refl; leads = inr (refl, unmarked) }

pub begins : (text : List ℕ) → IsMarkFront text ⊎ Begins text
unfolding strip_bom
begins [] = inl (inl refl)
begins (a ∷ []) = elim (cases_Bool (a == 0xEF)) [
  | inl first ↦ inl (inr (inl (ap (λ x. x ∷ []) (eqb-true a 0xEF first))))
  | inr other ↦ inr (unmarked-text (a ∷ []) (λ more. by more other))
]
  where
    by : (more : List ℕ) → (a == 0xEF) ≡ false → strip_bom (a ∷ more) ≡ a ∷ more
    by [] other = refl
    by (b ∷ []) other = refl
    by (b ∷ c ∷ rest) other = rw other refl
begins (a ∷ b ∷ []) = elim (cases_Bool (a == 0xEF)) [
  | inl first ↦ elim (cases_Bool (b == 0xBB)) [
    | inl second ↦
        inl (inr (inr (ap (λ x. x ∷ b ∷ []) (eqb-true a 0xEF first)
        ∙ ap (λ x. 0xEF ∷ x ∷ []) (eqb-true b 0xBB second))))
    | inr other ↦ inr (unmarked-text (a ∷ b ∷ []) (λ more. at more first other))
  ]
  | inr other ↦ inr (unmarked-text (a ∷ b ∷ []) (λ more. by more other))
]
  where
    by : (more : List ℕ) → (a == 0xEF) ≡ false → strip_bom (a ∷ b ∷ more) ≡ a ∷ b ∷ more
    by [] other = refl
    by (c ∷ rest) other = rw other refl

    at : (more : List ℕ) → (a == 0xEF) ≡ true → (b == 0xBB) ≡ false → strip_bom (a ∷ b ∷ more) ≡ a ∷ b ∷ more
    at [] first other = refl
    at (c ∷ rest) first other = rw (first, other) refl
begins (a ∷ b ∷ c ∷ rest) = elim (cases_Bool (is_bom a b c)) [
  | inl marked ↦ inr (record { lead = mark; rest = rest; is = marks (a == 0xEF) (b == 0xBB) (c == 0xBF) refl refl refl marked; leads = inl refl })
  | inr plain ↦ inr (unmarked-text (a ∷ b ∷ c ∷ rest) (λ more. rw plain refl))
]
  where
    marks : (x y z : Bool) → (a == 0xEF) ≡ x → (b == 0xBB) ≡ y → (c == 0xBF) ≡ z → is_bom a b c ≡ true
        → a ∷ b ∷ c ∷ rest ≡ mark ++ rest
    marks true true true p q s marked =
        ap (λ x. x ∷ b ∷ c ∷ rest) (eqb-true a 0xEF p)
        ∙ (ap (λ x. 0xEF ∷ x ∷ c ∷ rest) (eqb-true b 0xBB q) ∙ ap (λ x. 0xEF ∷ 0xBB ∷ x ∷ rest) (eqb-true c 0xBF s))
    marks false y z p q s marked = absurd (cc (rw p at marked))
    marks true false z p q s marked = absurd (cc (rw (p, q) at marked))
    marks true true false p q s marked = absurd (cc (rw (p, q, s) at marked))

-- Nothing was read yet.
pub read-nothing : IsRead nothing_read
read-nothing = record {
  whole = λ more later all. all;
  cut = inl refl;
  closed = refl;
  pending = λ more later all. all;
  opens = refl;
}

abbrev pub scanned-first : (text lead rest : List ℕ) → text ≡ lead ++ rest → IsLead lead rest
    → IsScanned text (read_bytes nothing_read rest)
scanned-first text lead rest is leads = record {
  lead = lead;
  is = is ∙ ap (λ l. lead ++ l) (sym (all_read-bytes nothing_read rest));
  leads = subst (IsLead lead) (sym (all_read-bytes nothing_read rest)) leads;
  read = read-bytes nothing_read rest read-nothing;
}

-- A text that neither begins with the byte order mark nor is a prefix of it.
pub lead-none : (text : List ℕ) → starts_with nat_eq text mark ≡ false → starts_with nat_eq mark text ≡ false
    → IsLead [] text
lead-none text other short = elim (begins text) [
  | inl front ↦ elim front [
    | inl none ↦ absurd (cc (rw none at short))
    | inr more ↦ elim more [
      | inl one ↦ absurd (cc (rw one at short))
      | inr two ↦ absurd (cc (rw two at short))
    ]
  ]
  | inr b ↦ elim b.leads [
    | inl marked ↦
        let whole : text ≡ mark ++ b.rest = b.is ∙ ap (λ l. l ++ b.rest) marked in
        absurd (cc (rw whole at other))
    | inr (none, unmarked) ↦
        let whole : b.rest ≡ text = sym (b.is ∙ ap (λ l. l ++ b.rest) none) in
        inr (inl (refl, subst (λ l. (more : List ℕ) → strip_bom (l ++ more) ≡ l ++ more) whole unmarked))
  ]
]
