-- How records begin and end statements.
use Rattle.std.proofs.Common.{◌≡◌, ◌⊎◌, ℕ, ◌+◌, true, false, cond, List, [], ◌∷◌, ◌++◌, length, refl, sym, ap, ◌∙◌, subst, inl, inr, append_assoc}
use Rattle.std.specs.Prelude.{codes}
use Rattle.std.proofs.lemmas.Bool.{cases_Bool}
use Rattle.std.proofs.lemmas.List.{append-nil}
use Rattle.std.proofs.lemmas.List.Elements.{All-head, All-nil, All-push, All-tail}
use Rattle.std.proofs.lemmas.Slice.Eq.{bytes_eq-Decides}
use Rattle.command_core.specs.Meaning.{IsBody, Means, MeansBlock, MeansRecord, block_meaning, meaning_or_refusal, record_meaning, refuse}
use Rattle.command_core.specs.Records.{Record}
use Rattle.command_core.specs.Statement.{AreMembers, IsMember, IsOpen, Member, One, States, Statement}
use Rattle.command_core.specs.Words.{begins, is_end, opens_block}
use Rattle.command_core.specs.declared.refusal.Refusal.TheVariants.{Unended}
use Rattle.command_core.proofs.Members.{AreMembers-more}
use Rattle.command_core.proofs.MeaningUniqueness.{same_head}
use Rattle.command_core.proofs.StatementUniqueness.{one_statement}
use Rattle.live_core.specs.Scanning.{block_after, is_outside, next_block}
use Rattle.live_core.specs.Texts.{Opens}
use Rattle.live_core.specs.Whole.{IsUnended}
use Rattle.live_core.specs.declared.blocks.Block.{Block}
use Rattle.live_core.specs.declared.blocks.Block.TheVariants as block
use Rattle.live_core.proofs.ScanLemmas.{block_after-append}

-- `end` opens no load or check.
no-end : (line : Record) → opens_block line ≡ true → is_end line ≡ false
no-end line opens = elim (cases_Bool (is_end line)) [ inl ends ↦ absurd (none line ends opens) | inr other ↦ other ]
  where
    none : (line : Record) → is_end line ≡ true → opens_block line ≡ true → ⊥
    none [] ends opens = cc
    none (first ∷ []) ends opens =
        let word : first ≡ codes "end" = (bytes_eq-Decides first (codes "end")).0 ends in
        let opened : opens_block (codes "end" ∷ []) ≡ true = subst (λ w. opens_block (w ∷ []) ≡ true) word opens in
        cc opened
    none (first ∷ second ∷ rest) ends opens = cc ends

-- ---- records that were read

-- The record doesn't end a load or a check.
abbrev IsRow : Record → Type 0
IsRow line = is_end line ≡ false

-- The rows of a load or a check.
after-rows : (body : List Record) → IsBody body → block_after block.Rows body ≡ block.Rows
after-rows [] inside = refl
after-rows (line ∷ body) inside =
    ap (λ b. block_after b body) (ap (λ b. cond b block.Outside block.Rows) (All-head IsRow line body inside))
    ∙ after-rows body (All-tail IsRow line body inside)

after-inner : (rows : List Record) → IsBody rows → block_after block.RowsInside rows ≡ block.RowsInside
after-inner [] inside = refl
after-inner (line ∷ rows) inside =
    ap (λ b. block_after b rows) (ap (λ b. cond b block.Together block.RowsInside) (All-head IsRow line rows inside))
    ∙ after-inner rows (All-tail IsRow line rows inside)

-- A command of a block of commands.
after-member : (own : List Record) (member : Member) → IsMember own member
    → block_after block.Together own ≡ block.Together
after-member own member is = by is.means
  where
    by : MeansRecord member.number own member.alone ⊎ MeansBlock member.number own member.alone
        → block_after block.Together own ≡ block.Together
    by (inl r) =
        let same : r.opening ≡ member.opening =
        same_head r.opening member.opening [] is.behind (sym r.alone ∙ is.whole) in
        let stands : is_end r.opening ≡ false = subst (λ line. is_end line ≡ false) (sym same) is.stands in
        let first : next_block block.Together r.opening ≡ block.Together = rw (stands, r.plain) refl in
        ap (block_after block.Together) r.alone ∙ first
    by (inr b) =
        let first : next_block block.Together b.opening ≡ block.RowsInside = rw (no-end b.opening b.opens, b.opens) refl in
        let last : next_block block.RowsInside b.last ≡ block.Together = rw b.closes refl in
        ap (block_after block.Together) b.whole
        ∙ (ap (λ s. block_after s (b.body ++ b.last ∷ [])) first
        ∙ (block_after-append block.RowsInside b.body (b.last ∷ [])
        ∙ (ap (λ s. next_block s b.last) (after-inner b.body b.inside) ∙ last)))

after-members : (number : ℕ) (body : List Record) (members : List Member) → AreMembers number body members
    → block_after block.Together body ≡ block.Together
after-members number body [] none = ap (block_after block.Together) none
after-members number body (member ∷ more) (own, later, split, first, is, behind) =
    ap (block_after block.Together) split
    ∙ (block_after-append block.Together own later
    ∙ (ap (λ b. block_after b later) (after-member own member is)
    ∙ after-members (number + length own) later more behind))

-- ---- complete statements

-- A complete statement takes the same records whatever follows, and the statements after it are complete too.
pub record IsComplete (number : ℕ) (own later : List Record) (statement : Statement) : Type 0 where
  pub states : (more : List Record) → States number own (later ++ more) statement
  pub behind : block_after block.Outside later ≡ block.Outside

-- After a statement that ends at position `b`, the later records lead to a position between statements.
at-end : (own later : List Record) (b : Block) → block_after block.Outside own ≡ b
    → block_after block.Outside (own ++ later) ≡ block.Outside → block_after b later ≡ block.Outside
at-end own later b at closed =
    ap (λ s. block_after s later) (sym at) ∙ (sym (block_after-append block.Outside own later) ∙ closed)

-- A load or a check.
after-block : (opening last : Record) (body : List Record) → begins (codes "together") opening ≡ false
    → opens_block opening ≡ true → IsBody body → is_end last ≡ true
    → block_after block.Outside (opening ∷ (body ++ last ∷ [])) ≡ block.Outside
after-block opening last body plain opens inside closes =
    let first : next_block block.Outside opening ≡ block.Rows = rw (plain, opens) refl in
    let end : next_block block.Rows last ≡ block.Outside = rw closes refl in
    ap (λ s. block_after s (body ++ last ∷ [])) first
    ∙ (block_after-append block.Rows body (last ∷ []) ∙ (ap (λ s. next_block s last) (after-rows body inside) ∙ end))

-- A load or a check without its `end`.
after-opening : (opening : Record) (body : List Record) → begins (codes "together") opening ≡ false
    → opens_block opening ≡ true → IsBody body → block_after block.Outside (opening ∷ body) ≡ block.Rows
after-opening opening body plain opens inside =
    let first : next_block block.Outside opening ≡ block.Rows = rw (plain, opens) refl in
    ap (λ s. block_after s body) first ∙ after-rows body inside

-- A block of commands, up to one of its commands.
after-together : (number : ℕ) (opening : Record) (body rest : List Record) (members : List Member)
    → begins (codes "together") opening ≡ true → AreMembers number body members
    → block_after block.Outside (opening ∷ (body ++ rest)) ≡ block_after block.Together rest
after-together number opening body rest members opens inside =
    let first : next_block block.Outside opening ≡ block.Together = rw opens refl in
    ap (λ s. block_after s (body ++ rest)) first
    ∙ (block_after-append block.Together body rest
    ∙ ap (λ s. block_after s rest) (after-members number body members inside))

-- The records after the last whole command of an unended block.
after-open : (rest : List Record) → IsOpen rest → block_after block.Together rest ≡ block.Outside → ⊥
after-open [] unclosed e = cc e
after-open (inner ∷ rows) unclosed e =
    let first : next_block block.Together inner ≡ block.RowsInside =
    rw (no-end inner unclosed.0, unclosed.0) refl in
    let at : block_after block.Together (inner ∷ rows) ≡ block.RowsInside =
    ap (λ s. block_after s rows) first ∙ after-inner rows unclosed.1 in
    cc (sym at ∙ e)

pub complete : (number : ℕ) (own later : List Record) (statement : Statement) → States number own later statement
    → block_after block.Outside (own ++ later) ≡ block.Outside → IsComplete number own later statement
complete number own later statement (inl o) closed = by o.means
  where
    states : (more : List Record) → Means number own (later ++ more) o.meaning
        → States number own (later ++ more) statement
    states more means = inl (record {
      opening = o.opening;
      behind = o.behind;
      whole = o.whole;
      plain = o.plain;
      meaning = o.meaning;
      means = means;
      states = o.states;
    })

    plain : (opening : Record) (behind : List Record) → own ≡ opening ∷ behind
        → begins (codes "together") opening ≡ false
    plain opening behind whole =
        subst (λ line. begins (codes "together") line ≡ false)
        (same_head o.opening opening o.behind behind (sym o.whole ∙ whole)) o.plain

    by : Means number own later o.meaning → IsComplete number own later statement
    by (inl r) =
        let first : next_block block.Outside r.opening ≡ block.Outside =
        rw (plain r.opening [] r.alone, r.plain) refl in
        record {
          states = λ more. states more (inl r);
          behind = at-end own later block.Outside (ap (block_after block.Outside) r.alone ∙ first) closed;
        }
    by (inr (inl b)) = record {
      states = λ more. states more (inr (inl b));
      behind = at-end own later block.Outside (ap (block_after block.Outside) b.whole
          ∙ after-block b.opening b.last b.body (plain b.opening (b.body ++ b.last ∷ []) b.whole) b.opens b.inside
          b.closes) closed;
    }
    by (inr (inr u)) =
        let at : block_after block.Outside own ≡ block.Rows =
        ap (block_after block.Outside) u.whole
        ∙ after-opening u.opening u.body (plain u.opening u.body u.whole) u.opens u.inside in
        let end : block_after block.Rows later ≡ block.Outside = at-end own later block.Rows at closed in
        absurd (cc (sym (ap (block_after block.Rows) u.last) ∙ end))
complete number own later statement (inr (inl t)) closed =
    let last : next_block block.Together t.last ≡ block.Outside = rw t.closes refl in
    record {
      states = λ more. inr (inl t);
      behind = at-end own later block.Outside (ap (block_after block.Outside) t.whole
          ∙ (after-together (number + 1) t.opening t.body (t.last ∷ []) t.members t.opens t.inside ∙ last)) closed;
    }
complete number own later statement (inr (inr u)) closed =
    let at : block_after block.Outside own ≡ block_after block.Together u.rest =
    ap (block_after block.Outside) u.whole
    ∙ after-together (number + 1) u.opening u.body u.rest u.members u.opens u.inside in
    let all : own ++ later ≡ own = ap (λ l. own ++ l) u.last ∙ append-nil own in
    absurd (after-open u.rest u.unclosed (sym at ∙ (sym (ap (block_after block.Outside) all) ∙ closed)))

-- ---- open statements

-- Members, and one more after them.
pub members-more : (number : ℕ) (body own : List Record) (member : Member)
    → ((members : List Member) × AreMembers number body members) → member.number ≡ number + length body
    → IsMember own member → (more : List Member) × AreMembers number (body ++ own) more
members-more number body own member (front, are) first is =
    (front ++ member ∷ [], AreMembers-more number body own front member are first is)

-- A command of one record, with this number.
abbrev single : ℕ → Record → Member
single number line =
    record { number = number; opening = line; alone = meaning_or_refusal number (record_meaning line) }

pub single-is : (number : ℕ) (line : Record) → is_end line ≡ false → opens_block line ≡ false
    → IsMember (line ∷ []) (single number line)
single-is number line stands plain = record {
  behind = [];
  whole = refl;
  stands = stands;
  means = inl (record { opening = line; alone = refl; plain = plain; means = refl });
}

-- One more record that doesn't end the statement.
pub opens-more : (b : Block) (lines : List Record) (line : Record) → Opens b lines
    → is_outside (next_block b line) ≡ false → Opens (next_block b line) (lines ++ line ∷ [])
opens-more block.Outside lines line none inside = elim (cases_Bool (begins (codes "together") line)) [
  | inl opens ↦ rw (none, opens) (line, [], refl, opens, λ number. ([], refl))
  | inr plain ↦ elim (cases_Bool (opens_block line)) [
    | inl opens ↦ rw (none, plain, opens) (line, [], refl, opens, All-nil IsRow)
    | inr other ↦ absurd (cc (rw (plain, other) at inside))
  ]
]
opens-more block.Rows lines line (opening, body, is, opens, rows) inside = elim (cases_Bool (is_end line)) [
  | inl ends ↦ absurd (cc (rw ends at inside))
  | inr row ↦
      rw row
      (opening, body ++ line ∷ [], ap (λ l. l ++ line ∷ []) is, opens, All-push IsRow body line rows row)
]
opens-more block.Together lines line (opening, body, is, opens, members) inside = elim (cases_Bool (is_end line)) [
  | inl ends ↦ absurd (cc (rw ends at inside))
  | inr stands ↦ elim (cases_Bool (opens_block line)) [
    | inl starts ↦
        rw (stands, starts)
        (opening, body, line, [], ap (λ l. l ++ line ∷ []) is, opens, members, stands, starts, All-nil IsRow)
    | inr plain ↦
        rw (stands, plain) (
          opening,
          body ++ line ∷ [],
          ap (λ l. l ++ line ∷ []) is,
          opens,
          λ number. members-more number body (line ∷ []) (single (number + length body) line) (members number) refl
              (single-is (number + length body) line stands plain),
        )
  ]
]
opens-more block.RowsInside lines line (opening, body, inner, rows, is, opens, members, stands, starts, all) inside =
    elim (cases_Bool (is_end line)) [
      | inl ends ↦
          rw ends (
            opening,
            body ++ (inner ∷ (rows ++ line ∷ [])),
            ap (λ l. l ++ line ∷ []) is ∙ ap (λ l. opening ∷ l) (append_assoc body (inner ∷ rows) (line ∷ [])),
            opens,
            λ number. by number ends (members number),
          )
      | inr row ↦
          rw row (
            opening,
            body,
            inner,
            rows ++ line ∷ [],
            ap (λ l. l ++ line ∷ []) is ∙ ap (λ l. opening ∷ l) (append_assoc body (inner ∷ rows) (line ∷ [])),
            opens,
            members,
            stands,
            starts,
            All-push IsRow rows line all row,
          )
    ]
  where
    by : (number : ℕ) → is_end line ≡ true → (front : List Member) × AreMembers number body front
        → (more : List Member) × AreMembers number (body ++ (inner ∷ (rows ++ line ∷ []))) more
    by number ends members =
        let at = number + length body in
        let member : Member =
        record { number = at; opening = inner; alone = meaning_or_refusal at (block_meaning inner rows) } in
        members-more number body (inner ∷ (rows ++ line ∷ [])) member members refl
        (record {
          behind = rows ++ line ∷ [];
          whole = refl;
          stands = stands;
          means = inr (record {
            opening = inner;
            body = rows;
            last = line;
            whole = refl;
            opens = starts;
            inside = all;
            closes = ends;
            means = refl;
          });
        })

-- ---- the records that are left

-- A load or a check isn't a block of commands.
no-together : (line : Record) → opens_block line ≡ true → begins (codes "together") line ≡ false
no-together line opens = elim (cases_Bool (begins (codes "together") line)) [
  | inl other ↦ absurd (none line other opens)
  | inr plain ↦ plain
]
  where
    none : (line : Record) → begins (codes "together") line ≡ true → opens_block line ≡ true → ⊥
    none [] other opens = cc other
    none (first ∷ rest) other opens =
        let word : first ≡ codes "together" = (bytes_eq-Decides first (codes "together")).0 other in
        let opened : opens_block (codes "together" ∷ rest) ≡ true =
        subst (λ w. opens_block (w ∷ rest) ≡ true) word opens in
        cc opened

-- An unfinished statement is a block without its `end`.
pub opens-unended : (number : ℕ) (b : Block) (lines : List Record) → Opens b lines
    → (lines ≡ []) ⊎ IsUnended number lines
opens-unended number block.Outside lines none = inl none
opens-unended number block.Rows lines (opening, body, is, opens, rows) =
    inr (inl (
      refuse number Unended,
      record {
        opening = opening;
        body = body;
        whole = is;
        opens = opens;
        inside = rows;
        last = refl;
        means = refl;
      },
    ))
opens-unended number block.Together lines (opening, body, is, opens, members) =
    inr (inr (
      One (refuse number Unended),
      record {
        opening = opening;
        body = body;
        rest = [];
        members = (members (number + 1)).0;
        whole = is ∙ ap (λ l. opening ∷ l) (sym (append-nil body));
        opens = opens;
        inside = (members (number + 1)).1;
        unclosed = tt;
        last = refl;
        states = refl;
      },
    ))
opens-unended number block.RowsInside lines (opening, body, inner, rows, is, opens, members, stands, starts, all) =
    inr (inr (
      One (refuse number Unended),
      record {
        opening = opening;
        body = body;
        rest = inner ∷ rows;
        members = (members (number + 1)).0;
        whole = is;
        opens = opens;
        inside = (members (number + 1)).1;
        unclosed = (starts, all);
        last = refl;
        states = refl;
      },
    ))

-- The same block with one more record, which is empty and ends nothing.
unended-more : (number : ℕ) (lines : List Record) → IsUnended number lines
    → (statement : Statement) × States number (lines ++ [] ∷ []) [] statement
unended-more number lines (inl (meaning, u)) = (
  One (refuse number Unended),
  inl (record {
    opening = u.opening;
    behind = u.body ++ [] ∷ [];
    whole = ap (λ l. l ++ [] ∷ []) u.whole;
    plain = no-together u.opening u.opens;
    meaning = refuse number Unended;
    means = inr (inr (record {
      opening = u.opening;
      body = u.body ++ [] ∷ [];
      whole = ap (λ l. l ++ [] ∷ []) u.whole;
      opens = u.opens;
      inside = All-push IsRow u.body [] u.inside refl;
      last = refl;
      means = refl;
    }));
    states = refl;
  }),
)
unended-more number lines (inr (statement, u)) = by u.rest refl u.unclosed
  where
    by : (rest : List Record) → u.rest ≡ rest → IsOpen rest
        → (statement : Statement) × States number (lines ++ [] ∷ []) [] statement
    by [] none unclosed =
        let more = members-more (number + 1) u.body ([] ∷ []) (single (number + 1 + length u.body) [])
        (u.members, u.inside) refl (single-is (number + 1 + length u.body) [] refl refl) in (
          One (refuse number Unended),
          inr (inr (record {
            opening = u.opening;
            body = u.body ++ [] ∷ [];
            rest = [];
            members = more.0;
            whole = ap (λ l. l ++ [] ∷ []) (u.whole ∙ ap (λ l. u.opening ∷ l) (ap (λ l. u.body ++ l) none ∙ append-nil u.body))
                ∙ ap (λ l. u.opening ∷ l) (sym (append-nil (u.body ++ [] ∷ [])));
            opens = u.opens;
            inside = more.1;
            unclosed = tt;
            last = refl;
            states = refl;
          })),
        )
    by (inner ∷ rows) is unclosed = (
      One (refuse number Unended),
      inr (inr (record {
        opening = u.opening;
        body = u.body;
        rest = inner ∷ (rows ++ [] ∷ []);
        members = u.members;
        whole = ap (λ l. l ++ [] ∷ []) (u.whole ∙ ap (λ l. u.opening ∷ (u.body ++ l)) is)
            ∙ ap (λ l. u.opening ∷ l) (append_assoc u.body (inner ∷ rows) ([] ∷ []));
        opens = u.opens;
        inside = u.inside;
        unclosed = (unclosed.0, All-push IsRow rows [] unclosed.1 refl);
        last = refl;
        states = refl;
      })),
    )

-- A statement that begins with an unended block takes all records.
pub unended-takes : (number : ℕ) (lines own later : List Record) (statement : Statement) → IsUnended number lines
    → own ++ later ≡ lines ++ [] ∷ [] → States number own later statement → later ≡ []
unended-takes number lines own later statement unended split states =
    let (other, all) = unended-more number lines unended in
    (one_statement number own later (lines ++ [] ∷ []) [] statement other
    (split ∙ sym (append-nil (lines ++ [] ∷ []))) states all).1
