-- What a command of a block of commands means, by its first record.
use Rattle.std.proofs.Common.{◌≡◌, ℕ, List, [], ◌∷◌, ◌++◌, Bool, true, false, Option, Some, None, Result, Ok, Err, refl, sym, subst, inl, inr}
use Rattle.std.specs.Bool.{⊤}
use Rattle.std.specs.Prelude.{◌&&◌, ◌||◌, not, codes, if◌then◌else◌}
use Rattle.row_core.specs.Refusals.{map_ok}
use Rattle.command_core.specs.Aggregates.{aggregated}
use Rattle.command_core.specs.Fields.{claimed, compared, dated, named, spanned, with_asof}
use Rattle.command_core.specs.Meaning.{Meaning, Means, block_meaning, check_meaning, load_meaning, meaning_or_refusal, verb_meaning}
use Rattle.command_core.specs.Records.{Record}
use Rattle.command_core.specs.Statement.{is_allowed, is_barred}
use Rattle.command_core.specs.Words.{begins, verb_of}
use Rattle.command_core.specs.declared.refusal.Refusal.{Refusal}
use Rattle.command_core.specs.declared.words.Verb.{Verb}
use Rattle.command_core.specs.declared.words.Verb.TheVariants as verb
use Rattle.command_core.proofs.Members.{first_own}

-- ---- what isn't barred

-- The record begins with no word of a change of one record, of the log, or of a block of commands.
pub record IsFree (line : Record) : Type 0 where
  pub table : begins (codes "table") line ≡ false
  pub update : begins (codes "update") line ≡ false
  pub delete : begins (codes "delete") line ≡ false
  pub log : begins (codes "log") line ≡ false
  pub together : begins (codes "together") line ≡ false

-- None of several tests holds.
none_holds : (a b c d e f : Bool) → (a || b || c || d || e || f) ≡ false
    → (a ≡ false) × (b ≡ false) × (c ≡ false) × (d ≡ false) × (e ≡ false) × (f ≡ false)
none_holds true b c d e f h = absurd (cc h)
none_holds false true c d e f h = absurd (cc h)
none_holds false false true d e f h = absurd (cc h)
none_holds false false false true e f h = absurd (cc h)
none_holds false false false false true f h = absurd (cc h)
none_holds false false false false false f h = (refl, refl, refl, refl, refl, h)

module _ (has_load : Bool) (line : Record) (e : is_barred has_load line ≡ false) where
  parts : (begins (codes "table") line ≡ false) × (begins (codes "update") line ≡ false)
      × (begins (codes "delete") line ≡ false) × (begins (codes "log") line ≡ false)
      × (begins (codes "together") line ≡ false) × ((has_load && begins (codes "load") line) ≡ false)
  parts =
      none_holds (begins (codes "table") line) (begins (codes "update") line) (begins (codes "delete") line)
      (begins (codes "log") line) (begins (codes "together") line) (has_load && begins (codes "load") line) e

  pub free_of : IsFree line
  free_of =
      record { table = parts.0; update = parts.1; delete = parts.2; log = parts.3; together = parts.4 }

  -- If a load comes before it, the record doesn't begin with `load`.
  pub load-free : (has_load && begins (codes "load") line) ≡ false
  load-free = parts.5

  -- A record that is allowed after a load is allowed before one.
  pub free_before : is_barred false line ≡ false
  free_before = rw (parts.0, parts.1, parts.2, parts.3, parts.4) refl

-- ---- its possible meanings

-- The word of a query, or no word.
abbrev AsksOnly : Option Verb → Type 0
AsksOnly None = ⊤
AsksOnly (Some verb.Table) = ⊥
AsksOnly (Some verb.Update) = ⊥
AsksOnly (Some verb.Delete) = ⊥
AsksOnly (Some verb.Log) = ⊥
AsksOnly (Some verb.Rows) = ⊤
AsksOnly (Some verb.At) = ⊤
AsksOnly (Some verb.Between) = ⊤
AsksOnly (Some verb.FromTo) = ⊤
AsksOnly (Some verb.Dip) = ⊤
AsksOnly (Some verb.Join) = ⊤
AsksOnly (Some verb.Anti) = ⊤
AsksOnly (Some verb.Agg) = ⊤

either : (b : Bool) (x y : Option Verb) → AsksOnly x → AsksOnly y → AsksOnly (if b then x else y)
either true x y p q = p
either false x y p q = q

passed : (b : Bool) (x y : Option Verb) → b ≡ false → AsksOnly y → AsksOnly (if b then x else y)
passed true x y e q = absurd (cc e)
passed false x y e q = q

asks_only : (line : Record) → IsFree line → AsksOnly (verb_of line)
asks_only line free =
    let from_log : Option Verb = if begins (codes "log") line then Some verb.Log else None in
    let from_agg : Option Verb = if begins (codes "agg") line then Some verb.Agg else from_log in
    let from_anti : Option Verb = if begins (codes "anti") line then Some verb.Anti else from_agg in
    let from_join : Option Verb = if begins (codes "join") line then Some verb.Join else from_anti in
    let from_dip : Option Verb = if begins (codes "dip") line then Some verb.Dip else from_join in
    let from_fromto : Option Verb = if begins (codes "fromto") line then Some verb.FromTo else from_dip in
    let from_between : Option Verb = if begins (codes "between") line then Some verb.Between else from_fromto in
    let from_at : Option Verb = if begins (codes "at") line then Some verb.At else from_between in
    let from_rows : Option Verb = if begins (codes "rows") line then Some verb.Rows else from_at in
    let from_delete : Option Verb = if begins (codes "delete") line then Some verb.Delete else from_rows in
    let from_update : Option Verb = if begins (codes "update") line then Some verb.Update else from_delete in
    passed (begins (codes "table") line) (Some verb.Table) from_update free.table
    (passed (begins (codes "update") line) (Some verb.Update) from_delete free.update
    (passed (begins (codes "delete") line) (Some verb.Delete) from_rows free.delete
    (either (begins (codes "rows") line) (Some verb.Rows) from_at tt
    (either (begins (codes "at") line) (Some verb.At) from_between tt
    (either (begins (codes "between") line) (Some verb.Between) from_fromto tt
    (either (begins (codes "fromto") line) (Some verb.FromTo) from_dip tt
    (either (begins (codes "dip") line) (Some verb.Dip) from_join tt
    (either (begins (codes "join") line) (Some verb.Join) from_anti tt
    (either (begins (codes "anti") line) (Some verb.Anti) from_agg tt
    (either (begins (codes "agg") line) (Some verb.Agg) from_log tt
    (passed (begins (codes "log") line) (Some verb.Log) None free.log tt)))))))))))

made : {T : Type 0} (has_load : Bool) (number : ℕ) (f : T → Meaning) (r : Result T Refusal)
    → ((x : T) → is_allowed has_load (f x) ≡ true) → is_allowed has_load (meaning_or_refusal number (map_ok f r)) ≡ true
made has_load number f (Ok x) h = h x
made has_load number f (Err e) h = refl

record-allowed : (has_load : Bool) (number : ℕ) (line : Record) (v : Option Verb) → AsksOnly v
    → is_allowed has_load (meaning_or_refusal number (verb_meaning line v)) ≡ true
record-allowed has_load number line None asks = refl
record-allowed has_load number line (Some verb.Table) asks = absurd asks
record-allowed has_load number line (Some verb.Update) asks = absurd asks
record-allowed has_load number line (Some verb.Delete) asks = absurd asks
record-allowed has_load number line (Some verb.Log) asks = absurd asks
record-allowed has_load number line (Some verb.Rows) asks =
    made has_load number _ (with_asof named line) (λ r. refl)
record-allowed has_load number line (Some verb.At) asks =
    made has_load number _ (with_asof dated line) (λ r. refl)
record-allowed has_load number line (Some verb.Between) asks =
    made has_load number _ (spanned line) (λ r. refl)
record-allowed has_load number line (Some verb.FromTo) asks =
    made has_load number _ (spanned line) (λ r. refl)
record-allowed has_load number line (Some verb.Dip) asks =
    made has_load number _ (with_asof named line) (λ r. refl)
record-allowed has_load number line (Some verb.Join) asks =
    made has_load number _ (with_asof compared line) (λ r. refl)
record-allowed has_load number line (Some verb.Anti) asks =
    made has_load number _ (with_asof compared line) (λ r. refl)
record-allowed has_load number line (Some verb.Agg) asks =
    made has_load number _ (with_asof aggregated line) (λ r. refl)

block-allowed : (has_load : Bool) (number : ℕ) (opening : Record) (body : List Record)
    → (has_load && begins (codes "load") opening) ≡ false
    → is_allowed has_load (meaning_or_refusal number (block_meaning opening body)) ≡ true
block-allowed has_load number opening body free = by (begins (codes "load") opening) free
  where
    by : (b : Bool) → (has_load && b) ≡ false
        → is_allowed has_load (meaning_or_refusal number (if b then load_meaning opening body else check_meaning opening body))
        ≡ true
    by true e = made has_load number _ (named opening) (λ name. none has_load e)
      where
        none : (b : Bool) → (b && true) ≡ false → not b ≡ true
        none true f = absurd (cc f)
        none false f = refl
    by false e = made has_load number _ (with_asof claimed opening) (λ r. refl)

-- A command that isn't barred is allowed there, or refused.
pub means-allowed : (has_load : Bool) (number : ℕ) (x : Record) (xs own later : List Record) (meaning : Meaning)
    → x ∷ xs ≡ own ++ later → is_barred has_load x ≡ false → Means number own later meaning
    → is_allowed has_load meaning ≡ true
means-allowed has_load number x xs own later meaning taken free (inl r) =
    let same = first_own x xs own later (record { opening = r.opening; behind = []; whole = r.alone }) taken in
    let opening = free_of has_load r.opening (subst (λ line. is_barred has_load line ≡ false) same free) in
    subst (λ m. is_allowed has_load m ≡ true) (sym r.means)
    (record-allowed has_load number r.opening (verb_of r.opening) (asks_only r.opening opening))
means-allowed has_load number x xs own later meaning taken free (inr (inl b)) =
    let same = first_own x xs own later
    (record { opening = b.opening; behind = b.body ++ b.last ∷ []; whole = b.whole }) taken in
    subst (λ m. is_allowed has_load m ≡ true) (sym b.means)
    (block-allowed has_load number b.opening b.body
    (load-free has_load b.opening (subst (λ line. is_barred has_load line ≡ false) same free)))
means-allowed has_load number x xs own later meaning taken free (inr (inr u)) =
    subst (λ m. is_allowed has_load m ≡ true) (sym u.means) refl
