-- Non-empty records have a first command.
use Rattle.std.proofs.Common.{◌≡◌, ◌⊎◌, ℕ, ◌<◌, List, [], ◌∷◌, ◌++◌, false, true, length, arith, ap, sym, ◌∙◌, refl, inl, inr, append_assoc}
use Rattle.std.proofs.lemmas.Bool.{cases_Bool}
use Rattle.std.proofs.lemmas.List.{append-nil}
use Rattle.std.proofs.lemmas.List.Elements.{All-cons, All-nil}
use Rattle.command_core.specs.Meaning.{IsBody, Meaning, Means, block_meaning, record_meaning, refuse, meaning_or_refusal}
use Rattle.command_core.specs.Records.{Record}
use Rattle.command_core.specs.Words.{is_end, opens_block}
use Rattle.command_core.specs.declared.refusal.Refusal.TheVariants.{Unended}

-- The first command of some records: its records and its meaning. `number` is the number of the first record.
pub record FirstCommand (number : ℕ) (records : List Record) : Type 0 where
  pub own : List Record
  pub later : List Record
  pub meaning : Meaning
  pub taken : records ≡ own ++ later
  pub means : Means number own later meaning

-- The records are split at their first `end`.
record Ended (records : List Record) : Type 0 where
  body : List Record
  last : Record
  later : List Record
  split : records ≡ body ++ last ∷ later
  inside : IsBody body
  closes : is_end last ≡ true

ended_or_not : (records : List Record) → Ended records ⊎ IsBody records
ended_or_not [] = inr (All-nil (λ line. is_end line ≡ false))
ended_or_not (x ∷ xs) = elim (cases_Bool (is_end x)) [
  | inl ends ↦
      inl (record {
        body = [];
        last = x;
        later = xs;
        split = refl;
        inside = All-nil
            (λ line. is_end line ≡ false);
        closes = ends;
      })
  | inr inner ↦ elim (ended_or_not xs) [
    | inl found ↦ inl (record {
      body = x ∷ found.body;
      last = found.last;
      later = found.later;
      split = ap (λ l. x ∷ l) found.split;
      inside = All-cons (λ line. is_end line ≡ false) x found.body inner found.inside;
      closes = found.closes;
    })
    | inr none ↦ inr (All-cons (λ line. is_end line ≡ false) x xs inner none)
  ]
]

pub some_meaning : (number : ℕ) (records : List Record) → 0 < length records → FirstCommand number records
some_meaning number [] some = absurd (omega arith)
some_meaning number (opening ∷ rest) some = elim (cases_Bool (opens_block opening)) [
  | inl opens ↦ elim (ended_or_not rest) [
    | inl found ↦ record {
      own = opening ∷ (found.body ++ found.last ∷ []);
      later = found.later;
      meaning = meaning_or_refusal number (block_meaning opening found.body);
      taken = ap (λ l. opening ∷ l) (found.split ∙ sym (append_assoc found.body (found.last ∷ []) found.later));
      means = inr
          (inl (record {
            opening = opening;
            body = found.body;
            last = found.last;
            whole = refl;
            opens = opens;
            inside = found.inside;
            closes = found.closes;
            means = refl;
          }));
    }
    | inr none ↦ record {
      own = opening ∷ rest;
      later = [];
      meaning = refuse number Unended;
      taken = sym (append-nil (opening ∷ rest));
      means = inr
          (inr (record {
            opening = opening;
            body = rest;
            whole = refl;
            opens = opens;
            inside = none;
            last = refl;
            means = refl;
          }));
    }
  ]
  | inr plain ↦ record {
    own = opening ∷ [];
    later = rest;
    meaning = meaning_or_refusal number (record_meaning opening);
    taken = refl;
    means = inl (record { opening = opening; alone = refl; plain = plain; means = refl });
  }
]
