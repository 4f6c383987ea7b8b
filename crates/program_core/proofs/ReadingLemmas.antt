-- The result of parsing the program's words.
use Rattle.std.proofs.Common.{Bool, drop, cond, ◌≡◌, ◌<◌, ◌==◌, ◌^◌, ℕ, [], ◌∷◌, true, false, refl, arith, rules, ap, ◌∙◌, subst, List, Result, Ok, Err, Some, IfOk, ◌⊎◌, codes, inl, inr, sym}
use Rattle.std.specs.Fmt.{decimal}
use Rattle.std.specs.Str.Parse.{AllDigits, IsNumeral, digits_value, without_leading_plus}
use Rattle.std.specs.Char.{digit_value}
use Rattle.std.proofs.lemmas.Bool.{ne_eqb}
use Rattle.std.proofs.lemmas.Fmt.{decimal_is_IsNumeral}
use Rattle.std.proofs.lemmas.Option.{same_Some}
use Rattle.clap.specs.Words.{App, FailsBy, HasMatchesOf, IsAmong, Kinds, Text, fault_of, first_of, first_value, found_of, is_simple, is_simple_and_free, kind_of, takes}
use Rattle.clap.specs.declared.error.Error.{Error}
use Rattle.clap.specs.declared.error.kind.ErrorKind.{ErrorKind}
use Rattle.clap.specs.declared.parser.matches.ArgMatches.{ArgMatches}
use Rattle.clap.proofs.WalkLemmas.{first_value-rows}
use Rattle.clap.specs.Simple.{matches_of}
use Rattle.clap.specs.declared.error.kind.ErrorKind.TheVariants as kind
use Rattle.clap.proofs.OnLiterals.{clap_on_literals}
use Rattle.program_core.specs.Words.{AsksFor, IsNamedBy, IsPlainWord, IsWorkers, NamesWorkers, program_app}
use Rattle.program_core.specs.declared.words.Words.{Words}
use Rattle.program_core.specs.declared.words.Words.TheVariants.{Run, Help}
use Rattle.program_core.specs.declared.refused.WordsRefused.{WordsRefused}

-- The clauses of `clap` that are exact apply to the program's command line.
program-simple : is_simple program_app ≡ true
program-simple = refl

program-free : is_simple_and_free program_app ≡ true
program-free = refl

-- The program's name without further words is accepted, with the default.
pub alone-value : (name : Text) → first_of (codes "workers") (matches_of program_app (name ∷ [])) ≡ Some (codes "4")
unfolding clap_on_literals
alone-value name = refl

pub alone-taken : (name : Text) → takes program_app (name ∷ []) ≡ true
unfolding clap_on_literals
alone-taken name = refl

-- `--workers` and this text are accepted, and the text is the value.
abbrev pub IsMet : Text → Text → Type 0
IsMet name text =
    (first_of (codes "workers") (matches_of program_app (name ∷ codes "--workers" ∷ text ∷ [])) ≡ Some text)
    × (takes program_app (name ∷ codes "--workers" ∷ text ∷ []) ≡ true)

-- A word that doesn't begin with a hyphen is the option's value. Its first byte is compared at two depths.
pub plain-met : (name text : Text) → IsPlainWord text → IsMet name text
unfolding clap_on_literals
plain-met name [] plain = (refl, refl)
plain-met name (c ∷ rest) plain =
    let other : (c == 45) ≡ false = ne_eqb c 45 plain in
    rw other (rw other (refl {a = Some (c ∷ rest)}, refl {a = true}))

-- A word that doesn't begin with a hyphen is unknown.
pub plain-unknown : (name word : Text) → IsPlainWord word
    → fault_of program_app (name ∷ word ∷ []) ≡ kind.UnknownArgument ∷ []
unfolding clap_on_literals
plain-unknown name [] plain = refl
plain-unknown name (c ∷ rest) plain =
    let other : (c == 45) ≡ false = ne_eqb c 45 plain in
    rw other (rw other (refl {a = kind.UnknownArgument ∷ []}))

-- A request for help is reported as a fault.
pub help-asked : (name : Text) → fault_of program_app (name ∷ codes "--help" ∷ []) ≡ kind.DisplayHelp ∷ []
unfolding clap_on_literals
help-asked name = refl

-- Digits don't begin with a hyphen.
digits-IsPlainWord : (text : Text) → AllDigits 10 text → IsPlainWord text
digits-IsPlainWord [] digits = search rules
digits-IsPlainWord (c ∷ rest) digits = λ is.
    let digit : digit_value 45 < 10 = subst (λ (x : ℕ). digit_value x < 10) is digits.0 in
    absurd (omega arith)

pub decimal-IsPlainWord : (n : ℕ) → n < 2 ^ 64 → IsPlainWord (decimal n)
decimal-IsPlainWord n small = digits-IsPlainWord (decimal n) (decimal_is_IsNumeral n small).0.1

-- Decimal digits have no plus before them.
digits-without_leading_plus : (text : Text) → AllDigits 10 text → without_leading_plus text ≡ text
digits-without_leading_plus [] digits = refl
digits-without_leading_plus (c ∷ rest) digits =
    let other : (c == 43) ≡ false = ne_eqb c 43 (λ is.
    let digit : digit_value 43 < 10 = subst (λ (x : ℕ). digit_value x < 10) is digits.0 in
    omega arith) in
    ap (λ (b : Bool). drop (cond b 1 0) (c ∷ rest)) other

pub decimal-NamesWorkers : (n : ℕ) → IsWorkers n → NamesWorkers (decimal n) n
decimal-NamesWorkers n workers =
    let (numeral, value) = decimal_is_IsNumeral n (omega arith) in
    subst (λ (ds : Text). IsNumeral 10 ds × (digits_value 10 ds ≡ n) × IsWorkers n)
    (sym (digits-without_leading_plus (decimal n) numeral.1)) (numeral, value, workers)

-- The first value of the option is the one that `clap` defines for the program's command line and these words.
pub value-matches : (m : ArgMatches) (a : App) (words : List Text) → a ≡ program_app → HasMatchesOf a words m
    → first_value (found_of m) (codes "workers") ≡ first_of (codes "workers") (matches_of program_app words)
value-matches m a words app matches =
    let simple : is_simple a ≡ true = ap is_simple app ∙ program-simple in
    first_value-rows (found_of m) (codes "workers")
    ∙ ap (first_of (codes "workers")) ((matches simple).0 ∙ ap (λ (b : App). matches_of b words) app)

pub known_value : (m : ArgMatches) (a : App) (words seen : List Text) (text : Text) → a ≡ program_app → words ≡ seen
    → HasMatchesOf a words m → first_of (codes "workers") (matches_of program_app seen) ≡ Some text
    → first_value (found_of m) (codes "workers") ≡ Some text
known_value m a words seen text app is matches value =
    value-matches m a words app matches
    ∙ ap (λ (ws : List Text). first_of (codes "workers") (matches_of program_app ws)) is ∙ value

-- A parse fails by the faults of the program's command line for these words.
pub faults : {T : Type 0} (r : Result T Error) (a : App) (words : List Text) → a ≡ program_app
    → (is_simple_and_free a ≡ true → FailsBy (fault_of a words) r) → FailsBy (fault_of program_app words) r
faults r a words app kinds =
    subst (λ (b : App). FailsBy (fault_of b words) r) app (kinds (ap is_simple_and_free app ∙ program-free))

pub known_faults : {T : Type 0} (r : Result T Error) (a : App) (words seen : List Text) (k : ErrorKind)
    → a ≡ program_app → words ≡ seen → fault_of program_app seen ≡ k ∷ []
    → (is_simple_and_free a ≡ true → FailsBy (fault_of a words) r) → FailsBy (k ∷ []) r
known_faults r a words seen k app is fault kinds =
    subst (λ ks. FailsBy ks r) (ap (fault_of program_app) is ∙ fault) (faults r a words app kinds)

-- An error means that memory was refused, or is one of the faults.
pub error-kinds : {T : Type 0} (r : Result T Error) (e : Error) (ks : Kinds) → r ≡ Err e → FailsBy ks r
    → (kind_of e ≡ kind.OutOfMemory) ⊎ IsAmong (kind_of e) ks
error-kinds {T} r e ks is fails = subst (λ (r : Result T Error). FailsBy ks r) is fails

pub error-kind : {T : Type 0} (r : Result T Error) (e : Error) (k : ErrorKind) → r ≡ Err e → FailsBy (k ∷ []) r
    → (kind_of e ≡ kind.OutOfMemory) ⊎ (kind_of e ≡ k)
error-kind {T} r e k is fails = elim (error-kinds r e (k ∷ []) is fails) [
  | inl memory ↦ inl memory
  | inr among ↦ elim among [ inl same ↦ inr same | inr none ↦ absurd none ]
]

-- Without a fault, an error means that memory was refused.
pub no_faults-error : {T : Type 0} (r : Result T Error) (e : Error) (ks : Kinds) → r ≡ Err e → FailsBy ks r → ks ≡ []
    → kind_of e ≡ kind.OutOfMemory
no_faults-error r e ks is fails none = elim (error-kinds r e ks is fails) [
  | inl memory ↦ memory
  | inr some ↦
      let never : IsAmong (kind_of e) [] = subst (λ (ks : Kinds). IsAmong (kind_of e) ks) none some in
      absurd never
]

-- A parse succeeds only without faults.
pub no_faults : {T : Type 0} (r : Result T Error) (m : T) (ks : Kinds) → r ≡ Ok m → FailsBy ks r → ks ≡ []
no_faults {T} r m ks is fails = subst (λ (r : Result T Error). FailsBy ks r) is fails

pub no_parse : {T : Type 0} (r : Result T Error) (m : T) (k : ErrorKind) → r ≡ Ok m → FailsBy (k ∷ []) r → ⊥
no_parse r m k is fails = let none : k ∷ [] ≡ [] = no_faults r m (k ∷ []) is fails in cc

-- The words ask for the result that they get.
pub help-AsksFor : (result : Result Words WordsRefused) (words : List Text) (k : ErrorKind)
    → IfOk result (λ w. (w ≡ Help) × (k ≡ kind.DisplayHelp))
    → (k ≡ kind.OutOfMemory) ⊎ IsAmong k (fault_of program_app words) → IfOk result (AsksFor words)
help-AsksFor (Ok w) words k only among = subst (AsksFor words) (sym only.0) (elim among [
  | inl memory ↦ absurd (cc)
  | inr some ↦ subst (λ (k : ErrorKind). IsAmong k (fault_of program_app words)) only.1 some
])
help-AsksFor (Err e) words k only among = search rules

pub run-AsksFor : (result : Result Words WordsRefused) (words : List Text) (text : Text)
    → fault_of program_app words ≡ [] → first_of (codes "workers") (matches_of program_app words) ≡ Some text
    → IfOk result (IsNamedBy text) → IfOk result (AsksFor words)
run-AsksFor (Ok (Run n)) words text none value named = (none, text, value, named)
run-AsksFor (Ok Help) words text none value named = absurd named
run-AsksFor (Err e) words text none value named = search rules

none_among : (words : List Text) → fault_of program_app words ≡ []
    → IsAmong kind.DisplayHelp (fault_of program_app words) → ⊥
none_among words none help = subst (λ (ks : Kinds). IsAmong kind.DisplayHelp ks) none help

-- Words ask for at most one thing.
pub AsksFor-unique : (words : List Text) (one other : Words) → AsksFor words one → AsksFor words other → one ≡ other
AsksFor-unique words (Run n) (Run m) (none, text, value, names) (none_too, other, value_too, names_too) =
    let same : text ≡ other = same_Some text other (sym value ∙ value_too) in
    let number : digits_value 10 (without_leading_plus other) ≡ n =
    ap (λ (t : Text). digits_value 10 (without_leading_plus t)) (sym same) ∙ names.1 in
    ap (λ (k : ℕ). Run k) (sym number ∙ names_too.1)
AsksFor-unique words (Run n) Help asked help = absurd (none_among words asked.0 help)
AsksFor-unique words Help (Run n) help asked = absurd (none_among words asked.0 help)
AsksFor-unique words Help Help one other = refl
