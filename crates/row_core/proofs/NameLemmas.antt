-- Names and their padding.
use Rattle.std.proofs.Common.{◌≡◌, ℕ, zero, suc, ◌+◌, ◌-◌, ◌<◌, ◌≤◌, List, [], ◌∷◌, ◌++◌, true, ◌&&◌, cond, not, ◌==◌, length, drop, take, refl, sym, ◌∙◌, ap, arith, ◌≢◌}
use Rattle.std.specs.Prelude.{replicate, nat_le}
use Rattle.std.specs.List.{list_all, prefix_len}
use Rattle.std.specs.Str.{IsAscii}
use Rattle.std.proofs.lemmas.List.{drop-replicate}
use Rattle.std.proofs.lemmas.Str.Ascii.{IsAscii-cons, IsAscii-nil}
use Rattle.std.proofs.Math.Seq.{take-append_seam}
use Rattle.std.proofs.lemmas.Bool.{and_parts, ne_eqb}
use Rattle.std.proofs.lemmas.Bool.Decides.{nat_tests}
use Rattle.row_core.specs.Name.{is_name, is_name_byte, is_reserved, starts_with_letter, padded, unpadded}

name_byte-not_zero : (c : ℕ) → is_name_byte c ≡ true → c ≢ 0
name_byte-not_zero c h e = let t : is_name_byte 0 ≡ true = ap is_name_byte (sym e) ∙ h in absurd (cc)

prefix_len-zeros : (k : ℕ) → prefix_len (λ byte. not (byte == 0)) (replicate k 0) ≡ 0
prefix_len-zeros zero = refl
prefix_len-zeros (suc k) = refl

prefix_len-padded : (text : List ℕ) (k : ℕ) → list_all is_name_byte text ≡ true
    → prefix_len (λ byte. not (byte == 0)) (text ++ replicate k 0) ≡ length text
prefix_len-padded [] k h = prefix_len-zeros k
prefix_len-padded (c ∷ cs) k h =
    let both = and_parts (is_name_byte c) (list_all is_name_byte cs) h in
    let rest = prefix_len (λ byte. not (byte == 0)) (cs ++ replicate k 0) in
    ap (λ b. cond (not b) (1 + rest) 0) (ne_eqb c 0 (name_byte-not_zero c both.0))
    ∙ (omega (arith, prefix_len-padded cs k both.1))

-- removing the padding returns the name
unpadded-append : (text : List ℕ) (k : ℕ) → list_all is_name_byte text ≡ true → unpadded (text ++ replicate k 0) ≡ text
unpadded-append text k h =
    ap (λ n. take n (text ++ replicate k 0)) (prefix_len-padded text k h) ∙ take-append_seam text (replicate k 0)

-- a name has only name bytes, and isn't too long
name-parts : (text : List ℕ) → is_name text ≡ true → (list_all is_name_byte text ≡ true) × (length text ≤ 32)
name-parts text h =
    let one = and_parts (starts_with_letter text)
    (nat_le (length text) 32 && (list_all is_name_byte text && not (is_reserved text))) h in
    let two = and_parts (nat_le (length text) 32) (list_all is_name_byte text && not (is_reserved text)) one.1 in
    let three = and_parts (list_all is_name_byte text) (not (is_reserved text)) two.1 in
    (three.0, let short = two.0 in grind (arith, nat_tests))

-- the same of a name as it is stored
pub unpadded-kept : (text kept : List ℕ) → is_name text ≡ true
    → kept ≡ text ++ drop {A = ℕ} (length text) (replicate 32 0) → unpadded kept ≡ text
unpadded-kept text kept name same =
    let parts = name-parts text name in
    ap unpadded (same ∙ ap (λ zeros. text ++ zeros) (drop-replicate (length text) 32 0))
    ∙ unpadded-append text (32 - length text) parts.0

pub padded-kept : (text kept : List ℕ) → is_name text ≡ true
    → kept ≡ text ++ drop {A = ℕ} (length text) (replicate 32 0) → padded (unpadded kept) ≡ kept
padded-kept text kept name same =
    ap padded (unpadded-kept text kept name same)
    ∙ sym (same ∙ ap (λ zeros. text ++ zeros) (drop-replicate (length text) 32 0))

-- a name is ASCII
name_byte-ascii : (byte : ℕ) → is_name_byte byte ≡ true → byte < 128
name_byte-ascii byte h = grind (arith, nat_tests)

name_bytes-ascii : (text : List ℕ) → list_all is_name_byte text ≡ true → IsAscii text
name_bytes-ascii [] h = IsAscii-nil
name_bytes-ascii (c ∷ cs) h =
    let both = and_parts (is_name_byte c) (list_all is_name_byte cs) h in
    IsAscii-cons c cs (name_byte-ascii c both.0) (name_bytes-ascii cs both.1)

pub IsAscii-name : (text : List ℕ) → is_name text ≡ true → IsAscii text
IsAscii-name text h = name_bytes-ascii text (name-parts text h).0
