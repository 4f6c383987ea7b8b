use Rattle.std.proofs.Common.{◌≡◌, ap, rules}
use Rattle.std.specs.Int.{cast_unsigned, w64}
use Rattle.row_core.specs.Lent.{lent_value}
use Rattle.version_core.proofs.KeyIndexLemmas.{number-int, number-text}
use Rattle.version_core.proofs.key_index.number_of.Goals as goal

pub returns-in-Int : goal.returns-in-Int
returns-in-Int c =
    let same : c.cast_unsigned.result ≡ cast_unsigned w64 c.in-Int.number = search rules in
    number-int (lent_value c.args.value) c.in-Int.number c.cast_unsigned.result (ap lent_value c.in-Int.is) same

pub returns-in-Text : goal.returns-in-Text
returns-in-Text c =
    number-text (lent_value c.args.value) c.in-Text.text.now c.as_bytes.result.now c.number_of_bytes.result
    (ap lent_value c.in-Text.is) c.as_bytes.ensures.value c.number_of_bytes.ensures
