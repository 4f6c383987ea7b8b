use Rattle.std.proofs.Common.{◌≡◌, ap, rules}
use Rattle.std.specs.Prelude.{unsigned_abs}
use Rattle.row_core.specs.Lent.{lent_value}
use Rattle.version_core.proofs.IndexLemmas.{bucket-of_int, bucket-of_text}
use Rattle.version_core.proofs.index.bucket_of.Goals as goal

pub returns-in-Int-clause-bucket : goal.returns-in-Int-clause-bucket
returns-in-Int-clause-bucket c =
    let size : c.unsigned_abs.result ≡ unsigned_abs c.in-Int.number = search rules in
    bucket-of_int (lent_value c.args.value) c.in-Int.number c.unsigned_abs.result (ap lent_value c.in-Int.is) size

pub returns-in-Text-clause-bucket : goal.returns-in-Text-clause-bucket
returns-in-Text-clause-bucket c =
    bucket-of_text (lent_value c.args.value) c.in-Text.text.now c.as_bytes.result.now c.bucket_of_bytes.result
    (ap lent_value c.in-Text.is) c.as_bytes.ensures.value c.bucket_of_bytes.ensures.bucket
