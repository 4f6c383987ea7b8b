-- The faults that stop a reader of records of any length.
use Rattle.std.proofs.Common.{◌≡◌, ℕ, List, Option, true, false, refl}
use Rattle.csv.specs.Reading.{ExplainsRead, is_flexible, stops_reader}
use Rattle.csv.specs.declared.error.ErrorKind.{ErrorKind}
use Rattle.csv.specs.declared.error.ErrorKind.TheVariants as kind
use Rattle.csv.specs.declared.reader.Reader.{Reader}

-- Such a reader never fails because of a record's length or its text.
pub flexible-stops : {R : Type 0} (rem : R → Option (List ℕ)) (old new : Reader R) (k : ErrorKind)
    → is_flexible old ≡ true → ExplainsRead rem old new false k → stops_reader k ≡ true
flexible-stops rem old new (kind.Io e) flexible why = refl
flexible-stops rem old new kind.OutOfMemory flexible why = refl
flexible-stops rem old new (kind.UnequalLengths pos expected len) flexible why =
    let stiff : old.flexible ≡ false = why.0 in absurd (cc (rw flexible at stiff))
flexible-stops rem old new (kind.Utf8 pos err) flexible why = absurd (cc why.0)
flexible-stops rem old new (kind.Serialize text) flexible why = absurd why
flexible-stops rem old new (kind.Deserialize pos err) flexible why = absurd why
