use Rattle.std.proofs.lemmas.Str.{IsUtf8-from_ascii}
use Rattle.row_core.proofs.NameLemmas.{IsAscii-name}
use Rattle.row_core.proofs.name.NameDisplay.fmt.Goals as goal

pub from_utf8_unchecked-requires : goal.from_utf8_unchecked-requires
from_utf8_unchecked-requires g c =
    IsUtf8-from_ascii c.as_bytes.result.now (IsAscii-name c.as_bytes.result.now c.as_bytes.ensures.name)
