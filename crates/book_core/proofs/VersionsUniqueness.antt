-- The list of all selected versions, by rising id, is unique.
use Rattle.std.proofs.Common.{◌≡◌, ℕ, ◌<◌, List, arith}
use Rattle.list_core.proofs.RisingLemmas.{IsListOf-unique}
use Rattle.version_core.specs.declared.version.Version.{Version}
use Rattle.book_core.specs.History.{History}
use Rattle.book_core.specs.Versions.{AreVersions, IsVersion}

pub one_list : (h : History) (at : ℕ) (name : List ℕ) (Selected : Version → Type 0) (one other : List Version)
    → AreVersions h at name Selected one → AreVersions h at name Selected other → one ≡ other
one_list h at name Selected one other =
    IsListOf-unique (λ (v w : Version). v.row.id < w.row.id) (λ v. IsVersion h at name v × Selected v) one other
    (λ v w less more. omega (arith, less, more))
