-- What contracts read of a post.
use Rattle.std.specs.Prelude.{◌≡◌}
use Rattle.store_core.specs.declared.post.Post.{Post}
use Rattle.store_core.specs.declared.store.Store.{Store}

-- the post was opened for notes of this store
abbrev pub IsPostOf : Store → Post → Type 0
IsPostOf s post = post.table.shared.key ≡ s
