-- The least length of what a pass has seen.
use Rattle.std.proofs.Common.{◌≡◌, ℕ, Bool, ◌+◌, ◌≤◌, suc, [], ◌∷◌, length, filter, refl, ap, sym, ◌∙◌, arith, length-append}
use Rattle.std.proofs.lemmas.List.Sums.{length-filter, count_by-le-length}
use mathlib.Core.List.{IsPrefix}
use Rattle.book_core.specs.History.{History}
use Rattle.book_core.specs.Versions.{entries_from, log_of}
use Rattle.book_core.specs.declared.commit.Commit.{Commit}

-- it has at least the length of its own changes
pub own-within : (is-own : Commit → Bool) (h mine : History) → filter is-own h ≡ mine → length mine ≤ length h
own-within is-own h mine is =
    let same : length mine ≡ length (filter is-own h) = ap length (sym is) in
    omega (arith, same, length-filter is-own h, count_by-le-length is-own h)

-- it has at least the length of what it had seen or heard of
pub front-within : (front h : History) → IsPrefix front h → length front ≤ length h
front-within front h (rest, is) =
    let whole : length h ≡ length front + length rest = sym (ap length is) ∙ length-append front rest in
    omega (arith, whole)

-- the log has an entry for each commit
length-entries : (h : History) (n : ℕ) (rest : History) → length (entries_from h n rest) ≡ length rest
length-entries h n [] = refl
length-entries h n (c ∷ rest) = ap suc (length-entries h (n + 1) rest)

pub length-log : (h : History) → length (log_of h) ≡ length h
length-log h = length-entries h 0 h
