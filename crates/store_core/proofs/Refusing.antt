-- Why a book refuses a change, and the value that `?` returns then.
use Rattle.std.proofs.Common.{◌≡◌, ℕ, inl, inr, Option, Some, None, Result, Ok, Err, IfErr, IfSome, IfNone, IsOkUnless, refl, ap, ◌∙◌, sym, subst}
use Rattle.row_core.specs.declared.failure.Failure.{Failure}
use Rattle.row_core.specs.declared.failure.Failure.TheVariants.{Refused, NoMemory}
use Rattle.book_core.specs.declared.change.Change.{Change}
use Rattle.book_core.specs.History.{History}
use Rattle.book_core.specs.State.{IsRefusedAs}
use Rattle.book_core.specs.declared.refusal.BookRefused.{BookRefused}
use Rattle.store_core.specs.Histories.{refusal_after, RefusesCommit}

name_in : BookRefused → Result ℕ (Failure BookRefused) → BookRefused
name_in other (Ok x) = other
name_in other (Err (Refused why)) = why
name_in other (Err NoMemory) = other

module _ (h : History) (change : Change) where
  by-name : (why : Failure BookRefused) (o : Option BookRefused) → refusal_after h change ≡ o
      → IfSome o (IsRefusedAs {T = ℕ} (Err why)) → IfNone o (IsOkUnless {T = ℕ} (Err why) NoMemory)
      → RefusesCommit h change why
  unfolding name_in
  by-name NoMemory None is some none = inl is
  by-name NoMemory (Some name) is (inl e) none = absurd (cc)
  by-name NoMemory (Some name) is (inr e) none = inr (is ∙ ap Some e.0)
  by-name (Refused why) None is some none = absurd (cc)
  by-name (Refused why) (Some name) is (inl e) none = is ∙ ap Some (sym (ap (name_in name) e))
  by-name (Refused why) (Some name) is (inr e) none = absurd (let f = e.1 in cc)

  -- a book returns the first reason that applies, or memory is refused
  pub RefusesCommit-of : (why : Failure BookRefused) → IfSome (refusal_after h change) (IsRefusedAs {T = ℕ} (Err why))
      → IfNone (refusal_after h change) (IsOkUnless {T = ℕ} (Err why) NoMemory) → RefusesCommit h change why
  RefusesCommit-of why some none = by-name why (refusal_after h change) refl some none

none_of : (o : Option BookRefused) (n : ℕ) → IfSome o (IsRefusedAs {T = ℕ} (Ok n)) → o ≡ None
none_of None n some = refl
none_of (Some name) n (inl e) = absurd (cc)
none_of (Some name) n (inr e) = absurd (let f = e.1 in cc)

-- an accepted change has no reason to be refused
pub none-accepted : (h : History) (change : Change) (n : ℕ)
    → IfSome (refusal_after h change) (IsRefusedAs {T = ℕ} (Ok n)) → refusal_after h change ≡ None
none-accepted h change n some = none_of (refusal_after h change) n some

-- a fact about the error is one about the answer
pub exit-answers : {U E : Type 0} (r : Result U E) (e : E) (P : E → Type 0) → (y : E) × (r ≡ Err y) × (y ≡ e) → P e
    → IfErr r P
exit-answers r e P (y, is, same) p = subst (λ o. IfErr o P) (sym is) (subst P (sym same) p)
