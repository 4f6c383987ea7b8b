-- A store with one pass: all changes are its own, and each call is one of a book that no other caller changes.
use Rattle.std.proofs.Common.{◌≡◌, ℕ, suc, [], ◌∷◌, ◌++◌, Bool, cond, Ok, Err, None, Some, refl, sym, ap, subst, ◌∙◌, append-nil, arith, eq-eqb}
use Rattle.std.proofs.lemmas.List.{same_from_push}
use Rattle.row_core.specs.declared.failure.Failure.TheVariants.{NoMemory, Refused}
use Rattle.book_core.specs.declared.change.Change.{Change}
use Rattle.book_core.specs.History.{History}
use Rattle.book_core.specs.declared.refusal.BookRefused.{BookRefused}
use Rattle.turn_core.specs.Entries.{own, AreOfCallers}
use Rattle.store_core.specs.Histories.{by_of, commit, CommitsTo, refusal_after, RefusesCommit}
use Rattle.store_core.specs.Passes.{Commits, Counts, mine, pass_number, passes_of, seen}
use Rattle.store_core.specs.declared.pass.Pass.{Pass}
use Rattle.store_core.specs.declared.refusal.StoreRefused.TheVariants as store

own-all : (h : History) → AreOfCallers by_of 1 h → own by_of 1 h ≡ h
own-all [] all = refl
own-all (c ∷ cs) all =
    let here = all 0 c (omega arith) in
    let is : by_of c ≡ 1 = omega (arith, here.0, here.1) in
    ap (λ (b : Bool). cond b (c ∷ own by_of 1 cs) (own by_of 1 cs)) (eq-eqb (by_of c) 1 is)
    ∙ ap (λ (l : History). c ∷ l) (own-all cs (λ k d l. all (suc k) d (omega arith)))

-- all that the pass has seen is its own
pub own-alone : (pass : Pass) → passes_of pass ≡ 1 → (pass_number pass ≡ 1) × (seen pass ≡ mine pass)
own-alone pass one =
    let some = pass.some in
    let within = pass.seat.within in
    let number : pass_number pass ≡ 1 = omega (arith, some, within, one) in (
      number,
      sym (own-all (seen pass) (subst (λ (k : ℕ). AreOfCallers by_of k (seen pass)) one pass.seat.numbered))
          ∙ (ap (λ (k : ℕ). own by_of k (seen pass)) (sym (pass.seat.source some ∙ number)) ∙ pass.seat.own),
    )

module _ (p q : Pass) (one : passes_of p ≡ 1) where
  -- after a call it is still the only pass
  pub stays-alone : (added : History) → Counts p q added → passes_of q ≡ 1
  stays-alone added counts = counts.sees.passes ∙ one

  -- the changes that a call adds to its own, it adds to what it has seen
  pub grows-alone : (added : History) → Counts p q added → seen q ≡ seen p ++ added
  grows-alone added counts =
      (own-alone q (stays-alone added counts)).1
      ∙ (counts.mine ∙ ap (λ (l : History). l ++ added) (sym (own-alone p one).1))

  -- a call that adds none leaves what it has seen
  pub keeps-alone : Counts p q [] → seen q ≡ seen p
  keeps-alone counts = grows-alone [] counts ∙ append-nil (seen p)

  -- a change is accepted after what it had seen
  pub commits-alone : (change : Change) (n : ℕ) → Commits p change (Ok n) q
      → CommitsTo (seen p) 1 change (Ok n) (seen q)
  commits-alone change n (counts, (before, is, accepted), number) =
      let c = commit 1 change in
      let grown : seen q ≡ seen p ++ c ∷ [] =
      grows-alone (commit (pass_number p) change ∷ []) counts
      ∙ ap (λ (k : ℕ). seen p ++ commit k change ∷ []) (own-alone p one).0 in
      let same : before ≡ seen p =
      (same_from_push before (seen p) (commit (pass_number p) change) c (sym is ∙ grown)).0 in
      (subst (λ (h : History). refusal_after h change ≡ None) same accepted, grown, number)

  -- so is a refusal
  pub refuses-alone : (change : Change) (why : BookRefused) → Commits p change (Err (Refused (store.Book why))) q
      → CommitsTo (seen p) 1 change (Err (Refused why)) (seen q)
  refuses-alone change why (counts, refused) =
      let same = keeps-alone counts in (same, subst (λ (h : History). refusal_after h change ≡ Some why) same refused)

  -- and a refusal of memory
  pub runs_out-alone : (change : Change) → Commits p change (Err NoMemory) q
      → CommitsTo (seen p) 1 change (Err NoMemory) (seen q)
  runs_out-alone change (counts, unrefused) =
      let same = keeps-alone counts in
      (same, subst (λ (h : History). RefusesCommit h change NoMemory) same unrefused)
