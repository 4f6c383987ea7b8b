-- The versions that a query returns are the history's.
use Rattle.std.proofs.Common.{◌≡◌, ℕ, ◌+◌, ◌<◌, ◌≤◌, List, [], ◌∷◌, length, map, Bool, true, false, ◌&&◌, cond, Option, Some, None, refl, ap, sym, ◌∙◌, arith, get_or, leb, ltb, suc, zero, subst, inl, inr}
use Rattle.std.specs.Prelude.{IfSome, ◌⊎◌, Contains, MatchOption, AllPairs}
use Rattle.std.specs.List.{filter_map, cons_option, AllByRecursion}
use Rattle.std.proofs.lemmas.Bool.{and_parts, le-leb, lt-ltb, leb-true, leb-false, ltb-true, cases_lt}
use Rattle.std.proofs.lemmas.List.Kept.{AllPairs-cons}
use Rattle.std.proofs.lemmas.List.Elements.{All-from_recursion}
use Rattle.row_core.specs.declared.row.Row.{Row}
use Rattle.version_core.specs.Shown.{is_behind, shows, row_shown, shown, end_at, version_as_of, versions_as_of}
use Rattle.version_core.specs.declared.version.Version.{Version}
use Rattle.book_core.specs.History.{History, rows_at}
use Rattle.book_core.specs.Versions.{HasId, IsVersion, IsAfter, AreVersions}
use Rattle.book_core.specs.StoredTables.{StoredTable, IsNumbered, IsTimely, IsTableOf}

-- membership by recursion

abbrev pub In : {X : Type 0} → X → List X → Type 0
In x [] = ⊥
In x (y ∷ ys) = (y ≡ x) ⊎ In x ys

in_at : {X : Type 0} (xs : List X) (k : ℕ) (x : X) → k < length xs → get_or xs k x ≡ x → In x xs
in_at [] k x h e = absurd (omega arith)
in_at (y ∷ ys) zero x h e = inl e
in_at (y ∷ ys) (suc k) x h e = inr (in_at ys k x (omega arith) e)

pub in_from : {X : Type 0} (xs : List X) (x : X) → Contains xs x → In x xs
in_from xs x c = in_at xs c.0 x c.1 c.2

pub contains_from : {X : Type 0} (xs : List X) (x : X) → In x xs → Contains xs x
contains_from [] x h = absurd h
contains_from (y ∷ ys) x (inl e) = (0, omega arith, e)
contains_from (y ∷ ys) x (inr r) = let c = contains_from ys x r in (suc c.0, (let k = c.1 in omega (arith, k)), c.2)

in_map : {X Y : Type 0} (f : X → Y) (xs : List X) (x : X) → In x xs → In (f x) (map f xs)
in_map f [] x h = absurd h
in_map f (y ∷ ys) x (inl e) = inl (ap f e)
in_map f (y ∷ ys) x (inr r) = inr (in_map f ys x r)

from_map : {X Y : Type 0} (f : X → Y) (xs : List X) (y : Y) → In y (map f xs) → (x : X) × In x xs × (f x ≡ y)
from_map f [] y h = absurd h
from_map f (x ∷ xs) y (inl e) = (x, inl refl, e)
from_map f (x ∷ xs) y (inr r) = let g = from_map f xs y r in (g.0, inr g.1, g.2)

pub in_filtered : {X Y : Type 0} (f : X → Option Y) (xs : List X) (x : X) (y : Y) → In x xs → f x ≡ Some y
    → In y (filter_map f xs)
in_filtered f [] x y h e = absurd h
in_filtered f (z ∷ zs) x y (inl w) e = rw (ap f w ∙ e) (inl refl)
in_filtered f (z ∷ zs) x y (inr r) e = behind (f z) (filter_map f zs) y (in_filtered f zs x y r e) where
  behind : {Y : Type 0} (o : Option Y) (ys : List Y) (y : Y) → In y ys → In y (cons_option o ys)
  behind None ys y k = k
  behind (Some z) ys y k = inr k

pub from_filtered : {X Y : Type 0} (f : X → Option Y) (xs : List X) (y : Y) → In y (filter_map f xs) → (x : X) × In x xs
    × (f x ≡ Some y)
from_filtered f [] y h = absurd h
from_filtered {X} {Y} f (x ∷ xs) y h = split (f x) (filter_map f xs) refl h (from_filtered f xs y) where
  split : (o : Option Y) (ys : List Y) → f x ≡ o → In y (cons_option o ys)
      → (In y ys → (z : X) × In z xs × (f z ≡ Some y)) → (z : X) × In z (x ∷ xs) × (f z ≡ Some y)
  split None ys e k rest = let g = rest k in (g.0, inr g.1, g.2)
  split (Some z) ys e (inl w) rest = (x, inl refl, e ∙ ap Some w)
  split (Some z) ys e (inr r) rest = let g = rest r in (g.0, inr g.1, g.2)

-- when a version is visible

after_from : (to : Option ℕ) (n : ℕ) → is_behind to n ≡ true → IsAfter to n
after_from None n h = tt
after_from (Some t) n h = ltb-true n t h

behind_from : (to : Option ℕ) (n : ℕ) → IsAfter to n → is_behind to n ≡ true
behind_from None n h = refl
behind_from (Some t) n h = lt-ltb n t h

pub shown_when : (n : ℕ) (v : Version) → shows n v ≡ true → (v.sysfrom ≤ n) × IsAfter v.systo n
shown_when n v h =
    let p = and_parts (leb v.sysfrom n) (is_behind v.systo n) h in (leb-true v.sysfrom n p.0, after_from v.systo n p.1)

pub when_shown : (n : ℕ) (v : Version) → v.sysfrom ≤ n → IsAfter v.systo n → shows n v ≡ true
when_shown n v h k = ap (λ b. b && is_behind v.systo n) (le-leb v.sysfrom n h) ∙ behind_from v.systo n k

pub row_when : (n : ℕ) (v : Version) (r : Row) → row_shown n v ≡ Some r → (shows n v ≡ true) × (v.row ≡ r)
row_when n v r h = by_test (shows n v) h where
  by_test : (b : Bool) → cond b (Some v.row) None ≡ Some r → (b ≡ true) × (v.row ≡ r)
  by_test true k = (refl, cc)
  by_test false k = absurd (cc)

-- ids are unique

above : (k : ℕ) (vs : List Version) (u : Version) → IsNumbered k vs → In u vs → k < u.row.id
above k [] u s h = absurd h
above k (v ∷ vs) u s (inl e) = omega (arith, s.0, ap (λ (w : Version). w.row.id) e)
above k (v ∷ vs) u s (inr r) = omega (arith, above (k + 1) vs u s.1 r)

pub unique : (k : ℕ) (vs : List Version) (u w : Version) → IsNumbered k vs → In u vs → In w vs → u.row.id ≡ w.row.id
    → u ≡ w
unique k [] u w s h g e = absurd h
unique k (v ∷ vs) u w s (inl a) (inl b) e = sym a ∙ b
unique k (v ∷ vs) u w s (inl a) (inr b) e =
    absurd (omega (arith, s.0, ap (λ (x : Version). x.row.id) a, above (k + 1) vs w s.1 b, e))
unique k (v ∷ vs) u w s (inr a) (inl b) e =
    absurd (omega (arith, s.0, ap (λ (x : Version). x.row.id) b, above (k + 1) vs u s.1 a, e))
unique k (v ∷ vs) u w s (inr a) (inr b) e = unique (k + 1) vs u w s.1 a b e

timely_in : (n : ℕ) (vs : List Version) (u : Version) → AllByRecursion (IsTimely n) vs → In u vs → IsTimely n u
timely_in n [] u a h = absurd h
timely_in n (v ∷ vs) u a (inl e) = subst (IsTimely n) e a.0
timely_in n (v ∷ vs) u a (inr r) = timely_in n vs u a.1 r

-- a version is visible as of its first commit
begins : (n : ℕ) (u : Version) → IsTimely n u → shows u.sysfrom u ≡ true
begins n u t = when_shown u.sysfrom u (omega arith) (later u.systo t.ended) where
  later : (to : Option ℕ) → IfSome to (λ t. (u.sysfrom < t) × (t ≤ n)) → IsAfter to u.sysfrom
  later None k = tt
  later (Some t) k = k.0

-- facts about the history's rows

module _ (h : History) (name : List ℕ) (t : StoredTable) (table : IsTableOf h name t) where
  has_id : (n : ℕ) (u : Version) → n ≤ length h → In u t.versions → shows n u ≡ true → HasId h name n u.row.id
  has_id n u k i s =
      let here : In u.row (shown n t.versions) =
      in_filtered (row_shown n) t.versions u u.row i (ap (λ b. cond b (Some u.row) None) s) in
      contains_from (map (λ (row : Row). row.id) (rows_at h n name)) u.row.id
      (rw (table.past n k) (in_map (λ (row : Row). row.id) (shown n t.versions) u.row here))

  is_shown : (n : ℕ) (u : Version) (id : ℕ) → n ≤ length h → In u t.versions → u.row.id ≡ id → HasId h name n id
      → shows n u ≡ true
  is_shown n u id k i e c =
      let listed : In id (map (λ (row : Row). row.id) (shown n t.versions)) =
      rw (sym (table.past n k)) (in_from (map (λ (row : Row). row.id) (rows_at h n name)) id c) in
      let g = from_map (λ (row : Row). row.id) (shown n t.versions) id listed in
      let f = from_filtered (row_shown n) t.versions g.0 g.1 in
      let w = row_when n f.0 g.0 f.2 in
      let same : f.0 ≡ u =
      unique 0 t.versions f.0 u table.well.ids f.1 i (ap (λ (row : Row). row.id) w.1 ∙ g.2 ∙ sym e) in
      ap (shows n) (sym same) ∙ w.0

  not_at_end : (n : ℕ) (u : Version) (to : ℕ) → u.systo ≡ Some to → shows n u ≡ true → n < to
  not_at_end n u to e s = subst (λ (o : Option ℕ). IsAfter o n) e (shown_when n u s).1

  shown_before : (n : ℕ) (u : Version) (to : ℕ) → u.systo ≡ Some to → u.sysfrom ≤ n → n < to → shows n u ≡ true
  shown_before n u to e b k = when_shown n u b (subst (λ (o : Option ℕ). IsAfter o n) (sym e) k)

  shown_open : (n : ℕ) (u : Version) → u.systo ≡ None → u.sysfrom ≤ n → shows n u ≡ true
  shown_open n u e b = when_shown n u b (subst (λ (o : Option ℕ). IsAfter o n) (sym e) tt)

  -- the end of a returned version
  end_holds : (at : ℕ) (u : Version) → at ≤ length h → In u t.versions → (o : Option ℕ) → u.systo ≡ o
      → IfSome o (λ to. (u.sysfrom < to) × (to ≤ length h)) → MatchOption (end_at at o)
      ((n : ℕ) → u.sysfrom ≤ n → n ≤ at → HasId h name n u.row.id)
      (λ to. (u.sysfrom < to) × (to ≤ at) × (HasId h name to u.row.id → ⊥)
      × ((n : ℕ) → u.sysfrom ≤ n → n < to → HasId h name n u.row.id))
  end_holds at u k i None e tm = λ n b c. has_id n u (omega arith) i (shown_open n u e b)
  end_holds at u k i (Some to) e tm = by_test (leb to at) refl where
    by_test : (b : Bool) → leb to at ≡ b → MatchOption (cond b (Some to) None)
        ((n : ℕ) → u.sysfrom ≤ n → n ≤ at → HasId h name n u.row.id)
        (λ to. (u.sysfrom < to) × (to ≤ at) × (HasId h name to u.row.id → ⊥)
        × ((n : ℕ) → u.sysfrom ≤ n → n < to → HasId h name n u.row.id))
    by_test true r = (
      tm.0,
      leb-true to at r,
      (λ c. absurd (let x = not_at_end to u to e (is_shown to u u.row.id tm.1 i refl c) in omega (arith, x))),
      (λ n b c. has_id n u (let q = tm.1 in omega (arith, q)) i (shown_before n u to e b c)),
    )
    by_test false r =
        λ n b c. has_id n u (omega arith) i (shown_before n u to e b (let q = leb-false to at r in omega (arith, q)))

  version_of : (at : ℕ) (u : Version) → at ≤ length h → u.sysfrom ≤ at → In u t.versions
      → IsVersion h at name (record { row = u.row; sysfrom = u.sysfrom; systo = end_at at u.systo })
  version_of at u k b i =
      let tm = timely_in (length h) t.versions u table.well.times i in
      let here : In u.row (shown u.sysfrom t.versions) =
      in_filtered (row_shown u.sysfrom) t.versions u u.row i
      (ap (λ b. cond b (Some u.row) None) (begins (length h) u tm)) in
      record {
        within = b;
        row = contains_from (rows_at h u.sysfrom name) u.row (rw (table.past u.sysfrom (omega arith)) here);
        first = λ n l c. absurd
            (let x = (shown_when n u (is_shown n u u.row.id (omega arith) i refl c)).0 in omega (arith, x));
        end = end_holds at u k i u.systo refl tm.ended;
      }

  same_end : (at : ℕ) (w : Version) (id : ℕ) → at ≤ length h → w.sysfrom ≤ at → In w t.versions → w.row.id ≡ id
      → (o e : Option ℕ) → w.systo ≡ o → IfSome o (λ to. (w.sysfrom < to) × (to ≤ length h)) → MatchOption e
      ((n : ℕ) → w.sysfrom ≤ n → n ≤ at → HasId h name n id)
      (λ to. (w.sysfrom < to) × (to ≤ at) × (HasId h name to id → ⊥)
      × ((n : ℕ) → w.sysfrom ≤ n → n < to → HasId h name n id)) → end_at at o ≡ e
  same_end at w id k b i d None None q tm m = refl
  same_end at w id k b i d None (Some to) q tm m =
      absurd (m.2
      (subst (HasId h name to) d
      (has_id to w (let x = m.1 in omega (arith, x)) i (shown_open to w q (let x = m.0 in omega (arith, x))))))
  same_end at w id k b i d (Some x) None q tm m = by_test (leb x at) refl where
    by_test : (b : Bool) → leb x at ≡ b → cond b (Some x) None ≡ None
    by_test true r =
        absurd (let y = not_at_end x w x q
        (is_shown x w id tm.1 i d (m x (let z = tm.0 in omega (arith, z)) (leb-true x at r))) in omega (arith, y))
    by_test false r = refl
  same_end at w id k b i d (Some x) (Some to) q tm m =
      let same : x ≡ to = elim (cases_lt x to) [
        | inl l ↦ absurd
            (let y = not_at_end x w x q
            (is_shown x w id tm.1 i d (m.3 x (let z = tm.0 in omega (arith, z)) l)) in omega (arith, y))
        | inr g ↦ elim (cases_lt to x) [
          | inl l ↦ absurd
              (m.2 (subst (HasId h name to) d
              (has_id to w (let z = tm.1 in omega (arith, z)) i
              (shown_before to w x q (let z = m.0 in omega (arith, z)) l))))
          | inr g' ↦ omega arith
        ]
      ] in
      ap (λ b. cond b (Some x) None) (le-leb x at (let z = m.1 in omega (arith, z))) ∙ ap Some same

  seen_parts : (at m last : ℕ) (u v : Version) → version_as_of at m last u ≡ Some v → (u.sysfrom ≤ at)
      × (u.sysfrom ≤ last) × IsAfter (end_at at u.systo) m
      × (record { row = u.row; sysfrom = u.sysfrom; systo = end_at at u.systo } ≡ v)
  seen_parts at m last u v e =
      by_test (leb u.sysfrom at && (leb u.sysfrom last && is_behind (end_at at u.systo) m)) refl e where
        by_test : (b : Bool) → (leb u.sysfrom at && (leb u.sysfrom last && is_behind (end_at at u.systo) m)) ≡ b
            → cond b (Some (record { row = u.row; sysfrom = u.sysfrom; systo = end_at at u.systo })) None ≡ Some v
            → (u.sysfrom ≤ at) × (u.sysfrom ≤ last) × IsAfter (end_at at u.systo) m
            × (record { row = u.row; sysfrom = u.sysfrom; systo = end_at at u.systo } ≡ v)
        by_test true r q =
            let p = and_parts (leb u.sysfrom at) (leb u.sysfrom last && is_behind (end_at at u.systo) m) r in
            let s = and_parts (leb u.sysfrom last) (is_behind (end_at at u.systo) m) p.1 in
            (leb-true u.sysfrom at p.0, leb-true u.sysfrom last s.0, after_from (end_at at u.systo) m s.1, cc)
        by_test false r q = absurd (cc)

  parts_seen : (at m last : ℕ) (u : Version) → u.sysfrom ≤ at → u.sysfrom ≤ last → IsAfter (end_at at u.systo) m
      → version_as_of at m last u ≡ Some (record { row = u.row; sysfrom = u.sysfrom; systo = end_at at u.systo })
  parts_seen at m last u a b c =
      ap (λ x. cond (x && (leb u.sysfrom last && is_behind (end_at at u.systo) m))
      (Some (record { row = u.row; sysfrom = u.sysfrom; systo = end_at at u.systo })) None) (le-leb u.sysfrom at a)
      ∙ ap (λ x. cond (x && is_behind (end_at at u.systo) m)
      (Some (record { row = u.row; sysfrom = u.sysfrom; systo = end_at at u.systo })) None)
      (le-leb u.sysfrom last b)
      ∙ ap (λ x. cond x (Some (record { row = u.row; sysfrom = u.sysfrom; systo = end_at at u.systo })) None)
      (behind_from (end_at at u.systo) m c)

  listed_is : (at m last : ℕ) (v : Version) → at ≤ length h → Contains (versions_as_of at m last t.versions) v
      → IsVersion h at name v × ((v.sysfrom ≤ last) × IsAfter v.systo m)
  listed_is at m last v k c =
      let g =
      from_filtered (version_as_of at m last) t.versions v (in_from (versions_as_of at m last t.versions) v c) in
      let p = seen_parts at m last g.0 v g.2 in
      let P : Version → Type 0 = λ v. IsVersion h at name v × ((v.sysfrom ≤ last) × IsAfter v.systo m) in
      subst P p.3 (version_of at g.0 k p.0 g.1, (p.1, p.2))

  is_listed : (at m last : ℕ) (v : Version) → at ≤ length h → IsVersion h at name v → v.sysfrom ≤ last
      → IsAfter v.systo m → Contains (versions_as_of at m last t.versions) v
  is_listed at m last v k is b a =
      let within = is.within in
      let from : v.sysfrom ≤ length h = omega (arith, within) in
      let row : In v.row (shown v.sysfrom t.versions) =
      rw (sym (table.past v.sysfrom from)) (in_from (rows_at h v.sysfrom name) v.row is.row) in
      let f = from_filtered (row_shown v.sysfrom) t.versions v.row row in
      let s = row_when v.sysfrom f.0 v.row f.2 in
      let id : f.0.row.id ≡ v.row.id = ap (λ (row : Row). row.id) s.1 in
      let tm = timely_in (length h) t.versions f.0 table.well.times f.1 in
      let before = (shown_when v.sysfrom f.0 s.0).0 in
      let start : f.0.sysfrom ≡ v.sysfrom = elim (cases_lt f.0.sysfrom v.sysfrom) [
        | inl l ↦ absurd
            (is.first f.0.sysfrom l
            (subst (HasId h name f.0.sysfrom) id
            (has_id f.0.sysfrom f.0 (omega (arith, before)) f.1 (begins (length h) f.0 tm))))
        | inr g ↦ omega (arith, before)
      ] in
      let E : ℕ → Type 0 = λ from. MatchOption v.systo
      ((n : ℕ) → from ≤ n → n ≤ at → HasId h name n v.row.id)
      (λ to. (from < to) × (to ≤ at) × (HasId h name to v.row.id → ⊥)
      × ((n : ℕ) → from ≤ n → n < to → HasId h name n v.row.id)) in
      let ends : end_at at f.0.systo ≡ v.systo =
      same_end at f.0 v.row.id k (omega (arith, within, before)) f.1 id f.0.systo v.systo refl tm.ended
      (subst E (sym start) is.end) in
      let found = parts_seen at m last f.0 (omega (arith, within, before)) (omega (arith, b, before))
      (subst (λ (o : Option ℕ). IsAfter o m) (sym ends) a) in
      let whole : record { row = f.0.row; sysfrom = f.0.sysfrom; systo = end_at at f.0.systo } ≡ v =
      ap (λ r. record { row = r; sysfrom = f.0.sysfrom; systo = end_at at f.0.systo }) s.1
      ∙ ap (λ n. record { row = v.row; sysfrom = n; systo = end_at at f.0.systo }) start
      ∙ ap (λ e. record { row = v.row; sysfrom = v.sysfrom; systo = e }) ends in
      contains_from (versions_as_of at m last t.versions) v
      (in_filtered (version_as_of at m last) t.versions f.0 v f.1 (found ∙ ap Some whole))

-- by rising id

seen_above : (at m last k : ℕ) (vs : List Version) → IsNumbered k vs
    → AllByRecursion (λ (w : Version). k < w.row.id) (versions_as_of at m last vs)
    × AllPairs (λ (v w : Version). v.row.id < w.row.id) (versions_as_of at m last vs)
seen_above at m last k [] s = (tt, λ i j d l b. absurd (omega arith))
seen_above at m last k (v ∷ vs) s =
    let rest = seen_above at m last (k + 1) vs s.1 in
    elim (leb v.sysfrom at && (leb v.sysfrom last && is_behind (end_at at v.systo) m)) as
    (λ b. AllByRecursion (λ (w : Version). k < w.row.id)
    (cons_option (cond b (Some (record { row = v.row; sysfrom = v.sysfrom; systo = end_at at v.systo })) None)
    (versions_as_of at m last vs))
    × AllPairs (λ (v w : Version). v.row.id < w.row.id)
    (cons_option (cond b (Some (record { row = v.row; sysfrom = v.sysfrom; systo = end_at at v.systo })) None)
    (versions_as_of at m last vs))) [
      | true ↦ (
        (omega (arith, s.0), lower (k + 1) k (versions_as_of at m last vs) (omega arith) rest.0),
        AllPairs-cons
            (λ (v w : Version). v.row.id < w.row.id)
            (record { row = v.row; sysfrom = v.sysfrom; systo = end_at at v.systo }) (versions_as_of at m last vs)
            (All-from_recursion (λ (w : Version). v.row.id < w.row.id) (versions_as_of at m last vs)
            (lower (k + 1) v.row.id (versions_as_of at m last vs) (omega (arith, s.0)) rest.0)) rest.1,
      )
      | false ↦ (lower (k + 1) k (versions_as_of at m last vs) (omega arith) rest.0, rest.1)
    ] where
      lower : (a b : ℕ) (vs : List Version) → b ≤ a → AllByRecursion (λ (w : Version). a < w.row.id) vs
          → AllByRecursion (λ (w : Version). b < w.row.id) vs
      lower a b [] h s = tt
      lower a b (v ∷ vs) h s = (let x = s.0 in omega (arith, x), lower a b vs h s.1)

-- the versions returned for the table with that name are the selected ones
pub seen_are : (h : History) (name : List ℕ) (t : StoredTable) (at m last : ℕ) (Selected : Version → Type 0)
    (vs : List Version) → IsTableOf h name t → at ≤ length h
    → ((v : Version) → Selected v → (v.sysfrom ≤ last) × IsAfter v.systo m)
    → ((v : Version) → (v.sysfrom ≤ last) × IsAfter v.systo m → Selected v) → vs ≡ versions_as_of at m last t.versions
    → AreVersions h at name Selected vs
seen_are h name t at m last Selected vs table k to from e = rw e (record {
  ordered = (seen_above at m last 0 t.versions table.well.ids).1;
  exactly = λ v. (
    (λ c. let l = listed_is h name t table at m last v k c in (l.0, from v l.1)),
    (λ p. let q = to v p.1 in is_listed h name t table at m last v k p.0 q.0 q.1),
  );
})

-- the versions as of one commit

same_behind : (at n : ℕ) (to : Option ℕ) → n ≤ at → is_behind (end_at at to) n ≡ is_behind to n
same_behind at n None k = refl
same_behind at n (Some to) k = by_test (leb to at) refl where
  by_test : (b : Bool) → leb to at ≡ b → is_behind (cond b (Some to) None) n ≡ ltb n to
  by_test true r = refl
  by_test false r = sym (lt-ltb n to (let x = leb-false to at r in omega (arith, x)))

neither : (x : Bool) (v : Version) (us : List Version) (rows : List Row) → map (λ (v : Version). v.row) us ≡ rows
    → map (λ (v : Version). v.row) (cons_option (cond (x && false) (Some v) None) us) ≡ rows
neither true v us rows rest = rest
neither false v us rows rest = rest

seen_at_once : (at n : ℕ) (vs : List Version) → n ≤ at
    → map (λ (v : Version). v.row) (versions_as_of at n n vs) ≡ shown n vs
seen_at_once at n [] k = refl
seen_at_once at n (v ∷ vs) k =
    by_test (leb v.sysfrom n) refl (is_behind (end_at at v.systo) n) (is_behind v.systo n) (same_behind at n v.systo k)
    (seen_at_once at n vs k) where
      by_test : (b : Bool) → leb v.sysfrom n ≡ b → (c d : Bool) → c ≡ d
          → map (λ (v : Version). v.row) (versions_as_of at n n vs) ≡ shown n vs
          → map (λ (v : Version). v.row)
          (cons_option
          (cond (leb v.sysfrom at && (b && c))
          (Some (record { row = v.row; sysfrom = v.sysfrom; systo = end_at at v.systo })) None)
          (versions_as_of at n n vs)) ≡ cons_option (cond (b && d) (Some v.row) None) (shown n vs)
      by_test true r true true e rest =
          ap (λ x. map (λ (v : Version). v.row)
          (cons_option
          (cond (x && true) (Some (record { row = v.row; sysfrom = v.sysfrom; systo = end_at at v.systo })) None)
          (versions_as_of at n n vs))) (le-leb v.sysfrom at (let x = leb-true v.sysfrom n r in omega (arith, x)))
          ∙ ap (λ l. v.row ∷ l) rest
      by_test true r false false e rest =
          neither (leb v.sysfrom at) (record { row = v.row; sysfrom = v.sysfrom; systo = end_at at v.systo })
          (versions_as_of at n n vs) (shown n vs) rest
      by_test true r true false e rest = absurd (cc)
      by_test true r false true e rest = absurd (cc)
      by_test false r c d e rest =
          neither (leb v.sysfrom at) (record { row = v.row; sysfrom = v.sysfrom; systo = end_at at v.systo })
          (versions_as_of at n n vs) (shown n vs) rest

pub rows_at_once : (h : History) (name : List ℕ) (t : StoredTable) (at m n : ℕ) (vs : List Version)
    → IsTableOf h name t → at ≤ length h → m ≡ n → n ≤ at → vs ≡ versions_as_of at m n t.versions
    → map (λ (v : Version). v.row) vs ≡ rows_at h n name
rows_at_once h name t at m n vs table k e b s =
    ap (map (λ (v : Version). v.row)) (s ∙ ap (λ m. versions_as_of at m n t.versions) e)
    ∙ seen_at_once at n t.versions b
    ∙ sym (table.past n (omega arith))
