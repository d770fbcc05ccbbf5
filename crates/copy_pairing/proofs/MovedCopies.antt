-- When a copy can become a move.
use Rattle.std.proofs.Common.{◌≡◌, ◌≢◌, ◌⊎◌, inl, inr, ℕ, ◌+◌, ◌<◌, ◌≤◌, get_or, List, [], ◌∷◌, ◌++◌, length, refl, sym, ap, ap₂, ◌∙◌, subst, Bool, true, false, Option, Some, None, arith}
use Rattle.std.specs.Prelude.{◌&&◌, ◌||◌, ◌==◌, ◌↔◌, IfNone, IfSome, IsTrue, nat_lt, unwrap_or}
use Rattle.std.specs.List.{list_any, slice_get}
use Rattle.std.proofs.lemmas.Bool.{cases_eq, cases_lt}
use Rattle.std.proofs.lemmas.Bool.Decides.{nat_tests}
use Rattle.std.proofs.lemmas.List.Folds.{list_any-append}
use Rattle.std.proofs.lemmas.Option.{slice_get_cases, slice_get_within}
use Rattle.sil_ast.specs.declared.function.Block.{Block}
use Rattle.sil_ast.specs.declared.function.Function.{Function}
use Rattle.sil_ast.specs.declared.place.PointId.{PointId}
use Rattle.sil_ast.specs.declared.place.ValueId.{ValueId}
use Rattle.sil_cfg.specs.Items.{point_at}
use Rattle.sil_cfg.specs.declared.item.Item.TheVariants.{Inst}
use Rattle.sil_cfg_items.specs.Parts.{inst_in}
use Rattle.numbered_form.specs.ValueTables.Borrows.{borrow_in, borrows_of, lends}
use Rattle.numbered_form.specs.declared.value_tables.borrows.Borrow.{Borrow}
use Rattle.numbered_form.specs.declared.value_tables.borrows.Borrow.TheVariants.{NoBorrow}
use Rattle.ownership_kinds_chains.specs.OwnershipChains.Facts.{has, is_owned, known_or, told_at}
use Rattle.ownership_kinds_chains.specs.declared.ownership_chains.facts.Facts.{Facts}
use Rattle.ownership_kinds_chains.proofs.OwnershipMarks.MarkTables.{same_marks}
use Rattle.ownership_kinds_chains.specs.OwnershipMarks.Known.{Known, facts_of}
use Rattle.ownership_kinds_chains.specs.OwnershipMarks.Marks.{marks_of}
use Rattle.ownership_kinds_chains.specs.declared.ownership_marks.mark.MarkSort.TheVariants.{Begin}
use Rattle.borrow_scopes.proofs.Agreeing.{same_bases}
use Rattle.borrow_scopes.specs.Scopes.{bases_in, lent_bases}
use Rattle.borrow_scopes.specs.inner.Tables.{lent_bases_in}
use Rattle.copy_pairing_model.proofs.DestroyShown.{destroy_shown}
use Rattle.copy_pairing_model.specs.Copies.{IsDestroy}
use Rattle.copy_pairing_model.specs.Removable.{IsDestroyedNext, IsMovable, IsUnlent, concerns}
use Rattle.copy_pairing_search.specs.BorrowableCopies.inner.Asked.{AreFreeAt}
use Rattle.copy_pairing.specs.inner.Turns.{IsMovableTo, IsOwnedUpTo}

-- the scopes that borrow from a value

lent_of : (facts : ValueId → Facts) (v : ValueId) (o : Option Borrow) → has (bases_in facts (lends (unwrap_or o NoBorrow))) v.0 ≡ true → o ≡ None → ⊥
lent_of facts v o e none = let wrong : false ≡ true = sym (ap (λ x. has (bases_in facts (lends (unwrap_or x NoBorrow))) v.0) none) ∙ e in cc

borrower_below : (borrows : List Borrow) (facts : ValueId → Facts) (n : ℕ) (v : ValueId) → has (lent_bases_in facts borrows n) v.0 ≡ true → n < length borrows
borrower_below borrows facts n v e = at (slice_get_cases borrows n).1
  where
    at : ((x : Borrow) × (n < length borrows) × (slice_get borrows n ≡ Some x) × (get_or borrows n x ≡ x)) ⊎ ((length borrows ≤ n) × (slice_get borrows n ≡ None)) → n < length borrows
    at (inl h) = h.1
    at (inr h) = absurd (lent_of facts v (slice_get borrows n) e h.1)

or_false : (a : Bool) → (a || false) ≡ a
or_false true = refl
or_false false = refl

and_true : (a : Bool) → (false || (a && true)) ≡ a
and_true true = refl
and_true false = refl

and_false : (a : Bool) → (false || (a && false)) ≡ false
and_false true = refl
and_false false = refl

or_none : (a b : Bool) → ((true && a) || (b && false)) ≡ a
or_none true b = refl
or_none false true = refl
or_none false false = refl

both : (a b : Bool) → a ≡ true → b ≡ true → (a && b) ≡ true
both true true x y = refl
both true false x y = y
both false b x y = x

second : (a b : Bool) → (a && b) ≡ true → b ≡ true
second true b e = e
second false b e = absurd (let wrong : false ≡ true = e in cc)

below_true : (n m : ℕ) → n < m → nat_lt n m ≡ true
below_true n m lt = grind (arith, nat_tests)

-- the scopes found so far

pub unpushed : (scopes : List ValueId) (scope : ValueId) (is_one : Bool) (n : ℕ) → is_one ≡ false → has scopes n ≡ (has scopes n || (is_one && scope.0 == n))
unpushed scopes scope true n e = absurd (let wrong : true ≡ false = e in cc)
unpushed scopes scope false n e = sym (or_false (has scopes n))

pub pushed_if : (scopes : List ValueId) (scope : ValueId) (is_one : Bool) (n : ℕ) → is_one ≡ true → has (scopes ++ scope ∷ []) n ≡ (has scopes n || (is_one && scope.0 == n))
pushed_if scopes scope true n e = list_any-append (λ x. x.0 == n) scopes (scope ∷ []) ∙ ap (λ b. has scopes n || b) (or_false (scope.0 == n))
pushed_if scopes scope false n e = absurd (let wrong : false ≡ true = e in cc)

pub none_yet : (b : Bool) (m : ℕ) → false ≡ (nat_lt m 0 && b)
none_yet b m = let none : nat_lt m 0 ≡ false = grind (arith, nat_tests) in sym (ap (λ x. x && b) none)

pub scopes_more : (P : ℕ → Bool) (old : Bool) (m n : ℕ) → old ≡ (nat_lt m n && P m) → (old || (P n && n == m)) ≡ (nat_lt m (n + 1) && P m)
scopes_more P old m n e = at (cases_eq m n) (cases_lt m n)
  where
    at : (m ≡ n) ⊎ (m ≢ n) → (m < n) ⊎ (n ≤ m) → (old || (P n && n == m)) ≡ (nat_lt m (n + 1) && P m)
    at (inl same) x =
        let under : nat_lt m n ≡ false = grind (arith, nat_tests) in
        let here : (n == m) ≡ true = grind (arith, nat_tests) in
        let within : nat_lt m (n + 1) ≡ true = grind (arith, nat_tests) in
        let none : old ≡ false = e ∙ ap (λ b. b && P m) under in
        ap₂ (λ a b. a || (P n && b)) none here ∙ and_true (P n) ∙ ap P (sym same) ∙ sym (ap (λ b. b && P m) within)
    at (inr other) (inl lt) =
        let under : nat_lt m n ≡ true = grind (arith, nat_tests) in
        let here : (n == m) ≡ false = grind (arith, nat_tests) in
        let within : nat_lt m (n + 1) ≡ true = grind (arith, nat_tests) in
        ap₂ (λ a b. a || (P n && b)) (e ∙ ap (λ b. b && P m) under) here ∙ or_none (P m) (P n) ∙ sym (ap (λ b. b && P m) within)
    at (inr other) (inr le) =
        let under : nat_lt m n ≡ false = grind (arith, nat_tests) in
        let here : (n == m) ≡ false = grind (arith, nat_tests) in
        let within : nat_lt m (n + 1) ≡ false = grind (arith, nat_tests) in
        ap₂ (λ a b. a || (P n && b)) (e ∙ ap (λ b. b && P m) under) here ∙ and_false (P n) ∙ sym (ap (λ b. b && P m) within)

module _ (f : Function) (k : Known) (same : k.borrows ≡ borrows_of f) (size : length k.borrows ≡ length k.table) (facts : ValueId → Option Facts)
    (told : (v : ValueId) → facts_of k v ≡ known_or facts v) where
  lent_same : (n : ℕ) (v : ValueId) → has (lent_bases_in (facts_of k) k.borrows n) v.0 ≡ has (lent_bases f (known_or facts) n) v.0
  lent_same n v =
      ap (λ bases. has bases v.0) (same_bases (facts_of k) (known_or facts) told (lends (borrow_in k.borrows n)))
      ∙ ap (λ table. has (bases_in (known_or facts) (lends (borrow_in table n))) v.0) same

  pub unlent : (c v : ValueId) (scopes : List ValueId) →
      ((n : ℕ) → has scopes n ≡ (nat_lt n (length k.table) && has (lent_bases_in (facts_of k) k.borrows n) v.0)) → AreFreeAt facts f Begin (c ∷ []) scopes ↔ IsUnlent facts f c v
  unlent c v scopes are = (
    λ all s lent.
        let here : has (lent_bases_in (facts_of k) k.borrows s.0) v.0 ≡ true = lent_same s.0 v ∙ lent in
        let below : s.0 < length k.borrows = borrower_below k.borrows (facts_of k) s.0 v here in
        all s (are s.0 ∙ both (nat_lt s.0 (length k.table)) (has (lent_bases_in (facts_of k) k.borrows s.0) v.0) (below_true s.0 (length k.table) (omega arith)) here),
    λ un s among.
        un s (sym (lent_same s.0 v) ∙ second (nat_lt s.0 (length k.table)) (has (lent_bases_in (facts_of k) k.borrows s.0) v.0) (sym (are s.0) ∙ among)),
  )

  pub unlent_by : (c v : ValueId) (scopes : List ValueId) → ((n : ℕ) → has scopes n ≡ (nat_lt n (length k.table) && has (lent_bases_in (facts_of k) k.borrows n) v.0))
      → (r : Bool) → IsTrue r ↔ AreFreeAt facts f Begin (c ∷ []) scopes → IsTrue r ↔ IsUnlent facts f c v
  unlent_by c v scopes are r free = let both = unlent c v scopes are in (λ t. both.0 (free.0 t), λ h. free.1 (both.1 h))

  -- where there is no such scope
  pub unlent_without : (c v : ValueId) (scopes : List ValueId) → ((n : ℕ) → has scopes n ≡ (nat_lt n (length k.table) && has (lent_bases_in (facts_of k) k.borrows n) v.0))
      → scopes ≡ [] → IsTrue true ↔ IsUnlent facts f c v
  unlent_without c v scopes are none = (
    λ t. (unlent c v scopes are).0 (λ h among. absurd (let wrong : false ≡ true = sym (ap (λ vs. has vs h.0) none) ∙ among in cc)),
    λ h. refl,
  )

-- the next destroy

-- no instruction from behind the point up to this index has a mark that concerns the two values
abbrev pub IsQuietBefore : (ValueId → Option Facts) → Function → PointId → ValueId → ValueId → ℕ → Type 0
IsQuietBefore facts f p c v n = (k : ℕ) → p.index < k → k < n → list_any (concerns c v) (marks_of facts f (Inst (point_at p.block.0 k))) ≡ false

module _ (facts : ValueId → Option Facts) (f : Function) (p : PointId) (c v : ValueId) (owned : is_owned (known_or facts v).kind ≡ true) where
  -- where the instruction at an index has such a mark and those before it don't, it is that destroy or none is
  pub none_next : (n : ℕ) → IsQuietBefore facts f p c v n → p.index < n → list_any (concerns c v) (marks_of facts f (Inst (point_at p.block.0 n))) ≡ true →
      (IsDestroy f (point_at p.block.0 n) v → ⊥) → (last : ℕ) → IsDestroyedNext facts f p c v last → ⊥
  none_next n quiet behind shown not last h = at (cases_lt last n) (cases_lt n last)
    where
      at : (last < n) ⊎ (n ≤ last) → (n < last) ⊎ (last ≤ n) → ⊥
      at (inl lt) x =
          let there : list_any (concerns c v) (marks_of facts f (Inst (point_at p.block.0 last))) ≡ true = destroy_shown facts f (point_at p.block.0 last) c v owned h.destroyed in
          let none : list_any (concerns c v) (marks_of facts f (Inst (point_at p.block.0 last))) ≡ false = quiet last h.behind lt in
          cc
      at (inr le) (inl lt) = let none : list_any (concerns c v) (marks_of facts f (Inst (point_at p.block.0 n))) ≡ false = h.quiet n behind lt in cc
      at (inr le) (inr ge) = let same : last ≡ n = omega arith in not (subst (λ x. IsDestroy f (point_at p.block.0 x) v) same h.destroyed)

  -- where no instruction of the block has one, none is
  pub none_behind : (block : Block) (n : ℕ) → slice_get f.blocks p.block.0 ≡ Some block → length block.insts ≤ n → IsQuietBefore facts f p c v n → (last : ℕ) → IsDestroyedNext facts f p c v last → ⊥
  none_behind block n there le quiet last h =
      let stands : slice_get block.insts last ≡ Some h.destroyed.inst = sym (ap (λ o. inst_in o last) there) ∙ h.destroyed.stands in
      let within : last < length block.insts = slice_get_within block.insts last h.destroyed.inst stands in
      let shown : list_any (concerns c v) (marks_of facts f (Inst (point_at p.block.0 last))) ≡ true = destroy_shown facts f (point_at p.block.0 last) c v owned h.destroyed in
      let none : list_any (concerns c v) (marks_of facts f (Inst (point_at p.block.0 last))) ≡ false = quiet last h.behind (omega arith) in
      cc

  pub none_without : slice_get f.blocks p.block.0 ≡ None → (last : ℕ) → IsDestroyedNext facts f p c v last → ⊥
  none_without there last h = let wrong : None ≡ Some h.destroyed.inst = sym (ap (λ o. inst_in o last) there) ∙ h.destroyed.stands in cc

-- one index more
pub quiet_more : (facts : ValueId → Option Facts) (f : Function) (p : PointId) (c v : ValueId) (n : ℕ) → IsQuietBefore facts f p c v n →
    list_any (concerns c v) (marks_of facts f (Inst (point_at p.block.0 n))) ≡ false → IsQuietBefore facts f p c v (n + 1)
quiet_more facts f p c v n quiet here k behind lt = at (cases_lt k n)
  where
    at : (k < n) ⊎ (n ≤ k) → list_any (concerns c v) (marks_of facts f (Inst (point_at p.block.0 k))) ≡ false
    at (inl less) = quiet k behind less
    at (inr le) = let same : n ≡ k = omega arith in subst (λ x. list_any (concerns c v) (marks_of facts f (Inst (point_at p.block.0 x))) ≡ false) same here

-- by facts that tell the same
pub next_same : (a b : ValueId → Option Facts) → ((v : ValueId) → known_or a v ≡ known_or b v) → (f : Function) (p : PointId) (c v : ValueId) (last : ℕ) → IsDestroyedNext a f p c v last
    → IsDestroyedNext b f p c v last
next_same a b same f p c v last h = record {
  behind = h.behind;
  destroyed = h.destroyed;
  quiet = λ k behind lt. ap (list_any (concerns c v)) (sym (same_marks a b same f (Inst (point_at p.block.0 k)))) ∙ h.quiet k behind lt;
}

-- whether the copy can become a move
module _ (f : Function) (k : Known) (facts : ValueId → Option Facts) (told : (v : ValueId) → facts_of k v ≡ known_or facts v) (p : PointId) (c v : ValueId) where
  pub not_movable : ((last : ℕ) → IsOwnedUpTo k f p c v last → ⊥) → IsMovable facts f p c v → ⊥
  not_movable none h =
      none h.last
      (record {
        owned = ap (λ (x : Facts). is_owned x.kind) (told v) ∙ h.owned;
        next = next_same facts (told_at k.table) (λ w. sym (told w)) f p c v h.last h.next;
      })

  pub moves_by : (last : ℕ) → IsOwnedUpTo k f p c v last → IsUnlent facts f c v → IsMovableTo facts f p c v last
  moves_by last h unlent = record {
    movable = record {
      owned = sym (ap (λ (x : Facts). is_owned x.kind) (told v)) ∙ h.owned;
      unlent = unlent;
      last = last;
      next = next_same (told_at k.table) facts told f p c v last h.next;
    };
    there = refl;
  }

-- by what is known, of the next destroy

module _ (k : Known) (f : Function) (p : PointId) (c v : ValueId) where
  pub owned_some : is_owned (facts_of k v).kind ≡ true → (o : Option ℕ) → IfSome o (IsDestroyedNext (told_at k.table) f p c v) → IfSome o (IsOwnedUpTo k f p c v)
  owned_some owned None h = tt
  owned_some owned (Some last) h = record { owned = owned; next = h }

  pub owned_none : (o : Option ℕ) → IfNone o ((last : ℕ) → IsDestroyedNext (told_at k.table) f p c v last → ⊥) → IfNone o ((last : ℕ) → IsOwnedUpTo k f p c v last → ⊥)
  owned_none None h = λ last up. h last up.next
  owned_none (Some last) h = tt
