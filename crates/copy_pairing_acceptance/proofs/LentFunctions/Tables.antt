-- The tables of values that are defined, of lives and of scopes: what they have for each value but the copy they had on the function.
use Rattle.std.proofs.Common.{◌≡◌, ℕ, List, [], ◌∷◌, ◌++◌, map, refl, sym, ap, ap₂, ◌∙◌, Bool, Option, Some, None, true, false}
use Rattle.std.specs.Prelude.{◌==◌, ◌&&◌, cond, filter_map, unwrap_or}
use Rattle.std.specs.List.{cons_option, flat_map, range_with_len}
use Rattle.std.proofs.lemmas.Bool.{eqb-true}
use Rattle.std.proofs.lemmas.List.Elements.{filter_map-append}
use Rattle.sil_verifier_trails.specs.borrow_scopes.Scopes as scopes
use Rattle.sil_verifier_trails.specs.borrow_scopes.Scopes.{bases_in, is_scope, lent_bases, lost_at_end, lost_entries, lost_from, lost_with, mark_entries, scope_entries, scopes_of}
use Rattle.sil_verifier_trails.specs.lifetime_worklist.Lives as lives
use Rattle.sil_verifier_trails.specs.lifetime_worklist.Lives.{lives_by, lives_of}
use Rattle.ownership_kinds_chains.specs.OwnershipChains.Facts.{facts_with, has, is_guaranteed, is_owned, known_or, value_of}
use Rattle.ownership_kinds_chains.specs.declared.ownership_chains.facts.Facts.{Facts}
use Rattle.copy_pairing_model.specs.ownership_kinds_origins.Facts.{facts_in}
use Rattle.ownership_kinds_chains.specs.OwnershipMarks.Marks.{marks_of}
use Rattle.ownership_kinds_chains.specs.declared.ownership_marks.mark.Mark.{Mark}
use Rattle.ownership_kinds_chains.specs.declared.ownership_marks.mark.MarkSort.{MarkSort}
use Rattle.ownership_kinds_chains.specs.declared.ownership_marks.mark.MarkSort.TheVariants.{End, Use, Begin}
use Rattle.reach_engine_marks.specs.PathChecks.Entries.{marks_for, means}
use Rattle.reach_engine_marks.specs.declared.path_checks.entry.Entry.{Entry}
use Rattle.sil_ast.specs.declared.function.Function.{Function}
use Rattle.sil_ast.specs.declared.place.PointId.{PointId}
use Rattle.sil_ast.specs.declared.place.ValueId.{ValueId}
use Rattle.sil_cfg.specs.Returns.{is_return}
use Rattle.sil_cfg.specs.declared.item.Item.{Item}
use Rattle.sil_types_declarations.specs.TypeDefinitions.Declarations.{Declarations}
use Rattle.sil_types_declarations.specs.declared.type_definitions.kind.Kind.TheVariants as kind
use Rattle.value_availability.specs.Accesses.{accesses_of, begun as defined_argument, defined, used}
use Rattle.numbered_form.specs.ValueTables.Borrows.{borrows, lends, lent_by}
use Rattle.copy_pairing_model.specs.Rewritten.{lent}
use Rattle.copy_pairing_acceptance.proofs.LentFunctions.Avoided.{IsOther}
use Rattle.copy_pairing_acceptance.proofs.LentFunctions.Facts.{bases_lent, copy_facts, other_facts}
use Rattle.copy_pairing_acceptance.proofs.LentFunctions.Graph.{return_lent}
use Rattle.copy_pairing_acceptance.proofs.LentFunctions.KindRules.{borrow_other}
use Rattle.copy_pairing_acceptance.proofs.LentFunctions.Marks.{marks_lent}
use Rattle.copy_pairing_acceptance.proofs.LentFunctions.Parts.{arguments_lent, handover_lent, operands_lent, results_lent}
use Rattle.copy_pairing_acceptance.proofs.LentFunctions.Ready.{Ready}
use Rattle.copy_pairing_acceptance.proofs.LentFunctions.ValueRows.{same_value}

-- ---- what is defined

pub accesses_lent : (c : ValueId) (f : Function) (item : Item) → accesses_of (lent c f) item ≡ accesses_of f item
accesses_lent c f item =
    ap₂ (λ x y. x ++ map defined_argument y)
    (ap₂ (λ x y. x ++ map defined y) (ap₂ (λ x y. map used x ++ map used y) (operands_lent c f item) (handover_lent c f item)) (results_lent c f item))
    (arguments_lent c f item)

-- ---- entries of one subject

module _ (s : ℕ) where
  none_of : (e : Entry) (b : Bool) → (e.subject == s) ≡ false → filter_map (means s) (cond b (e ∷ []) []) ≡ []
  none_of e true q = ap (λ own. cons_option (cond own (Some e.mark) None) []) q
  none_of e false q = refl

  -- whether an entry of another subject is there doesn't count
  pub one_same : (e : Entry) (a b : Bool) → (e.subject ≡ s → a ≡ b) → filter_map (means s) (cond a (e ∷ []) []) ≡ filter_map (means s) (cond b (e ∷ []) [])
  one_same e a b h = by (e.subject == s) refl
    where
      by : (own : Bool) → (e.subject == s) ≡ own → filter_map (means s) (cond a (e ∷ []) []) ≡ filter_map (means s) (cond b (e ∷ []) [])
      by true q = ap (λ x. filter_map (means s) (cond x (e ∷ []) [])) (h (eqb-true e.subject s q))
      by false q = none_of e a q ∙ sym (none_of e b q)

  pub flat_same : {X : Type 0} (p q : X → List Entry) → ((x : X) → filter_map (means s) (p x) ≡ filter_map (means s) (q x)) → (xs : List X)
      → filter_map (means s) (flat_map p xs) ≡ filter_map (means s) (flat_map q xs)
  flat_same p q h [] = refl
  flat_same p q h (x ∷ xs) =
      filter_map-append (means s) (p x) (flat_map p xs) ∙ ap₂ (λ a b. a ++ b) (h x) (flat_same p q h xs) ∙ sym (filter_map-append (means s) (q x) (flat_map q xs))

  pub flat_none : {X : Type 0} (p : X → List Entry) → ((x : X) → filter_map (means s) (p x) ≡ []) → (xs : List X) → filter_map (means s) (flat_map p xs) ≡ []
  flat_none p h [] = refl
  flat_none p h (x ∷ xs) = filter_map-append (means s) (p x) (flat_map p xs) ∙ ap₂ (λ a b. a ++ b) (h x) (flat_none p h xs)

module _ (d : Declarations) (f : Function) (p : PointId) (c v : ValueId) (r : Ready d f p c v) where
  abbrev pub facts : ValueId → Facts
  facts = known_or (facts_in d f)

  abbrev pub lent_facts : ValueId → Facts
  lent_facts = known_or (facts_in d (lent c f))

  known_other : (w : ValueId) → IsOther c w → lent_facts w ≡ facts w
  known_other w e = ap (λ (o : Option Facts). unwrap_or o (facts_with kind.Plain [])) (other_facts d f p c v r w e)

  pub known_copy : facts c ≡ facts_with kind.Owned (c ∷ [])
  known_copy = ap (λ (o : Option Facts). unwrap_or o (facts_with kind.Plain [])) r.owned

  pub known_lent : lent_facts c ≡ facts_with kind.Guaranteed (c ∷ [])
  known_lent = ap (λ (o : Option Facts). unwrap_or o (facts_with kind.Plain [])) (copy_facts d f p c v r)

  pub not_owned : (w : ValueId) → w.0 ≡ c.0 → is_owned (lent_facts w).kind ≡ false
  not_owned w e = ap (λ (x : Facts). is_owned x.kind) (ap lent_facts (same_value w c e) ∙ known_lent)

  scope_other : (w : ValueId) → IsOther c w → is_scope (lent c f) lent_facts w ≡ is_scope f facts w
  scope_other w e = ap₂ (λ a b. a && b) (ap (λ (x : Facts). is_guaranteed x.kind) (known_other w e)) (ap borrows (borrow_other d f p c v r w e))

  pub bases_same : (o : Option ValueId) → bases_in lent_facts o ≡ bases_in facts o
  bases_same None = refl
  bases_same (Some u) = bases_lent d f p c v r u

  lent_bases_other : (k : ℕ) → (k == c.0) ≡ false → lent_bases (lent c f) lent_facts k ≡ lent_bases f facts k
  lent_bases_other k e = ap (λ b. bases_in lent_facts (lends b)) (borrow_other d f p c v r (value_of k) e) ∙ bases_same (lent_by f k)

  -- ---- a value other than the copy

  module _ (n s : ℕ) (other : (s == c.0) ≡ false) where
    is_other : (w : ValueId) → w.0 ≡ s → IsOther c w
    is_other w e = ap (λ k. k == c.0) e ∙ other

    life_same : (m : Mark) → filter_map (means s) (lives_by lent_facts m) ≡ filter_map (means s) (lives_by facts m)
    life_same m =
        one_same s (lives.entry_of m) (is_owned (lent_facts m.subject).kind) (is_owned (facts m.subject).kind)
        (λ e. ap (λ (x : Facts). is_owned x.kind) (known_other m.subject (is_other m.subject e)))

    left_same : (b : Bool) → filter_map (means s) (lives.returned lent_facts n b) ≡ filter_map (means s) (lives.returned facts n b)
    left_same true =
        flat_same s (lives.leaves lent_facts) (lives.leaves facts)
        (λ k. one_same s (lives.left_at_return k) (is_owned (lent_facts (value_of k)).kind) (is_owned (facts (value_of k)).kind)
        (λ e. ap (λ (x : Facts). is_owned x.kind) (known_other (value_of k) (is_other (value_of k) e)))) (range_with_len 0 n)
    left_same false = refl

    pub lives_same : (item : Item) → marks_for s (lives_of n (facts_in d (lent c f)) (lent c f)) item ≡ marks_for s (lives_of n (facts_in d f) f) item
    lives_same item =
        filter_map-append (means s) (flat_map (lives_by lent_facts) (marks_of (facts_in d (lent c f)) (lent c f) item)) (lives.returned lent_facts n (is_return (lent c f) item))
        ∙ ap₂ (λ a b. a ++ b)
        (ap (λ ms. filter_map (means s) (flat_map (lives_by lent_facts) ms)) (marks_lent d f p c v r item)
        ∙ flat_same s (lives_by lent_facts) (lives_by facts) life_same (marks_of (facts_in d f) f item))
        (ap (λ b. filter_map (means s) (lives.returned lent_facts n b)) (return_lent c f item) ∙ left_same (is_return f item))
        ∙ sym (filter_map-append (means s) (flat_map (lives_by facts) (marks_of (facts_in d f) f item)) (lives.returned facts n (is_return f item)))

    scope_same : (m : Mark) → filter_map (means s) (scope_entries (lent c f) lent_facts m) ≡ filter_map (means s) (scope_entries f facts m)
    scope_same m =
        one_same s (scopes.entry_of m) (is_scope (lent c f) lent_facts m.subject) (is_scope f facts m.subject) (λ e. scope_other m.subject (is_other m.subject e))

    lost_same : (u : ValueId) (x : MarkSort) → filter_map (means s) (lost_with (lent c f) lent_facts n u x) ≡ filter_map (means s) (lost_with f facts n u x)
    lost_same u End =
        flat_same s (lost_from (lent c f) lent_facts u) (lost_from f facts u)
        (λ k. one_same s (lost_at_end k) (has (lent_bases (lent c f) lent_facts k) u.0) (has (lent_bases f facts k) u.0)
        (λ e. ap (λ bs. has bs u.0) (lent_bases_other k (ap (λ j. j == c.0) e ∙ other)))) (range_with_len 0 n)
    lost_same u Use = refl
    lost_same u Begin = refl

    mark_same : (m : Mark) → filter_map (means s) (mark_entries (lent c f) lent_facts n m) ≡ filter_map (means s) (mark_entries f facts n m)
    mark_same m =
        filter_map-append (means s) (scope_entries (lent c f) lent_facts m) (lost_entries (lent c f) lent_facts n m)
        ∙ ap₂ (λ a b. a ++ b) (scope_same m) (lost_same m.subject m.sort)
        ∙ sym (filter_map-append (means s) (scope_entries f facts m) (lost_entries f facts n m))

    open_same : (b : Bool) → filter_map (means s) (scopes.returned (lent c f) lent_facts n b) ≡ filter_map (means s) (scopes.returned f facts n b)
    open_same true =
        flat_same s (scopes.leaves (lent c f) lent_facts) (scopes.leaves f facts)
        (λ k. one_same s (scopes.left_at_return k) (is_scope (lent c f) lent_facts (value_of k)) (is_scope f facts (value_of k))
        (λ e. scope_other (value_of k) (is_other (value_of k) e))) (range_with_len 0 n)
    open_same false = refl

    pub scopes_same : (item : Item) → marks_for s (scopes_of n (facts_in d (lent c f)) (lent c f)) item ≡ marks_for s (scopes_of n (facts_in d f) f) item
    scopes_same item =
        filter_map-append (means s) (flat_map (mark_entries (lent c f) lent_facts n) (marks_of (facts_in d (lent c f)) (lent c f) item))
        (scopes.returned (lent c f) lent_facts n (is_return (lent c f) item))
        ∙ ap₂ (λ a b. a ++ b)
        (ap (λ ms. filter_map (means s) (flat_map (mark_entries (lent c f) lent_facts n) ms)) (marks_lent d f p c v r item)
        ∙ flat_same s (mark_entries (lent c f) lent_facts n) (mark_entries f facts n) mark_same (marks_of (facts_in d f) f item))
        (ap (λ b. filter_map (means s) (scopes.returned (lent c f) lent_facts n b)) (return_lent c f item) ∙ open_same (is_return f item))
        ∙ sym (filter_map-append (means s) (flat_map (mark_entries f facts n) (marks_of (facts_in d f) f item)) (scopes.returned f facts n (is_return f item)))

  -- ---- the copy, which lives no more

  module _ (n : ℕ) where
    gone : (b : Bool) → filter_map (means c.0) (lives.returned lent_facts n b) ≡ []
    gone true =
        flat_none c.0 (lives.leaves lent_facts)
        (λ k. one_same c.0 (lives.left_at_return k) (is_owned (lent_facts (value_of k)).kind) false (λ e. not_owned (value_of k) e)) (range_with_len 0 n)
    gone false = refl

    pub copy_gone : (item : Item) → marks_for c.0 (lives_of n (facts_in d (lent c f)) (lent c f)) item ≡ []
    copy_gone item =
        filter_map-append (means c.0) (flat_map (lives_by lent_facts) (marks_of (facts_in d (lent c f)) (lent c f) item)) (lives.returned lent_facts n (is_return (lent c f) item))
        ∙ ap₂ (λ a b. a ++ b)
        (flat_none c.0 (lives_by lent_facts) (λ m. one_same c.0 (lives.entry_of m) (is_owned (lent_facts m.subject).kind) false (λ e. not_owned m.subject e))
        (marks_of (facts_in d (lent c f)) (lent c f) item))
        (gone (is_return (lent c f) item))
