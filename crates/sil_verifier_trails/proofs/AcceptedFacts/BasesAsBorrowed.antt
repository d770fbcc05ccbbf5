-- What an open scope borrows from hasn't begun anew: an Owned value is held, a scope is open, and an argument of the entry begins once.
use Rattle.std.proofs.Common.{◌≡◌, ◌<◌, ℕ, zero, suc, List, [], ◌∷◌, length, map, refl, sym, ap, ◌∙◌, subst, arith, Bool, true, false, not, ◌&&◌, ◌||◌, ◌⊎◌, inl, inr, Option, Some, None}
use Rattle.std.specs.Prelude.{◌==◌, option_map, slice_get}
use Rattle.std.specs.List.{list_any}
use Rattle.std.proofs.lemmas.Bool.{and_parts, cases_Bool, eqb-true, false≢true, or_cases}
use Rattle.std.proofs.lemmas.Option.{same_Some, slice_get-map}
use Rattle.sil_verifier_trails.specs.AcceptedFacts.inner.OpenScopes.{AreBasesAsBorrowed, IsAsBorrowed}
use Rattle.sil_verifier_trails.proofs.AcceptedFacts.BorrowedUsed.{held_while_borrowed, open_while_borrowed}
use Rattle.sil_cfg_items.specs.Items.{arg_value, item_defined, item_taken}
use Rattle.sil_verifier_values.specs.ownership_kinds_chains.OwnershipChains.Facts.{has, is_owned, known_or}
use Rattle.sil_verifier_values.specs.ownership_kinds_chains.declared.ownership_chains.facts.Facts.{Facts}
use Rattle.sil_ast.specs.Blocks.{args_of}
use Rattle.sil_ast.specs.declared.function.BlockArg.{BlockArg}
use Rattle.sil_ast.specs.declared.function.Function.{Function}
use Rattle.sil_ast.specs.declared.module.Module.{Module}
use Rattle.sil_ast.specs.declared.place.ValueId.{ValueId}
use Rattle.sil_cfg.specs.declared.item.Item.{Item}
use Rattle.sil_cfg.specs.declared.item.Item.TheVariants as items
use Rattle.sil_verifier_values.specs.sil_types_declarations.TypeDefinitions.Declarations.{Declarations, declarations_of}
use Rattle.sil_verifier_values.specs.sil_types_declarations.declared.type_definitions.kind.Kind.{Kind}
use Rattle.sil_verifier_values.specs.sil_types_declarations.declared.type_definitions.kind.Kind.TheVariants as kind
use Rattle.numbered_form.specs.ValueTables.Borrows.{is_borrow, lent_by}
use Rattle.sil_verifier_values.specs.borrow_scopes.Scopes.{bases_in}
use Rattle.sil_verifier_values.specs.ownership_kinds_origins.Facts.{facts_in}
use Rattle.sil_verifier_trails.specs.AcceptedTrails.inner.Accepted.{IsAcceptedIn}
use Rattle.sil_verifier_trails.specs.AcceptedTrails.inner.Bases.{IsBaseOf}
use Rattle.sil_verifier_trails.specs.AcceptedTrails.inner.Defined.{makes}
use Rattle.sil_verifier_trails.specs.AcceptedTrails.inner.Lives.{BorrowsFrom, IsOwnedIn, IsScopeIn, is_open}
use Rattle.sil_verifier_trails.specs.AcceptedTrails.inner.Passing.{IsPassed, behind, is_begin, is_end, left_by}
use Rattle.sil_verifier_trails.specs.RunTrails.inner.RunTrails.{IsNext, IsRunTrail, IsTurnedTrail}
use Rattle.sil_verifier_trails.specs.RunTrails.inner.Since.{is_none_since}
use Rattle.sil_verifier_values.specs.inner.Bases.{IsLender}
use Rattle.sil_verifier_values.specs.inner.Known.{IsAcceptedBody, kind_at}
use Rattle.sil_verifier_values.specs.inner.Making.{Makes}
use Rattle.sil_verifier_trails.proofs.AcceptedPremises.MadeAtStops.{makes_so}
use Rattle.sil_verifier_trails.proofs.AcceptedTrails.BasesOpen.{made_where_begun}
use Rattle.sil_verifier_trails.proofs.AcceptedTrails.ScopesPassed.{scopes_passed}
use Rattle.sil_verifier_trails.proofs.AcceptedTrails.Tests.{or_right, same_value}
use Rattle.sil_verifier_trails.proofs.AcceptedTrails.Unbroken.{are_accepted}
use Rattle.sil_verifier_trails.proofs.RunTrails.RunPaths.{are_trails}
use Rattle.sil_verifier_values.proofs.Addresses.{addresses_of_lenders}
use Rattle.sil_verifier_values.proofs.Based.{based, lent_by_lenders, owned_own_bases}
use Rattle.sil_verifier_values.proofs.Borrowed.{number_of_parameter}
use Rattle.sil_verifier_values.proofs.Made.{parameters_of_entry}
use Rattle.numbered_form.proofs.Lists.{contained}
use Rattle.sil_verifier_trails.proofs.ScopedAddresses.OwnScopes.{own_scope}

arg_at : (args : List BlockArg) (k : ℕ) → k < length args → (x : BlockArg) × (slice_get args k ≡ Some x)
arg_at [] k lt = absurd (omega arith)
arg_at (x ∷ args) zero lt = (x, refl)
arg_at (x ∷ args) (suc k) lt = arg_at args k (omega arith)

-- the entry item comes first alone
not_entry : (f : Function) (t : List Item) → (t ≡ [] → ⊥) → IsNext f t items.Entry → ⊥
not_entry f [] begun h = begun refl
not_entry f (items.Entry ∷ t) begun h = h
not_entry f (items.Inst p ∷ t) begun h = h
not_entry f (items.Edge e ∷ t) begun h = h
not_entry f (items.Exit p ∷ t) begun h = h

module _ (m : Module) (n : ℕ) (f : Function) (a : IsAcceptedBody m n f) (s : ValueId) where
  abbrev d : Declarations
  d = declarations_of m

  accepted : IsAcceptedIn d f
  accepted = are_accepted m n f a.verified a.body

  turned : (t : List Item) → IsRunTrail f t → IsTurnedTrail f t
  turned t h = are_trails f accepted.once t h

  module _ (scope : IsScopeIn d f s) where
    closed : is_open d f s [] ≡ Some true → ⊥
    closed e = false≢true (same_Some false true e)

    -- an item behind which the scope is open opens it, or finds it open
    opened_or_was : (t : List Item) (i : Item) → IsTurnedTrail f (i ∷ t) → is_open d f s (i ∷ t) ≡ Some true → (makes f s i ≡ true) ⊎ (is_open d f s t ≡ Some true)
    opened_or_was t i h opened =
        by (or_cases (list_any (is_begin (facts_in d f) s) (item_defined f i)) (left_by (facts_in d f) s f i passing.on) left)
      where
        passing : IsPassed (facts_in d f) s (is_open d f s) f t i
        passing = scopes_passed d f accepted s scope t i h

        left : behind (facts_in d f) s f i passing.on ≡ true
        left = same_Some (behind (facts_in d f) s f i passing.on) true (sym passing.is_left ∙ opened)

        by : (list_any (is_begin (facts_in d f) s) (item_defined f i) ≡ true) ⊎ (left_by (facts_in d f) s f i passing.on ≡ true)
            → (makes f s i ≡ true) ⊎ (is_open d f s t ≡ Some true)
        by (inl begun) = inl (made_where_begun (facts_in d f) s f i begun)
        by (inr stays) = inr (passing.was ∙ ap (λ (b : Bool). Some b) (and_parts passing.on (not (list_any (is_end (facts_in d f) s) (item_taken f i))) stays).0)

    module _ (b : ValueId) where
      -- ---- an argument of the entry

      module _ (among : b.0 < length (args_of f 0)) where
        of_entry : Makes f items.Entry b
        of_entry =
            let x = arg_at (args_of f 0) b.0 among in
            let is : x.0.value ≡ b = same_value x.0.value b (number_of_parameter m n f a b.0 x.0 x.1) in
            contained (map arg_value (args_of f 0)) b.0 b (slice_get-map arg_value (args_of f 0) b.0 ∙ ap (option_map arg_value) x.1 ∙ ap (λ (v : ValueId). Some v) is)

        argument_since : (t : List Item) → IsRunTrail f t → is_open d f s t ≡ Some true → IsAsBorrowed f t b s
        argument_since [] h opened = absurd (closed opened)
        argument_since (i ∷ t) h opened = by (argument_since t h.1) (opened_or_was t i (turned (i ∷ t) h) opened)
          where
            not_made : is_open d f s t ≡ Some true → makes f b i ≡ false
            not_made was = at (cases_Bool (makes f b i))
              where
                at : (makes f b i ≡ true) ⊎ (makes f b i ≡ false) → makes f b i ≡ false
                at (inr none) = none
                at (inl made) =
                    let entry = parameters_of_entry m n f a i b of_entry (makes_so f b i made) in
                    absurd (not_entry f t (λ none. closed (ap (is_open d f s) (sym none) ∙ was)) (subst (IsNext f t) entry h.0))

            by : (is_open d f s t ≡ Some true → IsAsBorrowed f t b s) → (makes f s i ≡ true) ⊎ (is_open d f s t ≡ Some true) → IsAsBorrowed f (i ∷ t) b s
            by more (inl made) = ap (λ x. x || (not (makes f b i) && is_none_since (makes f b) (makes f s) t)) made
            by more (inr was) =
                or_right (makes f s i) (not (makes f b i) && is_none_since (makes f b) (makes f s) t)
                (ap (λ x. not x && is_none_since (makes f b) (makes f s) t) (not_made was) ∙ more was)

      -- ---- by the kind of what is lent

      module _ (from : BorrowsFrom d f s b) (t : List Item) (h : IsRunTrail f t) (opened : is_open d f s t ≡ Some true) where
        of_lender : IsLender d f b → IsAsBorrowed f t b s
        of_lender l = by l.opened
          where
            by : (is_borrow f b ≡ true) ⊎ (b.0 < length (args_of f 0)) → IsAsBorrowed f t b s
            by (inl borrow) = (open_while_borrowed m n f a s b scope (own_scope m n f a b borrow).scope from t (turned t h) opened).1
            by (inr among) = argument_since among t h opened

        of_value : (w : ValueId) → IsBaseOf d f b w → (k : Kind) → kind_at d f w ≡ k → IsAsBorrowed f t b s
        of_value w base kind.Owned e =
            let own = owned_own_bases m n f a w e in
            let among : has (w ∷ []) b.0 ≡ true = ap (λ (o : Option Facts). has (known_or (λ _. o) w).bases b.0) (sym own) ∙ base in
            let same : w ≡ b = same_value w b (eqb-true w.0 b.0 (first w among)) in
            (held_while_borrowed m n f a s b scope
            (subst (λ v. IsOwnedIn d f v) same (record { is_value = based m n f a w b base; owned = ap is_owned e })) from t (turned t h) opened).1
          where
            first : (v : ValueId) → has (v ∷ []) b.0 ≡ true → (v.0 == b.0) ≡ true
            first v e = at (v.0 == b.0) e
              where
                at : (x : Bool) → (x || false) ≡ true → x ≡ true
                at true e = refl
                at false e = absurd (false≢true e)
        of_value w base kind.Guaranteed e = of_lender (lent_by_lenders m n f a w b e base)
        of_value w base kind.Plain e = of_lender (addresses_of_lenders m n f a w b e base)

        of_lent : (o : Option ValueId) → has (bases_in (known_or (facts_in d f)) o) b.0 ≡ true → IsAsBorrowed f t b s
        of_lent None e = absurd (false≢true e)
        of_lent (Some w) base = of_value w base (kind_at d f w) refl

        as_borrowed : IsAsBorrowed f t b s
        as_borrowed = of_lent (lent_by f s.0) from

pub bases_as_borrowed : AreBasesAsBorrowed
bases_as_borrowed m n f a s b scope from t h opened = as_borrowed m n f a s scope b from t h opened
