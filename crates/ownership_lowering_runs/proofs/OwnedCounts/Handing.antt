-- What is handed over to callees: what ends holds what begins.
use Rattle.std.proofs.Common.{◌≡◌, inl, inr, ℕ, ◌+◌, List, [], ◌∷◌, map, refl, sym, ap, ◌∙◌, subst, false, cond, Option, Some, None, arith}
use Rattle.std.specs.List.{AllZip}
use Rattle.argument_conventions.specs.Arguments.{Told, argument_type}
use Rattle.argument_conventions.specs.declared.convention.ArgumentConvention.{ArgumentConvention}
use Rattle.argument_conventions.specs.declared.convention.ArgumentConvention.TheVariants as convention
use Rattle.numbered_form.specs.Lists.{Each}
use Rattle.sil_ast.specs.declared.function.BlockArg.{BlockArg}
use Rattle.sil_ast.specs.declared.function.Function.{Function}
use Rattle.sil_ast.specs.declared.module.Module.{Module}
use Rattle.sil_ast.specs.declared.operands.Operand.{Operand}
use Rattle.sil_ast.specs.declared.place.FuncId.{FuncId}
use Rattle.sil_ast.specs.declared.place.ObjectId.{ObjectId}
use Rattle.sil_ast.specs.declared.place.ValueId.{ValueId}
use Rattle.sil_ast.specs.declared.type_name.TypeName.{TypeName}
use Rattle.sil_cfg_items.specs.Items.{arg_value}
use Rattle.sil_cfg_items.specs.Roles.{by_convention, taken_as, taken_each}
use Rattle.sil_cfg_items.specs.declared.taken.Taken.{Taken}
use Rattle.ownership_kinds_chains.specs.declared.ownership_chains.facts.Facts.{Facts}
use Rattle.ownership_kinds_chains.specs.OwnershipMarks.Marks.{ends_owned}
use Rattle.sil_types_declarations.specs.TypeDefinitions.Declarations.{Declarations, declarations_of}
use Rattle.sil_types_declarations.specs.declared.type_definitions.kind.Kind.TheVariants as kind
use Rattle.holder_model_values.specs.RunValues.Shapes.{shape_of}
use Rattle.sil_verifier_runs.specs.ownership_kinds_origins.Facts.{facts_in}
use Rattle.sil_types.specs.Typing.Shapes.{target}
use Rattle.sil_verifier_runs.specs.sil_verifier_values.inner.Handed.{Hands, IsHanded, IsToldOf, kind_told}
use Rattle.sil_verifier_runs.specs.sil_verifier_values.inner.Known.{IsAcceptedBody, kind_at, type_in}
use Rattle.sil_verifier_runs.specs.holder_model.RunTyping.EndForms.{value_in}
use Rattle.sil_verifier_runs.specs.holder_model.RunTyping.Forms.{OfValue, form_by, form_of, form_with}
use Rattle.sil_types.specs.Typing.Values.{function_at, value_functions}
use Rattle.sil_verifier_runs.proofs.sil_verifier_values.Addresses.{addresses_plain}
use Rattle.sil_verifier_runs.specs.holder_model.Calling.{as_argument}
use Rattle.sil_verifier_runs.specs.holder_model.Data.{AddressOf, Datum, FunctionOf, ValueOf}
use Rattle.sil_verifier_runs.specs.holder_model.Frames.{Entry}
use Rattle.sil_verifier_runs.specs.holder_model.Holders.{of_references}
use Rattle.sil_verifier_runs.specs.holder_model_laws.HolderLaws.inner.Counts.Naming.{in_datum}
use Rattle.sil_verifier_runs.specs.holder_model_laws.HolderLaws.inner.Counts.Taking.{owned_references, references_begun, references_ended, references_ended_by}
use Rattle.sil_verifier_runs.proofs.holder_model_laws.HolderLaws.Counts.Sums.{total_append}
use Rattle.ownership_lowering_laws.specs.holder_model_typing.TypedMemory.inner.Worlds.{World}
use Rattle.sil_verifier_runs.proofs.sil_verifier_frames.Typed.Data.{IsBare, read_value}
use Rattle.sil_verifier_runs.proofs.sil_verifier_frames.Typed.Entries.{FitEach, Fits}
use Rattle.ownership_lowering_runs.proofs.OwnedCounts.HandedOver.{AreArgumentsHanded, HasItsType}
use Rattle.ownership_lowering_runs.proofs.OwnedCounts.Taken.{IsTakenAs}
use Rattle.ownership_lowering_runs.proofs.OwnedCounts.TakenOwned.{ends_kind, keeps_one, taken_total}

-- an owned value is no address
no_target : (m : Module) (n : ℕ) (f : Function) → IsAcceptedBody m n f → (v : ValueId) (t : TypeName) → kind_at (declarations_of m) f v ≡ kind.Owned
    → type_in (declarations_of m) f v ≡ Some t → target t ≡ None
no_target m n f a v t is typed = at (target t) refl
  where
    at : (u : Option TypeName) → target t ≡ u → target t ≡ None
    at None e = e
    at (Some u) e = let two : kind.Owned ≡ kind.Plain = sym is ∙ addresses_plain m n f a v t u typed e in absurd (cc)

module _ (m : Module) (g : FuncId) (f : Function) (w : World) (entries : List Entry) where
  abbrev d : Declarations
  d = declarations_of m

  abbrev facts : ValueId → Option Facts
  facts = facts_in d f

  module _ (weight : ObjectId → ℕ) where
    -- a value without an owner, and no address, names nothing
    bare_none : (v : ValueId) (t : TypeName) (x : Datum) → kind_at d f v ≡ kind.Plain → type_in d f v ≡ Some t → target t ≡ None → Fits m w f v x → in_datum weight x ≡ 0
    bare_none v t x plain typed none fit =
        let form : form_of d f v ≡ OfValue (shape_of d t) = ap (λ o. form_by d o (function_at (value_functions f) v.0)) typed ∙ ap (form_with d t) none in
        let is = read_value m w fit.is (shape_of d t) form in
        let bare : IsBare (ValueOf is.0) = subst IsBare is.1 (fit.bare plain) in
        ap (in_datum weight) is.1 ∙ ap (of_references weight) bare

    -- ---- calls

    argument_names : (x : Datum) → in_datum weight (as_argument x) ≡ in_datum weight x
    argument_names (ValueOf x) = refl
    argument_names (AddressOf p) = refl
    argument_names (FunctionOf h) = refl

    module _ (h : FuncId) (callee : Function) (accepted : IsAcceptedBody m h.0 callee) where
      handed_one : (told : Told) (o : Operand) (a : BlockArg) (x : Datum) → IsHanded d f told o → IsToldOf d callee told a → HasItsType d callee a
          → IsTakenAs facts entries (taken_as o (by_convention told.convention)) x → Fits m w f o.value x
          → of_references weight (references_ended_by facts entries (taken_as o (by_convention told.convention))) ≡ of_references weight (owned_references (kind_at d callee a.value) (as_argument x))
      handed_one told o a x hands is typed taken fit = at told.convention refl hands.hands is.has_kind
        where
          t : Taken
          t = taken_as o (by_convention told.convention)

          stays : (c : ArgumentConvention) → told.convention ≡ c → ends_owned (by_convention c).role ≡ false
              → of_references weight (references_ended_by facts entries (taken_as o (by_convention told.convention))) ≡ 0
          stays c e kept = keeps_one facts entries weight (taken_as o (by_convention told.convention)) x taken (inl (ap (λ k. ends_owned (by_convention k).role) e ∙ kept))

          at : (c : ArgumentConvention) → told.convention ≡ c → Hands d f c o.value → kind_at d callee a.value ≡ kind_told c
              → of_references weight (references_ended_by facts entries (taken_as o (by_convention told.convention)))
              ≡ of_references weight (owned_references (kind_at d callee a.value) (as_argument x))
          at convention.Plain e hands k = stays convention.Plain e refl ∙ ap (λ k. of_references weight (owned_references k (as_argument x))) (sym k)
          at convention.Guaranteed e hands k = stays convention.Guaranteed e refl ∙ ap (λ k. of_references weight (owned_references k (as_argument x))) (sym k)
          at (convention.Address c) e hands k = stays (convention.Address c) e refl ∙ ap (λ k. of_references weight (owned_references k (as_argument x))) (sym k)
          at convention.Owned e (inl owned) k =
              taken_total facts entries weight (taken_as o (by_convention told.convention)) x taken
              ∙ ap (λ c. cond (ends_kind (kind_at d f o.value) (by_convention c).role) (of_references weight (owned_references (kind_at d f o.value) x)) 0) e
              ∙ ap (λ q. cond (ends_kind q (by_convention convention.Owned).role) (of_references weight (owned_references q x)) 0) owned
              ∙ sym (argument_names x) ∙ ap (λ k. of_references weight (owned_references k (as_argument x))) (sym k)
          at convention.Owned e (inr plain) k =
              keeps_one facts entries weight (taken_as o (by_convention told.convention)) x taken (inr (λ q. let two : kind.Plain ≡ kind.Owned = sym plain ∙ q in cc))
              ∙ sym (bare_none o.value (argument_type told) x plain hands.typed (ap target (sym is.typed) ∙ no_target m h.0 callee accepted a.value a.ty k typed) fit)
              ∙ sym (argument_names x) ∙ ap (λ k. of_references weight (owned_references k (as_argument x))) (sym k)

      calls : (tolds : List Told) (os : List Operand) (args : List BlockArg) (xs : List Datum) → AllZip (IsHanded d f) tolds os → AllZip (IsToldOf d callee) tolds args
          → Each (HasItsType d callee) args → AllZip (IsTakenAs facts entries) (taken_each os (map by_convention (map (λ (a : Told). a.convention) tolds))) xs → FitEach m w f (map value_in os) xs
          → of_references weight (references_ended facts entries (taken_each os (map by_convention (map (λ (a : Told). a.convention) tolds))))
          ≡ of_references weight (references_begun (facts_in d callee) (map arg_value args) (map as_argument xs))
      calls [] [] [] xs hands is typed taken fits = refl
      calls [] (o ∷ os) args xs hands is typed taken fits = absurd hands
      calls [] [] (a ∷ args) xs hands is typed taken fits = absurd is
      calls (told ∷ tolds) [] args xs hands is typed taken fits = absurd hands
      calls (told ∷ tolds) (o ∷ os) [] xs hands is typed taken fits = absurd is
      calls (told ∷ tolds) (o ∷ os) (a ∷ args) [] hands is typed taken fits = absurd taken
      calls (told ∷ tolds) (o ∷ os) (a ∷ args) (x ∷ xs) hands is typed taken (FitEach.more _ _ _ _ fit fits) =
          let us = taken_each os (map by_convention (map (λ (b : Told). b.convention) tolds)) in
          let ended : of_references weight (references_ended facts entries (taken_as o (by_convention told.convention) ∷ us))
          ≡ of_references weight (references_ended_by facts entries (taken_as o (by_convention told.convention))) + of_references weight (references_ended facts entries us) =
          total_append weight (references_ended_by facts entries (taken_as o (by_convention told.convention))) (references_ended facts entries us) in
          let begun : of_references weight (references_begun (facts_in d callee) (map arg_value (a ∷ args)) (map as_argument (x ∷ xs)))
          ≡ of_references weight (owned_references (kind_at d callee a.value) (as_argument x)) + of_references weight (references_begun (facts_in d callee) (map arg_value args) (map as_argument xs)) =
          total_append weight (owned_references (kind_at d callee a.value) (as_argument x)) (references_begun (facts_in d callee) (map arg_value args) (map as_argument xs)) in
          let first = handed_one told o a x hands.0 is.0 typed.0 taken.0 fit in
          let rest = calls tolds os args xs hands.1 is.1 typed.1 taken.1 fits in
          omega (arith, ended, begun, first, rest)

pub arguments_handed : AreArgumentsHanded
arguments_handed m g h f callee accepted w entries tolds os args xs hands is typed taken fits weight =
    calls m g f w entries weight h callee accepted tolds os args xs hands is typed taken fits
