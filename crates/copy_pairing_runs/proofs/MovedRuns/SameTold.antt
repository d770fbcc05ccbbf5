-- What a run is told of a module is the same where a copy became a move.
use Rattle.std.proofs.Common.{◌≡◌, ℕ, zero, suc, List, [], ◌∷◌, length, map, refl, sym, ap, ap₂, ◌∙◌, Some}
use Rattle.std.specs.List.{range_with_len, slice_get}
use Rattle.std.proofs.lemmas.Option.{same_Some}
use Rattle.copy_pairing_acceptance.specs.copy_pairing_model.Rewritten.{changed_at, moved, with_function}
use Rattle.sil_ast.specs.declared.function.Function.{Function}
use Rattle.sil_ast.specs.declared.module.Module.{Module}
use Rattle.sil_ast.specs.declared.place.PointId.{PointId}
use Rattle.sil_ast.specs.declared.place.ValueId.{ValueId}
use Rattle.sil_types_declarations.specs.TypeDefinitions.Declarations.{Declarations, declarations_of}
use Rattle.sil_types.specs.Typing.Values.{arg_functions, arg_types, functions_by, result_functions, result_types, value_functions, value_types}
use Rattle.sil_types.specs.Typing.RowTypes.{made_types}
use Rattle.holder_model_laws.specs.ownership_kinds_origins.Facts.{facts_in}
use Rattle.sil_verifier_runs.specs.sil_verifier_accepted.AcceptedModules.inner.Checked.{IsVerified}
use Rattle.ownership_kinds_chains.specs.OwnershipChains.Facts.{value_of}
use Rattle.holder_model_laws.specs.holder_model.Calling.{value_count}
use Rattle.holder_model_laws.specs.holder_model.ModuleFacts.{ModuleFacts, facts_of, function_facts}
use Rattle.holder_model_laws.specs.holder_model.ModuleShapes.{function_shapes, value_shape}
use Rattle.copy_pairing_acceptance.proofs.MovedFunctions.InModule.{row_kept}
use Rattle.copy_pairing_acceptance.proofs.MovedFunctions.Places.{after}
use Rattle.copy_pairing_acceptance.proofs.MovedFunctions.SameFacts.{destroy_makes_none, facts_are}
use Rattle.copy_pairing_acceptance.proofs.MovedFunctions.Split.{IsSplit}
use Rattle.copy_pairing_acceptance.proofs.MovedFunctions.TheCopy.{copy_at, copy_makes, move_makes}
use Rattle.copy_pairing_acceptance.proofs.MovedFunctions.ValueRows.{rows_same}

same_map : {A B : Type 0} (tell : A → B) (change : A → A) (n : ℕ) (xs : List A) (x : A) → slice_get xs n ≡ Some x → tell (change x) ≡ tell x
    → map tell (changed_at n change xs) ≡ map tell xs
same_map tell change n [] x e same = refl
same_map tell change zero (y ∷ xs) x e same = ap (λ v. v ∷ map tell xs) (ap (λ z. tell (change z)) (same_Some y x e) ∙ same ∙ sym (ap tell (same_Some y x e)))
same_map tell change (suc n) (y ∷ xs) x e same = ap (λ v. tell y ∷ v) (same_map tell change n xs x e same)

module _ (m : Module) (n : ℕ) (f : Function) (verified : IsVerified m) (in_module : slice_get m.functions n ≡ Some f) {p : PointId} {last : ℕ}
    {c v : ValueId} (s : IsSplit f p last c v) where
  abbrev d : Declarations
  d = declarations_of m

  none : s.destroy.results ≡ []
  none = destroy_makes_none m n f verified in_module s

  pub functions_same : value_functions (after s) ≡ value_functions f
  functions_same = rows_same s arg_functions arg_functions result_functions (λ k xs. refl) refl (ap (functions_by s.destroy.function) none)

  pub count_same : value_count (after s) ≡ value_count f
  count_same = ap length functions_same

  types_same : value_types d (after s) ≡ value_types d f
  types_same =
      let kept = row_kept m n f verified in_module p.block.0 p.index s.copy (copy_at s) in
      rows_same s arg_types arg_types (result_types d) (λ k xs. refl)
      (ap (λ ts. map (slice_get ts) (range_with_len 0 (length s.copy.results))) (move_makes s d kept ∙ sym (copy_makes s d kept)))
      (ap (λ (rs : List ValueId). map (slice_get (made_types d s.destroy)) (range_with_len 0 (length rs))) none)

  shapes_same : function_shapes d (after s) ≡ function_shapes d f
  shapes_same = ap (map (value_shape d)) types_same

  told_same : function_facts d (after s) ≡ function_facts d f
  told_same =
      ap (λ k. map (λ w. facts_in d (after s) (value_of w)) (range_with_len 0 k)) count_same
      ∙ ap (λ facts. map (λ w. facts (value_of w)) (range_with_len 0 (value_count f))) (facts_are m n f verified in_module s)

  pub facts_same : facts_of (with_function n (moved p last) m) ≡ facts_of m
  facts_same =
      ap₂ (λ shapes facts. let told : ModuleFacts = record { shapes = record { functions = shapes; classes = (facts_of m).shapes.classes }; facts = facts } in told)
      (same_map (function_shapes d) (moved p last) n m.functions f in_module shapes_same)
      (same_map (function_facts d) (moved p last) n m.functions f in_module told_same)
