-- What lowering leaves of functions and vtables: signatures, which functions have bodies, and their deinitialisers.
use Rattle.std.proofs.Common.{◌≡◌, List, [], ◌∷◌, map, refl, sym, ap, ap₂, ◌∙◌, cond, Bool, true, false, not, Option, Some, None}
use Rattle.std.specs.Prelude.{◌&&◌, find, option_and_then, option_map, slice_get}
use Rattle.std.specs.List.{list_all}
use Rattle.std.specs.Option.{option_to_list}
use Rattle.std.proofs.lemmas.Option.{slice_get-map}
use Rattle.sil_ast.specs.declared.function.Form.{Form}
use Rattle.sil_ast.specs.declared.function.Form.TheVariants.{Ossa, Lowered, External}
use Rattle.sil_ast.specs.declared.function.Function.{Function}
use Rattle.sil_ast.specs.declared.module.Module.{Module}
use Rattle.sil_ast.specs.declared.place.FuncId.{FuncId}
use Rattle.sil_ast.specs.declared.vtable.DeinitEntry.{DeinitEntry}
use Rattle.sil_ast.specs.declared.vtable.Vtable.{Vtable}
use Rattle.numbered_form.specs.Names.{Name}
use Rattle.sil_types_declarations.specs.TypeDefinitions.Declarations.{Declarations, declarations_of}
use Rattle.holder_model_typing.specs.sil_types.Typing.FormRules.{first_form, form_of, has_body, is_same_form, mixes_forms}
use Rattle.holder_model_typing.specs.sil_types.Typing.RowTypes.{passes}
use Rattle.holder_model_typing.specs.sil_types.Typing.SignatureRules.{deinit_signature, has_wrong_deinitialiser, is_deinitialiser, is_external, names_deinitialiser, signature_of}
use Rattle.holder_model_typing.specs.sil_types.Typing.Same.{is_same_signature}
use Rattle.ownership_lowering_model.specs.LoweredModules.{lowered, lowered_by, lowered_function}

module _ (d : Declarations) (f : Function) where
  by_form : (x : Form) → (lowered_by x d f).signature ≡ f.signature
  by_form Ossa = refl
  by_form Lowered = refl
  by_form External = refl

  pub signature_stays : (lowered_function d f).signature ≡ f.signature
  signature_stays = by_form f.form

  pub body_stays : is_external (lowered_function d f).form ≡ is_external f.form
  body_stays = at f.form refl
    where
      at : (x : Form) → f.form ≡ x → is_external (lowered_by x d f).form ≡ is_external f.form
      at Ossa e = ap is_external (sym e)
      at Lowered e = refl
      at External e = refl

  deinit_stays : (class : Name) → is_deinitialiser class (lowered_function d f) ≡ is_deinitialiser class f
  deinit_stays class = ap₂ (λ a s. not a && is_same_signature s (deinit_signature class)) body_stays signature_stays

module _ (m : Module) where
  abbrev d : Declarations
  d = declarations_of m

  pub signatures_stay : (g : FuncId) → signature_of (lowered m) g ≡ signature_of m g
  signatures_stay g = ap (option_map (λ (f : Function). f.signature)) (slice_get-map (lowered_function d) m.functions g.0) ∙ at (slice_get m.functions g.0)
    where
      at : (o : Option Function) → option_map (λ (f : Function). f.signature) (option_map (lowered_function d) o) ≡ option_map (λ (f : Function). f.signature) o
      at None = refl
      at (Some f) = ap (λ s. Some s) (signature_stays d f)

  pub signatures_behind : (g : Option FuncId) → option_and_then (signature_of (lowered m)) g ≡ option_and_then (signature_of m) g
  signatures_behind None = refl
  signatures_behind (Some g) = signatures_stay g

  -- 208
  deinit_named : (class : Name) (e : DeinitEntry) → names_deinitialiser (lowered m) class e ≡ names_deinitialiser m class e
  deinit_named class e =
      ap (passes (is_deinitialiser class)) (slice_get-map (lowered_function d) m.functions e.function.0) ∙ at (slice_get m.functions e.function.0)
    where
      at : (o : Option Function) → passes (is_deinitialiser class) (option_map (lowered_function d) o) ≡ passes (is_deinitialiser class) o
      at None = refl
      at (Some f) = deinit_stays d f class

  pub deinits_stay : (v : Vtable) → has_wrong_deinitialiser (lowered m) v ≡ has_wrong_deinitialiser m v
  unfolding has_wrong_deinitialiser
  deinits_stay v = ap not (at v.entry)
    where
      at : (o : Option DeinitEntry)
          → list_all (names_deinitialiser (lowered m) v.class_name) (option_to_list o) ≡ list_all (names_deinitialiser m v.class_name) (option_to_list o)
      at None = refl
      at (Some e) = ap (λ b. b && true) (deinit_named v.class_name e)

  -- ---- 207: no function is in ownership form any more

  lowered_form : (f : Function) → is_external (lowered_function d f).form ≡ false → (lowered_function d f).form ≡ Lowered
  lowered_form f = at f.form refl
    where
      at : (x : Form) → f.form ≡ x → is_external (lowered_by x d f).form ≡ false → (lowered_by x d f).form ≡ Lowered
      at Ossa e h = refl
      at Lowered e h = e
      at External e h = let other : is_external f.form ≡ true = ap is_external e in cc

  first_lowered : (fs : List Function)
      → list_all (is_same_form Lowered) (option_to_list (option_map form_of (find has_body (map (lowered_function d) fs)))) ≡ true
  first_lowered [] = refl
  first_lowered (f ∷ fs) = at (is_external (lowered_function d f).form) refl (first_lowered fs)
    where
      at : (b : Bool) → is_external (lowered_function d f).form ≡ b
          → list_all (is_same_form Lowered) (option_to_list (option_map form_of (find has_body (map (lowered_function d) fs)))) ≡ true
          → list_all (is_same_form Lowered)
          (option_to_list (option_map form_of (cond (not b) (Some (lowered_function d f)) (find has_body (map (lowered_function d) fs))))) ≡ true
      at true e rest = rest
      at false e rest = ap (λ x. is_same_form Lowered x && true) (lowered_form f e)

  pub forms_same : (f : Function) → mixes_forms (lowered m) (lowered_function d f) ≡ false
  forms_same f = at (is_external (lowered_function d f).form) refl
    where
      at : (b : Bool) → is_external (lowered_function d f).form ≡ b
          → (not b && not (list_all (is_same_form (lowered_function d f).form) (option_to_list (first_form (lowered m))))) ≡ false
      at true e = refl
      at false e = ap (λ x. not (list_all (is_same_form x) (option_to_list (first_form (lowered m))))) (lowered_form f e) ∙ ap not (first_lowered m.functions)
