-- What is measured on types of a runnable module: how many leaves its types have, and that no address stands in what it declares.
use Rattle.std.proofs.Common.{◌≡◌, ◌+◌, ◌≤◌, ℕ, zero, suc, List, [], ◌∷◌, ◌++◌, Bool, true, Option, Some, None, map, sum, refl, sym, ap, ap₂, ◌∙◌, subst, arith}
use Rattle.std.specs.Prelude.{option_map, slice_get}
use Rattle.std.specs.List.{flat_map, list_all}
use Rattle.std.specs.Option.{option_to_list}
use Rattle.std.proofs.lemmas.Bool.{and_parts}
use Rattle.std.proofs.lemmas.List.Sums.{sum_by-cons}
use Rattle.holder_model.specs.RunTyping.Runnable.{IsRunnable}
use Rattle.holder_model_typing.proofs.RunTypingLaws.Declared.{found_at}
use Rattle.holder_model_typing.proofs.RunTypingLaws.RunnableTyped.{well_typed}
use Rattle.holder_model_typing.proofs.RunTypingLaws.ShapeFacts.{enum_shape, struct_shape}
use Rattle.holder_model_typing.proofs.RunTypingLaws.Sizes.{no_addresses, sizes}
use Rattle.holder_model_values.specs.RunValues.Leaves.{in_leaves, leaves_layer, payload_sizes, size_of}
use Rattle.holder_model_values.specs.RunValues.Shapes.{CaseShapes, cases_by_layers, cases_of, each_by_layers, members_of, shape_of, with_case}
use Rattle.holder_model_values.specs.RunValues.inner.Laws.{has_no_address, holds_no_address}
use Rattle.sil_ast.specs.TypeName.{largest}
use Rattle.sil_ast.specs.declared.decl.Case.{Case}
use Rattle.sil_ast.specs.declared.decl.Decl.{Decl}
use Rattle.sil_ast.specs.declared.decl.Decl.TheVariants as decl
use Rattle.sil_ast.specs.declared.decl.Field.{Field}
use Rattle.sil_ast.specs.declared.module.Module.{Module}
use Rattle.sil_ast.specs.declared.type_name.TypeName.{TypeName}
use Rattle.sil_ast.specs.declared.type_name.TypeName.TheVariants as type
use Rattle.numbered_form.specs.Names.{Name}
use Rattle.sil_types_declarations.specs.TypeDefinitions.Contained.{field_type, payload_types}
use Rattle.sil_types_declarations.specs.TypeDefinitions.Declarations.{Declarations, all_decls, decl_of, declarations_of}
use Rattle.sil_types_declarations.specs.TypeDefinitions.Measures.{leaves_of}
use Rattle.count_machine.specs.ValueReading.inner.Payloads.{case_layer_of}

-- the declarations are those of a runnable module
abbrev pub IsOfRunnable : Declarations → Type 0
IsOfRunnable d = (m : Module) × IsRunnable m × (d ≡ declarations_of m)

-- so what holds of the declarations of each runnable module holds of them
pub of_module : (P : Declarations → Type 0) → ((m : Module) → IsRunnable m → P (declarations_of m))
    → (d : Declarations) → IsOfRunnable d → P d
of_module P holds d r = subst P (sym r.2) (holds r.0 r.1)

pub size_measured : (d : Declarations) → IsOfRunnable d → (t : TypeName) → has_no_address t ≡ true
    → (in_leaves (shape_of d t)).size ≡ leaves_of d t
size_measured = of_module (λ d. (t : TypeName) → has_no_address t ≡ true → (in_leaves (shape_of d t)).size ≡ leaves_of d t) (λ m r. sizes m (well_typed m r))

pub largest_within : (ns : List ℕ) → largest ns ≤ sum ns
largest_within [] = omega arith
largest_within (n ∷ ns) = let behind = largest_within ns in omega (arith, sum_by-cons (λ k. k) n ns)

passes_at : {A : Type 0} (test : A → Bool) (xs : List A) (i : ℕ) (x : A) → list_all test xs ≡ true → slice_get xs i ≡ Some x → test x ≡ true
passes_at test [] i x h e = cc
passes_at test (y ∷ ys) zero x h e = let same : y ≡ x = cc in subst (λ z. test z ≡ true) same (and_parts (test y) (list_all test ys) h).0
passes_at test (y ∷ ys) (suc i) x h e = passes_at test ys i x (and_parts (test y) (list_all test ys) h).1 e

module _ (m : Module) (r : IsRunnable m) where
  abbrev d : Declarations
  d = declarations_of m

  pub declared_plain : (name : Name) (x : Decl) → decl_of d name ≡ Some x → holds_no_address x ≡ true
  declared_plain name x e = let found = found_at d name x e in passes_at holds_no_address (all_decls d) found.0 x (no_addresses m (well_typed m r)) found.2

  fields_sized : (fields : List Field) → list_all has_no_address (map field_type fields) ≡ true
      → map size_of (each_by_layers leaves_layer (members_of (map (λ f. shape_of d f.ty) fields))) ≡ map (leaves_of d) (map field_type fields)
  fields_sized [] h = refl
  fields_sized (x ∷ fields) h =
      let parts = and_parts (has_no_address x.ty) (list_all has_no_address (map field_type fields)) h in
      ap₂ (λ n ns. n ∷ ns) (sizes m (well_typed m r) x.ty parts.0) (fields_sized fields parts.1)

  payload_sized : (name : Name) (t : Option TypeName) (more : List TypeName) (others : CaseShapes) → list_all has_no_address (option_to_list t ++ more) ≡ true
      → (list_all has_no_address more ≡ true → flat_map payload_sizes (cases_by_layers leaves_layer others) ≡ map (leaves_of d) more)
      → flat_map payload_sizes (cases_by_layers leaves_layer (with_case name (option_map (shape_of d) t) others)) ≡ map (leaves_of d) (option_to_list t ++ more)
  payload_sized name None more others h behind = behind h
  payload_sized name (Some t) more others h behind =
      let parts = and_parts (has_no_address t) (list_all has_no_address more) h in
      ap₂ (λ n ns. n ∷ ns) (sizes m (well_typed m r) t parts.0) (behind parts.1)

  cases_sized : (cases : List Case) → list_all has_no_address (flat_map payload_types cases) ≡ true
      → flat_map payload_sizes (cases_by_layers leaves_layer (cases_of (map (case_layer_of d) cases))) ≡ map (leaves_of d) (flat_map payload_types cases)
  cases_sized [] h = refl
  cases_sized (c ∷ cases) h = payload_sized c.name c.payload (flat_map payload_types cases) (cases_of (map (case_layer_of d) cases)) h (cases_sized cases)

  -- a type has as many leaves as are in what it declares

  pub struct_leaves : (name n : Name) (fields : List Field) → has_no_address (type.Named name) ≡ true → decl_of d name ≡ Some (decl.Struct n fields)
      → leaves_of d (type.Named name) ≡ sum (map (leaves_of d) (map field_type fields))
  struct_leaves name n fields plain e =
      sym (sizes m (well_typed m r) (type.Named name) plain)
      ∙ ap (λ s. (in_leaves s).size) (struct_shape m (well_typed m r) name n fields e)
      ∙ ap sum (fields_sized fields (declared_plain name (decl.Struct n fields) e))

  pub enum_leaves : (name n : Name) (cases : List Case) → has_no_address (type.Named name) ≡ true → decl_of d name ≡ Some (decl.Enum n cases)
      → leaves_of d (type.Named name) ≡ 1 + largest (map (leaves_of d) (flat_map payload_types cases))
  enum_leaves name n cases plain e =
      sym (sizes m (well_typed m r) (type.Named name) plain)
      ∙ ap (λ s. (in_leaves s).size) (enum_shape m (well_typed m r) name n cases e)
      ∙ ap (λ ns. 1 + largest ns) (cases_sized cases (declared_plain name (decl.Enum n cases) e))
