-- Where the leaves of a member begin: behind as many as the members before it have.
use Rattle.std.proofs.Common.{◌≡◌, ℕ, zero, suc, ◌≤◌, List, [], ◌∷◌, map, take, refl, sym, ap, ap₂, ◌∙◌, subst, arith, Option, Some, None, length}
use Rattle.std.specs.Prelude.{option_and_then, sum}
use Rattle.std.proofs.lemmas.List.{map-id, take-map}
use Rattle.std.proofs.lemmas.List.Sums.{sum_by-take-le}
use Rattle.numbered_form.specs.Lists.{Each}
use Rattle.numbered_form.specs.Names.{Name}
use Rattle.sil_ast.specs.declared.decl.Decl.{Decl}
use Rattle.sil_ast.specs.declared.decl.Decl.TheVariants.{Class, Enum, Struct}
use Rattle.sil_ast.specs.declared.decl.Field.{Field}
use Rattle.sil_ast.specs.declared.module.Module.{Module}
use Rattle.sil_ast.specs.declared.type_name.TypeName.{TypeName, TypeName-F, out-TypeName}
use Rattle.sil_ast.specs.declared.type_name.TypeName.TheVariants as type
use Rattle.sil_rules.specs.declared.limits.TheConstants.{LEAVES}
use Rattle.sil_types.specs.Typing.Shapes.{decl_of_type, elements, elements_in, field_type, fields_of_struct, name_in, struct_fields}
use Rattle.sil_types_declarations.specs.TypeDefinitions.Declarations.{Declarations, all_decls, decl_of, declarations_of}
use Rattle.sil_types_declarations.specs.TypeDefinitions.Measures.{leaves_of}
use Rattle.holder_model.specs.RunTyping.Runnable.{IsRunnable}
use Rattle.holder_model_values.specs.RunValues.Layers.{decl_with, named_within, over}
use Rattle.holder_model_values.specs.RunValues.Leaves as leaves
use Rattle.holder_model_values.specs.RunValues.Leaves.{leaves_layer}
use Rattle.holder_model_values.specs.RunValues.Shapes.{Shape, Shapes, each_by_layers, listed, member_shapes, members_of, shape_of, shape_with}
use Rattle.holder_model_values.specs.RunValues.Shapes as shapes
use Rattle.count_machine_model.specs.ReadyCode.Layout.{size_of}
use Rattle.count_machine_model.specs.ReadyCode.ReadyOps.{leaf_offset}
use Rattle.count_machine_layouts.proofs.holder_model_typing.RunTypingLaws.Opened.{fold-Address, fold-Int, fold-Named, fold-Optional, fold-Unowned, fold-Weak}
use Rattle.count_machine_layouts.proofs.holder_model_typing.RunTypingLaws.Rows.Finding.{found_behind}
use Rattle.count_machine_layouts.proofs.holder_model_typing.RunTypingLaws.Rows.Layers.{is_int, is_named, is_optional, is_unowned, is_weak, named_type, tuple_type}
use Rattle.count_machine_layouts.proofs.holder_model_typing.RunTypingLaws.RunnableTyped.{well_typed}
use Rattle.count_machine_layouts.proofs.holder_model_typing.RunTypingLaws.ShapeFacts.{field_shape_of, struct_shape, tuple_shape}
use Rattle.count_machine_layouts.specs.FrameLayouts.inner.Sized.{HasSize}
use Rattle.count_machine_layouts.proofs.FrameLayouts.FieldsFit.{elements_fit, fields_fit}
use Rattle.count_machine_layouts.proofs.FrameLayouts.Fitting.{Fits, has_size}
use Rattle.count_machine_layouts.proofs.FrameLayouts.Targets.{is_address}

listed_members : (ss : List Shape) → listed (members_of ss) ≡ ss
listed_members [] = refl
listed_members (s ∷ ss) = ap (λ xs. s ∷ xs) (listed_members ss)

sizes_each : (ss : List Shape) → map leaves.size_of (each_by_layers leaves_layer (members_of ss)) ≡ map size_of ss
sizes_each [] = refl
sizes_each (s ∷ ss) = ap (λ xs. size_of s ∷ xs) (sizes_each ss)

front_within : (ns : List ℕ) (k : ℕ) → sum ns ≤ LEAVES → sum (take k ns) ≤ LEAVES
front_within ns k le = let front = sum_by-take-le (λ n. n) ns k in omega arith

module _ (m : Module) (r : IsRunnable m) where
  abbrev d : Declarations
  d = declarations_of m

  -- members of types that can be measured, of a shape with these members
  module _ {A : Type 0} (type_in : A → TypeName) where
    abbrev MemberFits : A → Type 0
    MemberFits x = Fits m (type_in x)

    measured_each : (xs : List A) → Each MemberFits xs → map size_of (map (λ x. shape_of d (type_in x)) xs) ≡ map (leaves_of d) (map type_in xs)
    measured_each [] h = refl
    measured_each (x ∷ xs) h = ap₂ (λ n ns. n ∷ ns) (has_size m r (type_in x) h.0).measured (measured_each xs h.1)

    front_fits : (k : ℕ) (xs : List A) → Each MemberFits xs → Each MemberFits (take k xs)
    front_fits zero xs h = tt
    front_fits (suc k) [] h = tt
    front_fits (suc k) (x ∷ xs) h = (h.0, front_fits k xs h.1)

    offset_by : (s : Shape) (xs front : List A) (k : ℕ) → Each MemberFits xs → member_shapes s ≡ map (λ x. shape_of d (type_in x)) xs → front ≡ take k xs
        → sum (map (leaves_of d) (map type_in front)) ≡ leaf_offset (member_shapes s) k
    offset_by s xs front k h is e =
        let shape : A → Shape = λ x. shape_of d (type_in x) in
        ap (λ ys. sum (map (leaves_of d) (map type_in ys))) e
        ∙ ap sum (sym (measured_each (take k xs) (front_fits k xs h)))
        ∙ ap (λ ys. sum (map size_of ys)) (sym (take-map shape k xs))
        ∙ ap (λ ys. leaf_offset ys k) (sym is)

    within_by : (total : ℕ) (xs front : List A) (k : ℕ) → Each MemberFits xs → total ≡ sum (map size_of (map (λ x. shape_of d (type_in x)) xs))
        → total ≤ LEAVES → front ≡ take k xs
        → sum (map (leaves_of d) (map type_in front)) ≤ LEAVES
    within_by total xs front k h all le e =
        let same : sum (map (leaves_of d) (map type_in xs)) ≡ total = sym (all ∙ ap sum (measured_each xs h)) in
        let own : sum (map (leaves_of d) (map type_in front)) ≡ sum (take k (map (leaves_of d) (map type_in xs))) =
        ap (λ ys. sum (map (leaves_of d) (map type_in ys))) e ∙ ap (λ ys. sum (map (leaves_of d) ys)) (sym (take-map type_in k xs))
        ∙ ap sum (sym (take-map (leaves_of d) k (map type_in xs))) in
        let front_le = front_within (map (leaves_of d) (map type_in xs)) k (omega arith) in
        omega arith

  -- structs

  struct_is : (t : TypeName) (fields : List Field) → fields_of_struct d t ≡ Some fields
      → (n : Name) × (shape_of d t ≡ shapes.Struct n (members_of (map (field_shape_of m) fields)))
  struct_is t fields e =
      let found = found_behind struct_fields (decl_of_type d t) fields e in
      let named = found_behind (decl_of d) (name_in (out-TypeName t)) found.0 found.1 in
      at found.0 found.2 named.0 (named_type t named.0 named.1) named.2
    where
      at : (x : Decl) → struct_fields x ≡ Some fields → (name : Name) → t ≡ type.Named name → decl_of d name ≡ Some x
          → (n : Name) × (shape_of d t ≡ shapes.Struct n (members_of (map (field_shape_of m) fields)))
      at (Struct n own) same name is there =
          let own_is : own ≡ fields = cc in
          (n, ap (shape_of d) is ∙ struct_shape m (well_typed m r) name n fields (there ∙ ap (λ fs. Some (Struct n fs)) own_is))
      at (Enum n cases) same name is there = absurd (cc)
      at (Class n superclass own) same name is there = absurd (cc)

  pub struct_within : (t : TypeName) (fields front : List Field) (k : ℕ) → HasSize d t → fields_of_struct d t ≡ Some fields → front ≡ take k fields
      → sum (map (leaves_of d) (map field_type front)) ≤ LEAVES
  struct_within t fields front k size e is =
      let shape = struct_is t fields e in
      let total : leaves_of d t ≡ sum (map size_of (map (field_shape_of m) fields)) =
      sym size.measured ∙ ap size_of shape.1 ∙ ap sum (sizes_each (map (field_shape_of m) fields)) in
      within_by field_type (leaves_of d t) fields front k (fields_fit m r t fields e) total size.within is

  pub struct_offset : (t : TypeName) (fields front : List Field) (k : ℕ) → fields_of_struct d t ≡ Some fields → front ≡ take k fields
      → sum (map (leaves_of d) (map field_type front)) ≡ leaf_offset (member_shapes (shape_of d t)) k
  struct_offset t fields front k e is =
      let shape = struct_is t fields e in
      offset_by field_type (shape_of d t) fields front k (fields_fit m r t fields e) (ap member_shapes shape.1
      ∙ listed_members (map (field_shape_of m) fields)) is

  -- tuples

  abbrev itself : TypeName → TypeName
  itself t = t

  tuple_is : (t : TypeName) (ts : List TypeName) → elements t ≡ Some ts → shape_of d t ≡ shapes.Tuple (members_of (map (shape_of d) ts))
  tuple_is t ts e = ap (shape_of d) (tuple_type t ts e) ∙ tuple_shape m ts

  elements_are : (t : TypeName) (ts : List TypeName) → HasSize d t → elements t ≡ Some ts → Each (Fits m) ts
  elements_are t ts size e = elements_fit m ts (subst (Fits m) (tuple_type t ts e) (record { plain = size.plain; within = size.within }))

  pub tuple_within : (t : TypeName) (ts front : List TypeName) (k : ℕ) → HasSize d t → elements t ≡ Some ts
      → front ≡ take k ts → sum (map (leaves_of d) front) ≤ LEAVES
  tuple_within t ts front k size e is =
      let total : leaves_of d t ≡ sum (map size_of (map (shape_of d) ts)) = sym size.measured ∙ ap size_of (tuple_is t ts e)
      ∙ ap sum (sizes_each (map (shape_of d) ts)) in
      let own : sum (map (leaves_of d) (map itself front)) ≤ LEAVES =
      within_by itself (leaves_of d t) ts front k (elements_are t ts size e) total size.within is in
      subst (λ xs. sum (map (leaves_of d) xs) ≤ LEAVES) (map-id front) own

  pub tuple_offset : (t : TypeName) (ts front : List TypeName) (k : ℕ) → HasSize d t → elements t ≡ Some ts → front ≡ take k ts
      → sum (map (leaves_of d) front) ≡ leaf_offset (member_shapes (shape_of d t)) k
  tuple_offset t ts front k size e is =
      ap (λ xs. sum (map (leaves_of d) xs)) (sym (map-id front))
      ∙ offset_by itself (shape_of d t) ts front k (elements_are t ts size e) (ap member_shapes (tuple_is t ts e) ∙ listed_members (map (shape_of d) ts)) is

-- types without members

module _ (d : Declarations) where
  no_members : (named : Name → Shape) (x : Option Decl) → option_and_then struct_fields x ≡ None → member_shapes (decl_with shape_with named x) ≡ []
  no_members named None e = refl
  no_members named (Some (Struct name fields)) e = absurd (cc)
  no_members named (Some (Enum name cases)) e = refl
  no_members named (Some (Class name superclass fields)) e = refl

  none_within : (n : ℕ) (name : Name) → option_and_then struct_fields (decl_of d name) ≡ None → member_shapes (named_within shape_with d n name) ≡ []
  none_within zero name e = refl
  none_within (suc n) name e = no_members (named_within shape_with d n) (decl_of d name) e

  abbrev step : TypeName-F Shape → Shape
  step = over shape_with (named_within shape_with d (length (all_decls d)))

  none_named : (name : Name) → option_and_then struct_fields (decl_of d name) ≡ None → member_shapes (shape_of d (type.Named name)) ≡ []
  none_named name e = ap member_shapes (fold-Named Shape step name) ∙ none_within (length (all_decls d)) name e

  memberless : (t : TypeName) → fields_of_struct d t ≡ None → elements t ≡ None → member_shapes (shape_of d t) ≡ []
  memberless t no_fields no_elements = at (out-TypeName t) refl no_fields no_elements
    where
      at : (x : TypeName-F TypeName) → out-TypeName t ≡ x → option_and_then struct_fields (option_and_then (decl_of d) (name_in x)) ≡ None
          → elements_in x ≡ None → member_shapes (shape_of d t) ≡ []
      at (TypeName-F.Int w) is f e = ap (λ u. member_shapes (shape_of d u)) (is_int t w is) ∙ ap member_shapes (fold-Int Shape step w)
      at (TypeName-F.Named name) is f e = ap (λ u. member_shapes (shape_of d u)) (is_named t name is) ∙ none_named name f
      at (TypeName-F.Optional inner) is f e = ap (λ u. member_shapes (shape_of d u)) (is_optional t inner is)
          ∙ ap member_shapes (fold-Optional Shape step inner)
      at (TypeName-F.Tuple parts) is f e = absurd (cc)
      at (TypeName-F.Weak inner) is f e = ap (λ u. member_shapes (shape_of d u)) (is_weak t inner is) ∙ ap member_shapes (fold-Weak Shape step inner)
      at (TypeName-F.Unowned inner) is f e = ap (λ u. member_shapes (shape_of d u)) (is_unowned t inner is) ∙ ap member_shapes (fold-Unowned Shape step inner)
      at (TypeName-F.Address inner) is f e = ap (λ u. member_shapes (shape_of d u)) (is_address t inner is) ∙ ap member_shapes (fold-Address Shape step inner)

  no_offset : (k : ℕ) → 0 ≡ leaf_offset [] k
  no_offset zero = refl
  no_offset (suc k) = refl

  pub memberless_offset : (t : TypeName) (k : ℕ) → fields_of_struct d t ≡ None → elements t ≡ None → 0 ≡ leaf_offset (member_shapes (shape_of d t)) k
  memberless_offset t k no_fields no_elements = no_offset k ∙ ap (λ ss. leaf_offset ss k) (sym (memberless t no_fields no_elements))
