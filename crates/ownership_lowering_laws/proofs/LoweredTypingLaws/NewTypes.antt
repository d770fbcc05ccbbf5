-- The types of what the instructions define that stand in the place of one.
use Rattle.std.proofs.Common.{◌≡◌, ℕ, ◌+◌, List, [], ◌∷◌, ◌++◌, length, map, refl, sym, ap, ap₂, ◌∙◌, append-nil, arith}
use Rattle.std.proofs.Common.{Option, Some, None}
use Rattle.std.specs.Prelude.{pos, option_and_then, option_map, slice_get, unwrap_or}
use Rattle.std.specs.List.{flat_map, range_with_len}
use Rattle.std.proofs.lemmas.Bool.{and_parts}
use Rattle.std.proofs.lemmas.List.{length-map}
use Rattle.instruction_table.specs.declared.op.Op.{Op}
use Rattle.instruction_table.specs.declared.op.Op.TheVariants as op
use Rattle.numbered_form.specs.Names.{Name}
use Rattle.numbered_form.specs.Lists.{Each}
use Rattle.numbered_form.specs.Numbering.{results_of}
use Rattle.sil_ast.specs.declared.decl.Field.{Field}
use Rattle.sil_ast.specs.declared.function.Function.{Function}
use Rattle.sil_ast.specs.declared.inst.Inst.{Inst}
use Rattle.sil_ast.specs.declared.module.Module.{Module}
use Rattle.sil_ast.specs.declared.operands.Operand.{Operand}
use Rattle.sil_ast.specs.declared.place.ValueId.{ValueId}
use Rattle.sil_ast.specs.declared.type_name.TypeName.{TypeName}
use Rattle.sil_types_declarations.specs.TypeDefinitions.Declarations.{Declarations, declarations_of}
use Rattle.holder_model_typing.specs.sil_types.Typing.RowTypes.{MadeTypes, all_fields, given_by, gives, made_types, type_of, written}
use Rattle.holder_model_typing.specs.sil_types.Typing.Shapes.{element_of, element_at, elements, field_type, is_object}
use Rattle.holder_model_typing.specs.sil_types.Typing.Shapes.{object_at, struct_field}
use Rattle.holder_model_typing.specs.sil_types.Typing.Values.{arg_has, result_types}
use Rattle.ownership_lowering_model.specs.Extracts.{element_extracts, field_extracts, member_of}
use Rattle.ownership_lowering_model.specs.LoweredBlocks.{value_with}
use Rattle.ownership_lowering_model.specs.LoweredInsts.{becomes, lowering_of, plain_load, plain_store}
use Rattle.ownership_lowering_model.specs.NewInsts.{load, struct_extract, tuple_extract}
use Rattle.ownership_lowering_model.specs.declared.lowering.Lowering.{Lowering}
use Rattle.ownership_lowering_model.specs.declared.lowering.Lowering.TheVariants as lowering
use Rattle.holder_model_typing.proofs.RunTypingLaws.ListFacts.{get_below, slices}
use Rattle.ownership_lowering_laws.proofs.LoweredTypingLaws.Becomes.{Becomes, IsCounted, IsLoad, at_storage, assigns, becomes_so, by_elements, by_fields, copies, destroys, loads}
use Rattle.ownership_lowering_laws.proofs.LoweredTypingLaws.Becomes.{no_results, object_there, releases, retains, stays, stores, vanishes}
use Rattle.ownership_lowering_laws.proofs.LoweredTypingLaws.Fields.{fields_again, fields_are}
use Rattle.ownership_lowering_laws.proofs.LoweredTypingLaws.Sound.{Sound, Source}
use Rattle.ownership_lowering_laws.proofs.LoweredTypingLaws.Told.{InstTold}

-- the type of the spare value, where an instruction takes one: that of what is at its place
abbrev spare_by : Lowering → Inst → Option TypeName
spare_by lowering.Stores i = option_and_then object_at (written 1 i)
spare_by lowering.Destroys i = option_and_then object_at (written 0 i)
spare_by _ i = None

abbrev pub spare_type : Inst → Option TypeName
spare_type i = spare_by (lowering_of i.op) i

-- the type of one result
abbrev first_of : List TypeName → List (Option TypeName)
first_of made = map (slice_get made) (range_with_len 0 1)

some_types : (fs : List Field) → map (λ t. Some t) (map field_type fs) ≡ map (λ (x : Field). Some x.ty) fs
some_types [] = refl
some_types (x ∷ fs) = ap (λ ts. Some x.ty ∷ ts) (some_types fs)

module _ (m : Module) (f : Function) (source : Source m f) (i : Inst) (sound : Sound m f i) (g : ValueId → Option TypeName) (s : ℕ)
    (told : InstTold arg_has (result_types (declarations_of m)) spare_type g s i) where
  abbrev d : Declarations
  d = declarations_of m

  made_by : (o : Op) → i.op ≡ o → made_types d i ≡ unwrap_or (given_by o d i) []
  made_by o is = ap (λ x. unwrap_or (given_by x d i) []) is

  -- what is loaded is of the type of what is at the place
  load_types : (place : Operand) (p t : TypeName) (v : ValueId) → IsLoad d i place p t v → map g i.results ≡ result_types d (plain_load i)
  load_types place p t v load =
      let made : made_types d (plain_load i) ≡ t ∷ [] =
      ap (λ os. unwrap_or (gives (option_and_then object_at (option_and_then type_of (slice_get os 0)))) []) load.one.only
      ∙ ap (λ w. unwrap_or (gives (option_and_then object_at w)) []) load.one.typed ∙ ap (λ w. unwrap_or (gives w) []) load.at in
      let given : made_types d i ≡ t ∷ [] = ap (λ (r : MadeTypes). unwrap_or r []) load.row in
      told.own ∙ ap (λ ts. map (slice_get ts) (range_with_len 0 (length i.results))) (given ∙ sym made)

  object_counted : (place : Operand) (p t : TypeName) → IsCounted d place p t → option_and_then object_at place.ty ≡ Some t
  object_counted place p t c = ap (option_and_then object_at) c.typed ∙ object_there p t c.at (and_parts (is_object t) _ c.nontrivial).0

  spare_loaded : (place : Operand) (p t : TypeName) → IsCounted d place p t → spare_type i ≡ Some t
      → result_types d (load place (value_with s)) ≡ g (value_with s) ∷ []
  spare_loaded place p t c spare =
      ap (λ w. first_of (unwrap_or (gives w) [])) (object_counted place p t c) ∙ ap (λ w. w ∷ []) (sym spare ∙ sym told.new)

  module _ (o : Operand) (t : TypeName) (typed : o.ty ≡ Some t) where
    field_types : (name : Name) (fs : List Field) (vs : List ValueId) → Each (λ x. struct_field d (member_of name x) t ≡ Some x) fs → length fs ≡ length vs
        → map g vs ≡ map (λ x. Some x.ty) fs
        → map g (flat_map results_of (field_extracts o (map (member_of name) fs) vs))
        ≡ flat_map (result_types d) (field_extracts o (map (member_of name) fs) vs)
    field_types name [] vs found size e = refl
    field_types name (x ∷ fs) [] found size e = refl
    field_types name (x ∷ fs) (v ∷ vs) found size e =
        let one : result_types d (struct_extract o (member_of name x) v) ≡ Some x.ty ∷ [] =
        ap (λ w. first_of (unwrap_or (gives (option_map field_type (option_and_then (struct_field d (member_of name x)) w))) [])) typed
        ∙ ap (λ w. first_of (unwrap_or (gives (option_map field_type w)) [])) found.0 in
        let first : g v ≡ Some x.ty = cc in
        ap₂ (λ y ys. y ∷ ys) first (field_types name fs vs found.1 (omega arith) (cc))
        ∙ ap (λ ys. ys ++ flat_map (result_types d) (field_extracts o (map (member_of name) fs) vs)) (sym one)

    part_types : (ts : List TypeName) (n : ℕ) (vs : List ValueId) → elements t ≡ Some ts → n + length vs ≡ length ts
        → map g vs ≡ map (slice_get ts) (range_with_len n (length vs))
        → map g (flat_map results_of (element_extracts o n vs)) ≡ flat_map (result_types d) (element_extracts o n vs)
    part_types ts n [] are size e = refl
    part_types ts n (v ∷ vs) are size e =
        let u = get_below ts n (omega arith) in
        let one : result_types d (tuple_extract o n v) ≡ Some u.0 ∷ [] =
        ap (λ w. first_of (unwrap_or (gives (option_and_then (element_of (Some (pos n))) w)) [])) typed
        ∙ ap (λ w. first_of (unwrap_or (gives (option_and_then (λ xs. element_at xs (Some (pos n))) w)) [])) are
        ∙ ap (λ w. first_of (unwrap_or (gives w) [])) u.1 in
        let first : g v ≡ slice_get ts n = cc in
        ap₂ (λ y ys. y ∷ ys) (first ∙ u.1) (part_types ts (n + 1) vs are (omega arith) (cc))
        ∙ ap (λ ys. ys ++ flat_map (result_types d) (element_extracts o (n + 1) vs)) (sym one)

  pub spare_stored : (x place : Operand) (p t : TypeName) → i.op ≡ op.Store → i.operands ≡ x ∷ place ∷ [] → IsCounted d place p t → spare_type i ≡ Some t
  spare_stored x place p t is both counted =
      ap (λ o. spare_by (lowering_of o) i) is ∙ ap (λ os. option_and_then object_at (option_and_then type_of (slice_get os 1))) both
      ∙ object_counted place p t counted

  pub spare_destroyed : (place : Operand) (p t : TypeName) → i.op ≡ op.DestroyAddr → i.operands ≡ place ∷ [] → IsCounted d place p t → spare_type i ≡ Some t
  spare_destroyed place p t is one counted =
      ap (λ o. spare_by (lowering_of o) i) is ∙ ap (λ os. option_and_then object_at (option_and_then type_of (slice_get os 0))) one
      ∙ object_counted place p t counted

  types_so : (js : List Inst) → Becomes d i (value_with s) js → map g (flat_map results_of js) ≡ flat_map (result_types d) js
  types_so _ (stays e) = ap (map g) (append-nil i.results) ∙ told.own ∙ sym (append-nil (result_types d i))
  types_so _ (at_storage is e) = ap (map g) (append-nil i.results) ∙ told.own ∙ sym (append-nil (result_types d i))
  types_so _ vanishes = refl
  types_so _ (retains o t one nontrivial) = refl
  types_so _ (releases o t one nontrivial) = refl
  types_so _ (loads place p t v load) = ap (map g) (append-nil i.results) ∙ load_types place p t v load ∙ sym (append-nil (result_types d (plain_load i)))
  types_so _ (copies place p t v load counted) =
      ap (map g) (append-nil i.results) ∙ load_types place p t v load ∙ sym (append-nil (result_types d (plain_load i)))
  types_so _ (stores is) = nothing (no_results m f source i sound op.Store is refl)
    where
      nothing : i.results ≡ [] → map g (i.results ++ []) ≡ result_types d (plain_store i) ++ []
      nothing none =
          ap (λ vs. map g (vs ++ [])) none
          ∙ sym (ap (λ (vs : List ValueId). map (slice_get (made_types d (plain_store i))) (range_with_len 0 (length vs)) ++ []) none)
  types_so _ (assigns x place p t is both counted) = two (no_results m f source i sound op.Store is refl)
    where
      two : i.results ≡ [] → g (value_with s) ∷ map g (i.results ++ []) ≡ result_types d (load place (value_with s)) ++ (result_types d (plain_store i) ++ [])
      two none =
          ap (λ vs. g (value_with s) ∷ map g (vs ++ [])) none
          ∙ ap₂ (λ a b. a ++ (b ++ [])) (sym (spare_loaded place p t counted (spare_stored x place p t is both counted)))
          (sym (ap (λ (vs : List ValueId). map (slice_get (made_types d (plain_store i))) (range_with_len 0 (length vs))) none))
  types_so _ (destroys place p t is one counted) = ap (λ ts. ts ++ []) (sym (spare_loaded place p t counted (spare_destroyed place p t is one counted)))
  types_so _ (by_fields o t fs struct is one size) =
      field_types o t one.typed struct.name fs i.results (fields_again d t fs struct (source.once struct.name struct.declared struct.is_declared)) size given
    where
      all : made_types d i ≡ map field_type fs
      all = made_by op.DestructureStruct is
          ∙ ap (λ os. unwrap_or (option_and_then (all_fields d) (option_and_then type_of (slice_get os 0))) []) one.only
          ∙ ap (λ w. unwrap_or (option_and_then (all_fields d) w) []) one.typed
          ∙ ap (λ x. unwrap_or (option_map (map field_type) x) []) (fields_are d t fs struct)

      given : map g i.results ≡ map (λ y. Some y.ty) fs
      given =
          let count : length i.results ≡ length (map field_type fs) = sym size ∙ sym (length-map fs field_type) in
          told.own ∙ ap₂ (λ ts n. map (slice_get ts) (range_with_len 0 n)) all count ∙ slices [] (map field_type fs) ∙ some_types fs
  types_so _ (by_elements o t ts is one are size) =
      part_types o t one.typed ts 0 i.results are (let same : 0 + length i.results ≡ length ts = omega arith in same)
      (told.own ∙ ap (λ xs. map (slice_get xs) (range_with_len 0 (length i.results))) all)
    where
      all : made_types d i ≡ ts
      all = made_by op.DestructureTuple is
          ∙ ap (λ os. unwrap_or (option_and_then elements (option_and_then type_of (slice_get os 0))) []) one.only
          ∙ ap (λ w. unwrap_or (option_and_then elements w) []) one.typed
          ∙ ap (λ w. unwrap_or w []) are

  pub new_types : map g (flat_map results_of (becomes d (value_with s) i)) ≡ flat_map (result_types d) (becomes d (value_with s) i)
  new_types = types_so (becomes d (value_with s) i) (becomes_so m f source i sound (value_with s))
