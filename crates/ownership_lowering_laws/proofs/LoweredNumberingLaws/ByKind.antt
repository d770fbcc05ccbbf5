-- Whatever lowering makes of an instruction, all holds of it that holds of instructions: kind by kind.
use Rattle.std.proofs.Common.{◌≡◌, ℕ, ◌+◌, ◌≤◌, List, [], ◌∷◌, ◌++◌, length, map, refl, sym, ap, ◌∙◌, subst, arith, Bool, true, false, not, Some}
use Rattle.std.specs.Prelude.{IfSome, is_some, option_and_then, slice_get}
use Rattle.std.specs.List.{flat_map}
use Rattle.std.specs.Option.{option_to_list}
use Rattle.instruction_table.specs.declared.op.Op.{Op}
use Rattle.instruction_table.specs.declared.op.Op.TheVariants as op
use Rattle.sil_ast.specs.declared.decl.Field.{Field}
use Rattle.sil_ast.specs.declared.function.Function.{Function}
use Rattle.sil_ast.specs.declared.inst.Inst.{Inst}
use Rattle.sil_ast.specs.declared.inst.Qualifier.{Qualifier}
use Rattle.sil_ast.specs.declared.inst.Qualifier.TheVariants as word
use Rattle.sil_ast.specs.declared.member.Member.{Member}
use Rattle.sil_ast.specs.declared.operands.Operand.{Operand}
use Rattle.sil_ast.specs.declared.place.ValueId.{ValueId}
use Rattle.sil_ast.specs.declared.type_name.TypeName.{TypeName}
use Rattle.ownership_lowering_model.specs.Extracts.{element_extracts, extracts_elements, extracts_fields, field_extracts, member_of}
use Rattle.ownership_lowering_model.specs.LoweredInsts.{assigns, becomes, becomes_by, destroys_by, loads_by, lowering_of, plain_load, plain_store}
use Rattle.ownership_lowering_model.specs.LoweredInsts.{releases_at, retains_loaded, stores_by}
use Rattle.ownership_lowering_model.specs.NewInsts.{load, loaded_from, release, retain}
use Rattle.numbered_form.specs.Lists.{Each}
use Rattle.numbered_form.specs.Names.{IsMemberSpelled}
use Rattle.numbered_form.specs.inner.Limits.{is_assign}
use Rattle.numbered_form.specs.inner.Parts.{is_typed, may_have}
use Rattle.numbered_form.specs.inner.Types.{HasOperandType, IsPlacedType}
use Rattle.holder_model_typing.specs.sil_types.Typing.FormRules.{is_at_storage}
use Rattle.holder_model_typing.specs.sil_types.Typing.RowTypes.{given_by}
use Rattle.holder_model_typing.specs.sil_types.Typing.Shapes.{is_object, target}
use Rattle.sil_types_declarations.specs.TypeDefinitions.Declarations.{Declarations}
use Rattle.sil_types_declarations.specs.TypeDefinitions.Mentions.{Mention, if_there, in_edge, in_operand, in_signature, in_tuple, mention, standing_in}
use Rattle.sil_types_declarations.specs.declared.type_definitions.standing.Standing.TheVariants.{Value}
use Rattle.ownership_lowering_laws.proofs.LoweringLaws.Known.{Known, OneTyped, one_operand, two_operands}
use Rattle.ownership_lowering_laws.proofs.LoweringLaws.NewValues.{members_of_operand, takes_spare, takes_spare_by}
use Rattle.ownership_lowering_laws.proofs.LoweringLaws.Structs.{IsStruct, TakesApart, takes_apart}
use Rattle.holder_model_typing.proofs.RunTypingLaws.Declared.{each_append}
use Rattle.holder_model_typing.proofs.RunTypingLaws.ListFacts.{each_map, each_parts}
use Rattle.holder_model_typing.proofs.RunTypingLaws.Rows.Finding.{if_some}
use Rattle.ownership_lowering_laws.proofs.LoweredNumberingLaws.Addresses.{IsAddress, borrows_from, destroys_at, loads_from, placed_behind, stores_to}
use Rattle.ownership_lowering_laws.proofs.LoweredNumberingLaws.New.{IsGood, borrow_row, load_sound, release_row, release_sound, retain_row, retain_sound, reworded_sound, same_row}
use Rattle.ownership_lowering_laws.proofs.LoweredNumberingLaws.New.{struct_extract_sound, tuple_extract_sound}
use Rattle.ownership_lowering_laws.proofs.LoweredNumberingLaws.Sound.{IsSound, IsSoundInside}

module _ (K : ValueId → Type 0) (T : Mention → Type 0) (M : Member → Type 0) (blocks functions : ℕ)
    (behind : (t u : TypeName) → target t ≡ Some u → is_object u ≡ true → T (mention Value t) → T (mention Value u)) where
  abbrev Good : Operand → Type 0
  Good x = IsGood K T M blocks functions x

  abbrev Inside : Inst → Type 0
  Inside i = IsSoundInside K T M blocks functions i

  -- ---- operands

  mentions_of_operands : (i : Inst) → IsSound K T M blocks functions i → Each T (flat_map in_operand i.operands)
  mentions_of_operands i s =
      let own : List Mention = if_there (standing_in i.op) i.ty ++ flat_map in_signature (option_to_list i.signature) in
      let all = each_parts T (own ++ flat_map in_operand i.operands ++ flat_map in_edge i.edges) (in_tuple i) s.mentioned in
      let three = each_parts T (own ++ flat_map in_operand i.operands) (flat_map in_edge i.edges) all.0 in
      (each_parts T own (flat_map in_operand i.operands) three.0).1

  good_one : (i : Inst) (x : Operand) → IsSound K T M blocks functions i → i.operands ≡ x ∷ [] → is_typed x ≡ true → Good x
  good_one i x s only typed = record {
    typed = typed;
    written = (subst (Each HasOperandType) only s.types.operands).0;
    known = (subst (Each (λ o. K o.value)) only s.uses.operands).0;
    mentioned = (each_parts T (in_operand x) [] (subst (λ os. Each T (flat_map in_operand os)) only (mentions_of_operands i s))).0;
  }

  good_second : (i : Inst) (x y : Operand) → IsSound K T M blocks functions i → i.operands ≡ x ∷ y ∷ [] → is_typed y ≡ true → Good y
  good_second i x y s both typed = record {
    typed = typed;
    written = (subst (Each HasOperandType) both s.types.operands).1.0;
    known = (subst (Each (λ o. K o.value)) both s.uses.operands).1.0;
    mentioned =
        let second = (each_parts T (in_operand x) (in_operand y ++ []) (subst (λ os. Each T (flat_map in_operand os)) both (mentions_of_operands i s))).1 in
        (each_parts T (in_operand y) [] second).0;
  }

  -- what was loaded from a good place is good
  good_loaded : (place : Operand) (v : ValueId) → Good place → IsAddress place → K v → Good (loaded_from place v)
  good_loaded place v good a known =
      let inner : option_and_then target place.ty ≡ Some a.inner = ap (option_and_then target) a.is_type ∙ a.is_inner in
      let told : T (mention Value a.ty) = (subst (λ o. Each T (if_there Value o)) a.is_type good.mentioned).0 in
      record {
        typed = ap is_some inner;
        written = subst (λ o. IfSome o IsPlacedType) (sym inner)
            (placed_behind a.ty a.inner a.is_inner (if_some IsPlacedType place.ty a.ty a.is_type good.written));
        known = known;
        mentioned = subst (λ o. Each T (if_there Value o)) (sym inner) (behind a.ty a.inner a.is_inner a.object told, tt);
      }

  -- ---- kinds

  module _ (d : Declarations) (f : Function) (spare : ValueId) (i : Inst) (k : Known d f i) (s : IsSound K T M blocks functions i)
      (known : Each K i.results) where
    retains : (x : Operand) → Good x → Inside (retain d x)
    retains x good = ((retain_row d x).takes.goes_on, retain_sound K T M blocks functions d x good)

    releases : (x : Operand) → Good x → Inside (release d x)
    releases x good = ((release_row d x).takes.goes_on, release_sound K T M blocks functions d x good)

    loads_spare : (place : Operand) → Good place → Inside (load place spare)
    loads_spare place good = (refl, load_sound K T M blocks functions place spare good)

    loads : (x : Operand) → i.operands ≡ x ∷ [] → Good x → IsAddress x → Inside (plain_load i) → (q : Qualifier)
        → Each Inside (loads_by d spare q i)
    loads x only good a plain word.Copy = (
      plain,
      subst (λ os. Each Inside (flat_map (retains_loaded d spare i.results) (option_to_list (slice_get os 0)))) (sym only)
          (each_append Inside (retains_loaded d spare i.results x) []
          (each_map (λ v. retain d (loaded_from x v)) K Inside (λ v h. retains (loaded_from x v) (good_loaded x v good a h)) i.results known) tt),
    )
    loads x only good a plain _ = (plain, tt)

    stores : (x y : Operand) → i.operands ≡ x ∷ y ∷ [] → Good y → IsAddress y → Inside (plain_store i) → (q : Qualifier) → (is_assign q ≡ true → K spare)
        → Each Inside (stores_by d spare q i)
    stores x y both good a plain word.Assign new =
        subst (λ os. Each Inside (flat_map (assigns d spare i) (option_to_list (slice_get os 1)))) (sym both)
        (loads_spare y good, (plain, (releases (loaded_from y spare) (good_loaded y spare good a (new refl)), tt)))
    stores x y both good a plain _ new = (plain, tt)

    destroys : (x : Operand) → i.operands ≡ x ∷ [] → Good x → (is_at_storage i ≡ false → IsAddress x) → (stored : Bool) → is_at_storage i ≡ stored
        → (not stored ≡ true → K spare)
        → Each Inside (destroys_by d spare stored i)
    destroys x only good a true e new = ((k.lowerable.inside.goes_on, s), tt)
    destroys x only good a false e new =
        subst (λ os. Each Inside (flat_map (releases_at d spare) os)) (sym only)
        (loads_spare x good, (releases (loaded_from x spare) (good_loaded x spare good (a e) (new refl)), tt))

    fields : (x : Operand) → Good x → (ms : List Member) → Each (λ m. IsMemberSpelled m × M m) ms → (vs : List ValueId)
        → Each Inside (field_extracts x ms vs)
    fields x good [] h vs = tt
    fields x good (m ∷ ms) h [] = tt
    fields x good (m ∷ ms) h (v ∷ vs) = ((refl, struct_extract_sound K T M blocks functions x m v good h.0.0 h.0.1), fields x good ms h.1 vs)

    elements : (x : Operand) → Good x → (n : ℕ) (vs : List ValueId) → n + length vs ≤ 64 → Each Inside (element_extracts x n vs)
    elements x good n [] le = tt
    elements x good n (v ∷ vs) le = ((refl, tuple_extract_sound K T M blocks functions x n v good (omega arith)), elements x good (n + 1) vs (omega arith))

    module _ (members : (t : TypeName) (fields : List Field) (struct : IsStruct d t fields) → IsPlacedType t
        → Each (λ m. IsMemberSpelled m × M m) (map (member_of struct.name) fields)) where
      abbrev IsWell : Op → Type 0
      IsWell o = Each Inside (becomes_by d spare (lowering_of o) i)

      keeps : (o : Op) → i.op ≡ o → is_some (given_by o d i) ≡ true
      keeps o e = subst (λ x. is_some (given_by x d i) ≡ true) e k.lowerable.keeps

      good : (x : OneTyped i.operands) → Good x.operand
      good x = good_one i x.operand s x.only x.typed

      takes_struct : (x : Operand) → Good x → i.operands ≡ x ∷ [] → TakesApart d i x → Each Inside (flat_map (extracts_fields d i.results) i.operands)
      takes_struct x good only t =
          let named = members t.ty t.fields t.struct (if_some IsPlacedType x.ty t.ty t.is_type good.written) in
          subst (λ os. Each Inside (flat_map (extracts_fields d i.results) os)) (sym only)
          (each_append Inside (extracts_fields d i.results x) []
          (subst (λ ms. Each Inside (field_extracts x ms i.results)) (sym (members_of_operand d i x t))
          (fields x good (map (member_of t.struct.name) t.fields) named i.results)) tt)

      by : (o : Op) → i.op ≡ o → (takes_spare_by (lowering_of o) i ≡ true → K spare) → IsWell o
      by op.CopyValue e new =
          let x = one_operand d f i k op.CopyValue e (λ os. refl) in
          subst (λ os. Each Inside (map (retain d) os)) (sym x.only) (retains x.operand (good x), tt)
      by op.DestroyValue e new =
          let x = one_operand d f i k op.DestroyValue e (λ os. refl) in
          subst (λ os. Each Inside (map (release d) os)) (sym x.only) (releases x.operand (good x), tt)
      by op.MoveValue e new = tt
      by op.BeginBorrow e new = tt
      by op.EndBorrow e new = tt
      by op.Load e new =
          let x = one_operand d f i k op.Load e (λ os. refl) in
          loads x.operand x.only (good x) (loads_from d i x.operand x.only (keeps op.Load e))
          (refl, reworded_sound K T M blocks functions i op.Load op.Load word.Plain e (same_row op.Load) refl s) i.qualifier
      by op.LoadBorrow e new =
          let x = one_operand d f i k op.LoadBorrow e (λ os. refl) in
          loads x.operand x.only (good x) (borrows_from d i x.operand x.only (keeps op.LoadBorrow e))
          (refl, reworded_sound K T M blocks functions i op.LoadBorrow op.Load word.Plain e borrow_row refl s) i.qualifier
      by op.Store e new =
          let x = two_operands d f i k op.Store e (λ os. refl) in
          stores x.bare x.operand x.both (good_second i x.bare x.operand s x.both x.typed) (stores_to d i x.bare x.operand x.both (keeps op.Store e)) (
            k.lowerable.inside.goes_on,
            reworded_sound K T M blocks functions i i.op i.op word.Plain refl (same_row i.op)
                (ap (λ o. may_have o word.Plain) e) s,
          ) i.qualifier new
      by op.DestroyAddr e new =
          let x = one_operand d f i k op.DestroyAddr e (λ os. refl) in
          destroys x.operand x.only (good x) (destroys_at d i x.operand x.only (keeps op.DestroyAddr e)) (is_at_storage i) refl new
      by op.DestructureStruct e new =
          let x = one_operand d f i k op.DestructureStruct e (λ os. refl) in
          takes_struct x.operand (good x) x.only (takes_apart d f i k e x.operand x.only)
      by op.DestructureTuple e new =
          let x = one_operand d f i k op.DestructureTuple e (λ os. refl) in
          let few : length i.results ≤ 64 = s.limits.results in
          subst (λ os. Each Inside (flat_map (extracts_elements i.results) os)) (sym x.only)
          (each_append Inside (extracts_elements i.results x.operand) [] (elements x.operand (good x) 0 i.results (omega arith)) tt)
      by o e new = ((k.lowerable.inside.goes_on, s), tt)

      -- where the spare value is known that it takes
      pub becomes_sound : (takes_spare i ≡ true → K spare) → Each Inside (becomes d spare i)
      becomes_sound new = by i.op refl new
