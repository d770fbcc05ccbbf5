-- Each part is good where the parts of its body are, and nothing in it is at fault.
use Rattle.std.proofs.Common.{◌≡◌, ℕ, ◌≤◌, suc, List, [], ◌∷◌, length, map, Option, Some, None, IfSome, true, false, IsTrue, ap, refl, subst, arith, flat_map}
use Rattle.std.specs.Prelude.{option_map}
use Rattle.std.proofs.lemmas.List.{length-map}
use Rattle.sil_ast.specs.declared.function.Linkage.{Linkage}
use Rattle.sil_ast.specs.declared.member.Member.{Member}
use Rattle.sil_ast.specs.declared.place.Place.{Place}
use Rattle.sil_ast.specs.declared.signature.Convention.{Convention}
use Rattle.sil_ast.specs.declared.signature.Given.{Given}
use Rattle.sil_ast.specs.declared.signature.Param.{Param}
use Rattle.sil_ast.specs.declared.signature.Signature.{Signature}
use Rattle.sil_grammar_tables.specs.declared.grammar.Production.{Production}
use Rattle.sil_grammar_tables.specs.declared.grammar.Production.TheVariants as p
use Rattle.sil_grammar_tables.specs.Grammar.{written, body}
use Rattle.sil_rules.specs.declared.limit_word.LimitWord.TheVariants as limit
use Rattle.sil_grammar_tree.specs.declared.written_tree.written_declarations.WrittenCase.{WrittenCase}
use Rattle.sil_grammar_tree.specs.declared.written_tree.written_declarations.WrittenDecl.TheVariants as decl
use Rattle.sil_grammar_tree.specs.declared.written_tree.written_declarations.WrittenField.{WrittenField}
use Rattle.sil_grammar_tree.specs.declared.written_tree.written_declarations.WrittenToken.{WrittenToken}
use Rattle.sil_grammar_tree.specs.declared.written_tree.written_functions.WrittenBlock.{WrittenBlock}
use Rattle.sil_grammar_tree.specs.declared.written_tree.written_instructions.WrittenEdge.{WrittenEdge}
use Rattle.sil_grammar_tree.specs.declared.written_tree.written_instructions.WrittenOperand.{WrittenOperand}
use Rattle.sil_grammar_tree.specs.declared.written_tree.written_module.WrittenModule.{WrittenModule}
use Rattle.sil_grammar_tree.specs.WrittenTree.Faults.{earlier, passed}
use Rattle.sil_grammar_values.specs.inner.Meaning.{given_with, meaning}
use Rattle.sil_grammar_values.specs.inner.Parts.{part, place_at, text_at}
use Rattle.sil_grammar_values.specs.Opened.{PartGivens, PartParams, PartType, PartValue}
use Rattle.sil_grammar_values.specs.inner.PartFaults.{body_fault, function_fault, module_fault, part_fault}
use Rattle.sil_grammar_tree.specs.WrittenTree.Places.{arg_place, attribute_places, case_place, decl_names, field_place, function_names, label_place, operand_place, token_place}
use Rattle.sil_grammar_tree.proofs.WrittenTree.FaultOrder.{no_first, no_second}
use Rattle.sil_grammar_values.specs.Types.{in_parens, tailed, type_before}
use Rattle.sil_grammar_values.specs.Values.{args_of, blocks_of, cases_of, edges_of, field_of, fields_of, givens_of, imports_of}
use Rattle.sil_grammar_values.specs.Values.{inst_of, items_of, linkage_of, member_of, operands_of, params_of, questions_of}
use Rattle.sil_grammar_values.specs.Values.{signature_of, stage_of, superclass_of, token_of, tokens_of, type_of, types_of}
use Rattle.sil_grammar_values.proofs.Unfolded.{value_parts}
use Rattle.sil_grammar_names.specs.NameScopes.Names.{name_of}
use Rattle.sil_grammar_names.specs.NameResolution.Resolved.{Scope, resolved_case, resolved_decl, resolved_field, resolved_operand}
use Rattle.numbered_form.specs.Lists.{Each}
use Rattle.numbered_form.specs.inner.Fields.{IsStrong}
use Rattle.numbered_form.specs.Names.{IsMemberSpelled, IsWord, case_name, field_name, is_at_name}
use Rattle.numbered_form.specs.inner.Types.{HasFieldType, HasPayloadType, IsGivenWritten, IsPlainType}
use Rattle.sil_grammar.proofs.NumberedReadingLaws.ListsAndFaults.{Each-map, not_passed, not_passed-map}
use Rattle.sil_grammar.proofs.NumberedReadingLaws.FaultlessParts.{AreGoodCases, AreGoodFrom, AreGoodGivens, AreGoodOperands, AreGoodParams, AreGoodSwitch, IsGoodBlock}
use Rattle.sil_grammar.proofs.NumberedReadingLaws.FaultlessParts.{IsGoodBranch, IsGoodCase, IsGoodDecl, IsGoodField, IsGoodFunction, IsGoodItem, IsGoodModule, IsGoodPart}
use Rattle.sil_grammar.proofs.NumberedReadingLaws.FaultlessParts.{IsGoodSignature, IsGoodToken, IsGoodType, IsStrongField, IsWordToken, nothing_shown}
use Rattle.sil_grammar.proofs.NumberedReadingLaws.NumberLemmas.{good_small}
use Rattle.sil_grammar.proofs.NumberedReadingLaws.ResultLemmas.{renamed}
use Rattle.sil_grammar.proofs.NumberedReadingLaws.OperandLemmas.{operands_have_types, operands_typed}
use Rattle.sil_grammar.proofs.NumberedReadingLaws.WholeRows.{good_row}
use Rattle.sil_grammar.proofs.NumberedReadingLaws.TypeLemmas.{good_questions, good_name, good_optional, good_parens, good_unowned, good_weak, good_width}
use Rattle.sil_grammar.proofs.NumberedReadingLaws.TypeLemmas.{more_good_types, no_good_types, placed_address, placed_plain, plain_type, room}

-- a type that begins elsewhere
other_first : {t : PartType} → (first : Place) → IsGoodType t → IsGoodType (record t { first = first })
other_first first g = record { written = g.written; deep = g.deep; limit = g.limit }

-- declarations

field_words : (fields : List WrittenField) → Each IsGoodField fields → Each IsWord (map field_name (map resolved_field fields))
field_words [] g = tt
field_words (f ∷ fields) g = (g.0.name, field_words fields g.1)

field_types : (fields : List WrittenField) → Each IsGoodField fields → Each HasFieldType (map resolved_field fields)
field_types fields g = Each-map resolved_field IsGoodField HasFieldType (λ f h. h.ty) fields g

case_words : (cases : List WrittenCase) → Each IsGoodCase cases → Each IsWord (map case_name (map resolved_case cases))
case_words [] g = tt
case_words (c ∷ cases) g = (g.0.name, case_words cases g.1)

few_names : {A B : Type 0} (f : A → B) (name : B → List ℕ) (xs : List A) → length xs ≤ 64 → length (map name (map f xs)) ≤ 64
few_names f name xs h = rw (length-map, length-map) h

superclass_word : (superclass : Option WrittenToken) → IfSome superclass IsWordToken → IfSome (option_map name_of superclass) IsWord
superclass_word None g = tt
superclass_word (Some token) g = g

good_class : (name : WrittenToken) (superclass : Option WrittenToken) (fields : List WrittenField) → IsWord name.text → IfSome superclass IsWordToken
    → Each IsGoodField fields → passed limit.Members 64 (map field_place fields) ≡ None
    → IsGoodDecl (resolved_decl (decl.Class name superclass fields))
good_class name superclass fields word above g h = record {
  spelled = record { name = word; superclass = superclass_word superclass above; members = field_words fields g };
  strong = tt;
  types = field_types fields g;
  limits = few_names resolved_field field_name fields (not_passed-map field_place limit.Members 64 fields h);
}

good_struct : (name : WrittenToken) (fields : List WrittenField) → IsWord name.text → Each IsGoodField fields → Each IsStrongField fields → passed limit.Members 64 (map field_place fields) ≡ None
    → IsGoodDecl (resolved_decl (decl.Struct name fields))
good_struct name fields word g strong h = record {
  spelled = record { name = word; superclass = tt; members = field_words fields g };
  strong = Each-map resolved_field IsStrongField IsStrong (λ f e. e) fields strong;
  types = field_types fields g;
  limits = few_names resolved_field field_name fields (not_passed-map field_place limit.Members 64 fields h);
}

good_enum : (name : WrittenToken) (cases : List WrittenCase) → IsWord name.text → Each IsGoodCase cases → passed limit.Members 64 (map case_place cases) ≡ None
    → IsGoodDecl (resolved_decl (decl.Enum name cases))
good_enum name cases word g h = record {
  spelled = record { name = word; superclass = tt; members = case_words cases g };
  strong = tt;
  types = Each-map resolved_case IsGoodCase HasPayloadType (λ c h. h.payload) cases g;
  limits = few_names resolved_case case_name cases (not_passed-map case_place limit.Members 64 cases h);
}

-- functions

good_function : (name : WrittenToken) (linkage : Linkage) (attributes : List WrittenToken) (signature : Signature) (blocks : List WrittenBlock)
    → IsTrue (is_at_name name.text) → Each IsWordToken attributes → IsGoodSignature signature → Each IsGoodBlock blocks → function_fault attributes blocks ≡ None
    → IsGoodFunction (record { name = name; linkage = linkage; attributes = attributes; signature = signature; blocks = blocks })
good_function name linkage attributes signature blocks spelled words g gs h =
    let body : body_fault blocks ≡ None = no_second _ _ h in
    let counts = no_second _ _ body in
    record {
      name = spelled;
      attributes = words;
      signature = g;
      blocks = gs;
      attribute_count = not_passed limit.Arguments 64 (attribute_places attributes) (no_first _ _ h);
      block_count = not_passed-map label_place limit.Blocks 512 blocks (no_first _ _ body);
      inst_count = not_passed limit.Instructions 4096 _ (no_first _ _ counts);
      value_count = not_passed limit.Values 1024 _ (no_second _ _ counts);
    }

good_signature : (convention : Convention) (params : PartParams) (givens : PartGivens) → AreGoodParams params → AreGoodGivens givens
    → earlier (passed limit.Arguments 64 params.firsts) (passed limit.Arguments 64 givens.firsts) ≡ None
    → IsGoodSignature (record { convention = convention; params = params.params; results = givens.givens })
good_signature convention params givens g k h =
    let few_params : length params.firsts ≤ 64 = not_passed limit.Arguments 64 params.firsts (no_first _ _ h) in
    let few_givens : length givens.firsts ≤ 64 = not_passed limit.Arguments 64 givens.firsts (no_second _ _ h) in
    record {
      types = record { params = g.types; results = k.types };
      limits = record { params = omega (arith, g.counted); results = omega (arith, k.counted) };
    }

no_params_good : AreGoodParams (record { params = []; firsts = [] })
no_params_good = record { types = tt; counted = refl }

one_more_param : (param : Param) (first : Place) (others : PartParams) → IsPlainType param.ty
    → AreGoodParams others → AreGoodParams (record { params = param ∷ others.params; firsts = first ∷ others.firsts })
one_more_param param first others plain g = record { types = (plain, g.types); counted = ap suc g.counted }

no_givens_good : AreGoodGivens (record { givens = []; firsts = [] })
no_givens_good = record { types = tt; counted = refl }

one_more_given : (given : Given) (first : Place) (others : PartGivens) → IsGivenWritten given
    → AreGoodGivens others → AreGoodGivens (record { givens = given ∷ others.givens; firsts = first ∷ others.firsts })
one_more_given given first others h g = record { types = (h, g.types); counted = ap suc g.counted }

-- modules

good_items : (w : WrittenModule) → Each IsGoodItem w.items → module_fault w.items ≡ None → IsGoodModule w
good_items w g h = record {
  items = g;
  declarations = not_passed-map token_place limit.Declarations 1024 (flat_map decl_names w.items) (no_first _ _ h);
  functions = not_passed-map token_place limit.Functions 1024 (flat_map function_names w.items) (no_second _ _ h);
}

-- edges

few_resolved : (s : Scope) (os : List WrittenOperand) → length os ≤ 64 → length (map (resolved_operand s) os) ≤ 64
few_resolved s os h = rw length-map h

good_branch : (label : WrittenToken) (os : List WrittenOperand) → AreGoodOperands os → length os ≤ 64 → IsGoodBranch (record { label = label; args = os; case_of = None })
good_branch label os g few = record {
  good = λ s. record { types = operands_have_types (map (resolved_operand s) os) (g s); spelled = tt; limits = few_resolved s os few };
  branch = λ s. operands_typed (map (resolved_operand s) os) (g s);
}

good_case : (label : WrittenToken) (m : Member) (es : List WrittenEdge) → IsMemberSpelled m → AreGoodCases es → AreGoodSwitch (record { label = label; args = []; case_of = Some m } ∷ es)
good_case label m es spelled g = record {
  good = record { good = λ s. (record { types = tt; spelled = spelled; limits = omega arith }, g.good s); cases = g.cases };
  some = λ s. refl;
}

good_default : (label : WrittenToken) → AreGoodSwitch (record { label = label; args = []; case_of = None } ∷ [])
good_default label = record {
  good = record { good = λ s. (record { types = tt; spelled = tt; limits = omega arith }, tt); cases = λ s. refl };
  some = λ s. refl;
}

pub good_part : (q : Production) (parts : List PartValue) → AreGoodFrom 0 (body q) parts → part_fault q parts ≡ None → IsGoodPart (written q) (meaning q parts)
unfolding body written meaning part_fault tailed IsGoodPart IsGoodToken value_parts
good_part p.WholeModule parts g h = λ w e. let whole : WrittenModule = record { stage = stage_of (part 0 parts); imports = imports_of (part 1 parts); items = items_of (part 2 parts) } in
    let same : whole ≡ w = (cc) in subst IsGoodModule same (good_items whole g.1.1.0 h)
good_part p.ItemsMore parts g h = (g.0, g.1.0)
good_part p.FinalClass parts g h = good_class (token_of (part 2 parts)) (superclass_of (part 3 parts)) (fields_of (part 5 parts)) g.1.1.0 g.1.1.1.0 g.1.1.1.1.1.0 h
good_part p.PlainClass parts g h = good_class (token_of (part 1 parts)) (superclass_of (part 2 parts)) (fields_of (part 4 parts)) g.1.0 g.1.1.0 g.1.1.1.1.0 h
good_part p.StructItem parts g h = good_struct (token_of (part 1 parts)) (fields_of (part 3 parts)) g.1.0 g.1.1.1.0.0 g.1.1.1.0.1 h
good_part p.EnumItem parts g h = good_enum (token_of (part 1 parts)) (cases_of (part 3 parts)) g.1.0 g.1.1.1.0 h
good_part p.FunctionItem parts g h = good_function (token_of (part 3 parts)) (linkage_of (part 1 parts)) (tokens_of (part 2 parts))
    (signature_of (part 6 parts)) (blocks_of (part 7 parts)) g.1.1.1.0 g.1.1.0 g.1.1.1.1.1.1.0 g.1.1.1.1.1.1.1.0 h
good_part p.VtableItem parts g h = record { name = g.1.0; entry = g.1.1.1.0 }
good_part p.MembersMore parts g h = g.0 (fields_of (part 1 parts)) g.1.0
good_part p.StoredMember parts g h = g.1.0
good_part p.FinalMember parts g h = g.1.0
good_part p.PlainMember parts g h = g.0
good_part p.DeinitMember parts g h = λ others k. k
good_part p.InitMember parts g h = λ others k. k
good_part p.ModifiedStored parts g h = g.1.0
good_part p.ModifiedFinal parts g h = g.1.0
good_part p.ModifiedVariable parts g h = g.0
good_part p.WeakVariable parts g h = λ others k. (record { name = g.1.0.0.name; ty = g.1.0.0.ty }, k)
good_part p.UnownedVariable parts g h = λ others k. (record { name = g.1.0.0.name; ty = g.1.0.0.ty }, k)
good_part p.StrongVariable parts g h = g.0.1
good_part p.VarBinding parts g h = let f : IsGoodField (field_of (meaning p.VarBinding parts)) = record { name = g.1.0; ty = (plain_type (type_of (part 3 parts)) g.1.1.1.0) } in
    (f, λ others k. (f, k), λ others k. (refl, k))
good_part p.LetBinding parts g h = let f : IsGoodField (field_of (meaning p.LetBinding parts)) = record { name = g.1.0; ty = (plain_type (type_of (part 3 parts)) g.1.1.1.0) } in
    (f, λ others k. (f, k), λ others k. (refl, k))
good_part p.FieldsMore parts g h = (g.0.0 (fields_of (part 1 parts)) g.1.0.0, g.0.1 (fields_of (part 1 parts)) g.1.0.1)
good_part p.FieldsEnd parts g h = (tt, tt)
good_part p.StoredField parts g h = g.1.0
good_part p.PlainField parts g h = (g.0.1, g.0.2)
good_part p.CasesMore parts g h = (record { name = g.1.0; payload = g.1.1.0 }, g.1.1.1.0)
good_part p.PayloadSome parts g h = plain_type (in_parens (place_at 0 parts) (type_before (type_of (part 1 parts)) (types_of (part 2 parts))) (place_at 3 parts))
    (good_parens (place_at 0 parts) (type_before (type_of (part 1 parts)) (types_of (part 2 parts)))
    (place_at 3 parts) (more_good_types (type_of (part 1 parts)) (types_of (part 2 parts)) g.1.0 g.1.1.0) h)
good_part p.BareType parts g h = g.0
good_part p.ParenType parts g h = good_questions (in_parens (place_at 0 parts) (types_of (part 1 parts)) (place_at 2 parts))
    (questions_of (part 3 parts)) (good_parens (place_at 0 parts) (types_of (part 1 parts)) (place_at 2 parts) g.1.0 (no_first _ _ h)) (no_second _ _ h)
good_part p.BaseOpen parts g h = good_questions (type_of (part 0 parts)) (questions_of (part 1 parts)) g.0 h
good_part p.WeakOpen parts g h = good_weak (type_of (part 1 parts)) (place_at 0 parts) (type_of (part 1 parts)).last
    g.1.0 (room (type_of (part 1 parts)).depth (type_of (part 1 parts)).last g.1.0.limit h)
good_part p.UnownedOpen parts g h = good_unowned (type_of (part 1 parts)) (place_at 0 parts)
    (type_of (part 1 parts)).last g.1.0 (room (type_of (part 1 parts)).depth (type_of (part 1 parts)).last g.1.0.limit h)
good_part p.BuiltinBase parts g h = g.1.0 (token_of (part 0 parts)) g.0
good_part p.OptionalBase parts g h = g.1.0 (token_of (part 0 parts)) g.0
good_part p.NamedBase parts g h = good_name (token_of (part 0 parts)) g.0
good_part p.BuiltinInt parts g h = g.1.0
good_part p.BuiltinName parts g h = λ token word. good_name token word
good_part p.OptionalOf parts g h = λ token word. good_optional (type_of (part 1 parts)) token.place (place_at 2 parts) g.1.0 (room (type_of (part 1 parts)).depth (place_at 2 parts) g.1.0.limit h)
good_part p.OptionalName parts g h = λ token word. good_name token word
good_part p.Width1 parts g h = λ token word. other_first token.place (good_width 1 (place_at 0 parts) refl)
good_part p.Width8 parts g h = λ token word. other_first token.place (good_width 8 (place_at 0 parts) refl)
good_part p.Width16 parts g h = λ token word. other_first token.place (good_width 16 (place_at 0 parts) refl)
good_part p.Width32 parts g h = λ token word. other_first token.place (good_width 32 (place_at 0 parts) refl)
good_part p.Width64 parts g h = λ token word. other_first token.place (good_width 64 (place_at 0 parts) refl)
good_part p.TypesSome parts g h = more_good_types (type_of (part 0 parts)) (types_of (part 1 parts)) g.0 g.1.0
good_part p.TypesNone parts g h = no_good_types
good_part p.MoreTypesMore parts g h = more_good_types (type_of (part 1 parts)) (types_of (part 2 parts)) g.1.0 g.1.1.0
good_part p.MoreTypesEnd parts g h = no_good_types
good_part p.AttributesMore parts g h = (g.1.0, g.1.1.1.0)
good_part p.BodySome parts g h = (g.1.0, g.1.1.0)
good_part p.WholeFunctionType parts g h = good_signature _ (params_of (part 5 parts)) (givens_of (part 8 parts)) g.1.1.1.1.1.0 g.1.1.1.1.1.1.1.1.0 h
good_part p.ParamsSome parts g h = g.0 (params_of (part 1 parts)) g.1.0
good_part p.ParamsNone parts g h = no_params_good
good_part p.MoreParamsMore parts g h = g.1.0 (params_of (part 2 parts)) g.1.1.0
good_part p.MoreParamsEnd parts g h = no_params_good
good_part p.ParamOwned parts g h = λ others k. one_more_param _ _ others (plain_type (type_of (part 1 parts)) g.1.0) k
good_part p.ParamGuaranteed parts g h = λ others k. one_more_param _ _ others (plain_type (type_of (part 1 parts)) g.1.0) k
good_part p.ParamInout parts g h = λ others k. one_more_param _ _ others (plain_type (type_of (part 1 parts)) g.1.0) k
good_part p.ParamIn parts g h = λ others k. one_more_param _ _ others (plain_type (type_of (part 1 parts)) g.1.0) k
good_part p.ParamInGuaranteed parts g h = λ others k. one_more_param _ _ others (plain_type (type_of (part 1 parts)) g.1.0) k
good_part p.ParamPlain parts g h = λ others k. one_more_param _ _ others (plain_type (type_of (part 0 parts)) g.0) k
good_part p.ResultList parts g h = g.1.0
good_part p.ResultOwned parts g h = record { types = (record { word = refl; ty = plain_type (type_of (part 1 parts)) g.1.0 }, tt); counted = refl }
good_part p.ResultOut parts g h = record { types = (record { word = refl; ty = plain_type (type_of (part 1 parts)) g.1.0 }, tt); counted = refl }
good_part p.ResultPlain parts g h = record { types = (record { word = refl; ty = plain_type (type_of (part 0 parts)) g.0 }, tt); counted = refl }
good_part p.InsideSome parts g h = g.0 (givens_of (part 1 parts)) g.1.0
good_part p.InsideNone parts g h = no_givens_good
good_part p.MoreGivensMore parts g h = g.1.0 (givens_of (part 2 parts)) g.1.1.0
good_part p.MoreGivensEnd parts g h = no_givens_good
good_part p.GivenOwned parts g h = λ others k. one_more_given (given_with true false 1 parts) (place_at 0 parts) others (record { word = refl; ty = plain_type (type_of (part 1 parts)) g.1.0 }) k
good_part p.GivenOut parts g h = λ others k. one_more_given (given_with false true 1 parts) (place_at 0 parts) others (record { word = refl; ty = plain_type (type_of (part 1 parts)) g.1.0 }) k
good_part p.GivenPlain parts g h = λ others k. one_more_given (given_with false false 0 parts) (type_of (part 0 parts)).first others
    (record { word = refl; ty = plain_type (type_of (part 0 parts)) g.0 }) k
good_part p.WholeBlock parts g h = record { args = g.1.0; few = not_passed-map arg_place limit.Arguments 64 (args_of (part 1 parts)) h; insts = g.1.1.1.0.0; terminator = g.1.1.1.0.1 }
good_part p.BlocksMore parts g h = (g.0, g.1.0)
good_part p.BlockArgsSome parts g h = (g.1.0, g.1.1.0)
good_part p.MoreBlockArgsMore parts g h = (g.1.0, g.1.1.0)
good_part p.WholeBlockArg parts g h = g.1.1.1.1.0 (type_of (part 5 parts)).ty (plain_type (type_of (part 5 parts)) g.1.1.1.1.1.0)
good_part p.StarSome parts g h = placed_address
good_part p.StarNone parts g h = placed_plain
good_part p.CodeInst parts g h = ((g.0, g.1.0.0), g.1.0.1)
good_part p.CodeEnd parts g h = (tt, g.0)
good_part p.InstOneName parts g h = record { goes_on = g.1.1.0.goes_on; good = λ s first. renamed s first (inst_of (part 2 parts)) (token_of (part 0 parts) ∷ []) (omega arith) (g.1.1.0.good s first) }
good_part p.InstNames parts g h = record {
  goes_on = g.1.1.1.1.0.goes_on;
  good = λ s first. renamed s first (inst_of (part 4 parts)) (tokens_of (part 1 parts))
      (not_passed-map token_place limit.Arguments 64 (tokens_of (part 1 parts)) h) (g.1.1.1.1.0.good s first);
}
good_part p.InstUnnamed parts g h = record { goes_on = g.0.goes_on; good = g.0.good }
good_part (p.Row o) parts g h = good_row o parts (meaning (p.Row o) parts) refl g h
good_part p.WholeOperand parts g h = λ s. record { typed = refl; ty = g.1.1.1.0 (type_of (part 4 parts)).ty (plain_type (type_of (part 4 parts)) g.1.1.1.1.0) }
good_part p.OperandsSome parts g h = λ s. (g.0 s, g.1.0 s)
good_part p.OperandsNone parts g h = λ s. tt
good_part p.MoreOperandsMore parts g h = λ s. (g.1.0 s, g.1.1.0 s)
good_part p.MoreOperandsEnd parts g h = λ s. tt
good_part p.WholeEdge parts g h = good_branch (token_of (part 0 parts)) (operands_of (part 1 parts)) g.1.0 (not_passed-map operand_place limit.Arguments 64 (operands_of (part 1 parts)) h)
good_part p.EdgeArgsSome parts g h = λ s. (g.1.0 s, g.1.1.0 s)
good_part p.EdgeArgsNone parts g h = λ s. tt
good_part p.SwitchCase parts g h = good_case (token_of (part 3 parts)) (member_of (part 1 parts)) (edges_of (part 4 parts)) g.1.0 g.1.1.1.1.0
good_part p.SwitchDefault parts g h = good_default (token_of (part 1 parts))
good_part p.SwitchMoreSome parts g h = g.1.0.good
good_part p.SwitchMoreEnd parts g h = record { good = λ s. tt; cases = λ s. refl }
good_part p.WholeEnumElement parts g h = record { owner = g.1.0; name = g.1.1.1.0 }
good_part p.EnumOperandSome parts g h = record { good = λ s. (g.1.0 s, tt); few = omega arith }
good_part p.EnumOperandNone parts g h = record { good = λ s. tt; few = omega arith }
good_part p.WholeMemberName parts g h = record { owner = g.1.0; name = g.1.1.1.0 }
good_part p.TakeFlagSome parts g h = refl
good_part p.TakeFlagNone parts g h = refl
good_part p.InitFlagSome parts g h = g.1.0
good_part p.InitFlagNone parts g h = refl
good_part p.InitShort parts g h = refl
good_part p.InitLong parts g h = refl
good_part p.DebugSome parts g h = g.1.0
good_part p.DebugNone parts g h = nothing_shown
good_part p.DebugLet parts g h = g.1.0
good_part p.DebugVar parts g h = g.1.0
good_part p.DebugRest parts g h = g.0
good_part p.DebugAfterBindingSome parts g h = g.1.0
good_part p.DebugAfterBindingNone parts g h = nothing_shown
good_part p.DebugName parts g h = (g.1.0, g.1.1.0.1)
good_part p.DebugNoName parts g h = g.0
good_part p.DebugAfterNameSome parts g h = g.1.0
good_part p.DebugAfterNameNone parts g h = nothing_shown
good_part p.DebugNumber parts g h = (g.1.1.0.0, good_small 65535 (text_at 1 parts))
good_part p.DebugNoNumber parts g h = g.0
good_part p.DebugAfterNumberSome parts g h = g.1.0
good_part p.DebugAfterNumberNone parts g h = nothing_shown
good_part p.DebugDeref parts g h = nothing_shown
good_part p.EntrySome parts g h = g.1.0
good_part p.SuperclassSome parts g h = g.1.0
good_part _ parts g h = tt
