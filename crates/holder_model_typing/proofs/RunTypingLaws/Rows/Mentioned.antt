-- Where storage stands in the types that are written at operands, and that superclasses are classes: what holds of a module whose types are declared.
use Rattle.std.proofs.Common.{◌≡◌, ℕ, List, ◌++◌, map, ap, ◌∙◌, subst, Bool, false, Some}
use Rattle.std.specs.Prelude.{option_map, slice_get}
use Rattle.std.specs.List.{flat_map, list_any}
use Rattle.std.proofs.lemmas.Bool.{or_parts}
use Rattle.std.proofs.lemmas.Option.{slice_get-map}
use Rattle.sil_ast.specs.declared.function.Function.{Function}
use Rattle.sil_ast.specs.declared.inst.Inst.{Inst}
use Rattle.sil_ast.specs.declared.module.Module.{Module}
use Rattle.sil_ast.specs.declared.operands.Operand.{Operand}
use Rattle.sil_ast.specs.declared.type_name.TypeName.{TypeName}
use Rattle.numbered_form.specs.Insts.{insts_of}
use Rattle.numbered_form.specs.PointChecks.Points.{IsAt}
use Rattle.holder_model.specs.sil_types_declarations.declared.type_definitions.standing.Standing.TheVariants.{Value}
use Rattle.holder_model.specs.sil_types_declarations.TypeDefinitions.Declarations.{declarations_of}
use Rattle.holder_model.specs.sil_types_declarations.TypeDefinitions.Mentions.{Item, Mention, decl, function, if_there, in_arg, in_block, in_edge, in_inst, in_operand, in_signature, in_tuple}
use Rattle.holder_model.specs.sil_types_declarations.TypeDefinitions.Mentions.{standing_in, vtable}
use Rattle.holder_model.specs.sil_types_declarations.TypeDefinitions.Rules.{Declared, IsWellNamed, is_misplaced, is_misplaced_at, is_misplaced_value}
use Rattle.std.specs.Option.{option_to_list}
use Rattle.holder_model_typing.proofs.RunTypingLaws.Rows.Finding.{all_at, all_of_both, none_in_any, none_in_both}

module _ (m : Module) (declared : Declared m) (n : ℕ) (f : Function) (is_function : slice_get m.functions n ≡ Some f) where
  pub function_named : IsWellNamed (declarations_of m) (function f)
  function_named =
      let P : Item → Type 0 = IsWellNamed (declarations_of m) in
      let front = all_of_both P (map decl m.decls ++ map function m.functions) (map vtable m.vtables) declared.items in
      all_at P (map function m.functions) n (function f) (all_of_both P (map decl m.decls) (map function m.functions) front.0).1
      (slice_get-map function m.functions n ∙ ap (option_map function) is_function)

  abbrev misplaced : List Mention → Bool
  misplaced = list_any (is_misplaced (declarations_of m))

  module _ (block index : ℕ) (i : Inst) (here : IsAt f block index i) where
    in_inst_none : misplaced (in_inst i) ≡ false
    in_inst_none =
        none_in_any (is_misplaced (declarations_of m)) in_inst (insts_of here.within) index i
        (none_in_both (is_misplaced (declarations_of m)) (map in_arg here.within.args) (flat_map in_inst (insts_of here.within))
        (none_in_any (is_misplaced (declarations_of m)) in_block f.blocks block here.within
        (none_in_both (is_misplaced (declarations_of m)) (in_signature f.signature) (flat_map in_block f.blocks) function_named.storage).1 here.is_block)).1 here.is_inst

    -- at an operand no storage stands but directly behind an address
    pub operand_placed : (k : ℕ) (o : Operand) (t : TypeName) → slice_get i.operands k ≡ Some o → o.ty ≡ Some t → is_misplaced_value (declarations_of m) t ≡ false
    operand_placed k o t is ty =
        let test = is_misplaced (declarations_of m) in
        let all = none_in_both test (if_there (standing_in i.op) i.ty ++ flat_map in_signature (option_to_list i.signature) ++ flat_map in_operand i.operands ++ flat_map in_edge i.edges)
        (in_tuple i) in_inst_none in
        let three = none_in_both test (if_there (standing_in i.op) i.ty ++ flat_map in_signature (option_to_list i.signature) ++ flat_map in_operand i.operands) (flat_map in_edge i.edges) all.0 in
        let own = none_in_both test (if_there (standing_in i.op) i.ty ++ flat_map in_signature (option_to_list i.signature)) (flat_map in_operand i.operands) three.0 in
        let at : misplaced (in_operand o) ≡ false = none_in_any test in_operand i.operands k o own.1 is in
        (or_parts (is_misplaced_value (declarations_of m) t) false (subst (λ x. misplaced (if_there Value x) ≡ false) ty at)).0

    -- at a slot storage may stand directly, and nowhere else in the type that is written for itself
    pub type_placed : (t : TypeName) → i.ty ≡ Some t → is_misplaced_at (declarations_of m) (standing_in i.op) t ≡ false
    type_placed t ty =
        let test = is_misplaced (declarations_of m) in
        let own = if_there (standing_in i.op) i.ty in
        let signatures = flat_map in_signature (option_to_list i.signature) in
        let all = none_in_both test (own ++ signatures ++ flat_map in_operand i.operands ++ flat_map in_edge i.edges) (in_tuple i) in_inst_none in
        let three = none_in_both test (own ++ signatures ++ flat_map in_operand i.operands) (flat_map in_edge i.edges) all.0 in
        let two = none_in_both test (own ++ signatures) (flat_map in_operand i.operands) three.0 in
        let one = none_in_both test own signatures two.0 in
        (or_parts (is_misplaced_at (declarations_of m) (standing_in i.op) t) false (subst (λ x. misplaced (if_there (standing_in i.op) x) ≡ false) ty one.0)).0
