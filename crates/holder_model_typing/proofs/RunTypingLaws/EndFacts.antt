-- Terminators: their operands and edges are those that their rows have to do with, and they take all their operands.
use Rattle.std.proofs.Common.{◌≡◌, ℕ, List, [], ◌∷◌, length, map, refl, sym, ap, ◌∙◌, subst, Bool, true, false, ◌⊎◌, inl, inr, Option, Some, None}
use Rattle.std.specs.Prelude.{◌&&◌, ◌||◌, ◌==◌, is_some, not, option_and_then, slice_get, take}
use Rattle.std.specs.List.{list_all}
use Rattle.instruction_table.specs.Forms.{bare_operands_of, ending_of, is_terminator, roles_of}
use Rattle.instruction_table.specs.declared.op.Op.{Op}
use Rattle.instruction_table.specs.declared.op.Op.TheVariants as op
use Rattle.holder_model.specs.sil_cfg_items.Parts.{terminator_of}
use Rattle.holder_model.specs.sil_cfg_items.Roles.{taken_by}
use Rattle.holder_model.specs.LoweredRun.LowStepParts.{taken_value}
use Rattle.numbered_form.specs.Lists.{is_empty}
use Rattle.numbered_form.specs.inner.Parts.{are_cases, are_edges_by, first_then, has_operands, is_bare, is_branch, is_typed}
use Rattle.holder_model.specs.holder_model_values.RunValues.Shapes.{shape_of}
use Rattle.sil_ast.specs.declared.function.Form.TheVariants as form
use Rattle.sil_ast.specs.declared.function.Function.{Function}
use Rattle.sil_ast.specs.declared.inst.Edge.{Edge}
use Rattle.sil_ast.specs.declared.inst.Inst.{Inst}
use Rattle.sil_ast.specs.declared.module.Module.{Module}
use Rattle.sil_ast.specs.declared.operands.Operand.{Operand}
use Rattle.sil_ast.specs.declared.type_name.TypeName.{TypeName, TypeName-F, out-TypeName}
use Rattle.sil_ast.specs.declared.type_name.TypeName.TheVariants as type
use Rattle.holder_model.specs.sil_types.Typing.EdgeRules.{has_block_types, has_wrong_edge_arguments, have_wrong_arguments_by}
use Rattle.holder_model.specs.sil_types.Typing.OperandTypes.{are_as_asked_by, has_type}
use Rattle.holder_model.specs.sil_types.Typing.RowTypes.{given_by, passes, takes, type_of, written}
use Rattle.holder_model.specs.sil_types.Typing.Same.{all_pairs, is_same_type}
use Rattle.holder_model.specs.sil_types.Typing.Shapes.{case_count_in, is_enum, target, target_in, where_it}
use Rattle.holder_model.specs.sil_types.Typing.SignatureRules.{differs_by, differs_from_signature, returns_what_is_given}
use Rattle.holder_model.specs.sil_types.Typing.SwitchRules.{has_wrong_cases_by, switches_wrongly}
use Rattle.holder_model.specs.sil_types.Typing.Values.{value_functions, value_types}
use Rattle.holder_model.specs.sil_types_declarations.TypeDefinitions.Declarations.{Declarations, declarations_of}
use Rattle.holder_model.specs.sil_types_declarations.TypeDefinitions.Mentions.{given_type}
use Rattle.holder_model.specs.RunTyping.EndForms.{EndForms, branch, branches, cases, operand_forms, returns, unreachable, value_in}
use Rattle.holder_model.specs.RunTyping.Forms.{OfValue, form_of, forms_of}
use Rattle.holder_model.specs.RunTyping.Runnable.{IsNotOwned}
use Rattle.holder_model_typing.specs.RunTypingLaws.inner.WellTyped.{IsWellTyped}
use Rattle.holder_model_typing.proofs.RunTypingLaws.BlockFacts.{edge_forms, lowered_form}
use Rattle.holder_model_typing.proofs.RunTypingLaws.FunctionFacts.{TypedFunction, TypedInst}
use Rattle.holder_model_typing.proofs.RunTypingLaws.Found.{both_first, both_second, not_false}
use Rattle.numbered_form.proofs.Lists.{empty_is}
use Rattle.holder_model_typing.proofs.RunTypingLaws.MemberFacts.{enum_is}
use Rattle.holder_model_typing.proofs.RunTypingLaws.Rows.Finding.{mapped_some, passes_at, some_of, where_found}
use Rattle.holder_model_typing.proofs.RunTypingLaws.Rows.Layers.{target-Int}
use Rattle.holder_model_typing.proofs.RunTypingLaws.ShapeFacts.{int_shape, same_types}
use Rattle.holder_model_typing.proofs.RunTypingLaws.SignatureFacts.{given_is_value}
use Rattle.holder_model_typing.proofs.RunTypingLaws.SwitchFacts.{SwitchKept, case_taken, switch_kept}
use Rattle.holder_model_typing.proofs.RunTypingLaws.Rows.Forms.{asked_form, typed_form, value_form}
use Rattle.holder_model_typing.proofs.RunTypingLaws.Rows.Taking.{ends_for_any, takes_any, takes_none}
use Rattle.holder_model_typing.proofs.RunTypingLaws.ValueForms.{operand_written, operands_asked, row_kept}

-- operands by the parts of their rows

either : (a b : Bool) → (a || (false && b)) ≡ true → a ≡ true
either true b e = refl
either false b e = cc

pub no_operand : (os : List Operand) → (is_empty os || (false && is_empty os)) ≡ true → os ≡ []
no_operand os e = empty_is os (either (is_empty os) (is_empty os) e)

pub one_operand : (test : Operand → Bool) (os : List Operand) → (first_then test is_empty os || (false && is_empty os)) ≡ true → (o : Operand) × (os ≡ o ∷ []) × (test o ≡ true)
one_operand test [] e = cc
one_operand test (o ∷ os) e =
    let both = either (test o && is_empty os) false e in
    (o, ap (λ x. o ∷ x) (empty_is os (both_second (test o) (is_empty os) both)), both_first (test o) (is_empty os) both)

-- edges

one_edge : (es : List Edge) → (length es == 1 && list_all is_branch es) ≡ true → (e : Edge) × (slice_get es 0 ≡ Some e) × (is_branch e ≡ true)
one_edge [] h = cc
one_edge (e ∷ es) h = (e, refl, both_first (is_branch e) (list_all is_branch es) (both_second (length (e ∷ es) == 1) _ h))

two_edges : (es : List Edge) → (length es == 2 && list_all is_branch es) ≡ true
    → (e g : Edge) × (slice_get es 0 ≡ Some e) × (slice_get es 1 ≡ Some g) × (is_branch e ≡ true) × (is_branch g ≡ true)
two_edges [] h = cc
two_edges (e ∷ []) h = cc
two_edges (e ∷ g ∷ es) h =
    let branches = both_second (length (e ∷ g ∷ es) == 2) (list_all is_branch (e ∷ g ∷ es)) h in
    (e, g, refl, refl, both_first (is_branch e) (list_all is_branch (g ∷ es)) branches, both_first (is_branch g) (list_all is_branch es) (both_second (is_branch e) _ branches))

-- an enum is no address
enum_target : (d : Declarations) (t : TypeName) → is_enum d t ≡ true → target t ≡ None
enum_target d t e = at (out-TypeName t) e
  where
    at : (layer : TypeName-F TypeName) → is_some (case_count_in d layer) ≡ true → target_in layer ≡ None
    at (TypeName-F.Address inner) e = cc
    at _ e = refl

module _ (m : Module) (r : IsWellTyped m) (f : Function) (typed : TypedFunction m f) (i : Inst) (here : TypedInst m f i) where
  has_ops : (o : Op) → i.op ≡ o → has_operands o i.operands ≡ true
  has_ops o e = ap (λ x. has_operands x i.operands) (sym e) ∙ here.parts.operands

  has_edges_of : (o : Op) → i.op ≡ o → are_edges_by (ending_of o) i.edges ≡ true
  has_edges_of o e = ap (λ x. are_edges_by (ending_of x) i.edges) (sym e) ∙ here.parts.edges

  edges_kept : (o : Op) → i.op ≡ o → have_wrong_arguments_by o f i.edges ≡ false
  unfolding has_wrong_edge_arguments
  edges_kept o e = ap (λ x. have_wrong_arguments_by x f i.edges) (sym e) ∙ here.edges

  returned : (o : Op) → i.op ≡ o → differs_by o m f (value_functions f) i ≡ false
  unfolding differs_from_signature
  returned o e = ap (λ x. differs_by x m f (value_functions f) i) (sym e) ∙ here.signature

  branch_end : i.op ≡ op.Br → EndForms (declarations_of m) f i
  branch_end e =
      let one = one_edge i.edges (has_edges_of op.Br e) in
      let same : list_all (has_block_types f) i.edges ≡ true = not_false _ (edges_kept op.Br e) in
      branch one.0 (ap ending_of e) (no_operand i.operands (has_ops op.Br e)) one.1
      (edge_forms m f typed i here 0 one.0 one.1 one.2 (passes_at (has_block_types f) i.edges 0 one.0 same one.1))

  branches_end : i.op ≡ op.CondBr → EndForms (declarations_of m) f i
  branches_end e =
      let two = two_edges i.edges (has_edges_of op.CondBr e) in
      let same : list_all (has_block_types f) i.edges ≡ true = not_false _ (edges_kept op.CondBr e) in
      let one = one_operand is_bare i.operands (has_ops op.CondBr e) in
      let asked : are_as_asked_by (bare_operands_of op.CondBr) (value_types (declarations_of m) f) i ≡ true =
      ap (λ x. are_as_asked_by (bare_operands_of x) (value_types (declarations_of m) f) i) (sym e) ∙ operands_asked m f i here in
      let is_bit : has_type (value_types (declarations_of m) f) one.0 (type.Int 1) ≡ true =
      both_first (has_type (value_types (declarations_of m) f) one.0 (type.Int 1)) true
      (ap (λ os. all_pairs (has_type (value_types (declarations_of m) f)) (take 1 os) (type.Int 1 ∷ [])) (sym one.1) ∙ asked) in
      let form = asked_form (declarations_of m) f one.0 (type.Int 1) is_bit ∙ value_form (declarations_of m) (type.Int 1) (target-Int 1) ∙ ap OfValue (int_shape m 1) in
      branches two.0 two.1 (ap ending_of e)
      (ap (λ os. forms_of (declarations_of m) f (map value_in os)) one.1 ∙ ap (λ x. x ∷ []) form) two.2 two.3
      (edge_forms m f typed i here 0 two.0 two.2 two.4 (passes_at (has_block_types f) i.edges 0 two.0 same two.2))
      (edge_forms m f typed i here 1 two.1 two.3 two.5 (passes_at (has_block_types f) i.edges 1 two.1 same two.3))

  -- the one operand, with the type that is written at it
  record TypedOperand : Type 0 where
    operand : Operand
    ty : TypeName
    alone : i.operands ≡ operand ∷ []
    is : written 0 i ≡ Some ty
    form : form_of (declarations_of m) f operand.value ≡ typed_form (declarations_of m) ty

  typed_operand : (first_then is_typed is_empty i.operands || (false && is_empty i.operands)) ≡ true → TypedOperand
  typed_operand parts =
      let one = one_operand is_typed i.operands parts in
      let ty = some_of one.0.ty one.2 in
      let first : slice_get i.operands 0 ≡ Some one.0 = ap (λ os. slice_get os 0) one.1 in
      record {
        operand = one.0;
        ty = ty.0;
        alone = one.1;
        is = ap (option_and_then type_of) first ∙ ty.1;
        form = operand_written m f i here 0 one.0 ty.0 first ty.1;
      }

  operand_is : (o : TypedOperand) → target o.ty ≡ None → operand_forms (declarations_of m) f i ≡ OfValue (shape_of (declarations_of m) o.ty) ∷ []
  operand_is o e = ap (λ os. forms_of (declarations_of m) f (map value_in os)) o.alone ∙ ap (λ x. x ∷ []) (o.form ∙ value_form (declarations_of m) o.ty e)

  -- the enum that is switched over
  pub record IsSwitch : Type 0 where
    pub ty : TypeName
    pub enum : is_enum (declarations_of m) ty ≡ true
    pub operand : operand_forms (declarations_of m) f i ≡ OfValue (shape_of (declarations_of m) ty) ∷ []
    pub edges : are_cases i.edges ≡ true
    pub kept : SwitchKept m f ty i.edges

  pub switched : i.op ≡ op.SwitchEnum → IsSwitch
  switched e =
      let o = typed_operand (has_ops op.SwitchEnum e) in
      let kept : is_some (takes (where_it (is_enum (declarations_of m)) (written 0 i))) ≡ true = ap (λ x. is_some (given_by x (declarations_of m) i)) (sym e) ∙ row_kept m f i here in
      let enum : is_enum (declarations_of m) o.ty ≡ true = enum_asked (written 0 i) o.ty o.is kept in
      let right : switches_wrongly (declarations_of m) f i.edges (Some o.ty) ≡ false =
      ap (switches_wrongly (declarations_of m) f i.edges) (sym o.is) ∙ ap (λ x. has_wrong_cases_by x (declarations_of m) f i) (sym e) ∙ here.cases in
      record {
        ty = o.ty;
        enum = enum;
        operand = operand_is o (enum_target (declarations_of m) o.ty enum);
        edges = both_second (not (is_empty i.edges)) (are_cases i.edges) (has_edges_of op.SwitchEnum e);
        kept = switch_kept m f o.ty i.edges right;
      }
    where
      enum_asked : (w : Option TypeName) (t : TypeName) → w ≡ Some t → is_some (takes (where_it (is_enum (declarations_of m)) w)) ≡ true → is_enum (declarations_of m) t ≡ true
      enum_asked w t e h =
          let found = mapped_some (λ ty. []) (where_it (is_enum (declarations_of m)) w) h in
          let at = where_found (is_enum (declarations_of m)) w found.0 found.1 in
          let same : found.0 ≡ t = let one = at.0 in cc in
          subst (λ x. is_enum (declarations_of m) x ≡ true) same at.1

  return_end : i.op ≡ op.Return → EndForms (declarations_of m) f i
  return_end e =
      let o = typed_operand (has_ops op.Return e) in
      let gives : returns_what_is_given f i ≡ true = not_false _ (returned op.Return e) in
      let same : given_type f.signature ≡ o.ty =
      same_types (given_type f.signature) o.ty (ap (passes (is_same_type (given_type f.signature))) (sym o.is) ∙ gives) in
      returns (ap ending_of e)
      (operand_is o (ap target (sym same) ∙ given_is_value m f typed) ∙ ap (λ t. OfValue (shape_of (declarations_of m) t) ∷ []) (sym same))

  switch_end : f.form ≡ form.Lowered → i.op ≡ op.SwitchEnum → EndForms (declarations_of m) f i
  switch_end lowered e =
      let it = switched e in
      cases (shape_of (declarations_of m) it.ty) (ap ending_of e) it.operand (enum_is m r it.ty it.enum)
      (case_taken m r f typed i here it.ty it.edges it.kept it.enum lowered)

  -- all but a switch ends alike in both forms
  pub other_end : (o : Op) → i.op ≡ o → is_terminator o ≡ true → (o ≡ op.SwitchEnum) ⊎ EndForms (declarations_of m) f i
  other_end op.Br e ends = inr (branch_end e)
  other_end op.CondBr e ends = inr (branches_end e)
  other_end op.SwitchEnum e ends = inl refl
  other_end op.Return e ends = inr (return_end e)
  other_end op.Unreachable e ends = inr (unreachable (ap ending_of e))
  other_end _ e ends = absurd (cc)

  end_by : f.form ≡ form.Lowered → (o : Op) → i.op ≡ o → (o ≡ op.SwitchEnum) ⊎ EndForms (declarations_of m) f i → EndForms (declarations_of m) f i
  end_by lowered o e (inl switch) = switch_end lowered (e ∙ switch)
  end_by lowered o e (inr other) = other

  takes_by : (o : Op) → i.op ≡ o → is_terminator o ≡ true → map taken_value (taken_by i) ≡ map value_in i.operands
  takes_by op.Br e ends = takes_none i (no_operand i.operands (has_ops op.Br e))
  takes_by op.CondBr e ends = takes_any i (ap (λ o. ends_for_any (roles_of o)) e)
  takes_by op.SwitchEnum e ends = takes_any i (ap (λ o. ends_for_any (roles_of o)) e)
  takes_by op.Return e ends = takes_any i (ap (λ o. ends_for_any (roles_of o)) e)
  takes_by op.Unreachable e ends = takes_none i (no_operand i.operands (has_ops op.Unreachable e))
  takes_by _ e ends = absurd (cc)

pub ends : (m : Module) → IsWellTyped m → (f : Function) → TypedFunction m f → IsNotOwned f → (b : ℕ) (i : Inst) → terminator_of f b ≡ Some i → EndForms (declarations_of m) f i
ends m r f typed not_owned b i e =
    let at = typed.ends b i e in
    let here = typed.insts b at.0 i at.2 in
    end_by m r f typed i here (lowered_form m f b at.2.within typed not_owned at.2.is_block) i.op refl (other_end m r f typed i here i.op refl at.1.ends)

-- a terminator takes all its operands
pub ends_take : (m : Module) → IsWellTyped m → (f : Function) → TypedFunction m f → (b : ℕ) (i : Inst) → terminator_of f b ≡ Some i → map taken_value (taken_by i) ≡ map value_in i.operands
ends_take m r f typed b i e =
    let at = typed.ends b i e in
    takes_by m r f typed i (typed.insts b at.0 i at.2) i.op refl at.1.ends
