-- Terminators in ownership form: a switch hands a default the whole enum, where its block takes it, and all else ends as in lowered form.
use Rattle.std.proofs.Common.{◌≡◌, ℕ, List, [], ◌∷◌, map, refl, sym, ap, ◌∙◌, true, ◌⊎◌, inl, inr, Some}
use Rattle.std.specs.Prelude.{not}
use Rattle.instruction_table.specs.Forms.{ending_of, is_terminator}
use Rattle.instruction_table.specs.declared.entries.Ending.TheVariants as ending
use Rattle.instruction_table.specs.declared.op.Op.{Op}
use Rattle.instruction_table.specs.declared.op.Op.TheVariants as op
use Rattle.holder_model.specs.sil_cfg_items.Parts.{terminator_of}
use Rattle.holder_model.specs.holder_model_values.RunValues.Layers.{CaseLayer}
use Rattle.holder_model.specs.holder_model_values.RunValues.Shapes.{Shape, shape_of}
use Rattle.sil_ast.specs.Blocks.{args_of}
use Rattle.sil_ast.specs.declared.function.BlockArg.{BlockArg}
use Rattle.sil_ast.specs.declared.function.Function.{Function}
use Rattle.sil_ast.specs.declared.inst.Edge.{Edge}
use Rattle.sil_ast.specs.declared.inst.Inst.{Inst}
use Rattle.sil_ast.specs.declared.module.Module.{Module}
use Rattle.sil_ast.specs.declared.type_name.TypeName.{TypeName}
use Rattle.holder_model.specs.sil_types.Typing.FormRules.{is_lowered}
use Rattle.holder_model.specs.sil_types.Typing.Same.{is_same_type}
use Rattle.holder_model.specs.sil_types.Typing.SwitchRules.{is_default_argument}
use Rattle.holder_model.specs.sil_types.Typing.Values.{arg_type}
use Rattle.holder_model.specs.sil_types_declarations.TypeDefinitions.Declarations.{declarations_of}
use Rattle.holder_model.specs.RunTyping.EndForms.{CaseForms, EndForms, arguments_at}
use Rattle.holder_model.specs.RunTyping.Forms.{OfValue, forms_of}
use Rattle.holder_model_typing.specs.RunTypingLaws.inner.WellTyped.{IsWellTyped}
use Rattle.holder_model_typing.proofs.RunTypingLaws.EndFacts.{other_end, switched}
use Rattle.holder_model_typing.proofs.RunTypingLaws.FunctionFacts.{TypedFunction, TypedInst}
use Rattle.holder_model_typing.proofs.RunTypingLaws.Found.{both_second}
use Rattle.holder_model_typing.proofs.RunTypingLaws.MemberFacts.{enum_is}
use Rattle.holder_model_typing.proofs.RunTypingLaws.ShapeFacts.{same_types}
use Rattle.holder_model_typing.proofs.RunTypingLaws.SwitchFacts.{DefaultEdge, edge_chosen}
use Rattle.holder_model_typing.specs.OwnedRunTyping.inner.OwnedEnds.{OwnedCaseForms, OwnedEndForms, also_lowered, cases}

module _ (m : Module) (r : IsWellTyped m) (f : Function) (typed : TypedFunction m f) (i : Inst) (here : TypedInst m f i) where
  -- a default takes nothing, or the enum
  default_takes : (t : TypeName) (args : List BlockArg) → is_default_argument f.form t args ≡ true → (args ≡ []) ⊎ (map arg_type args ≡ t ∷ [])
  default_takes t [] e = inl refl
  default_takes t (a ∷ []) e = inr (ap (λ x. x ∷ []) (same_types a.ty t (both_second (not (is_lowered f.form)) (is_same_type a.ty t) e)))
  default_takes t (a ∷ b ∷ more) e = cc

  case_forms : (t : TypeName) (c : CaseLayer Shape) (e : Edge) → CaseForms (declarations_of m) f c e ⊎ DefaultEdge m f t e
      → OwnedCaseForms (declarations_of m) f (shape_of (declarations_of m) t) c e
  case_forms t c e (inl forms) = record { block = forms.block; bare = forms.bare; payload = forms.payload; whole = λ default. inl (forms.nothing default) }
  case_forms t c e (inr d) = record {
    block = d.block;
    bare = d.bare;
    payload = λ other. let one = d.default in cc;
    whole = λ default. by (default_takes t (args_of f e.block.0) d.takes);
  }
    where
      by : (args_of f e.block.0 ≡ []) ⊎ (map arg_type (args_of f e.block.0) ≡ t ∷ [])
          → (args_of f e.block.0 ≡ []) ⊎ (forms_of (declarations_of m) f (arguments_at f e) ≡ OfValue (shape_of (declarations_of m) t) ∷ [])
      by (inl none) = inl none
      by (inr one) = inr (d.forms ∙ ap (λ ts. map OfValue (map (shape_of (declarations_of m)) ts)) one)

  switch_end : i.op ≡ op.SwitchEnum → OwnedEndForms (declarations_of m) f i
  switch_end e =
      let it = switched m r f typed i here e in
      cases (shape_of (declarations_of m) it.ty) (ap ending_of e) it.operand (enum_is m r it.ty it.enum) (λ k c there.
      let edge = edge_chosen m r f typed i here it.ty it.edges it.kept it.enum k c there in
      record { edge = edge.edge; chosen = edge.chosen; to = edge.to; there = edge.there; forms = case_forms it.ty c edge.to edge.how })

  other : (o : Op) → i.op ≡ o → is_terminator o ≡ true → (ending_of o ≡ ending.Cases → ⊥) → OwnedEndForms (declarations_of m) f i
  other o e ends no_cases = by (other_end m r f typed i here o e ends)
    where
      by : (o ≡ op.SwitchEnum) ⊎ EndForms (declarations_of m) f i → OwnedEndForms (declarations_of m) f i
      by (inl switch) = switch_end (e ∙ switch)
      by (inr forms) = also_lowered (λ c. no_cases (ap ending_of (sym e) ∙ c)) forms

  end_by : (o : Op) → i.op ≡ o → is_terminator o ≡ true → OwnedEndForms (declarations_of m) f i
  end_by op.Br e ends = other op.Br e ends (λ c. absurd (cc))
  end_by op.CondBr e ends = other op.CondBr e ends (λ c. absurd (cc))
  end_by op.SwitchEnum e ends = switch_end e
  end_by op.Return e ends = other op.Return e ends (λ c. absurd (cc))
  end_by op.Unreachable e ends = other op.Unreachable e ends (λ c. absurd (cc))
  end_by _ e ends = absurd (cc)

pub owned_ends : (m : Module) → IsWellTyped m → (f : Function) → TypedFunction m f → (b : ℕ) (i : Inst) → terminator_of f b ≡ Some i → OwnedEndForms (declarations_of m) f i
owned_ends m r f typed b i e = let at = typed.ends b i e in end_by m r f typed i (typed.insts b at.0 i at.2) i.op refl at.1.ends
