-- What the row of a terminator has, by what typing tells of it.
use Rattle.std.proofs.Common.{◌≡◌, ℕ, List, [], ◌∷◌, map, refl, sym, ap, ◌∙◌, subst, true, Option, Some, None}
use Rattle.std.specs.Prelude.{is_some, slice_get}
use Rattle.instruction_table.specs.Forms.{ending_of}
use Rattle.instruction_table.specs.declared.entries.Ending.{Ending}
use Rattle.instruction_table.specs.declared.entries.Ending.TheVariants as ending
use Rattle.instruction_table.specs.declared.op.Op.{Op}
use Rattle.instruction_table.specs.declared.op.Op.TheVariants as op
use Rattle.sil_cfg_items.specs.Parts.{terminator_of}
use Rattle.holder_model_values.specs.RunValues.Layers.{CaseLayer}
use Rattle.holder_model_values.specs.RunValues.Shapes.{Shape, case_shapes, shape_of}
use Rattle.sil_ast.specs.declared.function.Function.{Function}
use Rattle.sil_ast.specs.declared.inst.Inst.{Inst}
use Rattle.sil_ast.specs.declared.module.Module.{Module}
use Rattle.sil_ast.specs.declared.operands.Operand.{Operand}
use Rattle.sil_ast.specs.declared.place.ValueId.{ValueId}
use Rattle.sil_ast.specs.declared.type_name.TypeName.{TypeName}
use Rattle.sil_types.specs.Typing.RowTypes.{given_by, type_of, written}
use Rattle.sil_types.specs.Typing.Shapes.{is_enum, target, where_it}
use Rattle.sil_types_declarations.specs.TypeDefinitions.Declarations.{Declarations, declarations_of}
use Rattle.holder_model.specs.RunTyping.EndForms.{EndForms, TakenCase, branch, branches, cases, operand_forms, returns, unreachable}
use Rattle.holder_model.specs.RunTyping.Forms.{OfValue, form_of, form_with}
use Rattle.holder_model.specs.RunTyping.Runnable.{IsRunnable}
use Rattle.count_machine_layouts.proofs.holder_model_typing.RunTypingLaws.FunctionFacts.{TypedInst, typed_function}
use Rattle.count_machine_layouts.proofs.holder_model_typing.RunTypingLaws.RunnableTyped.{runnable_is_typed, well_typed}
use Rattle.count_machine_layouts.proofs.holder_model_typing.RunTypingLaws.Rows.Finding.{found_behind, where_found}
use Rattle.count_machine_layouts.proofs.holder_model_typing.RunTypingLaws.Rows.Shares.{taken_from}
use Rattle.count_machine_layouts.proofs.holder_model_typing.RunTypingLaws.ValueForms.{operand_written, row_kept}
use Rattle.count_machine_model.specs.ReadyCode.ReadyOps.{operands_of}
use Rattle.count_machine_layouts.proofs.FrameLayouts.Lists.{element_there}
use Rattle.count_machine_ready.specs.inner.Cases.{HaveEdges}
use Rattle.count_machine_ready.specs.inner.Ends.{HasEnd, Parts}
use Rattle.count_machine_ready.proofs.OneByOne.{one_value}

switches : (o : Op) → ending_of o ≡ ending.Cases → o ≡ op.SwitchEnum
switches op.SwitchEnum e = refl
switches _ e = absurd (cc)

module _ (m : Module) (r : IsRunnable m) (n : ℕ) (f : Function) (there : slice_get m.functions n ≡ Some f)
    (b : ℕ) (i : Inst) (here : terminator_of f b ≡ Some i) where
  abbrev d : Declarations
  d = declarations_of m

  abbrev Made : Type 0
  Made = HasEnd d f i (ending_of i.op)

  made : (e : Ending) → ending_of i.op ≡ e → Parts d f i e → Made
  made e is parts = subst (HasEnd d f i) (sym is) (record { ends = is; has = parts })

  typed : TypedInst m f i
  typed = let function = typed_function m (well_typed m r) n f there in let at = function.ends b i here in function.insts b at.0 i at.2

  of_value : (t : TypeName) (s : Shape) (o : Option TypeName) → form_with d t o ≡ OfValue s → s ≡ shape_of d t
  of_value t s None e = cc
  of_value t s (Some inner) e = absurd (cc)

  same_value : (o : Operand) (v : ValueId) → slice_get i.operands 0 ≡ Some o → operands_of i ≡ v ∷ [] → o.value ≡ v
  same_value o v = at i.operands
    where
      at : (os : List Operand) → slice_get os 0 ≡ Some o → map (λ (x : Operand). x.value) os ≡ v ∷ [] → o.value ≡ v
      at [] e is = absurd (cc)
      at (p ∷ os) e is = let same : p ≡ o = cc in let first : p.value ≡ v = cc in ap (λ (x : Operand). x.value) (sym same) ∙ first

  switched : (s : Shape) → ending_of i.op ≡ ending.Cases → operand_forms d f i ≡ OfValue s ∷ []
      → ((k : ℕ) (c : CaseLayer Shape) → slice_get (case_shapes s) k ≡ Some c → TakenCase d f i s k c) → Made
  switched s e form taken =
      let kept : is_some (given_by op.SwitchEnum d i) ≡ true = ap (λ o. is_some (given_by o d i)) (sym (switches i.op e)) ∙ row_kept m f i typed in
      let it = taken_from (where_it (is_enum d) (written 0 i)) kept in
      let found = where_found (is_enum d) (written 0 i) it.0 it.1 in
      let at = found_behind type_of (slice_get i.operands 0) it.0 found.0 in
      let v = one_value d f (operands_of i) (OfValue s) form in
      let of_type : form_with d it.0 (target it.0) ≡ OfValue s =
      sym (operand_written m f i typed 0 at.0 it.0 at.1 at.2) ∙ ap (form_of d f) (same_value at.0 v.value at.1 v.only) ∙ v.form in
      let shape : s ≡ shape_of d it.0 = of_value it.0 s (target it.0) of_type in
      made ending.Cases e (record {
        takes = record { operand = v.value; operands = v.only };
        ty = it.0;
        of = found.0;
        form = v.form ∙ ap OfValue shape;
        kind = found.1;
        edges = subst (λ x. HaveEdges x i.edges) shape edges;
      })
    where
      edges : HaveEdges s i.edges
      edges k lt =
          let c = element_there (case_shapes s) k lt in
          let w = taken k c.0 c.1 in
          record { chosen = w.edge; edge = w.to; taken = w.chosen; there = w.there }

  by_forms : EndForms d f i → Made
  by_forms (branch e is none there forms) = made ending.OneBranch is (record { edge = e; there = there })
  by_forms (branches set clear is form set_there clear_there set_forms clear_forms) =
      let v = one_value d f (operands_of i) _ form in
      made ending.TwoBranches is (record {
        takes = record { operand = v.value; operands = v.only };
        set = record { edge = set; there = set_there };
        clear = record { edge = clear; there = clear_there };
      })
  by_forms (cases s is form kind taken) = switched s is form taken
  by_forms (returns is form) = let v = one_value d f (operands_of i) _ form in made ending.Return is (record { operand = v.value; operands = v.only })
  by_forms (unreachable is) = made ending.Unreachable is tt

  pub has_end : Made
  has_end = by_forms (((runnable_is_typed m r).functions n f there).ends b i here)
