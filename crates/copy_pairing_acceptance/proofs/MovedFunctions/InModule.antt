-- What is known of a function of an accepted module in numbered form: its values are counted, its rows are typed, and nothing is shown.
use Rattle.std.proofs.Common.{◌≡◌, ℕ, zero, suc, ◌<◌, List, [], ◌∷◌, length, subst, true, None, Some, arith}
use Rattle.std.specs.Prelude.{◌&&◌, is_some}
use Rattle.std.specs.List.{list_all, slice_get}
use Rattle.std.proofs.lemmas.Bool.{and_parts, true_from_ne_false, not_from_false}
use Rattle.std.proofs.lemmas.Option.{same_Some, slice_get_within}
use Rattle.numbered_form.specs.Lists.{Each}
use Rattle.numbered_form.specs.Numbering.{AreCountedFrom, IsFunctionNumbered, values_of}
use Rattle.numbered_form.specs.PointChecks.Points.{IsAt}
use Rattle.sil_ast.specs.declared.function.Block.{Block}
use Rattle.sil_ast.specs.declared.function.Function.{Function}
use Rattle.sil_ast.specs.declared.inst.Inst.{Inst}
use Rattle.sil_ast.specs.declared.module.Module.{Module}
use Rattle.sil_rules.specs.declared.rule.Rule.TheVariants as rule
use Rattle.instruction_table.specs.Forms.{results_of}
use Rattle.sil_types.specs.Typing.OperandTypes.{are_as_asked, are_as_written, edge_is_as_written, has_operand_types}
use Rattle.sil_types.specs.Typing.ResultCounts.{is_count_by}
use Rattle.sil_types.specs.Typing.RowTypes.{keeps_row, row_types}
use Rattle.sil_types.specs.Typing.Typed.BreaksAt.{point}
use Rattle.sil_types.specs.Typing.Typed.BreaksAtPoint.{operand_type, result_count}
use Rattle.sil_types.specs.Typing.Typed.{at_point}
use Rattle.sil_types.specs.Typing.Values.{value_types}
use Rattle.sil_types_declarations.specs.TypeDefinitions.Declarations.{declarations_of}
use Rattle.sil_verifier_trails.specs.sil_verifier_accepted.AcceptedModules.Values.{IsCleanIn}
use Rattle.sil_verifier_trails.specs.sil_verifier_accepted.AcceptedModules.inner.Checked.{IsVerified}

each_there : {A : Type 0} (P : A → Type 0) (xs : List A) (k : ℕ) (x : A) → Each P xs → slice_get xs k ≡ Some x → P x
each_there P [] k x h e = absurd (let no : None ≡ Some x = e in cc)
each_there P (y ∷ xs) zero x h e = subst P (same_Some y x e) h.0
each_there P (y ∷ xs) (suc k) x h e = each_there P xs k x h.1 e

module _ (m : Module) (n : ℕ) (f : Function) (verified : IsVerified m) (there : slice_get m.functions n ≡ Some f) where
  numbered : IsFunctionNumbered (length m.functions) f
  numbered = each_there (IsFunctionNumbered (length m.functions)) m.functions n f verified.numbered.numbering.functions there

  pub counted : AreCountedFrom 0 (values_of f.blocks)
  counted = numbered.values

  -- 201, as far as rows go
  pub row_kept : (block index : ℕ) (i : Inst) → IsAt f block index i → is_some (row_types (declarations_of m) i) ≡ true
  row_kept block index i here =
      let types = value_types (declarations_of m) f in
      let all : has_operand_types (declarations_of m) types i ≡ true = true_from_ne_false (has_operand_types (declarations_of m) types i)
      (λ wrong. verified.accepted.types.typed (at_point n block index) rule.OperandType
      (point n f block index i rule.OperandType there here (operand_type (not_from_false (has_operand_types (declarations_of m) types i) wrong)))) in
      let edges = list_all (edge_is_as_written types) i.edges in
      let one = and_parts (keeps_row (declarations_of m) i && are_as_written types i.operands && edges) (are_as_asked types i) all in
      let two = and_parts (keeps_row (declarations_of m) i && are_as_written types i.operands) edges one.0 in
      (and_parts (keeps_row (declarations_of m) i) (are_as_written types i.operands) two.0).0

  -- 202
  pub count_kept : (block index : ℕ) (i : Inst) → IsAt f block index i → is_count_by (results_of i.op) (row_types (declarations_of m) i) (length i.results) ≡ true
  count_kept block index i here =
      true_from_ne_false (is_count_by (results_of i.op) (row_types (declarations_of m) i) (length i.results))
      (λ wrong. verified.accepted.types.typed (at_point n block index) rule.ResultCount
      (point n f block index i rule.ResultCount there here (result_count (not_from_false (is_count_by (results_of i.op) (row_types (declarations_of m) i) (length i.results)) wrong))))

  -- 301 to 611
  pub clean : (block : ℕ) (b : Block) → slice_get f.blocks block ≡ Some b → IsCleanIn (declarations_of m) f
  clean block b e s shown = verified.accepted.values (record { function = n; showing = s })
      (record { within = f; is_body = record { there = there; body = some (length f.blocks) block (slice_get_within f.blocks block b e) }; shown = shown })
    where
      some : (x k : ℕ) → k < x → 0 < x
      some x k lt = omega arith
