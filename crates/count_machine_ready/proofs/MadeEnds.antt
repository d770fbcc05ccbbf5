-- Terminators are made ready as is meant, where their parts are those of their rows.
use Rattle.std.proofs.Common.{◌≡◌, ℕ, ◌<◌, List, [], ◌∷◌, length, sym, ap, ◌∙◌, subst, Some}
use Rattle.std.specs.Prelude.{slice_get}
use Rattle.std.proofs.lemmas.Option.{slice_get_within}
use Rattle.instruction_table.specs.declared.entries.Ending.TheVariants as ending
use Rattle.holder_model_values.specs.RunValues.Shapes.{shape_of}
use Rattle.sil_ast.specs.declared.function.Function.{Function}
use Rattle.sil_ast.specs.declared.inst.Inst.{Inst}
use Rattle.sil_ast.specs.declared.place.ValueId.{ValueId}
use Rattle.sil_ast.specs.declared.type_name.TypeName.{TypeName}
use Rattle.sil_types.specs.Typing.RowTypes.{written}
use Rattle.sil_types_declarations.specs.TypeDefinitions.Declarations.{Declarations}
use Rattle.count_machine_model.specs.ReadyCode.Layout.{local}
use Rattle.count_machine_model.specs.ReadyCode.ReadyEnds as made
use Rattle.count_machine_model.specs.ReadyCode.ReadyEnds.{AreReadyCases, IsReadyEnd, ready_edge}
use Rattle.count_machine_model.specs.ReadyCode.ReadyOps.{operands_of}
use Rattle.count_machine_model.specs.declared.ready_code.block.ReadyCase.{ReadyCase}
use Rattle.count_machine_model.specs.declared.ready_code.block.ReadyEdge.{ReadyEdge}
use Rattle.count_machine_model.specs.declared.ready_code.block.ReadyEnd.{ReadyEnd}
use Rattle.count_machine_model.specs.declared.ready_code.block.ReadyEnd.TheVariants as end
use Rattle.count_machine_model.specs.declared.ready_code.local.Local.{Local}
use Rattle.count_machine_ready.specs.inner.Ends.{HasEdge, HasEnd}
use Rattle.count_machine_ready.proofs.MadeOps.{first_is}

module _ (d : Declarations) (f : Function) (i : Inst) where
  abbrev Made : ReadyEnd → Type 0
  Made x = IsReadyEnd d f i x

  pub edge_inside : (k : ℕ) → HasEdge i k → k < length i.edges
  edge_inside k has = slice_get_within i.edges k has.edge has.there

  operand_is : (v w : ValueId) (rest : List ValueId) (l : Local) → operands_of i ≡ w ∷ rest
      → slice_get (operands_of i) 0 ≡ Some v → l ≡ local d f v → l ≡ local d f w
  operand_is v w rest l e at is = is ∙ ap (local d f) (first_is (operands_of i) rest w v e at)

  pub jump_made : (has : HasEnd d f i ending.OneBranch) (e : ReadyEdge) → e ≡ ready_edge d f has.has.edge → Made (end.Jump e)
  jump_made has e is = subst (λ x. Made (end.Jump x)) (sym is) (made.jump has.has.edge has.ends has.has.there)

  pub branch_made : (has : HasEnd d f i ending.TwoBranches) (v : ValueId) (l : Local) (set clear : ReadyEdge)
      → slice_get (operands_of i) 0 ≡ Some v → l ≡ local d f v
      → set ≡ ready_edge d f has.has.set.edge → clear ≡ ready_edge d f has.has.clear.edge → Made (end.Branch l set clear)
  branch_made has v l set clear at is set_is clear_is =
      let parts = has.has in
      let taken = parts.takes in
      subst (λ x. Made (end.Branch x set clear)) (sym (operand_is v taken.operand [] l taken.operands at is))
      (subst (λ x. Made (end.Branch (local d f taken.operand) x clear)) (sym set_is)
      (subst (λ x. Made (end.Branch (local d f taken.operand) (ready_edge d f parts.set.edge) x)) (sym clear_is)
      (made.branch taken.operand parts.set.edge parts.clear.edge has.ends taken.operands parts.set.there parts.clear.there)))

  pub switch_made : (has : HasEnd d f i ending.Cases) (v : ValueId) (l : Local) (ty : TypeName) (cases : List ReadyCase)
      → slice_get (operands_of i) 0 ≡ Some v → l ≡ local d f v
      → written 0 i ≡ Some ty → AreReadyCases d f i (shape_of d ty) cases → Made (end.Switch l cases)
  switch_made has v l ty cases at is of ready =
      let parts = has.has in
      let taken = parts.takes in
      let same : ty ≡ parts.ty = (let e : Some ty ≡ Some parts.ty = sym of ∙ parts.of in cc) in
      subst (λ x. Made (end.Switch x cases)) (sym (operand_is v taken.operand [] l taken.operands at is))
      (made.switch taken.operand (shape_of d parts.ty) cases has.ends taken.operands parts.form
      (subst (λ t. AreReadyCases d f i (shape_of d t) cases) same ready))

  pub return_made : (has : HasEnd d f i ending.Return) (v : ValueId) (l : Local) → slice_get (operands_of i) 0 ≡ Some v → l ≡ local d f v → Made (end.Return l)
  return_made has v l at is =
      let taken = has.has in
      subst (λ x. Made (end.Return x)) (sym (operand_is v taken.operand [] l taken.operands at is)) (made.returns taken.operand has.ends taken.operands)

  pub unreachable_made : HasEnd d f i ending.Unreachable → Made end.Unreachable
  unreachable_made has = made.unreachable has.ends
