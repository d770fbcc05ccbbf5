-- An extract has one operand.
use Rattle.std.proofs.Common.{◌≡◌, ℕ, List, [], ◌∷◌, map, take, refl, sym, ap, ◌∙◌, subst, Bool, true, false, Option}
use Rattle.std.specs.Prelude.{Contains}
use Rattle.instruction_table.specs.Forms.{result_kind_of}
use Rattle.instruction_table.specs.declared.entries.ResultKind.{ResultKind}
use Rattle.instruction_table.specs.declared.entries.ResultKind.TheVariants.{NoneResult, OwnedResult, ScopeResult, AddressResult, ForwardedResult, OperandResult}
use Rattle.instruction_table.specs.declared.op.Op.{Op}
use Rattle.instruction_table.specs.declared.op.Op.TheVariants as op
use Rattle.numbered_form.specs.inner.Parts.{has_operands, is_typed}
use Rattle.holder_model_typing.specs.ownership_kinds_chains.OwnershipChains.Chains.{operands_at}
use Rattle.holder_model_typing.specs.ownership_kinds_chains.OwnershipChains.Facts.{origin_at}
use Rattle.holder_model_typing.specs.ownership_kinds_chains.declared.ownership_chains.definition.Origin.TheVariants as origin
use Rattle.holder_model_typing.specs.ownership_kinds_origins.Origins.{arg_definition_by, chain_operands, definitions_of, is_zero, result_origin}
use Rattle.holder_model_typing.specs.ownership_kinds_origins.Switched.{switch_to}
use Rattle.holder_model_typing.specs.ownership_kinds_origins.declared.switched.Switched.{Switched}
use Rattle.holder_model_typing.proofs.RunTypingLaws.EndFacts.{one_operand}
use Rattle.sil_ast.specs.declared.function.ArgKind.{ArgKind}
use Rattle.sil_ast.specs.declared.function.ArgKind.TheVariants as annotation
use Rattle.sil_ast.specs.declared.function.Function.{Function}
use Rattle.sil_ast.specs.declared.module.Module.{Module}
use Rattle.sil_ast.specs.declared.operands.Operand.{Operand}
use Rattle.sil_ast.specs.declared.place.ValueId.{ValueId}
use Rattle.holder_model_typing.specs.sil_types_declarations.TypeDefinitions.Declarations.{Declarations, declarations_of}
use Rattle.numbered_form.specs.ValueTables.FirstValue.{value_of}
use Rattle.sil_verifier_values.specs.inner.Known.{IsAcceptedBody, IsValue}
use Rattle.sil_verifier_values.proofs.Accepted.{typed}
use Rattle.sil_verifier_values.proofs.Defined.{IsDefined, a_result, an_argument, defined_so}
use Rattle.sil_verifier_values.proofs.TableRows.{argument_rows, result_rows}

only_extracts : (k : ResultKind) (trivial : Bool) → result_origin k trivial ≡ origin.Same → k ≡ OperandResult
only_extracts NoneResult trivial e = cc
only_extracts OwnedResult true e = cc
only_extracts OwnedResult false e = cc
only_extracts ScopeResult true e = cc
only_extracts ScopeResult false e = cc
only_extracts AddressResult trivial e = cc
only_extracts ForwardedResult true e = cc
only_extracts ForwardedResult false e = cc
only_extracts OperandResult trivial e = refl

pub extract_row : (o : Op) (os : List Operand) → result_kind_of o ≡ OperandResult → has_operands o os ≡ true → (x : Operand) × (os ≡ x ∷ [])
extract_row op.StructExtract os e h = let it = one_operand is_typed os h in (it.0, it.1)
extract_row op.TupleExtract os e h = let it = one_operand is_typed os h in (it.0, it.1)
extract_row _ os e h = absurd (cc)

no_extract : (entry : Bool) (s : Option Switched) (k : ArgKind) (trivial : Bool) → (arg_definition_by entry s k trivial).origin ≡ origin.Same → ⊥
no_extract entry s annotation.Plain trivial e = cc
no_extract entry s annotation.Owned true e = cc
no_extract entry s annotation.Owned false e = cc
no_extract true s annotation.Guaranteed true e = cc
no_extract true s annotation.Guaranteed false e = cc
no_extract false s annotation.Guaranteed true e = cc
no_extract false s annotation.Guaranteed false e = cc

module _ (m : Module) (n : ℕ) (f : Function) (a : IsAcceptedBody m n f) where
  abbrev d : Declarations
  d = declarations_of m

  only_first : (v w : ValueId) → IsDefined f v → origin_at (definitions_of d f) v ≡ origin.Same → Contains (operands_at (definitions_of d f) v) w
      → Contains (take 1 (operands_at (definitions_of d f) v)) w
  only_first _ w (a_result block index k i v here at) e c =
      let row = result_rows m n f a block index k i v here at in
      let extract = only_extracts (result_kind_of i.op) _ (sym row.defined.origin ∙ e) in
      let one = extract_row i.op i.operands extract ((typed m n f a).insts block index i here).parts.operands in
      let only : operands_at (definitions_of d f) v ≡ value_of one.0 ∷ [] =
      row.defined.operands ∙ ap (λ x. chain_operands x (map value_of i.operands)) extract ∙ ap (map value_of) one.1 in
      subst (λ vs. Contains (take 1 vs) w) (sym only) (subst (λ vs. Contains vs w) only c)
  only_first _ w (an_argument b k x at) e c =
      let row = argument_rows m n f a b k x at in absurd (no_extract (is_zero b) (switch_to f b) x.kind _ (sym row.defined.origin ∙ e))

  pub one_of_extract : (v w : ValueId) → IsValue f v → origin_at (definitions_of d f) v ≡ origin.Same → Contains (operands_at (definitions_of d f) v) w
      → Contains (take 1 (operands_at (definitions_of d f) v)) w
  one_of_extract v w lt e c = only_first v w (defined_so m n f v a lt) e c
