-- What a `return` gives: a value that may end, of the type that the signature tells of.
use Rattle.std.proofs.Common.{◌≡◌, ℕ, List, [], ◌∷◌, length, sym, ap, ◌∙◌, true, Option, Some}
use Rattle.std.specs.Prelude.{option_and_then, option_map, slice_get}
use Rattle.instruction_table.specs.Forms.{roles_of}
use Rattle.instruction_table.specs.declared.entries.Role.TheVariants as role
use Rattle.instruction_table.specs.declared.op.Op.TheVariants as op
use Rattle.sil_cfg_items.specs.Roles.{by_row, conventions_in, roles_for, taken_as, taken_by, taken_each}
use Rattle.numbered_form.proofs.Lists.{contained}
use Rattle.numbered_form.specs.PointChecks.Points.{IsAt}
use Rattle.holder_model_typing.proofs.RunTypingLaws.Found.{not_false}
use Rattle.holder_model_typing.proofs.RunTypingLaws.FunctionFacts.{TypedInst}
use Rattle.holder_model_typing.proofs.RunTypingLaws.Rows.Finding.{passed, passes_at}
use Rattle.holder_model_typing.proofs.RunTypingLaws.ShapeFacts.{same_types}
use Rattle.holder_model_typing.proofs.RunTypingLaws.ValueForms.{operands_written}
use Rattle.sil_ast.specs.declared.function.Function.{Function}
use Rattle.sil_ast.specs.declared.inst.Inst.{Inst}
use Rattle.sil_ast.specs.declared.module.Module.{Module}
use Rattle.sil_ast.specs.declared.operands.Operand.{Operand}
use Rattle.holder_model_typing.specs.sil_types.Typing.OperandTypes.{is_as_written}
use Rattle.holder_model_typing.specs.sil_types.Typing.RowTypes.{type_of, written}
use Rattle.holder_model_typing.specs.sil_types.Typing.Same.{is_same_type}
use Rattle.holder_model_typing.specs.sil_types.Typing.SignatureRules.{differs_by, differs_from_signature, returns_what_is_given}
use Rattle.holder_model_typing.specs.sil_types.Typing.Values.{value_functions, value_types}
use Rattle.holder_model_typing.specs.sil_types_declarations.TypeDefinitions.Declarations.{Declarations, declarations_of}
use Rattle.holder_model_typing.specs.sil_types_declarations.TypeDefinitions.Mentions.{given_type}
use Rattle.sil_verifier_values.specs.inner.Handed.{AreGiven}
use Rattle.sil_verifier_values.specs.inner.Known.{IsAcceptedBody, type_in}
use Rattle.sil_verifier_values.specs.inner.Operands.{MayEnd}
use Rattle.sil_verifier_values.proofs.Accepted.{typed}
use Rattle.sil_verifier_values.proofs.Suited.{by_operand, suits_at}
use Rattle.sil_verifier_values.proofs.Written.{written_type}

module _ (m : Module) (n : ℕ) (f : Function) (a : IsAcceptedBody m n f) (block index : ℕ) (i : Inst) (here : IsAt f block index i) (ends : i.op ≡ op.Return)
    (o : Operand) (at : slice_get i.operands 0 ≡ Some o) where
  abbrev d : Declarations
  d = declarations_of m

  known : TypedInst m f i
  known = (typed m n f a).insts block index i here

  kept : returns_what_is_given f i ≡ true
  unfolding differs_from_signature
  kept = not_false _ (ap (λ x. differs_by x m f (value_functions f) i) (sym ends) ∙ known.signature)

  given_so : type_in d f o.value ≡ Some (given_type f.signature)
  given_so =
      let it = passed (is_same_type (given_type f.signature)) (written 0 i) kept in
      let ty : o.ty ≡ Some it.0 = ap (option_and_then type_of) (sym at) ∙ it.1 in
      written_type d f o it.0 ty (passes_at (is_as_written (value_types d f)) i.operands 0 o (operands_written m f i known) at)
      ∙ ap (λ t. Some t) (sym (same_types (given_type f.signature) it.0 it.2))

  first_of : (os : List Operand) → slice_get os 0 ≡ Some o → slice_get (taken_each os (roles_for (roles_of op.Return) (conventions_in i) (length os))) 0 ≡ Some (taken_as o (by_row role.Consumed))
  first_of [] e = cc
  first_of (x ∷ os) e = ap (λ (g : Option Operand). option_map (λ y. taken_as y (by_row role.Consumed)) g) e

  ends_so : MayEnd d f o.value
  ends_so =
      suits_at m n f a block index i (taken_as o (by_row role.Consumed)) here
      (by_operand i (taken_as o (by_row role.Consumed))
      (contained (taken_by i) 0 (taken_as o (by_row role.Consumed))
      (ap (λ x. slice_get (taken_each i.operands (roles_for (roles_of x) (conventions_in i) (length i.operands))) 0) ends ∙ first_of i.operands at)))

pub given : AreGiven
given m n f a b i o e ends at =
    let end = (typed m n f a).ends b i e in
    record { ends = ends_so m n f a b end.0 i end.2 ends o at; typed = given_so m n f a b end.0 i end.2 ends o at }
