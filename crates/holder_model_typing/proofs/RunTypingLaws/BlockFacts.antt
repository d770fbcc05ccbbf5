-- The blocks behind the edges of a terminator: they are there, and their arguments are no addresses.
use Rattle.std.proofs.Common.{◌≡◌, ℕ, zero, suc, ◌<◌, List, [], ◌∷◌, length, map, refl, sym, ap, ◌∙◌, subst, true, false, Option, Some, None}
use Rattle.std.specs.Prelude.{◌==◌, drop, option_map, slice_get}
use Rattle.std.specs.List.{list_all, list_any}
use Rattle.std.proofs.lemmas.Option.{slice_get-map}
use Rattle.numbered_form.specs.Numbering.{IsEdgeInRange, values_of}
use Rattle.numbered_form.specs.inner.Parts.{is_branch, is_typed}
use Rattle.sil_ast.specs.Blocks.{args_in, args_of}
use Rattle.sil_ast.specs.declared.function.Block.{Block}
use Rattle.sil_ast.specs.declared.function.BlockArg.{BlockArg}
use Rattle.sil_ast.specs.declared.function.Form.{Form}
use Rattle.sil_ast.specs.declared.function.Form.TheVariants as form
use Rattle.sil_ast.specs.declared.function.Function.{Function}
use Rattle.sil_ast.specs.declared.inst.Edge.{Edge}
use Rattle.sil_ast.specs.declared.inst.Inst.{Inst}
use Rattle.sil_ast.specs.declared.module.Module.{Module}
use Rattle.sil_ast.specs.declared.type_name.TypeName.{TypeName}
use Rattle.holder_model.specs.sil_types.Typing.EdgeRules.{goes_to_entry, has_address_type, has_block_types, is_to_entry, lets_address_escape, takes_address}
use Rattle.holder_model.specs.sil_types.Typing.OperandTypes.{edge_is_as_written}
use Rattle.holder_model.specs.sil_types.Typing.RowTypes.{all_written}
use Rattle.holder_model.specs.sil_types.Typing.Shapes.{target}
use Rattle.holder_model.specs.sil_types.Typing.Values.{arg_type, value_types}
use Rattle.holder_model.specs.sil_types_declarations.TypeDefinitions.Declarations.{declarations_of}
use Rattle.holder_model.specs.holder_model_values.RunValues.Shapes.{shape_of}
use Rattle.holder_model.specs.RunTyping.EndForms.{EdgeForms, arguments_at}
use Rattle.holder_model.specs.RunTyping.Forms.{OfValue, forms_of}
use Rattle.holder_model.specs.RunTyping.Runnable.{IsNotOwned}
use Rattle.holder_model_typing.proofs.RunTypingLaws.FunctionFacts.{TypedFunction, TypedInst}
use Rattle.holder_model_typing.proofs.RunTypingLaws.Found.{both_second, each_at}
use Rattle.holder_model_typing.proofs.RunTypingLaws.Rows.Finding.{fails_at, none_of, passes_at}
use Rattle.holder_model_typing.proofs.RunTypingLaws.SameFacts.{same_type_lists}
use Rattle.holder_model_typing.proofs.RunTypingLaws.Rows.Forms.{typed_form, written_forms}
use Rattle.holder_model_typing.proofs.RunTypingLaws.ValueForms.{args_forms, edges_written, value_forms}

-- a function that has a block, and isn't in ownership form, is lowered
pub lowered_form : (m : Module) (f : Function) (b : ℕ) (block : Block) → TypedFunction m f → IsNotOwned f → slice_get f.blocks b ≡ Some block → f.form ≡ form.Lowered
lowered_form m f b block typed not_owned is = at f.form refl
  where
    at : (x : Form) → f.form ≡ x → x ≡ form.Lowered
    at form.Ossa e = absurd (not_owned e)
    at form.Lowered e = refl
    at form.External e = let none : slice_get f.blocks b ≡ None = ap (λ bs. slice_get bs b) (typed.formed.external.0 e) in cc

-- an argument of a block that isn't the first
pub no_address : (blocks : List Block) (b k : ℕ) (a : BlockArg) → list_any takes_address (drop 1 blocks) ≡ false → (b == 0) ≡ false → slice_get (args_in (slice_get blocks b)) k ≡ Some a →
    target a.ty ≡ None
no_address [] b k a none other e = cc
no_address (x ∷ bs) zero k a none other e = cc
no_address (x ∷ bs) (suc b) k a none other e = at (slice_get bs b) refl e
  where
    at : (o : Option Block) → slice_get bs b ≡ o → slice_get (args_in o) k ≡ Some a → target a.ty ≡ None
    at None is e = cc
    at (Some block) is e = none_of (target a.ty) (fails_at has_address_type block.args k a (fails_at takes_address bs b block none is) e)

module _ (m : Module) (f : Function) (typed : TypedFunction m f) (i : Inst) (here : TypedInst m f i) (k : ℕ) (e : Edge) (at : slice_get i.edges k ≡ Some e) where
  range : IsEdgeInRange (length (values_of f.blocks)) (length f.blocks) e
  range = each_at (IsEdgeInRange (length (values_of f.blocks)) (length f.blocks)) i.edges k e here.range.edges at

  pub block_there : e.block.0 < length f.blocks
  block_there = range.block

  args_are_values : (j : ℕ) (a : BlockArg) → slice_get (args_of f e.block.0) j ≡ Some a → target a.ty ≡ None
  unfolding goes_to_entry lets_address_escape
  args_are_values j a is = no_address f.blocks e.block.0 j a typed.escapes (fails_at is_to_entry i.edges k e here.entry at) is

  types_are_values : (j : ℕ) (t : TypeName) → slice_get (map arg_type (args_of f e.block.0)) j ≡ Some t → target t ≡ None
  types_are_values j t is = from (slice_get (args_of f e.block.0) j) refl (sym (slice_get-map arg_type (args_of f e.block.0) j) ∙ is)
    where
      from : (o : Option BlockArg) → slice_get (args_of f e.block.0) j ≡ o → option_map arg_type o ≡ Some t → target t ≡ None
      from None there e = cc
      from (Some a) there e = let same : a.ty ≡ t = cc in subst (λ x. target x ≡ None) same (args_are_values j a there)

  -- what the block's arguments are
  pub block_forms : forms_of (declarations_of m) f (arguments_at f e) ≡ map OfValue (map (shape_of (declarations_of m)) (map arg_type (args_of f e.block.0)))
  block_forms = args_forms m f typed e.block.0 ∙ value_forms (declarations_of m) (map arg_type (args_of f e.block.0)) types_are_values

  -- what is handed over is what the block takes
  pub edge_forms : is_branch e ≡ true → has_block_types f e ≡ true → EdgeForms (declarations_of m) f e
  edge_forms branch same = record {
    shapes = map (shape_of (declarations_of m)) (map arg_type (args_of f e.block.0));
    block = block_there;
    given =
        written_forms (declarations_of m) f e.args (both_second _ (list_all is_typed e.args) branch)
        (passes_at (edge_is_as_written (value_types (declarations_of m) f)) i.edges k e (edges_written m f i here) at)
        ∙ ap (map (typed_form (declarations_of m))) (same_type_lists (all_written e.args) (map arg_type (args_of f e.block.0)) same)
        ∙ value_forms (declarations_of m) (map arg_type (args_of f e.block.0)) types_are_values;
    taken = block_forms;
  }
