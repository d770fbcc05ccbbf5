-- What typing says of a terminator in ownership form, and of its edges.
use Rattle.std.specs.Prelude.{◌≡◌, ◌<◌, ◌⊎◌, ℕ, [], ◌∷◌, true, false, Some, length, slice_get}
use Rattle.holder_model.specs.Edges.{edge_for, is_default}
use Rattle.instruction_table.specs.Forms.{ending_of}
use Rattle.instruction_table.specs.declared.entries.Ending.TheVariants as ending
use Rattle.holder_model.specs.RunTyping.EndForms.{EndForms, arguments_at, operand_forms, payload_forms}
use Rattle.holder_model.specs.RunTyping.Forms.{OfValue, forms_of}
use Rattle.holder_model.specs.RunTyping.RowForms.{IsEnum}
use Rattle.holder_model.specs.holder_model_values.RunValues.Layers.{CaseLayer}
use Rattle.holder_model.specs.holder_model_values.RunValues.Shapes.{Shape, case_shapes}
use Rattle.sil_ast.specs.Blocks.{args_of}
use Rattle.sil_ast.specs.declared.function.Function.{Function}
use Rattle.sil_ast.specs.declared.inst.Edge.{Edge}
use Rattle.sil_ast.specs.declared.inst.Inst.{Inst}
use Rattle.holder_model.specs.sil_types_declarations.TypeDefinitions.Declarations.{Declarations}

-- the edge that a case of an enum of a shape takes: its block takes the payload; from a default the whole enum, or nothing
pub record OwnedCaseForms (d : Declarations) (f : Function) (s : Shape) (c : CaseLayer Shape) (e : Edge) : Type 0 where
  pub block : e.block.0 < length f.blocks
  pub bare : e.args ≡ []
  pub payload : is_default e ≡ false → forms_of d f (arguments_at f e) ≡ payload_forms c.payload
  pub whole : is_default e ≡ true → (args_of f e.block.0 ≡ []) ⊎ (forms_of d f (arguments_at f e) ≡ OfValue s ∷ [])

pub record OwnedCase (d : Declarations) (f : Function) (i : Inst) (s : Shape) (k : ℕ) (c : CaseLayer Shape) : Type 0 where
  pub edge : ℕ
  pub chosen : edge_for s i.edges k ≡ Some edge
  pub to : Edge
  pub there : slice_get i.edges edge ≡ Some to
  pub forms : OwnedCaseForms d f s c to

-- all but a switch ends as in lowered form
pub data OwnedEndForms (d : Declarations) (f : Function) (i : Inst) : Type 0 where
  also_lowered : (ending_of i.op ≡ ending.Cases → ⊥) → EndForms d f i → OwnedEndForms d f i
  cases : (s : Shape) → ending_of i.op ≡ ending.Cases → operand_forms d f i ≡ OfValue s ∷ [] → IsEnum s
      → ((k : ℕ) (c : CaseLayer Shape) → slice_get (case_shapes s) k ≡ Some c → OwnedCase d f i s k c) → OwnedEndForms d f i
