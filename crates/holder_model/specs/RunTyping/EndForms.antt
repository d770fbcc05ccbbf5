-- What typing says of a terminator of lowered code, and of its edges.
use Rattle.std.specs.Prelude.{◌≡◌, ◌<◌, ℕ, List, [], ◌∷◌, true, false, Option, Some, None, map, length, slice_get}
use Rattle.holder_model.specs.Edges.{edge_for, is_default}
use Rattle.instruction_table.specs.Forms.{ending_of}
use Rattle.instruction_table.specs.declared.entries.Ending.TheVariants as ending
use Rattle.memory_rules_accesses.specs.sil_cfg_items.Items.{arg_value}
use Rattle.holder_model_values.specs.RunValues.Layers.{CaseLayer}
use Rattle.holder_model_values.specs.RunValues.Shapes.{Shape, case_shapes}
use Rattle.sil_ast.specs.Blocks.{args_of}
use Rattle.sil_ast.specs.declared.function.Function.{Function}
use Rattle.sil_ast.specs.declared.inst.Edge.{Edge}
use Rattle.sil_ast.specs.declared.inst.Inst.{Inst}
use Rattle.sil_ast.specs.declared.operands.Operand.{Operand}
use Rattle.sil_ast.specs.declared.place.ValueId.{ValueId}
use Rattle.holder_model_values.specs.sil_types_declarations.TypeDefinitions.Declarations.{Declarations}
use Rattle.holder_model.specs.RunTyping.Forms.{Form, OfValue, forms_of, given_shape}
use Rattle.holder_model.specs.RunTyping.RowForms.{IsEnum, bit}

abbrev pub value_in : Operand → ValueId
value_in o = o.value

abbrev pub handed_over : Edge → List ValueId
handed_over e = map value_in e.args

-- the arguments of the block to which an edge goes
abbrev pub arguments_at : Function → Edge → List ValueId
arguments_at f e = map arg_value (args_of f e.block.0)

-- what a `br` or `cond_br` hands over, and the arguments that take it, are values of these shapes
pub record EdgeForms (d : Declarations) (f : Function) (e : Edge) : Type 0 where
  pub shapes : List Shape
  pub block : e.block.0 < length f.blocks
  pub given : forms_of d f (handed_over e) ≡ map OfValue shapes
  pub taken : forms_of d f (arguments_at f e) ≡ map OfValue shapes

abbrev pub payload_forms : Option Shape → List Form
payload_forms None = []
payload_forms (Some s) = OfValue s ∷ []

-- the edge that a case of an enum takes: its block takes the payload, or nothing from a default
pub record CaseForms (d : Declarations) (f : Function) (c : CaseLayer Shape) (e : Edge) : Type 0 where
  pub block : e.block.0 < length f.blocks
  pub bare : e.args ≡ []
  pub payload : is_default e ≡ false → forms_of d f (arguments_at f e) ≡ payload_forms c.payload
  pub nothing : is_default e ≡ true → args_of f e.block.0 ≡ []

pub record TakenCase (d : Declarations) (f : Function) (i : Inst) (s : Shape) (k : ℕ) (c : CaseLayer Shape) : Type 0 where
  pub edge : ℕ
  pub chosen : edge_for s i.edges k ≡ Some edge
  pub to : Edge
  pub there : slice_get i.edges edge ≡ Some to
  pub forms : CaseForms d f c to

abbrev pub operand_forms : Declarations → Function → Inst → List Form
operand_forms d f i = forms_of d f (map value_in i.operands)

-- the terminator's operands and edges are those that its row has to do with
pub data EndForms (d : Declarations) (f : Function) (i : Inst) : Type 0 where
  branch : (e : Edge) → ending_of i.op ≡ ending.OneBranch → i.operands ≡ [] → slice_get i.edges 0 ≡ Some e → EdgeForms d f e → EndForms d f i
  branches : (set clear : Edge) → ending_of i.op ≡ ending.TwoBranches → operand_forms d f i ≡ OfValue bit ∷ []
      → slice_get i.edges 0 ≡ Some set → slice_get i.edges 1 ≡ Some clear → EdgeForms d f set → EdgeForms d f clear → EndForms d f i
  cases : (s : Shape) → ending_of i.op ≡ ending.Cases → operand_forms d f i ≡ OfValue s ∷ [] → IsEnum s
      → ((k : ℕ) (c : CaseLayer Shape) → slice_get (case_shapes s) k ≡ Some c → TakenCase d f i s k c) → EndForms d f i
  returns : ending_of i.op ≡ ending.Return → operand_forms d f i ≡ OfValue (given_shape d f) ∷ [] → EndForms d f i
  unreachable : ending_of i.op ≡ ending.Unreachable → EndForms d f i
