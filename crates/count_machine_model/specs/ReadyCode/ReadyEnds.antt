-- What a terminator is, made ready to run.
use Rattle.std.specs.Prelude.{◌≡◌, ℕ, List, [], ◌∷◌, Some, length, option_map, slice_get}
use Rattle.holder_model.specs.Edges.{edge_for}
use Rattle.instruction_table.specs.Forms.{ending_of}
use Rattle.instruction_table.specs.declared.entries.Ending.TheVariants as ending
use Rattle.holder_model.specs.holder_model_values.RunValues.Shapes.{Shape, case_shapes}
use Rattle.sil_ast.specs.declared.function.Function.{Function}
use Rattle.sil_ast.specs.declared.inst.Edge.{Edge}
use Rattle.sil_ast.specs.declared.inst.Inst.{Inst}
use Rattle.sil_ast.specs.declared.place.ValueId.{ValueId}
use Rattle.holder_model.specs.sil_types_declarations.TypeDefinitions.Declarations.{Declarations}
use Rattle.holder_model.specs.RunTyping.EndForms.{arguments_at, handed_over}
use Rattle.holder_model.specs.RunTyping.Forms.{OfValue, form_of}
use Rattle.count_machine_model.specs.declared.ready_code.block.ReadyCase.{ReadyCase}
use Rattle.count_machine_model.specs.declared.ready_code.block.ReadyEdge.{ReadyEdge}
use Rattle.count_machine_model.specs.declared.ready_code.block.ReadyEnd.{ReadyEnd}
use Rattle.count_machine_model.specs.declared.ready_code.block.ReadyEnd.TheVariants as end
use Rattle.count_machine_model.specs.ReadyCode.Layout.{local, values_carried}
use Rattle.count_machine_model.specs.ReadyCode.ReadyOps.{first_of, operands_of}

abbrev pub ready_edge : Declarations → Function → Edge → ReadyEdge
ready_edge d f e = record { block = e.block.0; values = values_carried d f f (handed_over e) (arguments_at f e) }

abbrev pub ready_case : Declarations → Function → Edge → ReadyCase
ready_case d f e = record { block = e.block.0; payload = option_map (local d f) (first_of (arguments_at f e)) }

-- for each case of the shape the edge that it takes
pub record AreReadyCases (d : Declarations) (f : Function) (i : Inst) (s : Shape) (cases : List ReadyCase) : Type 0 where
  pub all : length cases ≡ length (case_shapes s)
  pub each : (k : ℕ) (c : ReadyCase) → slice_get cases k ≡ Some c
      → (j : ℕ) × (e : Edge) × (edge_for s i.edges k ≡ Some j) × (slice_get i.edges j ≡ Some e) × (c ≡ ready_case d f e)

pub data IsReadyEnd (d : Declarations) (f : Function) (i : Inst) : ReadyEnd → Type 0 where
  jump : (e : Edge) → ending_of i.op ≡ ending.OneBranch → slice_get i.edges 0 ≡ Some e → IsReadyEnd d f i (end.Jump (ready_edge d f e))
  branch : (v : ValueId) (set clear : Edge) → ending_of i.op ≡ ending.TwoBranches → operands_of i ≡ v ∷ [] → slice_get i.edges 0 ≡ Some set
      → slice_get i.edges 1 ≡ Some clear → IsReadyEnd d f i (end.Branch (local d f v) (ready_edge d f set) (ready_edge d f clear))
  switch : (v : ValueId) (s : Shape) (cases : List ReadyCase) → ending_of i.op ≡ ending.Cases → operands_of i ≡ v ∷ [] → form_of d f v ≡ OfValue s
      → AreReadyCases d f i s cases → IsReadyEnd d f i (end.Switch (local d f v) cases)
  returns : (v : ValueId) → ending_of i.op ≡ ending.Return → operands_of i ≡ v ∷ [] → IsReadyEnd d f i (end.Return (local d f v))
  unreachable : ending_of i.op ≡ ending.Unreachable → IsReadyEnd d f i end.Unreachable
