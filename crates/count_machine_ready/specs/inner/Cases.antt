-- The edges of a `switch_enum`, by the cases of its enum.
use Rattle.std.specs.Prelude.{◌≡◌, ◌<◌, ℕ, List, [], ◌∷◌, zero, suc, Option, Some, None, length, position, slice_get}
use Rattle.holder_model.specs.Edges.{edge_for, is_for}
use Rattle.holder_model_values.specs.RunValues.Shapes.{Shape, case_shapes}
use Rattle.sil_ast.specs.declared.function.Function.{Function}
use Rattle.sil_ast.specs.declared.inst.Edge.{Edge}
use Rattle.sil_types_declarations.specs.TypeDefinitions.Declarations.{Declarations}
use Rattle.count_machine_model.specs.declared.ready_code.block.ReadyCase.{ReadyCase}
use Rattle.count_machine_model.specs.ReadyCode.ReadyEnds.{ready_case}

-- the edge that a case of the shape takes is there
pub record CaseEdge (s : Shape) (edges : List Edge) (k : ℕ) : Type 0 where
  pub chosen : ℕ
  pub edge : Edge
  pub taken : edge_for s edges k ≡ Some chosen
  pub there : slice_get edges chosen ≡ Some edge

abbrev pub HaveEdges : Shape → List Edge → Type 0
HaveEdges s edges = (k : ℕ) → k < length (case_shapes s) → CaseEdge s edges k

-- of each case the first edge that names it
pub record AreByCase (s : Shape) (edges : List Edge) (count : ℕ) (chosen : List (Option ℕ)) : Type 0 where
  pub all : length chosen ≡ count
  pub each : (k : ℕ) → k < count → slice_get chosen k ≡ Some (position (is_for s k) edges)

abbrev pub or_noted : Option ℕ → ℕ → Option ℕ
or_noted None edge = Some edge
or_noted (Some first) edge = Some first

-- an edge is noted for a case, unless one is noted already
abbrev pub noted : List (Option ℕ) → ℕ → ℕ → List (Option ℕ)
noted [] place edge = []
noted (c ∷ cs) zero edge = or_noted c edge ∷ cs
noted (c ∷ cs) (suc place) edge = c ∷ noted cs place edge

-- the case at a place takes its edge
pub record IsCase (d : Declarations) (f : Function) (s : Shape) (edges : List Edge) (k : ℕ) (c : ReadyCase) : Type 0 where
  pub own : CaseEdge s edges k
  pub made : c ≡ ready_case d f own.edge

-- this many cases are ready
pub record AreReadyTo (d : Declarations) (f : Function) (s : Shape) (edges : List Edge) (count : ℕ) (cases : List ReadyCase) : Type 0 where
  pub all : length cases ≡ count
  pub each : (k : ℕ) (c : ReadyCase) → slice_get cases k ≡ Some c → IsCase d f s edges k c
