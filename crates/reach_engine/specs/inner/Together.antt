-- What a search of all subjects answers.
use Rattle.std.specs.Prelude.{ℕ, List}
use Rattle.sil_ast.specs.declared.place.EdgeId.{EdgeId}
use Rattle.sil_ast.specs.declared.place.PointId.{PointId}
use Rattle.reach_engine.specs.declared.together.FoundAll.{FoundAll}
use Rattle.reach_engine.specs.declared.together.FoundAll.TheVariants.{Clean, Fault}
use Rattle.reach_engine.specs.inner.Grid.{Grid}

abbrev pub IfClean : FoundAll → (Grid → Type 0) → Type 0
IfClean (Clean map) P = P map
IfClean (Fault subject walk point code) P = Unit {0}

abbrev pub IfFault : FoundAll → (ℕ → List EdgeId → PointId → ℕ → Type 0) → Type 0
IfFault (Clean map) P = Unit {0}
IfFault (Fault subject walk point code) P = P subject walk point code
