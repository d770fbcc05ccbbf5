-- What a search answers.
use Rattle.std.specs.Prelude.{◌≡◌, ◌↔◌, ℕ, ◌<◌, ◌≤◌, List, length, IsTrue}
use Rattle.sil_ast.specs.declared.place.EdgeId.{EdgeId}
use Rattle.sil_ast.specs.declared.place.PointId.{PointId}
use Rattle.sil_cfg.specs.Flow.{Flow, block_count}
use Rattle.reach_engine.specs.declared.scan.Step.{Step}
use Rattle.reach_engine.specs.declared.found.Found.{Found}
use Rattle.reach_engine.specs.declared.found.Found.TheVariants.{Clean, Fault}
use Rattle.reach_engine.specs.inner.Reach.{Enters, ReachesFirst}
use Rattle.reach_engine.specs.inner.Table.{Table, holds}

-- no walk comes to a bad item
abbrev pub IsClean : Flow ℕ → (ℕ → ℕ → Step) → Type 0
IsClean g f = (w : List EdgeId) (code item : ℕ) → ReachesFirst g f w code item → ⊥

-- the map has exactly the blocks and states that a walk enters
pub record IsExact (g : Flow ℕ) (f : ℕ → ℕ → Step) (states : ℕ) (map : Table) : Type 0 where
  pub blocks : map.blocks ≡ block_count g
  pub states_are : map.states ≡ states
  pub exact : (b s : ℕ) → b < block_count g → s < states → IsTrue (holds map b s) ↔ ((w : List EdgeId) × Enters g f w b s)

-- no walk comes first to a lesser code
abbrev pub IsLeastCode : Flow ℕ → (ℕ → ℕ → Step) → ℕ → Type 0
IsLeastCode g f code = (w : List EdgeId) (other item : ℕ) → ReachesFirst g f w other item → code ≤ other

-- no walk with fewer edges comes first to the code
abbrev pub IsShortest : Flow ℕ → (ℕ → ℕ → Step) → ℕ → List EdgeId → Type 0
IsShortest g f code walk = (w : List EdgeId) (item : ℕ) → ReachesFirst g f w code item → length walk ≤ length w

abbrev pub IfClean : Found → (Table → Type 0) → Type 0
IfClean (Clean map) P = P map
IfClean (Fault walk point code) P = Unit {0}

abbrev pub IfFault : Found → (List EdgeId → PointId → ℕ → Type 0) → Type 0
IfFault (Clean map) P = Unit {0}
IfFault (Fault walk point code) P = P walk point code
