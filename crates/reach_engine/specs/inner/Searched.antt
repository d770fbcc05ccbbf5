-- What the searches answer before an item is put as a point.
use Rattle.std.specs.Prelude.{ℕ, List}
use Rattle.sil_ast.specs.declared.place.EdgeId.{EdgeId}
use Rattle.reach_engine.specs.declared.found.Searched.{Searched}
use Rattle.reach_engine.specs.declared.found.Searched.TheVariants as one
use Rattle.reach_engine.specs.declared.together.Broken.{Broken}
use Rattle.reach_engine.specs.declared.together.SearchedAll.{SearchedAll}
use Rattle.reach_engine.specs.declared.together.SearchedAll.TheVariants as all
use Rattle.reach_engine.specs.inner.Table.{Table}
use Rattle.reach_engine.specs.inner.Grid.{Grid}

abbrev pub IfClean : Searched → (Table → Type 0) → Type 0
IfClean (one.Clean map) P = P map
IfClean (one.Breaks walk item code) P = Unit {0}

abbrev pub IfBreaks : Searched → (List EdgeId → ℕ → ℕ → Type 0) → Type 0
IfBreaks (one.Clean map) P = Unit {0}
IfBreaks (one.Breaks walk item code) P = P walk item code

abbrev pub IfAllClean : SearchedAll → (Grid → Type 0) → Type 0
IfAllClean (all.Clean map) P = P map
IfAllClean (all.Breaks broken) P = Unit {0}

abbrev pub IfSomeBreaks : SearchedAll → (Broken → Type 0) → Type 0
IfSomeBreaks (all.Clean map) P = Unit {0}
IfSomeBreaks (all.Breaks broken) P = P broken
