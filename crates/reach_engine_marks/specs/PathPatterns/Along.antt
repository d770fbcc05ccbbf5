-- A pattern along the walks of a graph; `marks` gives the marks of an item, in order.
use Rattle.std.specs.Prelude.{ℕ, List, [], ◌∷◌, ◌++◌, flat_map}
use Rattle.sil_ast.specs.declared.place.EdgeId.{EdgeId}
use Rattle.sil_cfg.specs.Flow.{Flow}
use Rattle.sil_cfg.specs.Walk.{IsTrail}
use Rattle.reach_engine_marks.specs.PathPatterns.Lawful.{AreLawful, FirstBreak}

-- on every trail the marks are lawful
abbrev pub IsKept : {A M : Type 0} → Flow A → (A → List M) → (List M → M → Type 0) → Type 0
IsKept {A} g marks InPlace = (w : List EdgeId) (trail : List A) → IsTrail g w trail → AreLawful InPlace (flat_map marks trail)

-- some trail along the walk keeps the pattern up to its last item, and breaks it there, first with this code
pub record Shows {A M : Type 0} (g : Flow A) (marks : A → List M) (InPlace : List M → M → Type 0) (code_of : M → ℕ) (w : List EdgeId) (code : ℕ)
    (item : A) : Type 0 where
  pub before : List A
  pub trail : IsTrail g w (before ++ item ∷ [])
  pub breaks : FirstBreak InPlace code_of (flat_map marks before) (marks item) code
