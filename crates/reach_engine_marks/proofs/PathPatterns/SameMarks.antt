-- What is shown depends on the marks of each item alone: another table with the same marks shows the same.
use Rattle.std.proofs.Common.{◌≡◌, ℕ, List, [], ◌∷◌, ◌++◌, refl, ap₂, subst}
use Rattle.std.specs.Prelude.{flat_map}
use Rattle.sil_ast.specs.declared.place.EdgeId.{EdgeId}
use Rattle.sil_cfg.specs.Flow.{Flow}
use Rattle.reach_engine_marks.specs.PathPatterns.Lawful.{FirstBreak}
use Rattle.reach_engine_marks.specs.PathPatterns.Along.{Shows}

module _ {I M : Type 0} (InPlace : List M → M → Type 0) (code_of : M → ℕ) (marks other : I → List M) (same : (i : I) → marks i ≡ other i) where
  same_along : (trail : List I) → flat_map marks trail ≡ flat_map other trail
  same_along [] = refl
  same_along (i ∷ trail) = ap₂ (λ u v. u ++ v) (same i) (same_along trail)

  pub same_shown : (g : Flow I) (w : List EdgeId) (code : ℕ) (item : I) → Shows g marks InPlace code_of w code item → Shows g other InPlace code_of w code item
  same_shown g w code item h =
      let P : List M → Type 0 = λ v. FirstBreak InPlace code_of (flat_map other h.before) v code in
      let Q : List M → Type 0 = λ v. FirstBreak InPlace code_of v (marks item) code in
      record { before = h.before; trail = h.trail; breaks = subst P (same item) (subst Q (same_along h.before) h.breaks) }
