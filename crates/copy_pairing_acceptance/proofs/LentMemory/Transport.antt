-- What walks show of marks that are the same at the items of a function.
use Rattle.std.proofs.Common.{◌≡◌, ℕ, List, [], ◌∷◌, ◌++◌, refl, sym, ap, ap₂, ◌∙◌, subst, reverse}
use Rattle.std.specs.Prelude.{flat_map}
use Rattle.std.proofs.lemmas.Grind.{flat_map-append}
use Rattle.std.proofs.lemmas.List.{reverse-append, reverse-reverse}
use Rattle.numbered_form.specs.Lists.{Each}
use Rattle.reach_engine_marks.specs.PathPatterns.Along.{Shows}
use Rattle.reach_engine_marks.specs.PathPatterns.Lawful.{FirstBreak}
use Rattle.sil_ast.specs.declared.function.Function.{Function}
use Rattle.sil_ast.specs.declared.place.EdgeId.{EdgeId}
use Rattle.sil_cfg.specs.Items.{IsItem, flow_of}
use Rattle.sil_cfg.specs.Walk.{IsTrail}
use Rattle.sil_cfg.specs.declared.item.Item.{Item}
use Rattle.sil_verifier_trails.specs.RunTrails.inner.RunTrails.{IsTurnedTrail}
use Rattle.sil_verifier_trails.proofs.RunTrails.TurnedTrails.{are_of_items}

module _ {M : Type 0} (f : Function) (marks other : Item → List M) (same : (i : Item) → IsItem f i → marks i ≡ other i) where
  along_same : (t : List Item) → Each (IsItem f) t → flat_map marks (reverse t) ≡ flat_map other (reverse t)
  along_same [] each = refl
  along_same (i ∷ t) each =
      along marks ∙ ap₂ (λ (xs ys : List M). xs ++ (ys ++ [])) (along_same t each.1) (same i each.0) ∙ sym (along other)
    where
      along : (ms : Item → List M) → flat_map ms (reverse (i ∷ t)) ≡ flat_map ms (reverse t) ++ (ms i ++ [])
      along ms = ap (flat_map ms) (reverse-append (i ∷ []) t) ∙ flat_map-append ms (reverse t) (i ∷ [])

  pub same_shows : (InPlace : List M → M → Type 0) (code_of : M → ℕ) (w : List EdgeId) (code : ℕ) (item : Item) → Shows (flow_of f) marks InPlace code_of w code item
      → Shows (flow_of f) other InPlace code_of w code item
  same_shows InPlace code_of w code item shown =
      let turned : reverse (reverse shown.before) ≡ shown.before = reverse-reverse shown.before in
      let trail : IsTurnedTrail f (item ∷ reverse shown.before) = (w, subst (λ b. IsTrail (flow_of f) w (b ++ item ∷ [])) (sym turned) shown.trail) in
      let each = are_of_items f (item ∷ reverse shown.before) trail in
      let before : flat_map marks shown.before ≡ flat_map other shown.before =
      subst (λ b. flat_map marks b ≡ flat_map other b) turned (along_same (reverse shown.before) each.1) in
      record {
        before = shown.before;
        trail = shown.trail;
        breaks = subst (λ b. FirstBreak InPlace code_of b (other item) code) before
            (subst (λ ms. FirstBreak InPlace code_of (flat_map marks shown.before) ms code) (same item each.0) shown.breaks);
      }
