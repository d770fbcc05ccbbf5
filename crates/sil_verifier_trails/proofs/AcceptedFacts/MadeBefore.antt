-- What an item takes is made before it on every walk: the items before it, turned round, are a trail on which its operands are defined.
use Rattle.std.proofs.Common.{◌≡◌, List, [], ◌∷◌, ◌++◌, reverse, sym, ap, ◌∙◌, subst, true}
use Rattle.std.specs.Prelude.{◌==◌}
use Rattle.std.specs.List.{list_any}
use Rattle.std.proofs.lemmas.Bool.{eqb-true}
use Rattle.std.proofs.lemmas.List.{reverse-reverse}
use Rattle.sil_verifier_trails.specs.AcceptedFacts.inner.Definitions.{AreOperandsMadeBefore, IsMadeBefore, IsMadeJustAt}
use Rattle.sil_cfg_items.specs.Items.{item_taken}
use Rattle.sil_cfg_items.specs.declared.taken.Taken.{Taken}
use Rattle.sil_ast.specs.declared.function.Function.{Function}
use Rattle.sil_ast.specs.declared.place.EdgeId.{EdgeId}
use Rattle.sil_ast.specs.declared.place.ValueId.{ValueId}
use Rattle.sil_cfg.specs.Items.{IsItem, flow_of}
use Rattle.sil_cfg.specs.Walk.{IsTrail}
use Rattle.sil_cfg.specs.declared.item.Item.{Item}
use Rattle.sil_cfg.specs.inner.Splice.{Stop, is_at}
use Rattle.sil_cfg.proofs.Places.{same_item-true}
use Rattle.sil_verifier_values.specs.sil_types_declarations.TypeDefinitions.Declarations.{Declarations, declarations_of}
use Rattle.sil_verifier_trails.specs.AcceptedTrails.inner.Accepted.{IsAcceptedIn}
use Rattle.sil_verifier_trails.specs.AcceptedTrails.inner.Defined.{IsDefinedOn, IsTakenFrom, makes}
use Rattle.sil_verifier_trails.specs.RunTrails.inner.RunTrails.{IsTurnedTrail}
use Rattle.sil_verifier_trails.proofs.AcceptedTrails.OperandsDefined.{operands_defined}
use Rattle.sil_verifier_trails.proofs.AcceptedTrails.Tests.{any_alike, any_reversed, each_among, each_weaker, picked, same_value}
use Rattle.sil_verifier_trails.proofs.AcceptedTrails.Unbroken.{are_accepted}
use Rattle.sil_verifier_trails.proofs.RunTrails.TurnedTrails.{are_of_items, turned_older}

module _ (d : Declarations) (f : Function) (accepted : IsAcceptedIn d f) where
  -- a trail, the oldest item first, is one turned round
  turned : (w : List EdgeId) (before : List Item) (i : Item) → IsTrail (flow_of f) w (before ++ i ∷ []) → IsTurnedTrail f (i ∷ reverse before)
  turned w before i trail = (w, subst (λ v. IsTrail (flow_of f) w (v ++ i ∷ [])) (sym (reverse-reverse before)) trail)

  -- what is defined on the items before was made at its stop
  stops_before : (v : ValueId) (s : Stop) → IsMadeJustAt f v s → (before : List Item) → IsTurnedTrail f (reverse before) → IsDefinedOn f (reverse before) v
      → list_any (is_at (flow_of f) s) before ≡ true
  stops_before v s stop before h made =
      let each = each_weaker (IsItem f) (λ i. makes f v i ≡ is_at (flow_of f) s i) stop (reverse before) (are_of_items f (reverse before) h) in
      sym (any_reversed (is_at (flow_of f) s) before) ∙ sym (any_alike (makes f v) (is_at (flow_of f) s) (reverse before) each) ∙ made

  taken_precedes : (i : Item) (x : Taken) → list_any (λ (y : Taken). y.value.0 == x.value.0) (item_taken f i) ≡ true → IsMadeBefore f i x
  taken_precedes i x among s stop w before j trail here =
      let h = turned w before j trail in
      let older = turned_older f j (reverse before) h in
      let same : j ≡ i = same_item-true j i here in
      let y = picked (λ (y : Taken). y.value.0 == x.value.0) (IsTakenFrom f (reverse before)) (item_taken f j) (operands_defined d f accepted (reverse before) j h)
      (ap (λ k. list_any (λ (y : Taken). y.value.0 == x.value.0) (item_taken f k)) same ∙ among) in
      stops_before x.value s stop before older (subst (IsDefinedOn f (reverse before)) (same_value y.0.value x.value (eqb-true y.0.value.0 x.value.0 y.1)) y.2)

pub made_before : AreOperandsMadeBefore
made_before m n f a i =
    each_among (λ (x : Taken). x.value) (IsMadeBefore f i) (item_taken f i)
    (λ x among. taken_precedes (declarations_of m) f (are_accepted m n f a.verified a.body) i x among)
