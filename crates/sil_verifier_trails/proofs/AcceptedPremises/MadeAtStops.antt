-- A value is made at one stop alone.
use Rattle.std.proofs.Common.{◌≡◌, ℕ, zero, suc, ◌<◌, List, [], ◌∷◌, length, refl, sym, ap, arith, Bool, true, false, ◌||◌, Some, eq-eqb}
use Rattle.std.specs.Prelude.{◌==◌, slice_get}
use Rattle.std.proofs.lemmas.Bool.{eqb-true, false≢true, or_cases}
use Rattle.std.proofs.lemmas.Option.{none-some, same_Some}
use Rattle.sil_verifier_trails.specs.AcceptedTrails.inner.Defined.{makes}
use Rattle.sil_verifier_trails.proofs.AcceptedTrails.Tests.{either, or_right, picked, same_value}
use Rattle.sil_verifier_values.specs.inner.Known.{IsAcceptedBody}
use Rattle.sil_verifier_values.specs.inner.Making.{IsMadeAt, Makes}
use Rattle.sil_verifier_values.proofs.Counted.{stands}
use Rattle.sil_verifier_values.proofs.Made.{items_of, made_somewhere, made_there}
use Rattle.sil_cfg_items.specs.Items.{item_defined}
use Rattle.numbered_form.proofs.Lists.{contained}
use Rattle.numbered_form.specs.Numbering.{values_of}
use Rattle.sil_verifier_values.specs.ownership_kinds_chains.OwnershipChains.Facts.{has}
use Rattle.sil_verifier_values.specs.holder_model.RunTyping.CallForms.{IsOf}
use Rattle.sil_verifier_values.proofs.holder_model_typing.RunTypingLaws.ItemFacts.{values_counted}
use Rattle.sil_ast.specs.declared.function.Function.{Function}
use Rattle.sil_ast.specs.declared.module.Module.{Module}
use Rattle.sil_ast.specs.declared.place.ValueId.{ValueId}
use Rattle.sil_cfg.specs.Items.{flow_of}
use Rattle.sil_cfg.specs.declared.item.Item.{Item}
use Rattle.sil_cfg.specs.inner.Splice.{Stop, is_at}
use Rattle.sil_verifier_trails.specs.AcceptedPremises.inner.Laws.{AreMadeAtStops}

has_stands : (vs : List ValueId) (v : ValueId) → has vs v.0 ≡ true → (k : ℕ) × (slice_get vs k ≡ Some v)
has_stands [] v h = absurd (false≢true h)
has_stands (w ∷ vs) v h =
    either (λ here. (0, ap (λ (u : ValueId). Some u) (same_value w v (eqb-true w.0 v.0 here)))) (λ later. let r = has_stands vs v later in (suc r.0, r.1))
    (or_cases (w.0 == v.0) (has vs v.0) h)

stands_has : (vs : List ValueId) (k : ℕ) (v : ValueId) → slice_get vs k ≡ Some v → has vs v.0 ≡ true
stands_has [] k v e = absurd (none-some v e)
stands_has (w ∷ vs) zero v e = ap (λ b. b || has vs v.0) (eq-eqb w.0 v.0 (ap (λ (u : ValueId). u.0) (same_Some w v e)))
stands_has (w ∷ vs) (suc k) v e = or_right (w.0 == v.0) (has vs v.0) (stands_has vs k v e)

pub makes_so : (f : Function) (v : ValueId) (i : Item) → makes f v i ≡ true → Makes f i v
makes_so f v i h = let r = has_stands (item_defined f i) v h in contained (item_defined f i) r.0 v r.1

so_makes : (f : Function) (v : ValueId) (i : Item) → Makes f i v → makes f v i ≡ true
so_makes f v i c = let r = stands (item_defined f i) v c in stands_has (item_defined f i) r.0 v r.1

both_ways : (x y : Bool) → (x ≡ true → y ≡ true) → (y ≡ true → x ≡ true) → x ≡ y
both_ways true true h k = refl
both_ways true false h k = sym (h refl)
both_ways false true h k = k refl
both_ways false false h k = refl

-- the stop of a value that an item makes
pub stop_made : (m : Module) (n : ℕ) (f : Function) → IsAcceptedBody m n f → (i : Item) (v : ValueId) → makes f v i ≡ true → (s : Stop) × IsMadeAt f v s
stop_made m n f a i v made =
    let w = picked (λ (w : ValueId). w.0 == v.0) (IsOf f) (item_defined f i) (items_of m n f a i).defined made in
    let number : w.0.0 ≡ v.0 = eqb-true w.0.0 v.0 w.1 in
    let count = values_counted f in
    let below : IsOf f w.0 = w.2 in
    let inside : v.0 < length (values_of f.blocks) = omega (arith, count, number, below) in
    made_somewhere m n f a v inside

pub made_at_stops : AreMadeAtStops
made_at_stops m n f a v j is made =
    let s = stop_made m n f a j v made in (
      s.0,
      λ i there.
          let at = made_there m n f a v s.0 i s.1 there in
          both_ways (makes f v i) (is_at (flow_of f) s.0 i) (λ h. at.0 (makes_so f v i h)) (λ h. so_makes f v i (at.1 h)),
    )
