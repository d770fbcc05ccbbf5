-- The promises of `laws`: a verified module stays verified, its form and its types by the law of these, and its values function by function.
use Rattle.std.proofs.Common.{◌≡◌, ℕ, zero, suc, List, [], ◌∷◌, refl, sym, ap, ◌∙◌, subst, None, Some, ◌⊎◌, inl, inr}
use Rattle.std.specs.Prelude.{slice_get}
use Rattle.std.proofs.lemmas.Option.{same_Some}
use Rattle.copy_pairing_model.specs.Optimised.{Rewrites, done, lends, more, moves}
use Rattle.copy_pairing_model.specs.Rewritten.{changed_at, lent, moved}
use Rattle.sil_ast.specs.declared.function.Function.{Function}
use Rattle.sil_ast.specs.declared.module.Module.{Module}
use Rattle.sil_ast.specs.declared.place.PointId.{PointId}
use Rattle.sil_cfg.specs.Items.{HasBlocks}
use Rattle.copy_pairing_acceptance.specs.LentFunctions.inner.Laws.{LentValuesAreClean}
use Rattle.copy_pairing_acceptance.specs.LentMemory.inner.Laws.{LentMemoryIsClean}
use Rattle.sil_verifier_trails.specs.memory_rules_accesses.Sources.{sources_of}
use Rattle.sil_verifier_trails.specs.memory_rules.Broken.{IsBroken}
use Rattle.copy_pairing_acceptance.specs.MovedFunctions.inner.Laws.{MovedValuesAreClean}
use Rattle.copy_pairing_acceptance.specs.MovedMemory.inner.Laws.{MovedMemoryIsClean}
use Rattle.copy_pairing_model.specs.ownership_kinds_origins.Facts.{facts_in}
use Rattle.sil_verifier_trails.specs.ownership_kinds.Statics.{HasKinds}
use Rattle.reach_engine_marks.specs.PathChecks.First.{IsFirst}
use Rattle.sil_rules.specs.declared.rule_faults.fault.RuleFault.{RuleFault}
use Rattle.sil_verifier_trails.specs.sil_verifier_accepted.AcceptedModules.Shown.{kind, life, lives_in, memory as in_memory, scope, scopes_in, undefined}
use Rattle.sil_verifier_trails.specs.sil_verifier_accepted.AcceptedModules.Values.{AcceptedValues, IsCleanIn}
use Rattle.sil_verifier_trails.specs.sil_verifier_accepted.AcceptedModules.inner.Checked.{IsVerified}
use Rattle.sil_types_declarations.specs.TypeDefinitions.Declarations.{Declarations, declarations_of}
use Rattle.value_availability.specs.Accesses.{accesses_of}
use Rattle.copy_pairing_acceptance.specs.RewrittenTypingLaws.inner.KeptTypes.{RewritingKeepsTypes}
use Rattle.copy_pairing_acceptance.specs.RewritingLaws.inner.Laws.{OptimisedIsVerified, RewritingKeepsVerified}

-- an element stands where it stood, or is what one became
changed_from : {A : Type 0} (n : ℕ) (change : A → A) (xs : List A) (k : ℕ) (y : A) → slice_get (changed_at n change xs) k ≡ Some y
    → (slice_get xs k ≡ Some y) ⊎ ((x : A) × (slice_get xs n ≡ Some x) × (change x ≡ y))
changed_from n change [] k y e = inl e
changed_from zero change (x ∷ xs) zero y e = inr (x, refl, same_Some (change x) y e)
changed_from zero change (x ∷ xs) (suc k) y e = inl e
changed_from (suc n) change (x ∷ xs) zero y e = inl e
changed_from (suc n) change (x ∷ xs) (suc k) y e = changed_from n change xs k y e

-- no rule on its values is broken in a function of an accepted module
clean_in : (m : Module) → AcceptedValues m → (k : ℕ) (f : Function) → slice_get m.functions k ≡ Some f → HasBlocks f → IsCleanIn (declarations_of m) f
clean_in m accepted k f there body s shown =
    accepted (record { function = k; showing = s }) (record { within = f; is_body = record { there = there; body = body }; shown = shown })

-- nor in any function, where none is in the one that was changed
values_stay : (m : Module) (n : ℕ) (f : Function) (change : Function → Function) → AcceptedValues m → slice_get m.functions n ≡ Some f
    → IsCleanIn (declarations_of m) (change f) → AcceptedValues (record m { functions = changed_at n change m.functions })
values_stay m n f change accepted there clean s h = at (changed_from n change m.functions s.function h.within h.is_body.there)
  where
    at : (slice_get m.functions s.function ≡ Some h.within) ⊎ ((x : Function) × (slice_get m.functions n ≡ Some x) × (change x ≡ h.within)) → ⊥
    at (inl e) = clean_in m accepted s.function h.within e h.is_body.body s.showing h.shown
    at (inr e) =
        let same : f ≡ e.0 = same_Some f e.0 (sym there ∙ e.1) in
        subst (IsCleanIn (declarations_of m)) (ap change same ∙ e.2) clean s.showing h.shown

-- nothing is shown where no group of rules finds anything
clean_of : (d : Declarations) (f : Function) → IsFirst f (accesses_of f) None → HasKinds d f → IsFirst f (lives_in d f) None → IsFirst f (scopes_in d f) None
    → ((s : RuleFault) → ¬ IsBroken (sources_of d f) (facts_in d f) f s) → IsCleanIn d f
clean_of d f defined kinds lives scopes memory s (undefined o shown) = defined s.subject.0 s.rule s.walk s.point shown
clean_of d f defined kinds lives scopes memory s (kind o w broken) = kinds s.rule s.subject s.point.block.0 s.point.index broken
clean_of d f defined kinds lives scopes memory s (life o shown) = lives s.subject.0 s.rule s.walk s.point shown
clean_of d f defined kinds lives scopes memory s (scope item o shown) = scopes s.subject.0 s.rule s.walk s.point (record { item = item; at = shown })
clean_of d f defined kinds lives scopes memory s (in_memory broken) = memory s broken

module _ (types : RewritingKeepsTypes) (lent_values : LentValuesAreClean) (lent_memory : LentMemoryIsClean) (moved_values : MovedValuesAreClean)
    (moved_memory : MovedMemoryIsClean) where
  values_kept : (m : Module) (n : ℕ) (p : PointId) (next : Module) → IsVerified m → Rewrites m n p next → AcceptedValues next
  values_kept m n p _ h (lends f c v there copy borrowable) =
      let values = lent_values m n f p c v h there copy borrowable in
      values_stay m n f (lent c) h.accepted.values there
      (clean_of (declarations_of m) (lent c f) values.available values.kinds values.lives values.scopes (lent_memory m n f p c v h there copy borrowable))
  values_kept m n p _ h (moves f c v there copy never movable) =
      let values = moved_values m n f p c v h there copy movable in
      values_stay m n f (moved p movable.last) h.accepted.values there
      (clean_of (declarations_of m) (moved p movable.last f) values.defined values.kinds values.lives values.scopes
      (moved_memory m n f p c v h there copy movable))

  pub rewriting_keeps_verified : RewritingKeepsVerified
  rewriting_keeps_verified m n p next h rewrites =
      let kept = types m n p next h.numbered h.accepted.types rewrites in
      let verified : IsVerified next =
      record { numbered = kept.numbered; accepted = record { types = kept.types; values = values_kept m n p next h rewrites } } in
      record {
        verified = verified;
        declarations = kept.declarations;
        table = λ d t. record {
          verified = verified;
          declarations = record {
            copied = t.declarations.copied ∙ sym kept.declarations;
            declared = kept.types.declared.0;
            limits = kept.types.declared.1;
          };
        };
      }

pub optimised_is_verified : RewritingKeepsVerified → OptimisedIsVerified
optimised_is_verified keeps m _ h (done _ none) = record { verified = h; declarations = refl; table = λ d t. t }
optimised_is_verified keeps m _ h (more _ next last first rest) =
    let step = keeps m first.function first.point next h first.rewrites in
    let further = optimised_is_verified keeps next last step.verified rest in
    record {
      verified = further.verified;
      declarations = further.declarations ∙ step.declarations;
      table = λ d t. further.table d (step.table d t);
    }
