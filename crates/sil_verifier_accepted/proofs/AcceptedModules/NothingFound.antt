-- A module is accepted just where nothing is wrong with it.
use Rattle.std.proofs.Common.{inl, inr}
use Rattle.std.proofs.lemmas.Bool.{false_from_ne_true}
use Rattle.sil_ast.specs.declared.module.Module.{Module}
use Rattle.sil_rules.specs.declared.limit_word.LimitWord.TheVariants as word
use Rattle.sil_rules.specs.declared.rule.Rule.TheVariants as rule
use Rattle.type_check.proofs.sil_types.FirstRefusals.{all_declared}
use Rattle.type_check.specs.sil_types.Refusals.ShownIn.{item as shown_item, infinite, too_deep, too_wide}
use Rattle.type_check.specs.sil_types.declared.refusal.TypeRefusal.TheVariants as refusal
use Rattle.type_check.specs.Refusals.{fault_at}
use Rattle.type_check.specs.Refusals.IsBroken.{broken}
use Rattle.ownership_kinds.specs.sil_types_declarations.TypeDefinitions.Rules.{exceeds_depth, exceeds_leaves}
use Rattle.sil_verifier_accepted.proofs.AcceptedModules.DeclaredTypes.{declared_not_refused, typed_not_wrong}
use Rattle.sil_verifier_accepted.specs.AcceptedModules.Findings.{Accepted, Finding, item, limit, typing, value, IsFound}
use Rattle.sil_verifier_accepted.specs.AcceptedModules.inner.Laws.{AreAcceptedWhereNothingIsFound}
use Rattle.sil_verifier_accepted.specs.AcceptedModules.Refusals.{HasTypes}

module _ (m : Module) where
  accepted_not_found : Accepted m → (x : Finding) → IsFound m x → ⊥
  accepted_not_found accepted (item r n) found = declared_not_refused m (refusal.Rule r n) accepted.types.declared found
  accepted_not_found accepted (limit what) found = declared_not_refused m (refusal.Limit what) accepted.types.declared found
  accepted_not_found accepted (typing fault) found = typed_not_wrong m fault accepted.types found
  accepted_not_found accepted (value n s) found = accepted.values (record { function = n; showing = s }) found

  types_where_none : ((x : Finding) → IsFound m x → ⊥) → HasTypes m
  types_where_none none = record {
    declared = (
      all_declared m (λ f b. none (item f.rule f.item) (shown_item f.rule f.item b)) (λ n h. none (item rule.InfiniteType n) (infinite n h)),
      record {
        depth = false_from_ne_true (exceeds_depth m) (λ h. none (limit word.Depth) (too_deep h));
        leaves = false_from_ne_true (exceeds_leaves m) (λ h. none (limit word.Leaves) (too_wide h));
      },
    );
    typed = λ s r h. none (typing (fault_at s r)) (inl (broken s r h));
    owned = λ f h. none (typing f) (inr h);
  }

  accepted_where_none : ((x : Finding) → IsFound m x → ⊥) → Accepted m
  accepted_where_none none = record { types = types_where_none none; values = λ p h. none (value p.function p.showing) h }

pub are_accepted : AreAcceptedWhereNothingIsFound
are_accepted m = (accepted_not_found m, accepted_where_none m)
