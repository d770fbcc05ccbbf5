-- What breaks a rule on kinds breaks one of that group.
use Rattle.std.proofs.Common.{◌≡◌, ℕ, refl}
use Rattle.sil_ast.specs.declared.function.Function.{Function}
use Rattle.sil_ast.specs.declared.place.ValueId.{ValueId}
use Rattle.sil_rules.specs.Rules.{group_of}
use Rattle.sil_rules.specs.declared.group.Group.TheVariants as group
use Rattle.sil_rules.specs.declared.rule.Rule.{Rule}
use Rattle.sil_types_declarations.specs.TypeDefinitions.Declarations.{Declarations}
use Rattle.ownership_kinds.specs.Statics.{IsBroken}
use Rattle.ownership_kinds.specs.Statics.IsBroken.{on_ring, mixed, mismatch, annotated, lacking}

pub on_kinds : (d : Declarations) (f : Function) (r : Rule) (v : ValueId) (n k : ℕ) → IsBroken d f r v n k → group_of r ≡ group.Kinds
on_kinds d f _ _ _ _ (on_ring v n k on at) = refl
on_kinds d f _ _ _ _ (mixed v n k i at e) = refl
on_kinds d f _ _ _ _ (mismatch n k i t at c e) = refl
on_kinds d f _ _ _ _ (annotated n b a lt at c e) = refl
on_kinds d f _ _ _ _ (lacking n k i v at lacks e needs) = refl
