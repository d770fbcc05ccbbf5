-- A typed module has no refusal of an item, a type or its typing.
use Rattle.std.proofs.Common.{◌≡◌, ◌⊎◌, inl, inr, ℕ, ◌<◌, ◌≤◌, List, length, get_or, subst, sym, ◌∙◌, All, Some, None, IsSomeAnd, slice_get}
use Rattle.std.proofs.lemmas.Bool.{false≢true}
use Rattle.std.proofs.lemmas.List.Elements.{All-get_or}
use Rattle.std.proofs.lemmas.Option.{slice_get_cases}
use Rattle.sil_ast.specs.declared.module.Module.{Module}
use Rattle.sil_rules.specs.declared.rule.Rule.{Rule}
use Rattle.type_check.specs.sil_types.declared.refusal.TypeRefusal.{TypeRefusal}
use Rattle.type_check.specs.sil_types.Refusals.{ShownIn}
use Rattle.type_check.specs.sil_types.Refusals.ShownIn.{item, infinite, too_deep, too_wide}
use Rattle.ownership_kinds.specs.sil_types_declarations.TypeDefinitions.Declarations.{Declarations, declarations_of}
use Rattle.ownership_kinds.specs.sil_types_declarations.TypeDefinitions.Mentions.{Item, items_of}
use Rattle.ownership_kinds.specs.sil_types_declarations.TypeDefinitions.Rules.{IsWellNamed}
use Rattle.type_check.specs.sil_types_items.TypeItemRules.Faults.{Breaks}
use Rattle.type_check.specs.sil_types_items.TypeItemRules.Faults.Breaks.{unknown_type, bad_member, misplaced_storage}
use Rattle.type_check.specs.Refusals.IsBroken.{broken}
use Rattle.type_check.specs.declared.fault.TypingFault.{TypingFault}
use Rattle.sil_verifier_accepted.specs.AcceptedModules.Refusals.{HasDeclaredTypes, HasTypes, IsWrong}

well_named_keeps : (d : Declarations) (i : Item) (r : Rule) → IsWellNamed d i → Breaks d i r → ⊥
well_named_keeps d i _ well (unknown_type e) = false≢true (sym well.known ∙ e)
well_named_keeps d i _ well (bad_member e) = false≢true (sym well.members ∙ e)
well_named_keeps d i _ well (misplaced_storage e) = false≢true (sym well.storage ∙ e)

-- what holds of all elements and excludes another property excludes it of the one at a place
excluded : {A : Type 0} (P Q : A → Type 0) (xs : List A) (k : ℕ) → ((x : A) → P x → Q x → ⊥) → All P xs → IsSomeAnd (slice_get xs k) Q → ⊥
excluded {A} P Q xs k exclude all some = at (slice_get_cases xs k).1
  where
    at : ((x : A) × (k < length xs) × (slice_get xs k ≡ Some x) × (get_or xs k x ≡ x)) ⊎ ((length xs ≤ k) × (slice_get xs k ≡ None)) → ⊥
    at (inl p) = exclude p.0 (subst P p.3 (All-get_or P xs k p.0 p.1 all)) (subst (λ o. IsSomeAnd o Q) p.2 some)
    at (inr p) = subst (λ o. IsSomeAnd o Q) p.1 some

pub declared_not_refused : (m : Module) (reason : TypeRefusal) → HasDeclaredTypes m → ShownIn m reason → ⊥
declared_not_refused m _ types (item r n breaks) =
    excluded (IsWellNamed (declarations_of m)) (λ i. Breaks (declarations_of m) i r) (items_of m) n (λ i. well_named_keeps (declarations_of m) i r) types.0.items breaks
declared_not_refused m _ types (infinite n holds) = types.0.finite n holds
declared_not_refused m _ types (too_deep e) = false≢true (sym types.1.depth ∙ e)
declared_not_refused m _ types (too_wide e) = false≢true (sym types.1.leaves ∙ e)

pub typed_not_wrong : (m : Module) (fault : TypingFault) → HasTypes m → IsWrong m fault → ⊥
typed_not_wrong m _ types (inl (broken s r h)) = types.typed s r h
typed_not_wrong m fault types (inr h) = types.owned fault h
