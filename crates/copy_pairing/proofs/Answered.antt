-- The answer is of the copy that stands at the point, whatever its function and its values are called.
use Rattle.std.proofs.Common.{◌≡◌, ◌⊎◌, inl, inr, ℕ, ◌<◌, ◌≤◌, get_or, List, length, refl, sym, ap, ◌∙◌, subst, Option, Some, None, arith}
use Rattle.std.specs.Prelude.{Contains, MatchOption}
use Rattle.std.specs.List.{slice_get}
use Rattle.std.proofs.lemmas.Option.{same_Some, slice_get_cases, slice_get_within}
use Rattle.sil_ast.specs.declared.function.Block.{Block}
use Rattle.sil_ast.specs.declared.function.Function.{Function}
use Rattle.sil_ast.specs.declared.module.Module.{Module}
use Rattle.sil_ast.specs.declared.place.PointId.{PointId}
use Rattle.sil_ast.specs.declared.place.ValueId.{ValueId}
use Rattle.sil_cfg.specs.Items.{HasBlocks}
use Rattle.sil_cfg_items.specs.Parts.{inst_in}
use Rattle.ownership_kinds_chains.specs.declared.ownership_chains.facts.Facts.{Facts}
use Rattle.ownership_kinds.specs.ownership_kinds_origins.Facts.{facts_in}
use Rattle.sil_types_declarations.specs.TypeDefinitions.Declarations.{Declarations, declarations_of}
use Rattle.copy_pairing_model.proofs.Unique.{same_copy}
use Rattle.copy_pairing_model.specs.Copies.{IsCopy}
use Rattle.copy_pairing_model.specs.Optimised.{IsRemovalAt, facts_of}
use Rattle.copy_pairing_model.specs.Removable.{IsRemoval, IsRemovalIn}
use Rattle.copy_pairing_model.specs.declared.removal.Removal.{Removal}
use Rattle.copy_pairing_model.specs.declared.removal.Removal.TheVariants.{Borrow, Move, No}

pub contains_at : {A : Type 0} (xs : List A) (n : ℕ) (x : A) → slice_get xs n ≡ Some x → Contains xs x
contains_at {A} xs n x e = at (slice_get_cases xs n).1
  where
    at : ((y : A) × (n < length xs) × (slice_get xs n ≡ Some y) × (get_or xs n y ≡ y)) ⊎ ((length xs ≤ n) × (slice_get xs n ≡ None)) → Contains xs x
    at (inl h) = let same : h.0 ≡ x = same_Some h.0 x (sym h.2 ∙ e) in (n, h.1, subst (λ y. get_or xs n y ≡ y) same h.3)
    at (inr h) = absurd (let wrong : None ≡ Some x = sym h.1 ∙ e in cc)

-- where a copy stands there are blocks
pub body_of_copy : (f : Function) (p : PointId) (c v : ValueId) → IsCopy f p c v → HasBlocks f
body_of_copy f p c v h = at (slice_get f.blocks p.block.0) refl
  where
    at : (o : Option Block) → slice_get f.blocks p.block.0 ≡ o → HasBlocks f
    at None none = absurd (let wrong : None ≡ Some h.inst = sym (ap (λ o. inst_in o p.index) none) ∙ h.stands in cc)
    at (Some block) there = let within : p.block.0 < length f.blocks = slice_get_within f.blocks p.block.0 block there in omega arith

removal_same : (facts : ValueId → Option Facts) (f : Function) (p : PointId) (c v d w : ValueId) (r : Removal) → IsCopy f p c v → IsCopy f p d w → IsRemoval facts f p c v r
    → IsRemoval facts f p d w r
removal_same facts f p c v d w r one other h =
    let same = same_copy f p c d v w one other in
    subst (λ x. IsRemoval facts f p x w r) same.result (subst (λ x. IsRemoval facts f p c x r) same.operand h)

-- of what stands at the point, where that is a copy
pub removal_in : (facts : ValueId → Option Facts) (f : Function) (p : PointId) (c v : ValueId) (r : Removal) → IsCopy f p c v → IsRemoval facts f p c v r → IsRemovalIn facts f p r
removal_in facts f p c v No copy h = λ d w other. removal_same facts f p c v d w No copy other h
removal_in facts f p c v Borrow copy h = (c, v, copy, h)
removal_in facts f p c v Move copy h = (c, v, copy, h)

-- and in the function with the number
pub answered : (m : Module) (t : Declarations) (n : ℕ) (f : Function) (p : PointId) (r : Removal) → t ≡ declarations_of m → slice_get m.functions n ≡ Some f
    → IsRemovalIn (facts_in t f) f p r → IsRemovalAt m n p r
answered m t n f p r declared there h =
    subst (λ o. MatchOption o (r ≡ No) (λ g. IsRemovalIn (facts_of m g) g p r)) (sym there) (subst (λ d. IsRemovalIn (facts_in d f) f p r) declared h)

pub no_function : (m : Module) (n : ℕ) (p : PointId) → slice_get m.functions n ≡ None → IsRemovalAt m n p No
no_function m n p none = subst (λ o. MatchOption o (No ≡ No) (λ g. IsRemovalIn (facts_of m g) g p No)) (sym none) refl
