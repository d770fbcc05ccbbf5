-- The other value of a fault by facts that say the same.
use Rattle.std.proofs.Common.{◌≡◌, List, [], ◌∷◌, refl, ap, ap₂, Bool, cond, find, Option, Some, None}
use Rattle.std.specs.Prelude.{option_map}
use Rattle.sil_ast.specs.declared.function.Function.{Function}
use Rattle.sil_ast.specs.declared.place.ValueId.{ValueId}
use Rattle.sil_cfg.specs.declared.item.Item.{Item}
use Rattle.ownership_kinds_chains.specs.OwnershipChains.Facts.{known_or}
use Rattle.ownership_kinds_chains.specs.declared.ownership_chains.facts.Facts.{Facts}
use Rattle.ownership_kinds_chains.proofs.OwnershipMarks.MarkTables.{same_marks}
use Rattle.sil_cfg_items.specs.Items.{item_taken}
use Rattle.sil_rules.specs.declared.rule.Rule.{Rule}
use Rattle.numbered_form.specs.ValueTables.Borrows.{lent_by}
use Rattle.borrow_scopes.specs.Others.{ended_base, ends_one, is_on_bases, is_on_uses, lies_in, marked_value, other_of, taken_value, used_operand}
use Rattle.borrow_scopes.proofs.Agreeing.{same_bases}

find_same : {X : Type 0} (p q : X → Bool) → ((x : X) → p x ≡ q x) → (xs : List X) → find p xs ≡ find q xs
find_same p q same [] = refl
find_same p q same (x ∷ xs) = ap₂ (λ b rest. cond b (Some x) rest) (same x) (find_same p q same xs)

module _ (a b : ValueId → Option Facts) (same : (v : ValueId) → known_or a v ≡ known_or b v) (f : Function) where
  same_used : (s : ValueId) (item : Item) → used_operand a f s item ≡ used_operand b f s item
  same_used s item =
      ap (option_map taken_value) (find_same (λ t. lies_in (known_or a t.value) s) (λ t. lies_in (known_or b t.value) s) (λ t. ap (λ x. lies_in x s) (same t.value)) (item_taken f item))

  same_ended : (s : ValueId) (item : Item) → ended_base a f s item ≡ ended_base b f s item
  same_ended s item = ap₂ (λ bases marks. option_map marked_value (find (ends_one bases) marks)) (same_bases (known_or a) (known_or b) same (lent_by f s.0)) (same_marks a b same f item)

  pub same_other : (r : Rule) (s : ValueId) (item : Item) → other_of r a f s item ≡ other_of r b f s item
  same_other r s item = ap₂ (λ used ended. cond (is_on_uses r) used (cond (is_on_bases r) ended None)) (same_used s item) (same_ended s item)
