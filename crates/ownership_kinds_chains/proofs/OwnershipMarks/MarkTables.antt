-- Marks by facts that say the same.
use Rattle.std.proofs.Common.{◌≡◌, List, [], ◌∷◌, ◌++◌, refl, sym, ap, ap₂, ◌∙◌, Option, Some, None}
use Rattle.std.specs.Prelude.{unwrap_or}
use Rattle.std.specs.List.{flat_map}
use Rattle.sil_ast.specs.declared.function.Function.{Function}
use Rattle.sil_ast.specs.declared.place.ValueId.{ValueId}
use Rattle.sil_cfg.specs.declared.item.Item.{Item}
use Rattle.sil_cfg_items.specs.Items.{item_defined, item_taken}
use Rattle.sil_cfg_items.specs.declared.taken.Taken.{Taken}
use Rattle.ownership_kinds_chains.specs.OwnershipChains.Facts.{facts_with, known_or}
use Rattle.ownership_kinds_chains.specs.declared.ownership_chains.facts.Facts.{Facts}
use Rattle.sil_types_declarations.specs.declared.type_definitions.kind.Kind.TheVariants as kind
use Rattle.ownership_kinds_chains.specs.OwnershipMarks.Marks.{begun, begun_with, ended, ended_with, marks_of, used, used_with}

pub flat_map_same : {X A : Type 0} (p q : X → List A) → ((x : X) → p x ≡ q x) → (xs : List X) → flat_map p xs ≡ flat_map q xs
flat_map_same p q same [] = refl
flat_map_same p q same (x ∷ xs) = ap₂ (λ a b. a ++ b) (same x) (flat_map_same p q same xs)

ended_known : (o : Option Facts) (t : Taken) → ended_with o t ≡ ended_with (Some (unwrap_or o (facts_with kind.Plain []))) t
ended_known None t = refl
ended_known (Some f) t = refl

used_known : (o : Option Facts) (t : Taken) → used_with o t ≡ used_with (Some (unwrap_or o (facts_with kind.Plain []))) t
used_known None t = refl
used_known (Some f) t = refl

begun_known : (o : Option Facts) (v : ValueId) → begun_with o v ≡ begun_with (Some (unwrap_or o (facts_with kind.Plain []))) v
begun_known None v = refl
begun_known (Some f) v = refl

module _ (a b : ValueId → Option Facts) (same : (v : ValueId) → known_or a v ≡ known_or b v) where
  same_ended : (t : Taken) → ended a t ≡ ended b t
  same_ended t = ended_known (a t.value) t ∙ ap (λ f. ended_with (Some f) t) (same t.value) ∙ sym (ended_known (b t.value) t)

  same_used : (t : Taken) → used a t ≡ used b t
  same_used t = used_known (a t.value) t ∙ ap (λ f. used_with (Some f) t) (same t.value) ∙ sym (used_known (b t.value) t)

  same_begun : (v : ValueId) → begun a v ≡ begun b v
  same_begun v = begun_known (a v) v ∙ ap (λ f. begun_with (Some f) v) (same v) ∙ sym (begun_known (b v) v)

  pub same_marks : (f : Function) (item : Item) → marks_of a f item ≡ marks_of b f item
  same_marks f item =
      ap₂ (λ x y. x ++ y)
      (ap₂ (λ x y. x ++ y) (flat_map_same (ended a) (ended b) same_ended (item_taken f item)) (flat_map_same (used a) (used b) same_used (item_taken f item)))
      (flat_map_same (begun a) (begun b) same_begun (item_defined f item))
