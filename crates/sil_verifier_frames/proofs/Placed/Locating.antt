-- Where an operand's place is: at a root that is there, or in a field of an object.
use Rattle.std.proofs.Common.{◌≡◌, ◌⊎◌, inl, inr, ℕ, List, ◌∷◌, Bool, true, Contains, Some, refl, sym, ap, ◌∙◌}
use Rattle.std.proofs.lemmas.Option.{same_Some}
use Rattle.sil_verifier_trails.specs.AcceptedTrails.inner.Bases.{IsAsMade}
use Rattle.holder_model_laws.specs.memory_rules_accesses.Locations.{location_of}
use Rattle.holder_model_laws.specs.memory_rules_accesses.Sources.{is_slot, is_slot_source, source_at, sources_of}
use Rattle.holder_model_laws.specs.memory_rules_accesses.declared.location.Location.{Location}
use Rattle.holder_model_laws.specs.memory_rules_accesses.declared.source.Source.{Source}
use Rattle.holder_model_laws.specs.memory_rules_accesses.declared.source.Source.TheVariants as source
use Rattle.sil_verifier_trails.specs.RunTrails.inner.RunTrails.{IsRunTrail}
use Rattle.sil_verifier_trails.specs.AcceptedPlaces.inner.Located.{IsAddress, IsLocated, IsRoot}
use Rattle.sil_verifier_trails.specs.AcceptedPlaces.inner.Stacks.{slots_on}
use Rattle.sil_verifier_trails.specs.sil_verifier_values.inner.Known.{IsAcceptedBody}
use Rattle.sil_cfg_items.specs.Items.{item_taken}
use Rattle.sil_cfg_items.specs.declared.taken.Taken.{Taken}
use Rattle.holder_model_laws.specs.ownership_kinds_chains.OwnershipChains.Facts.{has}
use Rattle.sil_ast.specs.declared.function.Function.{Function}
use Rattle.sil_ast.specs.declared.module.Module.{Module}
use Rattle.sil_ast.specs.declared.place.ValueId.{ValueId}
use Rattle.sil_cfg.specs.declared.item.Item.{Item}
use Rattle.sil_types_declarations.specs.TypeDefinitions.Declarations.{declarations_of}
use Rattle.sil_verifier_frames.specs.inner.Placed.Roots.{IsThere, argument, slot}
use Rattle.sil_verifier_frames.specs.inner.Placed.TrailLaws.{TrailLaws}

module _ (laws : TrailLaws) (m : Module) (number : ℕ) (f : Function) (body : IsAcceptedBody m number f) where
  -- the field of an object
  pub record IsInObject (root : ValueId) : Type 0 where
    pub of : ValueId
    pub place : ℕ
    pub trivial : Bool
    pub source : source_at (sources_of (declarations_of m) f) root ≡ source.Field of place trivial

  -- an operand of the next item: its location, and its root
  pub record IsOperandAt (t : List Item) (v : ValueId) : Type 0 where
    pub location : Location
    pub is : location_of (sources_of (declarations_of m) f) v ≡ Some location
    pub made : IsAsMade f t location.root v
    pub root : IsThere (declarations_of m) f t location.root ⊎ IsInObject location.root

  pub operand_at : (t : List Item) (i : Item) → IsRunTrail f (i ∷ t) → (x : Taken) → Contains (item_taken f i) x → IsAddress (declarations_of m) f x.value
      → IsOperandAt t x.value
  operand_at t i h x among address = record {
    location = at.location;
    is = at.is;
    made = at.root;
    root = by (source_at (sources_of (declarations_of m) f) at.location.root) refl at.rooted;
  }
    where
      at : IsLocated (declarations_of m) f t x.value
      at = laws.located m number f body t i h x among address

      by : (s : Source) → source_at (sources_of (declarations_of m) f) at.location.root ≡ s → IsRoot s
          → IsThere (declarations_of m) f t at.location.root ⊎ IsInObject at.location.root
      by _ e (IsRoot.slot {trivial = b}) =
          let is : is_slot (sources_of (declarations_of m) f) at.location.root ≡ true = ap is_slot_source e in
          let on = laws.allocated m number f body t i h x among at.location at.is is in
          let there = laws.slots_allocated (declarations_of m) f (laws.accepted m number f body) at.location.root is t h.1 in
          inl (slot b e (same_Some (has (slots_on (declarations_of m) f t) at.location.root.0) true (sym there ∙ on)))
      by _ e (IsRoot.argument {row = r} {trivial = b}) = inl (argument r b e)
      by _ e (IsRoot.field {of = o} {k = k} {trivial = b}) = inr (record { of = o; place = k; trivial = b; source = e })
