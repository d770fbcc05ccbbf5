-- What is deallocated is a slot of the function's own: no argument.
use Rattle.std.proofs.Common.{◌≡◌, inl, ℕ, [], ◌∷◌, length, refl, sym, ap, ◌∙◌, subst, Bool, true, false, Option, Some, None}
use Rattle.std.specs.Prelude.{Contains, slice_get}
use Rattle.std.specs.List.{flat_map}
use Rattle.std.proofs.lemmas.Bool.{false≢true}
use Rattle.argument_conventions.specs.Arguments.{Told, arguments_of}
use Rattle.argument_conventions.specs.Rows.{address_row}
use Rattle.argument_conventions.specs.declared.row.AddressRow.{AddressRow}
use Rattle.instruction_table.specs.Forms.{roles_of}
use Rattle.instruction_table.specs.declared.op.Op.{Op}
use Rattle.instruction_table.specs.declared.op.Op.TheVariants as op
use Rattle.sil_cfg_items.specs.Items.{item_defined}
use Rattle.sil_cfg_items.specs.Parts.{inst_at}
use Rattle.sil_cfg_items.specs.Roles.{conventions_in, roles_for, taken_each}
use Rattle.numbered_form.proofs.PointChecks.Among.{contained_among}
use Rattle.sil_ast.specs.declared.function.Function.{Function}
use Rattle.sil_ast.specs.declared.inst.Inst.{Inst}
use Rattle.sil_ast.specs.declared.module.Module.{Module}
use Rattle.sil_ast.specs.declared.operands.Operand.{Operand}
use Rattle.sil_ast.specs.declared.place.PointId.{PointId}
use Rattle.sil_cfg.specs.declared.item.Item.TheVariants as item
use Rattle.sil_types_declarations.specs.TypeDefinitions.Declarations.{Declarations, declarations_of}
use Rattle.sil_verifier_runs.specs.sil_verifier_trails.AcceptedTrails.inner.Defined.{makes}
use Rattle.sil_verifier_runs.specs.sil_verifier_values.inner.Known.{IsAcceptedBody}
use Rattle.sil_verifier_runs.proofs.sil_verifier_values.Counted.{stands}
use Rattle.sil_verifier_runs.specs.holder_model.Effects.{effect_of}
use Rattle.sil_verifier_runs.specs.holder_model.declared.row_effect.RowEffect.TheVariants as row
use Rattle.memory_rules_accesses.specs.Operations.{access_kind_of, address_of, addresses_of, deallocates_by}
use Rattle.memory_rules_accesses.specs.Sources.{argument_source_or, handed_source, is_slot, is_slot_source, sources_of}
use Rattle.sil_verifier_runs.proofs.sil_verifier_trails.PlacedValues.ArgumentsTold.{entry_source}
use Rattle.sil_verifier_runs.proofs.sil_verifier_trails.AcceptedPlaces.Fields.{has_among}
use Rattle.sil_verifier_runs.proofs.sil_verifier_trails.AcceptedPlaces.ItemStacks.{accepted_in}
use Rattle.sil_verifier_runs.proofs.sil_verifier_trails.AcceptedPlaces.OperationsRight.{of_slots}
use Rattle.ownership_lowering_runs.specs.StoredRuns.inner.OwnSlots.{AreSlotsOwn}

removes_by : (o : Op) → effect_of o ≡ row.RemovesSlot → o ≡ op.DeallocStack
removes_by op.DeallocStack e = refl
removes_by _ e = absurd (cc)

-- an argument of the entry is no slot
no_slot : (d : Declarations) (o : Option Told) → is_slot_source (argument_source_or d o) ≡ false
no_slot d None = refl
no_slot d (Some a) = by _ (address_row a.convention)
  where
    by : (b : Bool) (r : Option AddressRow) → is_slot_source (handed_source b r) ≡ false
    by b None = refl
    by b (Some r) = refl

module _ (m : Module) (n : ℕ) (f : Function) (a : IsAcceptedBody m n f) (p : PointId) (i : Inst) (here : inst_at f p ≡ Some i) (o : Operand) (one : i.operands ≡ o ∷ [])
    (e : effect_of i.op ≡ row.RemovesSlot) where
  is : i.op ≡ op.DeallocStack
  is = removes_by i.op e

  addresses : addresses_of i ≡ o.value ∷ []
  addresses =
      ap (flat_map address_of)
      (ap (λ z. taken_each i.operands (roles_for (roles_of z) (conventions_in i) (length i.operands))) is
      ∙ ap (λ os. taken_each os (roles_for (roles_of op.DeallocStack) (conventions_in i) (length os))) one)

  slot : is_slot (sources_of (declarations_of m) f) o.value ≡ true
  slot =
      of_slots (declarations_of m) f (accepted_in m n f a) (item.Inst p) i here (ap (λ z. deallocates_by (access_kind_of z)) is) o.value
      (subst (λ vs. Contains vs o.value) (sym addresses) (contained_among o.value (o.value ∷ []) (inl refl)))

  own : makes f o.value item.Entry ≡ false
  own = by (makes f o.value item.Entry) refl
    where
      by : (b : Bool) → makes f o.value item.Entry ≡ b → b ≡ false
      by false h = refl
      by true h =
          let s = stands (item_defined f item.Entry) o.value
          (contained_among o.value (item_defined f item.Entry) (has_among (item_defined f item.Entry) o.value h)) in
          absurd (false≢true (sym (no_slot (declarations_of m) (slice_get (arguments_of f.signature) s.0))
          ∙ sym (ap is_slot_source (entry_source m n f a s.0 o.value s.1)) ∙ slot))

pub are_slots_own : AreSlotsOwn
are_slots_own m n f a p i here o one e = own m n f a p i here o one e
