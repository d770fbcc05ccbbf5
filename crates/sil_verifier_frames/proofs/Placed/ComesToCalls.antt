-- A typed frame that has come to a call of which these places are lent: where its operations are.
use Rattle.std.proofs.Common.{◌≡◌, ℕ, List, ◌∷◌, Some, sym, ap, subst}
use Rattle.holder_model_laws.specs.holder_model.Effects.{effect_of}
use Rattle.holder_model_laws.specs.holder_model.Frames.{Entry, LentPlace}
use Rattle.holder_model_laws.specs.holder_model.declared.row_effect.RowEffect.TheVariants.{CallsFunction}
use Rattle.holder_model_laws.specs.memory_rules_accesses.Operations.{operations_of}
use Rattle.holder_model_laws.specs.memory_rules_accesses.declared.access.Operated.{Operated}
use Rattle.sil_verifier_trails.specs.RunTrails.inner.RunTrails.{GoesOn, IsRunTrail}
use Rattle.sil_verifier_trails.specs.AcceptedPlaces.inner.Located.{IsAddress}
use Rattle.sil_verifier_trails.specs.sil_verifier_values.inner.Known.{IsAcceptedBody}
use Rattle.sil_cfg_items.specs.Parts.{inst_at}
use Rattle.numbered_form.proofs.PointChecks.Among.{Among}
use Rattle.sil_ast.specs.declared.function.Function.{Function}
use Rattle.sil_ast.specs.declared.inst.Inst.{Inst}
use Rattle.sil_ast.specs.declared.module.Module.{Module}
use Rattle.sil_ast.specs.declared.place.PointId.{PointId}
use Rattle.sil_cfg.specs.declared.item.Item.{Item}
use Rattle.sil_cfg.specs.declared.item.Item.TheVariants as item
use Rattle.sil_types_declarations.specs.TypeDefinitions.Declarations.{declarations_of}
use Rattle.sil_verifier_frames.specs.inner.Typed.TypedStates.{EntriesAre}
use Rattle.sil_verifier_trails.specs.holder_model_typing.TypedMemory.inner.Worlds.{World}
use Rattle.sil_verifier_frames.specs.inner.Placed.PlaceStates.{AreLentBy}
use Rattle.sil_verifier_frames.specs.inner.Placed.TrailLaws.{TrailLaws}
use Rattle.sil_verifier_frames.proofs.Placed.Applying.{handed_by, no_slot_goes, rows_by_table, takes_it}
use Rattle.sil_verifier_frames.proofs.Placed.CallsAt.{call_at}
use Rattle.sil_verifier_frames.proofs.Placed.Lending.{IsCallAt, Lends, lends_one}
use Rattle.sil_verifier_frames.proofs.Placed.Locating.{IsOperandAt, operand_at}
use Rattle.sil_verifier_frames.proofs.Placed.PlainAddresses.{named_address}

module _ (laws : TrailLaws) (m : Module) (number : ℕ) (f : Function) (body : IsAcceptedBody m number f) (w : World) (entries : List Entry) (typed : EntriesAre m w f entries)
    (t : List Item) (point : PointId) (x : Inst) (lent : List LentPlace) where
  pub record StandsAtCall : Type 0 where
    pub inst : inst_at f point ≡ Some x
    pub calls : effect_of x.op ≡ CallsFunction
    pub trail : IsRunTrail f (item.Inst point ∷ t)
    pub goes : GoesOn t
    pub by : AreLentBy entries (operations_of x) lent

  module _ (s : StandsAtCall) where
    lends : (o : Operated) → Among o (operations_of x) → Lends entries lent o
    lends o c = lends_one entries (operations_of x) lent s.by o c

    address : (o : Operated) → Among o (operations_of x) → IsAddress (declarations_of m) f o.address
    address o c = named_address m w number f body entries typed o.address (lends o c).place.place (lends o c).names

    operand : (o : Operated) → Among o (operations_of x) → IsOperandAt laws m number f body t o.address
    operand o c =
        let h = handed_by x s.calls o c in
        let same : o.address ≡ h.taken.value = ap (λ y. y.address) h.is in
        subst (IsOperandAt laws m number f body t) (sym same)
        (operand_at laws m number f body t (item.Inst point) s.trail h.taken (takes_it x s.calls f point s.inst o c)
        (subst (IsAddress (declarations_of m) f) same (address o c)))

    pub comes_to_call : IsCallAt laws m number f body t point x
    comes_to_call = call_at laws m number f body t point x (record {
      inst = s.inst;
      trail = s.trail;
      goes = s.goes;
      kept = no_slot_goes x s.calls;
      handed = λ o c. let l = lends o c in (l.place.row, l.operation);
      tabled = rows_by_table x s.calls;
      operands = operand;
    })
