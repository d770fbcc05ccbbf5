-- A trail that has come to a call: what it hands over is at roots that are there, as no field of an object is handed over.
use Rattle.std.proofs.Common.{◌≡◌, ⊎_elim, ℕ, List, ◌∷◌, true, false, Some, sym, ap, ◌∙◌}
use Rattle.std.proofs.lemmas.Bool.{false≢true}
use Rattle.holder_model_laws.specs.memory_rules_accesses.Locations.{location_of}
use Rattle.holder_model_laws.specs.memory_rules_accesses.Operations.{deallocates, operations_of}
use Rattle.holder_model_laws.specs.memory_rules_accesses.Rows.{has_by, has_operation, is_part}
use Rattle.holder_model_laws.specs.memory_rules_accesses.Sources.{sources_of}
use Rattle.holder_model_laws.specs.memory_rules_accesses.declared.access.Operated.{Operated}
use Rattle.holder_model_laws.specs.memory_rules_accesses.declared.access.Operation.TheVariants.{Handed}
use Rattle.holder_model_laws.specs.memory_rules_accesses.declared.location.Location.{Location}
use Rattle.sil_verifier_trails.specs.RunTrails.inner.RunTrails.{GoesOn, IsRunTrail}
use Rattle.sil_verifier_trails.specs.sil_verifier_values.inner.Known.{IsAcceptedBody}
use Rattle.argument_conventions.specs.Rows.{row_of}
use Rattle.argument_conventions.specs.declared.convention.AddressConvention.{AddressConvention}
use Rattle.argument_conventions.specs.declared.row.AddressRow.{AddressRow}
use Rattle.sil_cfg_items.specs.Parts.{inst_at}
use Rattle.numbered_form.proofs.PointChecks.Among.{Among, contained_among}
use Rattle.sil_ast.specs.declared.function.Function.{Function}
use Rattle.sil_ast.specs.declared.inst.Inst.{Inst}
use Rattle.sil_ast.specs.declared.module.Module.{Module}
use Rattle.sil_ast.specs.declared.place.PointId.{PointId}
use Rattle.sil_cfg.specs.declared.item.Item.{Item}
use Rattle.sil_cfg.specs.declared.item.Item.TheVariants as item
use Rattle.sil_types_declarations.specs.TypeDefinitions.Declarations.{declarations_of}
use Rattle.sil_verifier_frames.specs.inner.Placed.Roots.{IsThere}
use Rattle.sil_verifier_frames.specs.inner.Placed.TrailLaws.{TrailLaws}
use Rattle.sil_verifier_frames.proofs.Placed.Lending.{IsCallAt, IsLocatedAt}
use Rattle.sil_verifier_frames.proofs.Placed.Locating.{IsInObject, IsOperandAt}

module _ (laws : TrailLaws) (m : Module) (number : ℕ) (f : Function) (body : IsAcceptedBody m number f) (t : List Item) (point : PointId) (x : Inst) where
  -- the trail has come to a call
  pub record ComesToCall : Type 0 where
    pub inst : inst_at f point ≡ Some x
    pub trail : IsRunTrail f (item.Inst point ∷ t)
    pub goes : GoesOn t
    pub kept : deallocates x ≡ false
    pub handed : (o : Operated) → Among o (operations_of x) → (row : AddressRow) × (o.operation ≡ Handed row)
    pub tabled : (o : Operated) → Among o (operations_of x) → (row : AddressRow) → o.operation ≡ Handed row → (c : AddressConvention) × (row ≡ row_of c)
    pub operands : (o : Operated) → Among o (operations_of x) → IsOperandAt laws m number f body t o.address

  module _ (s : ComesToCall) where
    row_there : (o : Operated) → Among o (operations_of x) → (l : Location) → location_of (sources_of (declarations_of m) f) o.address ≡ Some l
        → has_operation (sources_of (declarations_of m) f) l o.operation ≡ true
    row_there o c l is = laws.rows (declarations_of m) f (laws.accepted m number f body) (item.Inst point) x s.inst o (contained_among o (operations_of x) c) l is

    never_field : (o : Operated) (c : Among o (operations_of x)) → IsInObject laws m number f body (s.operands o c).location.root → ⊥
    never_field o c field =
        let at = s.operands o c in
        let row = s.handed o c in
        false≢true (sym (ap (λ y. has_by (sources_of (declarations_of m) f) y (is_part at.location) (Handed row.0)) field.source)
        ∙ ap (has_operation (sources_of (declarations_of m) f) at.location) (sym row.1) ∙ row_there o c at.location at.is)

    located : (o : Operated) → Among o (operations_of x) → IsLocatedAt laws m number f body t point x o
    located o c = record {
      location = (s.operands o c).location;
      is = (s.operands o c).is;
      there = ⊎_elim
          (λ (there : IsThere (declarations_of m) f t (s.operands o c).location.root). there)
          (λ (field : IsInObject laws m number f body (s.operands o c).location.root). absurd (never_field o c field))
          (s.operands o c).root;
      made = (s.operands o c).made;
    }

    pub call_at : IsCallAt laws m number f body t point x
    call_at = record {
      inst = s.inst;
      trail = s.trail;
      goes = s.goes;
      kept = s.kept;
      located = located;
      rows = row_there;
      tabled = s.tabled;
      apart = λ before between rest a b one other parts ha hb own.
          laws.handed_apart (declarations_of m) f (laws.accepted m number f body) (item.Inst point) x s.inst before between rest a b one other parts ha hb own;
    }
