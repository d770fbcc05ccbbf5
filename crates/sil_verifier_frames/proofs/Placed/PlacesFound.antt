-- A place that is found as the operation asks meets no fault; on the stack it is found so by what the frame holds.
use Rattle.std.proofs.Common.{◌≡◌, ℕ, List, [], ◌∷◌, true, cond, Contains, Option, Some, None, refl, sym, ap, ◌∙◌, subst}
use Rattle.std.proofs.lemmas.List.Elements.{Contains-push}
use Rattle.holder_model_laws.specs.holder_model.Effects.{Faults}
use Rattle.holder_model_laws.specs.holder_model.Faults.{NotLastSlot}
use Rattle.holder_model_laws.specs.holder_model.Frames.{Frame}
use Rattle.holder_model_laws.specs.holder_model.MemoryEffects.{asked_before, fault_of, holds, where_held}
use Rattle.holder_model_laws.specs.holder_model.ModuleShapes.{ModuleShapes}
use Rattle.holder_model_laws.specs.holder_model.States.{Task}
use Rattle.holder_model_laws.specs.memory_rules_accesses.Operations.{operated}
use Rattle.holder_model_laws.specs.memory_rules_accesses.declared.access.Operation.{Operation}
use Rattle.holder_model_laws.specs.memory_rules_accesses.declared.access.Operation.TheVariants.{Handed}
use Rattle.holder_model_laws.specs.memory_rules_accesses.declared.location.Location.{Location}
use Rattle.sil_verifier_trails.specs.RunTrails.inner.RunTrails.{GoesOn, IsRunTrail}
use Rattle.sil_verifier_trails.specs.sil_verifier_values.inner.Known.{IsAcceptedBody}
use Rattle.argument_conventions.specs.declared.row.AddressRow.{AddressRow}
use Rattle.argument_conventions.specs.declared.row.Content.{Content}
use Rattle.sil_cfg_items.specs.Parts.{inst_at}
use Rattle.holder_model_laws.proofs.HolderLaws.Cells.PlaceCells.{there_test}
use Rattle.holder_model_values.specs.RunValues.Memory.{Memory}
use Rattle.holder_model_values.specs.RunValues.Places.{Place}
use Rattle.holder_model_values.specs.RunValues.Shapes.{Shape}
use Rattle.sil_ast.specs.declared.function.Function.{Function}
use Rattle.sil_ast.specs.declared.inst.Inst.{Inst}
use Rattle.sil_ast.specs.declared.module.Module.{Module}
use Rattle.sil_ast.specs.declared.place.PointId.{PointId}
use Rattle.sil_ast.specs.declared.place.ValueId.{ValueId}
use Rattle.sil_cfg.specs.declared.item.Item.TheVariants as item
use Rattle.sil_types_declarations.specs.TypeDefinitions.Declarations.{Declarations, declarations_of}
use Rattle.sil_verifier_frames.specs.inner.Placed.FramePlaces.{HoldsPlaces, Names}
use Rattle.sil_verifier_frames.specs.inner.Placed.Items.{IsFoundSo}
use Rattle.sil_verifier_frames.specs.inner.Placed.Roots.{IsThere}
use Rattle.sil_verifier_frames.specs.inner.Placed.TrailLaws.{TrailLaws}
use Rattle.sil_verifier_frames.proofs.Placed.Asking.{IsAsked, holds_so}
use Rattle.sil_verifier_frames.proofs.Placed.AtPlaces.{StandsAt, as_full, asked_so, found}
use Rattle.sil_verifier_frames.proofs.Placed.Contents.{OperatesAt}
use Rattle.sil_verifier_frames.proofs.Placed.Locating.{IsOperandAt}
use Rattle.sil_verifier_frames.proofs.Placed.RowsHeld.{IsMet}

module _ (d : Declarations) (shapes : ModuleShapes) (values : List Shape) (m : Memory) (x : Inst) where
  pub met_where_found : (p : Place) (o : Operation) → IsFoundSo m p o → IsMet d shapes values m x p o
  met_where_found p o h e = at (asked_before p.is_part o) h.1
    where
      at : (a : Option Content) → ((c : Content) → a ≡ Some c → holds m c p ≡ true) → where_held d shapes values m x p a e ≡ e
      at None so = ap (λ b. cond b e (Faults NotLastSlot)) h.0
      at (Some c) so =
          ap (λ b. cond b (cond (holds m c p) e (Faults (fault_of c))) (Faults NotLastSlot)) h.0
          ∙ ap (λ b. cond b e (Faults (fault_of c))) (so c refl)

module _ (laws : TrailLaws) (m : Module) (number : ℕ) (f : Function) (body : IsAcceptedBody m number f) (frame next : Frame) (rest : List (Task Frame))
    (memory : Memory) (point : PointId) (x : Inst) (v : ValueId) (o : Operation) (l : Location) (p : Place)
    (s : StandsAt laws m number f body frame next rest memory point x v o l p) where
  pub found_on_stack : ((row : AddressRow) → o ≡ Handed row → ⊥) → IsFoundSo memory p o
  found_on_stack own =
      let at = found laws m number f body frame next rest memory point x v o l p s in
      let full = as_full laws m number f body frame next rest memory point x v o l p s in
      let asked = asked_so laws m number f body frame next rest memory point x v o l p s own in
      (there_test memory p at.on full, λ c is. holds_so memory p at.on full c (subst (λ a. IsAsked a at.on) is asked))

module _ (laws : TrailLaws) (m : Module) (number : ℕ) (f : Function) (body : IsAcceptedBody m number f) (memory : Memory) (frame : Frame) (rest : List (Task Frame))
    (point : PointId) (x : Inst) where
  -- the frame stands before the instruction, which does one thing at the operand's place
  pub record DoesThere (v : ValueId) (o : Operation) (p : Place) : Type 0 where
    pub holds : HoldsPlaces m memory f frame rest
    pub none_lent : frame.lent ≡ []
    pub goes : GoesOn frame.trail
    pub inst : inst_at f point ≡ Some x
    pub trail : IsRunTrail f (item.Inst point ∷ frame.trail)
    pub operand : IsOperandAt laws m number f body frame.trail v
    pub does : OperatesAt laws m number f body x v o
    pub names : Names frame.entries v p

  module _ (v : ValueId) (o : Operation) (p : Place) (s : DoesThere v o p) where
    stands : IsThere (declarations_of m) f frame.trail s.operand.location.root
        → StandsAt laws m number f body frame frame rest memory point x v o s.operand.location p
    stands there = record {
      holds = s.holds;
      none_lent = s.none_lent;
      goes = s.goes;
      inst = s.inst;
      trail = s.trail;
      does = s.does;
      location = s.operand.is;
      row = laws.rows (declarations_of m) f (laws.accepted m number f body) (item.Inst point) x s.inst (operated v o)
          (subst (λ os. Contains os (operated v o)) (sym s.does.operations) (Contains-push [] (operated v o))) s.operand.location s.operand.is;
      there = there;
      made = s.operand.made;
      names = s.names;
    }

    -- the place is found as the operation asks, where its root is there
    pub there_found : ((row : AddressRow) → o ≡ Handed row → ⊥) → IsThere (declarations_of m) f frame.trail s.operand.location.root → IsFoundSo memory p o
    there_found own there = found_on_stack laws m number f body frame frame rest memory point x v o s.operand.location p (stands there) own
