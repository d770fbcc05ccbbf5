-- The frame that waited goes on: each place that it lent is left as its row says.
use Rattle.std.proofs.Common.{◌≡◌, ⊎_elim, ℕ, List, [], ◌∷◌, map, true, false, refl, sym, ap, ◌∙◌, subst}
use Rattle.std.proofs.lemmas.Bool.{false≢true}
use Rattle.holder_model_laws.specs.holder_model.Calling.{places_given}
use Rattle.holder_model_laws.specs.holder_model.Frames.{Frame, LentPlace, has_any}
use Rattle.holder_model_laws.specs.holder_model.States.{Task}
use Rattle.holder_model_laws.specs.memory_rules_accesses.Operations.{operations_of}
use Rattle.holder_model_laws.specs.memory_rules_accesses.Rows.{is_part}
use Rattle.holder_model_laws.specs.memory_rules_accesses.Sources.{is_trivial_at, is_trivial_source, sources_of}
use Rattle.holder_model_laws.specs.memory_rules_accesses.declared.access.Operated.{Operated}
use Rattle.holder_model_laws.specs.memory_rules_accesses.declared.access.Operation.TheVariants.{Handed}
use Rattle.sil_verifier_trails.specs.sil_verifier_values.inner.Known.{IsAcceptedBody}
use Rattle.argument_conventions.specs.Rows.{keeps_full_by}
use Rattle.argument_conventions.specs.declared.row.Content.{Content}
use Rattle.argument_conventions.specs.declared.row.Content.TheVariants as content
use Rattle.numbered_form.proofs.PointChecks.Among.{Among, among_map}
use Rattle.holder_model_values.specs.RunValues.Memory.{Memory}
use Rattle.holder_model_values.specs.RunValues.Places.{Place}
use Rattle.holder_model_values.specs.RunValues.Trivial.{is_trivial}
use Rattle.sil_ast.specs.declared.function.Function.{Function}
use Rattle.sil_ast.specs.declared.inst.Inst.{Inst}
use Rattle.sil_ast.specs.declared.module.Module.{Module}
use Rattle.sil_ast.specs.declared.place.PointId.{PointId}
use Rattle.sil_ast.specs.declared.place.ValueId.{ValueId}
use Rattle.sil_cfg.specs.declared.item.Item.{Item}
use Rattle.sil_types_declarations.specs.TypeDefinitions.Declarations.{declarations_of}
use Rattle.sil_verifier_frames.specs.inner.Placed.FramePlaces.{AreSlotsOf, HoldsPlaces, Names}
use Rattle.sil_verifier_frames.specs.inner.Placed.PlaceStates.{as_given}
use Rattle.sil_verifier_frames.specs.inner.Placed.Roots.{IsThere, argument}
use Rattle.sil_verifier_frames.specs.inner.Placed.TrailLaws.{TrailLaws}
use Rattle.sil_verifier_frames.proofs.Placed.Lending.{IsCallAt, part_full}
use Rattle.sil_verifier_frames.proofs.Placed.Reading.{operand_within}
use Rattle.sil_verifier_frames.proofs.Placed.Returning.{IsLeft, Returns, left_by, left_cells}

-- a place is of a trivial type just where its root is
abbrev pub AreShaped : Module → Function → Frame → Type 0
AreShaped m f frame = (v : ValueId) → IsThere (declarations_of m) f frame.trail v → (p : Place) → Names frame.entries v p
    → is_trivial p.shape ≡ is_trivial_at (sources_of (declarations_of m) f) v

-- a frame that returns has no slot
pub none_left : (laws : TrailLaws) (m : Module) (number : ℕ) (f : Function) (body : IsAcceptedBody m number f) (memory : Memory) (frame : Frame) (rest : List (Task Frame))
    (i : Item) → Returns laws m number f body memory frame rest i → has_any frame.slots ≡ false
none_left laws m number f body memory frame rest i s = at frame.slots (subst (λ vs. AreSlotsOf frame.entries vs frame.slots)
    (laws.none_left m number f body frame.trail i s.trail s.leaves) s.holds.slots)
  where
    at : (ps : List Place) → AreSlotsOf frame.entries [] ps → has_any ps ≡ false
    at [] h = refl
    at (p ∷ ps) h = absurd h

emptied_not_kept : (before after : Content) → after ≡ content.Empty → keeps_full_by before after ≡ true → ⊥
emptied_not_kept content.Full content.Full e h = absurd (not_both e)
  where
    not_both : content.Full ≡ content.Empty → ⊥
    not_both e = cc
emptied_not_kept content.Full content.Empty e h = false≢true h
emptied_not_kept content.Empty after e h = false≢true h

module _ (laws : TrailLaws) (m : Module) (number : ℕ) (g : Function) (callee : IsAcceptedBody m number g) (memory : Memory) (top : Frame) (below : List (Task Frame)) (i : Item)
    (s : Returns laws m number g callee memory top below i) (shaped_top : AreShaped m g top)
    (caller_number : ℕ) (f : Function) (body : IsAcceptedBody m caller_number f) (frame next : Frame) (rest : List (Task Frame)) (point : PointId) (x : Inst)
    (call : IsCallAt laws m caller_number f body frame.trail point x) (holds : HoldsPlaces m memory f frame rest) (shaped : AreShaped m f frame)
    (given : places_given g top.entries ≡ map as_given frame.lent) where
  given_back : (l : LentPlace) → Among l frame.lent → Among (as_given l) (places_given g top.entries)
  given_back l c = subst (Among (as_given l)) (sym given) (among_map as_given l frame.lent c)

  pub left_so : (l : LentPlace) → Among l frame.lent → l.row.shared ≡ false → IsLeft laws m caller_number f body point x memory frame next rest call l
  left_so l c own = record {
    trivial = (left_by laws m number g callee memory top below i s (as_given l) (given_back l c)).trivial;
    cells = λ n has. left_cells laws m number g callee memory top below i s (as_given l) (given_back l c) n has;
    alike = λ o d is names empty.
        let y = left_by laws m number g callee memory top below i s (as_given l) (given_back l c) in
        sym (whole_shape o d is names empty)
        ∙ shaped_top y.v (argument l.row y.trivial y.source) (as_given l).place y.names
        ∙ ap is_trivial_source y.source;
  }
    where
      whole_shape : (o : Operated) (d : Among o (operations_of x)) → o.operation ≡ Handed l.row → Names frame.entries o.address l.place → l.row.after ≡ content.Empty
          → is_trivial l.place.shape ≡ is_trivial_at (sources_of (declarations_of m) f) (call.located o d).location.root
      whole_shape o d is names empty =
          let at = call.located o d in
          let w = operand_within m memory f frame rest holds o.address at.location at.is at.there at.made l.place names in
          ⊎_elim
          (λ (whole : (is_part at.location ≡ false) × (l.place ≡ w.whole)).
          ap (λ p. is_trivial p.shape) whole.1 ∙ shaped at.location.root at.there w.whole w.names)
          (λ (inner : (is_part at.location ≡ true) × (l.place.is_part ≡ true)).
          absurd (emptied_not_kept l.row.before l.row.after empty
          (part_full laws m caller_number f body frame.trail point x call o d l.row is inner.0)))
          w.how
