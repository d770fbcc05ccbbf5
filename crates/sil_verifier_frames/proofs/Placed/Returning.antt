-- A function returns: how the places that it was given are left, and what the frame that waited for it holds behind its call.
use Rattle.std.proofs.Common.{◌≡◌, ⊎_elim, ◌==◌, ℕ, List, [], ◌∷◌, Bool, true, false, Some, None, refl, sym, ap, ◌∙◌, subst, arith, eqb-true}
use Rattle.std.specs.Prelude.{cond, unwrap_or}
use Rattle.std.specs.List.{list_any}
use Rattle.std.proofs.lemmas.Bool.{and_parts, and_right, false≢true, or_left, true≢false}
use Rattle.std.proofs.lemmas.Option.{none-some, same_Some}
use Rattle.holder_model_laws.specs.holder_model.Calling.{are_as_after, argument_data, is_as_after, places_given}
use Rattle.holder_model_laws.specs.holder_model.Data.{AddressOf}
use Rattle.holder_model_laws.specs.holder_model.Frames.{Frame, LentPlace, datum_in, entry_at}
use Rattle.holder_model_laws.specs.holder_model.MemoryEffects.{holds}
use Rattle.holder_model_laws.specs.holder_model.States.{Task}
use Rattle.holder_model_laws.specs.memory_rules_accesses.Operations.{operations_of}
use Rattle.holder_model_laws.specs.memory_rules_accesses.Rows.{is_part}
use Rattle.holder_model_laws.specs.memory_rules_accesses.Sources.{handed_source, is_trivial_at, source_at, sources_of}
use Rattle.holder_model_laws.specs.memory_rules_accesses.declared.access.Operated.{Operated}
use Rattle.holder_model_laws.specs.memory_rules_accesses.declared.access.Operation.TheVariants.{Handed}
use Rattle.holder_model_laws.specs.memory_rules_accesses.declared.location.Location.{Location}
use Rattle.holder_model_laws.specs.memory_rules_accesses.declared.source.Source.TheVariants as source
use Rattle.holder_model_laws.specs.memory_rules_parts.Contents.{handed_mark, left_mark, same_cell}
use Rattle.holder_model_laws.specs.memory_rules_parts.Parts.{whole_cell}
use Rattle.holder_model_laws.specs.memory_rules_parts.Switches.{is_same}
use Rattle.holder_model_laws.specs.memory_rules_parts.declared.part.Part.TheVariants.{Contents}
use Rattle.sil_verifier_trails.specs.AcceptedMemory.inner.PartTrails.{IsPartOf, is_on}
use Rattle.sil_verifier_trails.specs.RunTrails.inner.RunTrails.{GoesOn, IsRunTrail}
use Rattle.sil_verifier_trails.specs.RunTrails.inner.Switched.{finds}
use Rattle.sil_verifier_trails.specs.AcceptedPlaces.inner.Cells.{is_at_cell, mark_at, operates_on, part_by, touches}
use Rattle.holder_model_laws.specs.sil_types.Typing.Shapes.{is_trivial_object}
use Rattle.sil_verifier_trails.specs.sil_verifier_values.inner.Known.{IsAcceptedBody}
use Rattle.argument_conventions.specs.Arguments.{arguments_of}
use Rattle.argument_conventions.specs.Rows.{address_row, keeps_full, keeps_full_by, row_of}
use Rattle.argument_conventions.specs.declared.convention.AddressConvention.{AddressConvention}
use Rattle.argument_conventions.specs.declared.convention.AddressConvention.TheVariants as address
use Rattle.argument_conventions.specs.declared.convention.ArgumentConvention.{ArgumentConvention}
use Rattle.argument_conventions.specs.declared.convention.ArgumentConvention.TheVariants as convention
use Rattle.argument_conventions.specs.declared.row.AddressRow.{AddressRow}
use Rattle.argument_conventions.specs.declared.row.Content.{Content}
use Rattle.argument_conventions.specs.declared.row.Content.TheVariants as content
use Rattle.sil_cfg_items.specs.Items.{item_defined}
use Rattle.holder_model_laws.specs.HolderLaws.inner.Cells.Cells.{IsCell, IsPlace, cell_at, has_cell}
use Rattle.reach_engine_marks.specs.declared.path_patterns.mark.Mark.{Mark}
use Rattle.numbered_form.proofs.PointChecks.Among.{Among}
use Rattle.holder_model_values.specs.RunValues.Memory.{Memory}
use Rattle.holder_model_values.specs.RunValues.Places.{OnStack, Place, is_empty_at}
use Rattle.holder_model_values.specs.RunValues.Trivial.{is_trivial}
use Rattle.sil_ast.specs.declared.function.Function.{Function}
use Rattle.sil_ast.specs.declared.inst.Inst.{Inst}
use Rattle.sil_ast.specs.declared.module.Module.{Module}
use Rattle.sil_ast.specs.declared.place.PointId.{PointId}
use Rattle.sil_ast.specs.declared.place.ValueId.{ValueId}
use Rattle.sil_cfg.specs.Returns.{is_return}
use Rattle.sil_cfg.specs.declared.item.Item.{Item}
use Rattle.sil_cfg.specs.declared.item.Item.TheVariants as item
use Rattle.sil_types_declarations.specs.TypeDefinitions.Declarations.{declarations_of}
use Rattle.sil_verifier_frames.specs.inner.Placed.FramePlaces.{HoldsPlaces, Names, is_lent}
use Rattle.sil_verifier_frames.specs.inner.Placed.PlaceStates.{AreLentBy}
use Rattle.sil_verifier_frames.specs.inner.Placed.Roots.{IsThere, argument, full_by, is_full_on, is_shared}
use Rattle.sil_verifier_frames.specs.inner.Placed.TrailLaws.{TrailLaws}
use Rattle.sil_verifier_frames.proofs.Placed.Asking.{holds_so}
use Rattle.sil_verifier_frames.proofs.Placed.Calls.{among_any, cell_lent, lent_cell}
use Rattle.sil_verifier_frames.proofs.Placed.Contents.{FoundAt, on_stack, own_cell, stays_full, untouched_by}
use Rattle.sil_verifier_frames.proofs.Placed.Entering.{shared_full, told_of}
use Rattle.sil_verifier_frames.proofs.Placed.Given.{given_from, mapped_get}
use Rattle.sil_verifier_frames.proofs.Placed.GoingOn.{KeepsRoots, goes_on}
use Rattle.sil_verifier_frames.proofs.Placed.HandedOver.{each_all}
use Rattle.sil_verifier_frames.proofs.Placed.Lending.{IsCallAt, IsLentBy, Lends, found_full, found_there, is_alone, lends_one, lent_by_one, off_needed, part_full, root_on_stack}
use Rattle.sil_verifier_frames.proofs.Placed.Naming.{names_kept, names_once}
use Rattle.sil_verifier_frames.proofs.Placed.Reading.{IsWithin, operand_within}

-- whether the place of an argument is full at a `return`: what is trivial stays so
abbrev pub left_on : Bool → Content → Bool
left_on trivial content.Full = true
left_on trivial content.Empty = trivial

-- what is to be empty behind a call was full before it
pub full_before : (c : ArgumentConvention) (row : AddressRow) → address_row c ≡ Some row → row.after ≡ content.Empty → row.before ≡ content.Full
full_before convention.Plain row is e = absurd (none-some row is)
full_before convention.Owned row is e = absurd (none-some row is)
full_before convention.Guaranteed row is e = absurd (none-some row is)
full_before (convention.Address address.Inout) row is e = sym (ap (λ r. r.before) (same_Some _ row is))
full_before (convention.Address address.In) row is e = sym (ap (λ r. r.before) (same_Some _ row is))
full_before (convention.Address address.InGuaranteed) row is e = sym (ap (λ r. r.before) (same_Some _ row is))
full_before (convention.Address address.Out) row is e = absurd (not_both (ap (λ r. r.after) (same_Some _ row is) ∙ e))
  where
    not_both : content.Full ≡ content.Empty → ⊥
    not_both e = cc

-- ---- the callee

module _ (laws : TrailLaws) (m : Module) (number : ℕ) (f : Function) (body : IsAcceptedBody m number f) (memory : Memory) (frame : Frame) (rest : List (Task Frame))
    (i : Item) where
  pub record Returns : Type 0 where
    pub holds : HoldsPlaces m memory f frame rest
    pub none_lent : frame.lent ≡ []
    pub trail : IsRunTrail f (i ∷ frame.trail)
    pub goes : GoesOn frame.trail
    pub leaves : is_return f i ≡ true

  module _ (s : Returns) where
    pub full_at_return : (v : ValueId) (row : AddressRow) (trivial : Bool) → source_at (sources_of (declarations_of m) f) v ≡ source.Argument row trivial
        → is_full_on (declarations_of m) f v frame.trail ≡ Some (left_on trivial row.after)
    full_at_return v row trivial is = by row.after refl trivial refl
      where
        shown : is_full_on (declarations_of m) f v frame.trail
            ≡ full_by (declarations_of m) f frame.trail (cond row.shared None (Some (Contents (whole_cell v) trivial (Some row.after))))
        shown = ap (λ s. full_by (declarations_of m) f frame.trail (part_by (sources_of (declarations_of m) f) v s)) is

        not_field : (of : ValueId) (k : ℕ) (b : Bool) → source.Argument row trivial ≡ source.Field of k b → ⊥
        not_field of k b e = cc

        part_of : row.shared ≡ false → IsPartOf (declarations_of m) f (Contents (whole_cell v) trivial (Some row.after))
        part_of own = laws.followed m number f body v (Contents (whole_cell v) trivial (Some row.after))
            (ap (part_by (sources_of (declarations_of m) f) v) is ∙ ap (λ b. cond b None (Some (Contents (whole_cell v) trivial (Some row.after)))) own)
            (λ of k b e. not_field of k b (sym is ∙ e))

        -- where nobody shares it
        at_mark : (mark : Mark) → left_mark trivial (Some row.after) ≡ Some mark → (need : Bool) → ((on : Bool) → finds mark.needs on ≡ true → on ≡ need)
            → row.shared ≡ false → is_full_on (declarations_of m) f v frame.trail ≡ Some need
        at_mark mark left need so own =
            let found = laws.returned m number f body frame.trail i s.trail s.leaves (whole_cell v) trivial (Some row.after) mark (part_of own) left in
            shown ∙ ap (λ b. full_by (declarations_of m) f frame.trail (cond b None (Some (Contents (whole_cell v) trivial (Some row.after))))) own
            ∙ found.1 ∙ ap Some (so found.0 found.2)

        full_shared : row.shared ≡ true → is_full_on (declarations_of m) f v frame.trail ≡ Some true
        full_shared own = shown ∙ ap (λ b. full_by (declarations_of m) f frame.trail (cond b None (Some (Contents (whole_cell v) trivial (Some row.after))))) own

        by : (a : Content) → row.after ≡ a → (t : Bool) → trivial ≡ t → is_full_on (declarations_of m) f v frame.trail ≡ Some (left_on trivial row.after)
        by content.Full e t te = at row.shared refl ∙ ap (λ c. Some (left_on trivial c)) (sym e)
          where
            at : (b : Bool) → row.shared ≡ b → is_full_on (declarations_of m) f v frame.trail ≡ Some true
            at true own = full_shared own
            at false own = at_mark _ (ap (λ c. left_mark trivial (Some c)) e) true (λ on found. found) own
        by content.Empty e true te = at row.shared refl ∙ ap Some (sym te) ∙ ap (λ c. Some (left_on trivial c)) (sym e)
          where
            at : (b : Bool) → row.shared ≡ b → is_full_on (declarations_of m) f v frame.trail ≡ Some true
            at true own = full_shared own
            at false own =
                let told = told_of laws m number f body v row trivial is in
                shown ∙ ap (λ b. full_by (declarations_of m) f frame.trail (cond b None (Some (Contents (whole_cell v) trivial (Some row.after))))) own
                ∙ ap (λ b. is_on (declarations_of m) f (Contents (whole_cell v) b (Some row.after)) frame.trail) te
                ∙ laws.trivial_full m number f body frame.trail s.trail.1 s.goes v row (is ∙ ap (source.Argument row) te)
                (full_before told.told.convention row told.row_is e) own
        by content.Empty e false te = at row.shared refl ∙ ap Some (sym te) ∙ ap (λ c. Some (left_on trivial c)) (sym e)
          where
            at : (b : Bool) → row.shared ≡ b → is_full_on (declarations_of m) f v frame.trail ≡ Some false
            at true own =
                let told = told_of laws m number f body v row trivial is in
                absurd (not_both (sym (shared_full told.told.convention row told.row_is own).1 ∙ e))
              where
                not_both : content.Full ≡ content.Empty → ⊥
                not_both e = cc
            at false own = at_mark _ (ap (λ c. left_mark trivial (Some c)) e ∙ ap (λ b. left_mark b (Some content.Empty)) te) false off_needed own

    -- each place that the function was given is an argument's, and so it is left
    pub record IsLeftBy (l : LentPlace) : Type 0 where
      pub v : ValueId
      pub trivial : Bool
      pub source : source_at (sources_of (declarations_of m) f) v ≡ source.Argument l.row trivial
      pub names : Names frame.entries v l.place

    pub left_by : (l : LentPlace) → Among l (places_given f frame.entries) → IsLeftBy l
    left_by l c =
        let g = given_from (arguments_of f.signature) (argument_data frame.entries (item_defined f item.Entry)) l c in
        let v = mapped_get (λ w. datum_in (entry_at frame.entries w)) (item_defined f item.Entry) g.number (Some (AddressOf l.place)) g.holds in
        record {
          v = v.0;
          trivial = is_trivial_object (declarations_of m) g.by.ty;
          source = laws.from_told m number f body g.number v.0 g.by v.1 g.is ∙ ap (handed_source (is_trivial_object (declarations_of m) g.by.ty)) g.row_is;
          names = v.2;
        }

    pub left_cells : (l : LentPlace) (c : Among l (places_given f frame.entries)) (n : ℕ) → has_cell l.place n ≡ true
        → IsCell (left_on (left_by l c).trivial l.row.after) (cell_at memory OnStack n)
    left_cells l c n has =
        let x = left_by l c in
        s.holds.cells x.v (argument l.row x.trivial x.source) l.place x.names (left_on x.trivial l.row.after) (full_at_return x.v l.row x.trivial x.source)
        n has (ap (λ ls. is_lent ls n) s.none_lent)

    -- so all are as is asked
    pub all_as_after : ((v : ValueId) (row : AddressRow) → source_at (sources_of (declarations_of m) f) v ≡ source.Argument row true
        → (p : Place) → Names frame.entries v p → is_trivial p.shape ≡ true) → are_as_after memory (places_given f frame.entries) ≡ true
    all_as_after shaped = each_all (is_as_after memory) (places_given f frame.entries) one
      where
        one : (l : LentPlace) → Among l (places_given f frame.entries) → is_as_after memory l ≡ true
        one l c =
            let x = left_by l c in
            let named = s.holds.named x.v (argument l.row x.trivial x.source) in
            let home = ap (λ q. q.home) (names_once frame.entries x.v l.place named.place x.names named.names) ∙ named.home in
            at x.trivial x.source x.names (λ n has. subst (λ g. IsCell (left_on x.trivial l.row.after) (cell_at memory g n)) (sym home) (left_cells l c n has)) l.row.after refl
          where
            at : (t : Bool) → source_at (sources_of (declarations_of m) f) (left_by l c).v ≡ source.Argument l.row t → Names frame.entries (left_by l c).v l.place
                → IsPlace (left_on t l.row.after) memory l.place → (a : Content) → l.row.after ≡ a → holds memory a l.place ≡ true
            at t is names on content.Full e = holds_so memory l.place (left_on t l.row.after) on content.Full (ap (left_on t) e)
            at true is names on content.Empty e = or_left (is_trivial l.place.shape) (is_empty_at memory l.place) (shaped (left_by l c).v l.row is l.place names)
            at false is names on content.Empty e = holds_so memory l.place (left_on false l.row.after) on content.Empty (ap (left_on false) e)

-- ---- the caller

-- the trail of the caller turns a place as the callee leaves it
pub turned_as_left : (caller callee on : Bool) (c : AddressConvention) → ((row_of c).before ≡ content.Full → on ≡ true) → ((row_of c).after ≡ content.Empty → caller ≡ callee)
    → unwrap_or (handed_mark caller (row_of c).before (row_of c).after).turns on ≡ left_on callee (row_of c).after
turned_as_left caller callee on address.Inout full alike = full refl
turned_as_left true callee on address.In full alike = full refl ∙ alike refl
turned_as_left false callee on address.In full alike = alike refl
turned_as_left caller callee on address.InGuaranteed full alike = full refl
turned_as_left true callee on address.Out full alike = refl
turned_as_left false callee on address.Out full alike = refl

-- what is full before and behind stays as it is
pub full_stays : (trivial on : Bool) (before after : Content) → keeps_full_by before after ≡ true → unwrap_or (handed_mark trivial before after).turns on ≡ on
full_stays trivial on content.Full content.Full e = refl
full_stays trivial on content.Full content.Empty e = absurd (false≢true e)
full_stays trivial on content.Empty after e = absurd (false≢true e)

shared_keeps : (c : AddressConvention) → (row_of c).shared ≡ true → keeps_full (row_of c) ≡ true
shared_keeps address.Inout e = absurd (false≢true e)
shared_keeps address.In e = absurd (false≢true e)
shared_keeps address.InGuaranteed e = refl
shared_keeps address.Out e = absurd (false≢true e)

module _ (laws : TrailLaws) (m : Module) (number : ℕ) (f : Function) (body : IsAcceptedBody m number f) (point : PointId) (x : Inst)
    (memory : Memory) (frame next : Frame) (rest : List (Task Frame)) where
  -- a place that isn't shared is left as its row says
  pub record IsLeft (call : IsCallAt laws m number f body frame.trail point x) (l : LentPlace) : Type 0 where
    pub trivial : Bool
    pub cells : (n : ℕ) → has_cell l.place n ≡ true → IsCell (left_on trivial l.row.after) (cell_at memory OnStack n)
    pub alike : (o : Operated) (c : Among o (operations_of x)) → o.operation ≡ Handed l.row → Names frame.entries o.address l.place → l.row.after ≡ content.Empty
        → is_trivial_at (sources_of (declarations_of m) f) (call.located o c).location.root ≡ trivial

  -- the frame goes on behind its call
  pub record Resumes : Type 0 where
    pub call : IsCallAt laws m number f body frame.trail point x
    pub holds : HoldsPlaces m memory f frame rest
    pub by : AreLentBy frame.entries (operations_of x) frame.lent
    pub left : (l : LentPlace) → Among l frame.lent → l.row.shared ≡ false → IsLeft call l
    pub trail : next.trail ≡ item.Inst point ∷ frame.trail
    pub keeps : KeepsRoots m f frame next rest memory memory

  module _ (s : Resumes) where
    one_by : (l : LentPlace) → Among l frame.lent → IsLentBy frame.entries (operations_of x) l
    one_by = lent_by_one frame.entries (operations_of x) frame.lent s.by

    within_of : (o : Operated) (c : Among o (operations_of x)) (p : Place) → Names frame.entries o.address p
        → IsWithin m memory f frame rest o.address (s.call.located o c).location p
    within_of o c p names =
        let at = s.call.located o c in
        operand_within m memory f frame rest s.holds o.address at.location at.is at.there at.made p names

    module _ (v : ValueId) (there : IsThere (declarations_of m) f next.trail v) (p : Place) (names : Names next.entries v p) (on : Bool)
        (is : is_full_on (declarations_of m) f v next.trail ≡ Some on) (n : ℕ) (has : has_cell p n ≡ true) where
      was : IsThere (declarations_of m) f frame.trail v
      was = s.keeps.roots v there

      old : Names frame.entries v p
      old = names_kept frame.entries next.entries v (s.keeps.entries v there) p names

      behind : is_full_on (declarations_of m) f v (item.Inst point ∷ frame.trail) ≡ Some on
      behind = sym (ap (is_full_on (declarations_of m) f v) s.trail) ∙ is

      -- a lent place with the cell is within this root's
      own_root : (l : LentPlace) (c : Among l frame.lent) → l.row.shared ≡ false → has_cell l.place n ≡ true
          → (v.0 == (s.call.located (one_by l c).by (one_by l c).among).location.root.0) ≡ false → ⊥
      own_root l c own inside differ =
          let by = one_by l c in
          let at = s.call.located by.by by.among in
          let w = within_of by.by by.among l.place by.names in
          let alone = is_alone laws m number f body frame.trail point x s.call by.by by.among l.row by.operation own in
          true≢false (sym (w.within n inside)
          ∙ s.holds.apart v at.location.root was at.there differ (and_right (is_shared (declarations_of m) f v) _ alone) p w.whole old w.names n has)

      -- a cell that was lent is as the callee left it
      lent_left : (l : LentPlace) (c : Among l frame.lent) → l.row.shared ≡ false → has_cell l.place n ≡ true → IsCell on (cell_at memory OnStack n)
      lent_left l c own inside = at (v.0 == (s.call.located (one_by l c).by (one_by l c).among).location.root.0) refl
        where
          by : IsLentBy frame.entries (operations_of x) l
          by = one_by l c

          root : ValueId
          root = (s.call.located (one_by l c).by (one_by l c).among).location.root

          at : (b : Bool) → (v.0 == (s.call.located (one_by l c).by (one_by l c).among).location.root.0) ≡ b → IsCell on (cell_at memory OnStack n)
          at false differ = absurd (own_root l c own inside differ)
          at true same =
              let o = one_by l c in
              let found = found_there laws m number f body frame.trail point x s.call o.by o.among in
              let left = s.left l c own in
              let table = s.call.tabled o.by o.among l.row o.operation in
              let d = declarations_of m in
              let trivial = is_trivial_at (sources_of d f) (s.call.located o.by o.among).location.root in
              let left_is : found_left ≡ left_on left.trivial l.row.after =
              ap (λ p. unwrap_or (mark_at d f (s.call.located o.by o.among).location p).turns found.on) o.operation
              ∙ ap (λ r. unwrap_or (handed_mark trivial r.before r.after).turns found.on) table.1
              ∙ turned_as_left trivial left.trivial found.on table.0
              (λ e. found_full laws m number f body frame.trail point x s.call o.by o.among l.row o.operation (ap (λ r. r.before) table.1 ∙ e))
              (λ e. left.alike o.by o.among o.operation o.names (ap (λ r. r.after) table.1 ∙ e))
              ∙ ap (λ r. left_on left.trivial r.after) (sym table.1) in
              subst (λ b. IsCell b (cell_at memory OnStack n)) (sym left_is ∙ same_Some found_left on (sym found.left
              ∙ ap (λ w. is_full_on d f w (item.Inst point ∷ frame.trail)) (sym (ap (λ (k : ℕ). record { 0 = k }) (eqb-true v.0 _ same))) ∙ behind))
              (left.cells n inside)
            where
              found_left : Bool
              found_left = unwrap_or (mark_at (declarations_of m) f (s.call.located (one_by l c).by (one_by l c).among).location (one_by l c).by.operation).turns
                  (found_there laws m number f body frame.trail point x s.call (one_by l c).by (one_by l c).among).on

      -- one that wasn't lent is as it was
      kept_cell : is_lent frame.lent n ≡ false → is_full_on (declarations_of m) f v frame.trail ≡ Some on → IsCell on (cell_at memory OnStack n)
      kept_cell unlent same = s.holds.cells v was p old on same n has unlent

      -- what an operation finds at the root stays, where the cell isn't lent
      touched_by : (o : Operated) → Among o (operations_of x) → operates_on (sources_of (declarations_of m) f) (whole_cell v) o ≡ true → is_lent frame.lent n ≡ false
          → is_full_on (declarations_of m) f v frame.trail ≡ Some on
      touched_by o c on_cell unlent =
          ap (λ w. is_full_on (declarations_of m) f w frame.trail) (sym root_is) ∙ found.was
          ∙ ap Some (sym stays_on)
          ∙ sym found.left
          ∙ ap (λ w. is_full_on (declarations_of m) f w (item.Inst point ∷ frame.trail)) root_is
          ∙ behind
        where
          loc : Location
          loc = (s.call.located o c).location

          found : FoundAt laws m number f body frame.trail (item.Inst point) (s.call.located o c).location o.operation
          found = found_there laws m number f body frame.trail point x s.call o c

          l : Lends frame.entries frame.lent o
          l = lends_one frame.entries (operations_of x) frame.lent s.by o c

          root_is : loc.root ≡ v
          root_is = ap (λ (k : ℕ). record { 0 = k }) (eqb-true loc.root.0 v.0 (and_parts (is_same loc.root v) true
              (sym (ap (λ c. same_cell c (whole_cell v)) (own_cell laws m number f body loc.root (root_on_stack laws m number f body frame.trail point x s.call o c)))
              ∙ sym (ap (is_at_cell (sources_of (declarations_of m) f) (whole_cell v)) (s.call.located o c).is) ∙ on_cell)).0)

          row_keeps : keeps_full l.place.row ≡ true
          row_keeps = at (is_part loc) refl
            where
              w : IsWithin m memory f frame rest o.address (s.call.located o c).location l.place.place
              w = within_of o c l.place.place l.names

              in_place : l.place.place ≡ w.whole → has_cell l.place.place n ≡ true
              in_place all = subst (λ q. has_cell q n ≡ true)
                  (names_once frame.entries v p w.whole old (subst (λ r. Names frame.entries r w.whole) root_is w.names) ∙ sym all) has

              by_share : l.place.place ≡ w.whole → (b : Bool) → l.place.row.shared ≡ b → keeps_full l.place.row ≡ true
              by_share all true own =
                  let table = s.call.tabled o c l.place.row l.operation in
                  ap keeps_full table.1 ∙ shared_keeps table.0 (ap (λ r. r.shared) (sym table.1) ∙ own)
              by_share all false own = absurd (true≢false (sym (cell_lent frame.lent l.place l.among own n (in_place all)) ∙ unlent))

              at : (b : Bool) → is_part loc ≡ b → keeps_full l.place.row ≡ true
              at true e = part_full laws m number f body frame.trail point x s.call o c l.place.row l.operation e
              at false e = ⊎_elim
                  (λ (whole : (is_part loc ≡ false) × (l.place.place ≡ w.whole)). by_share whole.1 l.place.row.shared refl)
                  (λ (inner : (is_part loc ≡ true) × (l.place.place.is_part ≡ true)). absurd (true≢false (sym inner.0 ∙ e)))
                  w.how

          stays_on : unwrap_or (mark_at (declarations_of m) f loc o.operation).turns found.on ≡ found.on
          stays_on = ap (λ p. unwrap_or (mark_at (declarations_of m) f loc p).turns found.on) l.operation
              ∙ full_stays (is_trivial_at (sources_of (declarations_of m) f) loc.root) found.on l.place.row.before l.place.row.after row_keeps

      pub cell_behind : IsCell on (cell_at memory OnStack n)
      cell_behind = by (is_lent frame.lent n) refl
        where
          untouched : is_lent frame.lent n ≡ false → (b : Bool) → list_any (operates_on (sources_of (declarations_of m) f) (whole_cell v)) (operations_of x) ≡ b
              → is_full_on (declarations_of m) f v frame.trail ≡ Some on
          untouched unlent true e =
              let o = among_any (operates_on (sources_of (declarations_of m) f) (whole_cell v)) (operations_of x) e in
              touched_by o.0 o.1 o.2 unlent
          untouched unlent false e =
              sym (stays_full laws m number f body frame.trail (item.Inst point) s.call.trail v (on_stack laws m number f body frame.trail v was)
              (ap (touches (sources_of (declarations_of m) f) (whole_cell v)) s.call.inst ∙ untouched_by laws m number f body (whole_cell v) x e s.call.kept)
              (laws.made_once m number f body frame.trail (item.Inst point) s.call.trail s.call.goes v was))
              ∙ behind

          by : (b : Bool) → is_lent frame.lent n ≡ b → IsCell on (cell_at memory OnStack n)
          by true e = let l = lent_cell frame.lent n e in lent_left l.0 l.1 l.2 l.3
          by false e = kept_cell e (untouched e (list_any (operates_on (sources_of (declarations_of m) f) (whole_cell v)) (operations_of x)) refl)

    -- so it holds what it should
    pub resumes_holds : HoldsPlaces m memory f next rest
    resumes_holds = goes_on m f frame next rest memory memory s.holds (omega arith) s.keeps (λ v there p names on is n has unlent. cell_behind v there p names on is n has)
