-- A row that stores a value: on the stack, in a field of a whole object, or in a field of one that the frame is building.
use Rattle.std.proofs.Common.{◌≡◌, ◌⊎◌, inl, inr, ℕ, List, [], ◌∷◌, map, refl, sym, ap, ◌∙◌, subst, arith, Bool, true, false, ◌&&◌, Option, Some, None, Ok}
use Rattle.std.specs.Prelude.{◌==◌, Contains, is_some}
use Rattle.std.proofs.lemmas.Bool.{and_parts, eqb-true, false≢true, true≢false}
use Rattle.std.proofs.lemmas.Option.{none-some, same_Some}
use Rattle.argument_conventions.specs.declared.row.Content.TheVariants as content
use Rattle.sil_verifier_frames.specs.sil_verifier_trails.AcceptedTrails.inner.Defined.{IsDefinedOn}
use Rattle.sil_verifier_frames.specs.holder_model.Data.{AddressOf, ValueOf, references_in}
use Rattle.sil_verifier_frames.specs.holder_model.Effects as effects
use Rattle.sil_verifier_frames.specs.holder_model.Effects.{Change, effect_of, unchanged}
use Rattle.sil_verifier_frames.specs.holder_model.Frames.{Entry, Frame, Operands, any_dead, results_put}
use Rattle.sil_verifier_frames.specs.holder_model.MemoryEffects.{asked_before, effect, references_at}
use Rattle.sil_verifier_frames.specs.holder_model.ModuleShapes.{shapes_of}
use Rattle.sil_verifier_frames.specs.holder_model.States.{Runs, Task, dropping}
use Rattle.sil_verifier_frames.specs.holder_model.declared.row_effect.RowEffect.TheVariants as row
use Rattle.sil_verifier_frames.specs.memory_rules_accesses.Locations.{cell_by, cell_of, field_cell, location_of, object_built}
use Rattle.sil_verifier_frames.specs.memory_rules_accesses.Operations.{access_kind_of, operated, operation_by, operations_of, store_operation}
use Rattle.sil_verifier_frames.specs.memory_rules_accesses.Rows.{field_has, has_by, has_operation, is_part}
use Rattle.sil_verifier_frames.specs.memory_rules_accesses.Sources.{is_trivial_at, source_at, sources_of}
use Rattle.sil_verifier_frames.specs.memory_rules_accesses.declared.access.Operated.{Operated}
use Rattle.sil_verifier_frames.specs.memory_rules_accesses.declared.location.Location.{Location}
use Rattle.sil_verifier_frames.specs.memory_rules_accesses.declared.source.Source.{Source}
use Rattle.sil_verifier_frames.specs.memory_rules_accesses.declared.source.Source.TheVariants as source
use Rattle.sil_verifier_frames.specs.memory_rules_parts.Building.{builds, fills, is_object_of}
use Rattle.sil_verifier_frames.specs.memory_rules_parts.Contents.{counts_at_part, operation_mark, same_cell}
use Rattle.sil_verifier_frames.specs.memory_rules_parts.Switches.{is_turned_on, when}
use Rattle.sil_verifier_frames.specs.memory_rules_parts.declared.part.Part.TheVariants.{Building}
use Rattle.sil_verifier_frames.proofs.sil_verifier_trails.AcceptedMemory.PartsFollowed.{parts_followed}
use Rattle.sil_verifier_frames.proofs.sil_verifier_trails.AcceptedPlaces.ItemStacks.{accepted_in}
use Rattle.sil_verifier_frames.proofs.sil_verifier_trails.AcceptedPlaces.OperationsRight.{rows_right}
use Rattle.sil_verifier_frames.specs.sil_verifier_trails.AcceptedPlaces.inner.Cells.{IsDoneAt}
use Rattle.sil_verifier_frames.specs.sil_verifier_trails.AcceptedPlaces.inner.Located.{IsLocated}
use Rattle.sil_verifier_frames.specs.holder_model.RunTyping.Forms.{OfPlace, OfValue, form_of}
use Rattle.sil_verifier_frames.proofs.sil_verifier_values.Accepted.{in_ownership_form, well_typed}
use Rattle.sil_verifier_frames.specs.holder_model_laws.HolderLaws.inner.Built.Building.{IsFieldAddress, IsNewField, IsUnfinished, Progress, address}
use Rattle.sil_verifier_frames.specs.holder_model_laws.HolderLaws.inner.Built.FrameObjects.{Holds, Names}
use Rattle.sil_verifier_frames.specs.holder_model_laws.HolderLaws.inner.Built.Laws.{IsRightAt, WhoseField}
use Rattle.sil_verifier_frames.specs.holder_model_laws.HolderLaws.inner.Built.Laws as laws
use Rattle.sil_verifier_frames.proofs.holder_model_laws.HolderLaws.Built.About.{builds_it}
use Rattle.sil_verifier_frames.proofs.holder_model_laws.HolderLaws.Built.Asked.{fields_of}
use Rattle.sil_verifier_frames.specs.holder_model_laws.HolderLaws.inner.Held.Items.{frame_behind}
use Rattle.sil_verifier_frames.specs.holder_model_laws.HolderLaws.inner.Held.Laws.{StaysBelow}
use Rattle.sil_verifier_frames.specs.holder_model_laws.HolderLaws.inner.Held.ObjectStates.{BuildsNone, TasksBuild}
use Rattle.sil_verifier_frames.proofs.holder_model_laws.HolderLaws.Held.Below.{others_built}
use Rattle.sil_verifier_frames.proofs.holder_model_laws.HolderLaws.Held.Items.{first_right}
use Rattle.sil_cfg_items.specs.Items.{item_defined, item_taken}
use Rattle.sil_cfg_items.specs.Parts.{inst_at}
use Rattle.sil_cfg_items.specs.Roles.{taken_by}
use Rattle.sil_cfg_items.specs.declared.taken.Taken.{Taken}
use Rattle.sil_verifier_frames.specs.holder_model_laws.HolderLaws.inner.Cells.Cells.{IsInside}
use Rattle.sil_verifier_frames.proofs.holder_model_laws.HolderLaws.Cells.Writes.{filled_changes}
use Rattle.sil_verifier_frames.proofs.holder_model_typing.OwnedRunTyping.OwnedInsts.{owned_inst}
use Rattle.sil_verifier_frames.specs.ownership_kinds_chains.OwnershipChains.Facts.{value_of}
use Rattle.sil_verifier_frames.specs.ownership_kinds_chains.declared.ownership_chains.facts.Facts.{Facts}
use Rattle.numbered_form.proofs.PointChecks.Among.{Among, among_contained, contained_among}
use Rattle.holder_model_values.specs.RunValues.inner.Fits.{fits}
use Rattle.holder_model_values.specs.RunValues.Memory.{Memory}
use Rattle.holder_model_values.specs.RunValues.Places.{Inside, Place, filled}
use Rattle.holder_model_values.specs.RunValues.Shapes.{Shape}
use Rattle.holder_model_values.specs.RunValues.Values.{Value, references_of}
use Rattle.sil_ast.specs.declared.function.Function.{Function}
use Rattle.sil_ast.specs.declared.inst.Inst.{Inst}
use Rattle.sil_ast.specs.declared.module.Module.{Module}
use Rattle.sil_ast.specs.declared.place.ObjectId.{ObjectId}
use Rattle.sil_ast.specs.declared.place.PointId.{PointId}
use Rattle.sil_ast.specs.declared.place.ValueId.{ValueId}
use Rattle.sil_cfg.specs.declared.item.Item.TheVariants as item
use Rattle.sil_types_declarations.specs.TypeDefinitions.Declarations.{declarations_of}
use Rattle.sil_verifier_frames.proofs.Typed.Data.{read_place, read_value}
use Rattle.sil_verifier_frames.specs.holder_model_typing.TypedMemory.inner.Worlds.{names}
use Rattle.sil_verifier_frames.specs.holder_model_laws.HolderLaws.inner.Whole.Laws.{KeepsWhole}
use Rattle.sil_verifier_frames.specs.holder_model_laws.HolderLaws.inner.Whole.Whole.{IsWhole, IsWholeMemory, NameWhole}
use Rattle.sil_verifier_frames.proofs.holder_model_laws.HolderLaws.Whole.Keeping.{filled_whole, read_whole}
use Rattle.sil_verifier_frames.proofs.holder_model_laws.HolderLaws.Whole.Lists.{each_of}
use Rattle.sil_verifier_runs.specs.inner.Built.Laws.{FillsNone}
use Rattle.sil_verifier_runs.specs.inner.Built.Said.{said}
use Rattle.sil_verifier_runs.proofs.Built.About.{about_as_made}
use Rattle.sil_verifier_runs.proofs.Built.EntriesNamed.{AreNamed}
use Rattle.sil_verifier_runs.proofs.Built.Filling.{is_field, other_place}
use Rattle.sil_verifier_runs.proofs.Built.GivenValues.{takes_whole, whole_row}
use Rattle.sil_verifier_runs.proofs.Built.ItemsDone.{MakesNone, WritesNone, makes_object, quietly_right, stack_stays}
use Rattle.sil_verifier_runs.proofs.Built.OperandPlaces.{OthersOnStack, inside, located}
use Rattle.sil_verifier_runs.proofs.Built.Operands.{fields_right}
use Rattle.sil_verifier_runs.proofs.Built.PlaceRows.{inst_taken, is_store, store_alone, store_operand}
use Rattle.sil_verifier_runs.proofs.Built.Reading.{named_datum}
use Rattle.sil_verifier_runs.proofs.Built.RowChanges.{Stores, stored}
use Rattle.sil_verifier_runs.proofs.Built.RowsSay.{says_by}
use Rattle.sil_verifier_runs.proofs.Built.StillRows.{stack_objects}
use Rattle.sil_verifier_runs.proofs.Built.Steps.{built_told, fields_filled, new_field_told, there, told}
use Rattle.sil_verifier_runs.proofs.Built.Stored.{Fills, StoringRow, filled_other, leaves_full, none_put, number_or_not, part_was_full, same_object, same_or_not, store_fills}
use Rattle.sil_verifier_runs.proofs.Built.Stored.{storing_row}
use Rattle.sil_verifier_runs.proofs.Built.WholeOperands.{Ready, holds_objects, whole_value}

module _ (m : Module) (memory : Memory) (rest : List (Task Frame)) (frame : Frame) (f : Function) (p : PointId) (ops : Operands)
    (ready : Ready m memory rest frame f (item.Inst p) ops) (x : Inst) (is : inst_at f p ≡ Some x) (others : OthersOnStack m frame f p)
    (c : Change) (values : List Shape) (made : effect (declarations_of m) (shapes_of m) values memory x ops.given ≡ effects.Makes c) (e : effect_of x.op ≡ row.StoresValue)
    (facts : ValueId → Option Facts) (behind : List Entry) (slots : List Place) (put : results_put facts (item_defined f (item.Inst p)) c.results ops.left ≡ Ok behind) where
  abbrev sources : List Source
  sources = sources_of (declarations_of m) f

  abbrev was : Progress
  was = said m f frame.trail

  left : Stores (declarations_of m) (shapes_of m) values memory x ops.given c made
  left = stored (declarations_of m) (shapes_of m) values memory x ops.given c made e

  abbrev q : Place
  q = left.place

  abbrev later : Memory
  later = filled memory q left.new

  -- the change, and where it leads
  abbrev written : Change
  written = record (unchanged later) { dropped = references_at memory q }

  abbrev Leads : Type 0
  Leads = IsWholeMemory later × TasksBuild m (said m) later (dropping (references_at memory q) (Runs (frame_behind frame (item.Inst p) behind slots) ∷ rest))

  put_none : results_put facts (item_defined f (item.Inst p)) [] ops.left ≡ Ok behind
  put_none = ap (λ (k : Change). results_put facts (item_defined f (item.Inst p)) k.results ops.left) (sym left.is) ∙ put

  -- ---- its operands

  record Takes : Type 0 where
    value : Taken
    place : Taken
    two : taken_by x ≡ value ∷ place ∷ []
    value_names : Names frame.entries value.value (ValueOf left.new)
    place_names : Names frame.entries place.value (AddressOf q)
    living : any_dead memory (references_in (AddressOf q)) ≡ false
    names_left : Names ops.left place.value (AddressOf q)

  takes : Takes
  takes = at (taken_by x) refl (subst (λ ts. AreNamed memory frame.entries ops.left ts ops.given) (inst_taken f p x is) ready.named)
    where
      by : (ts : List Taken) → taken_by x ≡ ts → AreNamed memory frame.entries ops.left ts (ValueOf left.new ∷ AddressOf q ∷ []) → Takes
      by [] so h = absurd h
      by (u ∷ []) so h = absurd h.1
      by (u ∷ y ∷ z ∷ ts) so h = absurd h.1.1
      by (u ∷ y ∷ []) so h = record {
        value = u;
        place = y;
        two = so;
        value_names = h.0.0;
        place_names = h.1.0.0;
        living = h.1.0.1;
        names_left = h.1.0.2 (store_operand x u y (ap is_store e) so).0.address;
      }

      at : (ts : List Taken) → taken_by x ≡ ts → AreNamed memory frame.entries ops.left ts ops.given → Takes
      at ts so h = by ts so (subst (AreNamed memory frame.entries ops.left ts) left.given h)

  taken_are : item_taken f (item.Inst p) ≡ takes.value ∷ takes.place ∷ []
  taken_are = inst_taken f p x is ∙ takes.two

  value_among : Contains (item_taken f (item.Inst p)) takes.value
  value_among = subst (λ ts. Contains ts takes.value) (sym taken_are) (contained_among takes.value (takes.value ∷ takes.place ∷ []) (inl refl))

  place_among : Contains (item_taken f (item.Inst p)) takes.place
  place_among = subst (λ ts. Contains ts takes.place) (sym taken_are) (contained_among takes.place (takes.value ∷ takes.place ∷ []) (inr (inl refl)))

  there_inside : IsInside memory q
  there_inside = inside m memory rest frame f p ops ready takes.place.value q takes.place_names takes.living

  named_whole : NameWhole memory (references_of left.new)
  named_whole = whole_value m memory rest frame f (item.Inst p) ops ready x is (whole_row x.op (ap takes_whole e)) takes.value value_among left.new takes.value_names

  fit : fits q.shape left.new ≡ true
  fit =
      let inst = owned_inst m (well_typed m ready.doing.body.verified) frame.function.0 f ready.doing.body.body.there p x is (in_ownership_form m frame.function.0 f ready.doing.body) in
      let say = says_by m x row.StoresValue e _ _ inst.row in
      let forms : form_of (declarations_of m) f takes.value.value ∷ form_of (declarations_of m) f takes.place.value ∷ [] ≡ OfValue say.value ∷ OfPlace say.place ∷ [] =
      ap (map (form_of (declarations_of m) f)) (ap (map (λ (t : Taken). t.value)) (sym taken_are) ∙ inst.takes) ∙ say.are in
      let first : form_of (declarations_of m) f takes.value.value ≡ OfValue say.value = cc in
      let second : form_of (declarations_of m) f takes.place.value ≡ OfPlace say.place = cc in
      let v = read_value m ready.w (named_datum m ready.w f frame.entries ready.entries takes.value.value (ValueOf left.new) takes.value_names) say.value first in
      let r = read_place m ready.w (named_datum m ready.w f frame.entries ready.entries takes.place.value (AddressOf q) takes.place_names) say.place second in
      let same_value : v.0 ≡ left.new = value_same v.0 left.new v.1 in
      let same_place : r.0 ≡ q = place_same r.0 q r.1 in
      ap (λ (z : Place). fits z.shape left.new) (sym same_place) ∙ ap (λ s. fits s left.new) r.2 ∙ ap (fits say.place) (sym same_value)
      ∙ say.fit (names m ready.w) v.0 v.2
    where
      value_same : (a b : Value) → ValueOf b ≡ ValueOf a → a ≡ b
      value_same a b e = cc

      place_same : (a b : Place) → AddressOf b ≡ AddressOf a → a ≡ b
      place_same a b e = cc

  -- ---- what it does

  rows : StoringRow x.op
  rows = storing_row x.op (ap is_store e)

  fills_it : Fills left.operation
  fills_it = subst Fills (same_Some (store_operation x.qualifier) left.operation (sym (ap (λ k. operation_by k x.qualifier) rows.kind) ∙ left.done)) (store_fills x.qualifier)

  alone : operations_of x ≡ operated takes.place.value left.operation ∷ []
  alone = store_alone x takes.value takes.place left.operation (ap is_store e) takes.two left.done

  does : Contains (operations_of x) (operated takes.place.value left.operation)
  does = subst (λ os. Contains os (operated takes.place.value left.operation)) (sym alone)
      (contained_among (operated takes.place.value left.operation) (operated takes.place.value left.operation ∷ []) (inl refl))

  only : (o : Operated) → Contains (operations_of x) o → o ≡ operated takes.place.value left.operation
  only o c = by (among_contained o (operated takes.place.value left.operation ∷ []) (subst (λ os. Contains os o) alone c))
    where
      by : Among o (operated takes.place.value left.operation ∷ []) → o ≡ operated takes.place.value left.operation
      by (inl same) = same
      by (inr more) = absurd more

  at : IsLocated (declarations_of m) f frame.trail takes.place.value
  at = located m memory rest frame f p ops ready takes.place place_among q takes.place_names

  abbrev l : Location
  l = at.location

  makes_none : MakesNone m memory rest frame f (item.Inst p) ops.left
  makes_none y so = subst (λ (z : Inst). makes_object (access_kind_of z.op) ≡ false) (same_Some x y (sym is ∙ so)) rows.makes

  -- a field that isn't at the place isn't filled
  unfilled : (object : ValueId) (k : ℕ)
      → fills sources (record { subject = object; field = Some k }) left.operation (Some l) ≡ false → FillsNone (declarations_of m) f (item.Inst p) object k
  unfilled object k none y so o c =
      let same : o ≡ operated takes.place.value left.operation = only o (subst (λ (z : Inst). Contains (operations_of z) o) (same_Some y x (sym so ∙ is)) c) in
      ap (λ (z : Operated). fills sources (record { subject = object; field = Some k }) z.operation (location_of sources z.address)) same
      ∙ ap (fills sources (record { subject = object; field = Some k }) left.operation) at.is ∙ none

  -- ---- nothing that is being built is written

  dropped_whole : KeepsWhole memory later → NameWhole later (references_at memory q)
  dropped_whole keeps = each_of (IsWhole memory) (IsWhole later) keeps.1 (references_at memory q) ((read_whole memory ready.doing.stands.whole).1 q)

  keeps : KeepsWhole memory later
  keeps = filled_whole memory ready.doing.stands.whole q there_inside left.new fit named_whole

  quietly : WritesNone m memory rest frame f (item.Inst p) ops.left → StaysBelow m (said m) memory later (Runs frame ∷ rest) → Leads
  quietly writes stays =
      quietly_right m memory rest frame f (item.Inst p) ops.left ready.doing makes_none writes written (record {
        whole = keeps.0;
        stays = stays;
        dropped = dropped_whole keeps;
        may = λ v z made begun. absurd (none-some z begun.datum);
      }) facts behind slots put_none

  -- on the stack
  on_stack : is_field (source_at sources l.root) ≡ false → Leads
  on_stack off =
      quietly (λ object k. inl (unfilled object k (other_place sources object k l left.operation off)))
      (stack_stays m memory later (Runs frame ∷ rest) keeps (stack_objects memory q _ (others takes.place place_among l at.is off q takes.place_names)))

  -- in a whole object
  in_whole : (o : ObjectId) → q.home ≡ Inside o → IsWhole memory o → WritesNone m memory rest frame f (item.Inst p) ops.left → Leads
  in_whole o home whole writes = quietly writes (record {
    whole = keeps.1;
    more = let same = (filled_changes memory q left.new there_inside fit).objects in omega (arith, same);
    classes = λ other made. (filled_changes memory q left.new there_inside fit).classes other;
    building = λ other some. filled_other memory q left.new o other home (λ same. some (subst (BuildsNone m (said m) (Runs frame ∷ rest)) (same_object o other (sym same)) unbuilt));
  })
    where
      unbuilt : BuildsNone m (said m) (Runs frame ∷ rest) o
      unbuilt = (others_built m (said m) memory (Runs frame ∷ rest) o (inl whole)).0 (ready.doing.stands.builds, ready.doing.stands.below)

  -- ---- in a field

  module _ (of : ValueId) (k : ℕ) (t : Bool) (root : source_at sources l.root ≡ source.Field of k t) where
    field_at : IsFieldAddress sources takes.place.value l of k
    field_at = record { at = at.is; trivial = t; is = root }

    done : IsDoneAt (declarations_of m) f p (operated takes.place.value left.operation) l
    done = record { inst = x; is = is; among = does; at = at.is }

    right : IsRightAt sources was takes.place.value l of k left.operation
    right = fields_right m frame.function.0 f ready.doing.body frame.trail p ready.doing.trail (operated takes.place.value left.operation) l done of k field_at

    whose : (o : ObjectId) × (q.home ≡ Inside o) × WhoseField sources was memory frame.entries of o
        × ((object : ValueId) → builds sources object of ≡ true → IsNewField sources object k → was.unwritten object k ≡ Some true
        → was.as_made object takes.place.value ≡ true → Holds frame.entries object o)
    whose =
        fields_of (shapes_of m) sources was memory frame.entries (holds_objects m memory rest frame f (item.Inst p) ops ready) takes.place.value l of k field_at q takes.place_names

    cell_is : (b : Option ValueId) → object_built sources of ≡ b → cell_of sources l.root ≡ field_cell b l.root k
    cell_is b so = ap (cell_by sources l.root) root ∙ ap (λ o. field_cell o l.root k) so

    elsewhere : (w : ValueId) (j : ℕ) → same_cell (cell_of sources l.root) (record { subject = w; field = Some j }) ≡ false
        → FillsNone (declarations_of m) f (item.Inst p) w j
    elsewhere w j none =
        unfilled w j (ap (λ b. is_turned_on (when b (operation_mark (is_trivial_at sources l.root) (counts_at_part sources l left.operation) left.operation))) none)

    -- of no new object
    of_none : object_built sources of ≡ None → Leads
    of_none none = in_whole whose.0 whose.1 (is_whole whose.2) (λ w j. inl (elsewhere w j (ap (λ z. same_cell z (record { subject = w; field = Some j })) (cell_is None none) ∙ never _)))
      where
        never : (b : Bool) → (b && false) ≡ false
        never true = refl
        never false = refl

        is_whole : WhoseField sources was memory frame.entries of whose.0 → IsWhole memory whose.0
        is_whole (laws.whole whole) = whole
        is_whole (laws.unfinished object built un holds) = absurd (false≢true (sym (ap (is_object_of object) none) ∙ built))

    -- of a new object
    module _ (object : ValueId) (built_so : object_built sources of ≡ Some object) where
      built : builds sources object of ≡ true
      built = builds_it sources object of built_so

      field_new : IsNewField sources object k
      field_new = right.field object built

      cell_so : cell_of sources l.root ≡ record { subject = object; field = Some k }
      cell_so = cell_is (Some object) built_so

      on : (b : Bool) × (was.unwritten object k ≡ Some b)
      on =
          let new = new_field_told sources object k field_new in
          let b = parts_followed (declarations_of m) f (accepted_in m frame.function.0 f ready.doing.body) (Building object k)
          (there m frame.function.0 f ready.doing.body object k new) frame.trail ready.doing.trail.1 in
          (b.0, told m frame.function.0 f ready.doing.body object k frame.trail new ∙ b.1)

      defined : IsDefinedOn f frame.trail object
      defined =
          (about_as_made m frame.function.0 f ready.doing.body frame.trail (item.Inst p) ready.doing.trail takes.place place_among object
          (address l of k field_at built)).defined

      -- the field is written first, or again
      writes_field : (o : ObjectId) → q.home ≡ Inside o → IsUnfinished sources was object → Holds frame.entries object o
          → (is_part l ≡ false) ⊎ (was.unwritten object k ≡ Some false) → Leads
      writes_field o home un holds covers =
          subst (λ es. IsWholeMemory later × TasksBuild m (said m) later (dropping (references_at memory q) (Runs (frame_behind frame (item.Inst p) es slots) ∷ rest)))
          (none_put facts (item_defined f (item.Inst p)) ops.left behind put_none).1
          (first_right m (said m) memory rest frame f (item.Inst p) ops.left q left.new slots (references_at memory q) ready.doing.stands (record {
            loses = ready.doing.loses;
            object = object;
            field = k;
            writes = record {
              v = takes.place.value;
              l = l;
              of = of;
              address = field_at;
              names = takes.names_left;
              unfinished = un;
              holds = λ r other. ready.doing.loses.kept object un
                  ∙ subst (Holds frame.entries object) (same_home o r (sym home ∙ other)) holds;
              covers = covers;
            };
            now = fields_filled m frame.function.0 f ready.doing.body frame.trail p ready.doing.trail object k (record {
              inst = x;
              is = is;
              does = operated takes.place.value left.operation;
              alone = alone;
              none = (none_put facts (item_defined f (item.Inst p)) ops.left behind put_none).0;
              defined = defined;
              field = field_new;
              location = l;
              of = of;
              address = field_at;
              built = built;
              full = leaves_full (is_trivial_at sources l.root) (is_part l) left.operation fills_it;
            });
            inside = there_inside;
            fit = fit;
            named = named_whole;
          }) (dropped_whole keeps))
        where
          same_home : (o r : ObjectId) → Inside o ≡ Inside r → o ≡ r
          same_home o r e = cc

      -- a part is written where the field was written before
      covers_so : was.unwritten object k ≡ Some true → is_part l ≡ false
      covers_so unwritten = by (is_part l) refl
        where
          row_has : has_operation sources l left.operation ≡ true
          row_has = rows_right (declarations_of m) f (accepted_in m frame.function.0 f ready.doing.body) (item.Inst p) x is (operated takes.place.value left.operation) does l at.is

          by : (part : Bool) → is_part l ≡ part → is_part l ≡ false
          by false so = so
          by true so =
              let has : field_has true (is_some (object_built sources of)) left.operation ≡ true =
              ap (λ b. field_has b (is_some (object_built sources of)) left.operation) (sym so)
              ∙ ap (λ s. has_by sources s (is_part l) left.operation) (sym root) ∙ row_has in
              let asked = part_was_full left.operation fills_it (is_some (object_built sources of)) has in
              let full : was.unwritten object k ≡ Some false = right.found object built content.Full (ap (λ b. asked_before b left.operation) so ∙ asked) in
              absurd (true≢false (same_Some true false (sym unwritten ∙ full)))

      -- of no other field
      writes_others : was.unwritten object k ≡ Some false → WritesNone m memory rest frame f (item.Inst p) ops.left
      writes_others off w j = by (same_or_not w object) (number_or_not j k)
        where
          off_there : (b c : Bool) → (b && c) ≡ true → (b ≡ true) × (c ≡ true)
          off_there b c h = and_parts b c h

          apart : ((w ≡ object) × (j ≡ k) → ⊥) → (b : Bool) → same_cell (record { subject = object; field = Some k }) (record { subject = w; field = Some j }) ≡ b
              → b ≡ false
          apart differ false so = refl
          apart differ true so =
              let both = off_there (object.0 == w.0) (k == j) so in
              absurd (differ (sym (ap value_of (eqb-true object.0 w.0 both.0)), sym (eqb-true k j both.1)))

          not_it : ((w ≡ object) × (j ≡ k) → ⊥) → FillsNone (declarations_of m) f (item.Inst p) w j
          not_it differ =
              elsewhere w j (ap (λ z. same_cell z (record { subject = w; field = Some j })) cell_so
              ∙ apart differ (same_cell (record { subject = object; field = Some k }) (record { subject = w; field = Some j })) refl)

          by : (w ≡ object) ⊎ (w ≡ object → ⊥) → (j ≡ k) ⊎ (j ≡ k → ⊥)
              → FillsNone (declarations_of m) f (item.Inst p) w j ⊎ (was.unwritten w j ≡ Some false)
          by (inl same) (inl number) = inr (ap (λ v. was.unwritten v j) same ∙ ap (was.unwritten object) number ∙ off)
          by (inl same) (inr differ) = inl (not_it (λ both. differ both.1))
          by (inr differ) number = inl (not_it (λ both. differ both.0))

      of_new : Leads
      of_new = by on.0 on.1
        where
          again : was.unwritten object k ≡ Some false → WhoseField sources was memory frame.entries of whose.0 → Leads
          again off (laws.whole whole) = in_whole whose.0 whose.1 whole (writes_others off)
          again off (laws.unfinished other other_built un holds) =
              let same : object ≡ other = same_Some object other (sym built_so ∙ built_told other (object_built sources of) other_built) in
              writes_field whose.0 whose.1 (subst (IsUnfinished sources was) (sym same) un) (subst (λ v. Holds frame.entries v whose.0) (sym same) holds) (inr off)

          by : (b : Bool) → was.unwritten object k ≡ Some b → Leads
          by true so =
              writes_field whose.0 whose.1 (record { field = k; of = field_new; unwritten = so }) (whose.3 object built field_new so (right.as_made object built)) (inl (covers_so so))
          by false so = again so whose.2

    in_field : Leads
    in_field = by (object_built sources of) refl
      where
        by : (b : Option ValueId) → object_built sources of ≡ b → Leads
        by None so = of_none so
        by (Some object) so = of_new object so

  -- ---- wherever it is

  leads : Leads
  leads = by (source_at sources l.root) refl
    where
      by : (s : Source) → source_at sources l.root ≡ s → Leads
      by (source.Field of k t) so = in_field of k t so
      by (source.Slot t) so = on_stack (ap is_field so)
      by (source.Argument r t) so = on_stack (ap is_field so)
      by (source.Object fields) so = on_stack (ap is_field so)
      by (source.Borrow of) so = on_stack (ap is_field so)
      by (source.Upcast of) so = on_stack (ap is_field so)
      by (source.Loan of) so = on_stack (ap is_field so)
      by (source.Part of k) so = on_stack (ap is_field so)
      by source.Other so = on_stack (ap is_field so)

  pub stored_right : IsWholeMemory c.memory × TasksBuild m (said m) c.memory (dropping c.dropped (Runs (frame_behind frame (item.Inst p) behind slots) ∷ rest))
  stored_right =
      subst (λ (k : Change). IsWholeMemory k.memory × TasksBuild m (said m) k.memory (dropping k.dropped (Runs (frame_behind frame (item.Inst p) behind slots) ∷ rest)))
      (sym left.is) leads
