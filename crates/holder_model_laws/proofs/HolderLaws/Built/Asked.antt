-- Each operation finds a field full or empty, as it asks.
use Rattle.std.proofs.Common.{◌≡◌, ◌+◌, ℕ, List, [], ◌∷◌, Bool, true, false, not, is_some, Option, Some, None, refl, sym, ap, ◌∙◌, subst}
use Rattle.std.proofs.lemmas.Bool.{false≢true, or_right}
use Rattle.std.proofs.lemmas.Option.{same_Some}
use Rattle.argument_conventions.specs.declared.row.Content.{Content}
use Rattle.argument_conventions.specs.declared.row.Content.TheVariants as content
use Rattle.holder_model.specs.Data.{AddressOf, home_references, references_in}
use Rattle.holder_model.specs.Frames.{Entry}
use Rattle.holder_model.specs.MemoryEffects.{asked_before, holds}
use Rattle.holder_model.specs.ModuleShapes.{ModuleShapes}
use Rattle.memory_rules_parts.specs.memory_rules_accesses.Locations.{object_built}
use Rattle.memory_rules_parts.specs.memory_rules_accesses.Rows.{field_has, has_by, is_part}
use Rattle.memory_rules_parts.specs.memory_rules_accesses.declared.access.Operation.{Operation}
use Rattle.memory_rules_parts.specs.memory_rules_accesses.declared.access.Operation.TheVariants.{FirstWrite, Read, Lend, Write, TrivialStore, Handed, Take}
use Rattle.memory_rules_parts.specs.memory_rules_accesses.declared.location.Location.{Location}
use Rattle.memory_rules_parts.specs.memory_rules_accesses.declared.source.Source.{Source}
use Rattle.holder_model_laws.specs.HolderLaws.inner.Cells.Cells.{IsCell, IsInside, IsPlace, cell_at}
use Rattle.holder_model_laws.proofs.HolderLaws.Cells.PlaceCells.{cell_number, empty_test, full_value, there_test}
use Rattle.memory_rules_parts.specs.Building.{builds}
use Rattle.holder_model.specs.holder_model_values.RunValues.Memory.{Memory, object_at}
use Rattle.holder_model.specs.holder_model_values.RunValues.Places.{Inside, Place, is_empty_at, is_there_at}
use Rattle.holder_model.specs.holder_model_values.RunValues.Trivial.{is_trivial}
use Rattle.sil_ast.specs.declared.place.ObjectId.{ObjectId}
use Rattle.sil_ast.specs.declared.place.ValueId.{ValueId}
use Rattle.holder_model.proofs.holder_model_values.ValueParts.Cells as shapes_of_cells
use Rattle.holder_model_laws.specs.HolderLaws.inner.Whole.Whole.{IsWhole, IsWholeMemory}
use Rattle.holder_model_laws.proofs.HolderLaws.Whole.Keeping.{fields_full}
use Rattle.holder_model_laws.specs.HolderLaws.inner.Built.Building.{IsAbout, IsFieldAddress, IsNewField, IsUnfinished, Progress}
use Rattle.holder_model_laws.specs.HolderLaws.inner.Built.FrameObjects.{FieldIs, Holds, HoldsObjects, IsInField, MayName, Names, place_of_field}
use Rattle.holder_model_laws.specs.HolderLaws.inner.Built.Laws.{AreFieldsAsked, AreFieldsOf, IsRightAt, WhoseField, asks_empty}
use Rattle.holder_model_laws.proofs.HolderLaws.Built.About.{address_about, builds_it}
use Rattle.holder_model_laws.proofs.HolderLaws.Built.Staying.{address_may}

-- a place that is full or empty holds what is asked so
pub holds_asked : (m : Memory) (p : Place) (c : Content) → IsPlace (not (asks_empty c)) m p → holds m c p ≡ true
holds_asked m p content.Empty h = or_right (is_trivial p.shape) (is_empty_at m p) (empty_test m p h)
holds_asked m p content.Full h = ap is_some (full_value m p h).1

some_built : (o : Option ValueId) → is_some o ≡ true → (object : ValueId) × (o ≡ Some object)
some_built None e = absurd (false≢true e)
some_built (Some object) e = (object, refl)

-- what asks a field to be empty is a first write, which only an object that is being built has
empty_asked : (part building : Bool) (o : Operation) → field_has part building o ≡ true → asked_before part o ≡ Some content.Empty → building ≡ true
empty_asked true building FirstWrite row e = absurd (false≢true row)
empty_asked false building FirstWrite row e = row
empty_asked part building Read row e = cc
empty_asked part building Lend row e = cc
empty_asked part building Write row e = cc
empty_asked true building TrivialStore row e = cc
empty_asked false building TrivialStore row e = cc
empty_asked part building (Handed r) row e = absurd (false≢true row)
empty_asked part building Take row e = cc

module _ (shapes : ModuleShapes) (sources : List Source) (said : Progress) (memory : Memory) (entries : List Entry)
    (h : HoldsObjects shapes sources said memory entries) (v : ValueId) (l : Location) (of : ValueId) (k : ℕ)
    (address : IsFieldAddress sources v l of k) (p : Place) (names : Names entries v (AddressOf p)) where
  -- where a field that the address is of is to be written, the address names the object that is held
  pub unwritten_named : (object : ValueId) → builds sources object of ≡ true → IsNewField sources object k → said.unwritten object k ≡ Some true
      → said.as_made object v ≡ true → (o : ObjectId) → p.home ≡ Inside o → Holds entries object o
  unwritten_named object built field unwritten since o at =
      let unfinished : IsUnfinished sources said object = record { field = k; of = field; unwritten = unwritten } in
      let held = h.held object unfinished in
      let one : references_in (AddressOf p) ≡ held.0 ∷ [] = h.same object v (IsAbout.address l of k address built) since (AddressOf p) names held.0 held.1 in
      let two : o ∷ [] ≡ held.0 ∷ [] = ap home_references (sym at) ∙ one in
      let same : held.0 ≡ o = cc in
      subst (Holds entries object) same held.1

  module _ (wm : IsWholeMemory memory) (inside : IsInside memory p) (op : Operation) (right : IsRightAt sources said v l of k op) where
    asked_at : (b : Bool) → p.is_part ≡ b → (c : Content) → asked_before p.is_part op ≡ Some c → asked_before b op ≡ Some c
    asked_at b e c = subst (λ part. asked_before part op ≡ Some c) e

    -- it is of a whole object
    of_whole : (o : ObjectId) → IsInField shapes o (object_at memory o) l k p → IsWhole memory o
        → (is_there_at memory p ≡ true) × ((c : Content) → asked_before p.is_part op ≡ Some c → holds memory c p ≡ true)
    of_whole o at is = (there_test memory p true full, by)
      where
        full : IsPlace true memory p
        full = fields_full memory wm o is p at.home inside

        first : (object : ValueId) → builds sources object of ≡ true → asked_before (is_part l) op ≡ Some content.Empty → ⊥
        first object built e =
            let field = right.field object built in
            let unwritten : said.unwritten object k ≡ Some true = right.found object built content.Empty e in
            let holds_it = unwritten_named object built field unwritten (right.as_made object built) o at.home in
            let all = h.built object o (record { field = k; of = field; unwritten = unwritten }) holds_it in
            let f = all.1.fields k at.shape at.there in
            let so : f.unwritten ≡ true = same_Some f.unwritten true (sym f.is ∙ unwritten) in
            let q : Place = place_of_field shapes o (object_at memory o) k at.shape in
            let cell = f.cells (q.first + 0) (cell_number q 0 (shapes_of_cells.has_cell at.shape)) in
            is.written (q.first + 0) (subst (λ b. IsCell (not b) (cell_at memory (Inside o) (q.first + 0))) so cell)

        by : (c : Content) → asked_before p.is_part op ≡ Some c → holds memory c p ≡ true
        by content.Full e = holds_asked memory p content.Full full
        by content.Empty e =
            let asked = asked_at (is_part l) at.part content.Empty e in
            let row : field_has (is_part l) (is_some (object_built sources of)) op ≡ true =
            subst (λ s. has_by sources s (is_part l) op ≡ true) address.is right.row in
            let object = some_built (object_built sources of) (empty_asked (is_part l) (is_some (object_built sources of)) op row asked) in
            absurd (first object.0 (builds_it sources object.0 of object.1) asked)

    -- it is of an object that is being built
    of_unfinished : (o : ObjectId) → IsInField shapes o (object_at memory o) l k p → (object : ValueId) → IsAbout sources object v
        → (unfinished : IsUnfinished sources said object) → Holds entries object o
        → (is_there_at memory p ≡ true) × ((c : Content) → asked_before p.is_part op ≡ Some c → holds memory c p ≡ true)
    of_unfinished o at object about unfinished holds_it = (there_test memory p (not f.unwritten) so, by)
      where
        f : FieldIs shapes sources said object o (object_at memory o) k at.shape
        f = (h.built object o unfinished holds_it).1.fields k at.shape at.there

        so : IsPlace (not f.unwritten) memory p
        so n has = subst (λ g. IsCell (not f.unwritten) (cell_at memory g n)) (sym at.home) (f.cells n (at.within n has))

        by : (c : Content) → asked_before p.is_part op ≡ Some c → holds memory c p ≡ true
        by c e =
            let built = address_about sources object v l of k unfinished.of.fields unfinished.of.is address about in
            let found = right.found object built c (asked_at (is_part l) at.part c e) in
            let same : f.unwritten ≡ asks_empty c = same_Some f.unwritten (asks_empty c) (sym f.is ∙ found) in
            holds_asked memory p c (subst (λ b. IsPlace (not b) memory p) same so)

    pub asked : (is_there_at memory p ≡ true) × ((c : Content) → asked_before p.is_part op ≡ Some c → holds memory c p ≡ true)
    asked = by_name (address_may shapes sources said memory entries h v p at.0 names at.1.home)
      where
        at : (o : ObjectId) × IsInField shapes o (object_at memory o) l k p
        at = h.placed v l of k address p names

        by_name : MayName shapes sources said memory entries v at.0
            → (is_there_at memory p ≡ true) × ((c : Content) → asked_before p.is_part op ≡ Some c → holds memory c p ≡ true)
        by_name (MayName.whole is) = of_whole at.0 at.1 is
        by_name (MayName.unfinished object about unfinished holds_it) = of_unfinished at.0 at.1 object about unfinished holds_it

pub fields_asked : AreFieldsAsked
fields_asked shapes sources said memory entries h wm v l of k address p names inside op right = asked shapes sources said memory entries h v l of k address p names wm inside op right

pub fields_of : AreFieldsOf
fields_of shapes sources said memory entries h v l of k address p names =
    let at = h.placed v l of k address p names in (
      at.0,
      at.1.home,
      by at.0 (address_may shapes sources said memory entries h v p at.0 names at.1.home),
      λ object built field unwritten since. named_so object built field unwritten since at.0 at.1.home,
    )
  where
    by : (o : ObjectId) → MayName shapes sources said memory entries v o → WhoseField sources said memory entries of o
    by o (MayName.whole is) = WhoseField.whole is
    by o (MayName.unfinished object about un holds) =
        WhoseField.unfinished object (address_about sources object v l of k un.of.fields un.of.is address about) un holds

    named_so : (object : ValueId) → builds sources object of ≡ true → IsNewField sources object k → said.unwritten object k ≡ Some true → said.as_made object v ≡ true
        → (o : ObjectId) → p.home ≡ Inside o → Holds entries object o
    named_so object built field unwritten since o at =
        unwritten_named shapes sources said memory entries h v l of k address p names object built field unwritten since o at
