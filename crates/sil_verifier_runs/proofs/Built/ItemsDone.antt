-- A frame goes on behind an item that neither makes a new object nor writes a field of an unfinished one.
use Rattle.std.proofs.Common.{◌≡◌, ◌≤◌, ◌⊎◌, inl, inr, ℕ, zero, suc, List, ◌∷◌, length, refl, sym, ap, ◌∙◌, subst, arith, Bool, true, false, Option, Some, None, Ok}
use Rattle.std.specs.Prelude.{cond, slice_get, unwrap_or}
use Rattle.std.proofs.lemmas.Bool.{true≢false}
use Rattle.argument_conventions.specs.Arguments.{Told, arguments_of}
use Rattle.argument_conventions.specs.Rows.{address_row}
use Rattle.argument_conventions.specs.declared.row.AddressRow.{AddressRow}
use Rattle.sil_verifier_frames.specs.sil_verifier_trails.AcceptedTrails.inner.Defined.{makes}
use Rattle.sil_verifier_frames.specs.holder_model.Data.{Datum, references_in}
use Rattle.sil_verifier_frames.specs.holder_model.Effects.{Change}
use Rattle.sil_verifier_frames.specs.holder_model.Frames.{Entry, Frame, Gone, entry_at, results_put}
use Rattle.sil_verifier_frames.specs.holder_model.ModuleShapes.{shapes_of}
use Rattle.sil_verifier_frames.specs.holder_model.States.{Runs, Task, dropping}
use Rattle.sil_verifier_frames.specs.memory_rules_accesses.Locations.{is_object}
use Rattle.sil_verifier_frames.specs.memory_rules_accesses.Operations.{access_kind_of}
use Rattle.sil_verifier_frames.specs.memory_rules_accesses.Sources.{argument_source_or, borrow_source, element_place, field_source, handed_source, is_trivial_member, loan_source}
use Rattle.sil_verifier_frames.specs.memory_rules_accesses.Sources.{member_place}
use Rattle.sil_verifier_frames.specs.memory_rules_accesses.Sources.{part_source, slot_source, source_at, source_by, sources_of, upcast_source}
use Rattle.sil_verifier_frames.specs.memory_rules_accesses.declared.columns.AccessKind.{AccessKind}
use Rattle.sil_verifier_frames.specs.memory_rules_accesses.declared.columns.AccessKind.TheVariants as access
use Rattle.sil_verifier_frames.specs.memory_rules_accesses.declared.source.Source.{Source}
use Rattle.sil_verifier_frames.specs.memory_rules_accesses.declared.source.Source.TheVariants as source
use Rattle.sil_verifier_frames.specs.memory_rules_parts.declared.part.Part.TheVariants.{Building}
use Rattle.sil_verifier_frames.specs.sil_verifier_trails.RunTrails.inner.RunTrails.{IsRunTrail}
use Rattle.sil_verifier_frames.specs.sil_verifier_trails.AcceptedMemory.inner.PartTrails.{is_on}
use Rattle.sil_verifier_frames.proofs.sil_verifier_trails.AcceptedPlaces.Fields.{has_among}
use Rattle.sil_verifier_frames.proofs.sil_verifier_trails.AcceptedPlaces.Made.{IsMadeBy, argument, made_so, result}
use Rattle.sil_verifier_frames.specs.sil_verifier_values.inner.Known.{IsAcceptedBody}
use Rattle.sil_verifier_frames.specs.sil_verifier_values.inner.Rows.{source_of_argument}
use Rattle.sil_verifier_frames.specs.holder_model_laws.HolderLaws.inner.Built.Building.{Progress}
use Rattle.sil_verifier_frames.specs.holder_model_laws.HolderLaws.inner.Built.FrameObjects.{Holds, MayName}
use Rattle.sil_verifier_frames.specs.holder_model_laws.HolderLaws.inner.Built.FrameObjects as frames
use Rattle.sil_verifier_frames.specs.holder_model_laws.HolderLaws.inner.Built.Laws.{Begins, MayBegin}
use Rattle.sil_verifier_frames.specs.holder_model_laws.HolderLaws.inner.Built.Laws as laws
use Rattle.sil_verifier_frames.proofs.holder_model_laws.HolderLaws.Built.Handing.{begin_whole}
use Rattle.sil_verifier_frames.specs.holder_model_laws.HolderLaws.inner.Held.Items.{LosesEntries, Stands, frame_behind}
use Rattle.sil_verifier_frames.specs.holder_model_laws.HolderLaws.inner.Held.Laws.{StaysBelow}
use Rattle.sil_verifier_frames.specs.holder_model_laws.HolderLaws.inner.Held.ObjectStates.{TasksBuild}
use Rattle.sil_verifier_frames.proofs.holder_model_laws.HolderLaws.Held.Items.{quiet_right}
use Rattle.sil_cfg_items.specs.Items.{item_defined}
use Rattle.sil_cfg_items.specs.Parts.{item_inst}
use Rattle.numbered_form.specs.Lists.{Each}
use Rattle.sil_verifier_frames.specs.ownership_kinds_chains.OwnershipChains.Facts.{has}
use Rattle.sil_verifier_frames.specs.ownership_kinds_chains.declared.ownership_chains.facts.Facts.{Facts}
use Rattle.numbered_form.proofs.PointChecks.Among.{contained_among}
use Rattle.holder_model_values.specs.RunValues.Memory.{Memory, no_object}
use Rattle.holder_model_values.specs.RunValues.Places.{Place}
use Rattle.sil_ast.specs.declared.function.Function.{Function}
use Rattle.sil_ast.specs.declared.inst.Inst.{Inst}
use Rattle.sil_ast.specs.declared.module.Module.{Module}
use Rattle.sil_ast.specs.declared.place.ObjectId.{ObjectId}
use Rattle.sil_ast.specs.declared.place.ValueId.{ValueId}
use Rattle.sil_ast.specs.declared.type_name.TypeName.{TypeName}
use Rattle.sil_cfg.specs.declared.item.Item.{Item}
use Rattle.sil_types_declarations.specs.TypeDefinitions.Declarations.{Declarations, declarations_of}
use Rattle.numbered_form.specs.ValueTables.FirstValue.{first_value}
use Rattle.sil_verifier_frames.specs.holder_model_laws.HolderLaws.inner.Whole.Laws.{KeepsWhole}
use Rattle.sil_verifier_frames.specs.holder_model_laws.HolderLaws.inner.Whole.Whole.{IsWholeMemory, NameWhole}
use Rattle.sil_verifier_frames.proofs.holder_model_laws.HolderLaws.Whole.Lists.{each_at, each_of}
use Rattle.sil_verifier_runs.specs.inner.Built.Laws.{FillsNone}
use Rattle.sil_verifier_runs.specs.inner.Built.Said.{has_new_field, said}
use Rattle.sil_verifier_runs.proofs.Built.Apart.{KeepsApart, made_apart}
use Rattle.sil_verifier_runs.proofs.Built.EntriesNamed.{Begun, put_named, put_other}
use Rattle.sil_verifier_runs.proofs.Built.Steps.{as_made_before, field_told, fields_left}

-- ---- what makes no object

abbrev pub makes_object : AccessKind → Bool
makes_object access.AllocatesObject = true
makes_object _ = false

slot_none : (d : Declarations) (o : Option TypeName) → is_object (slot_source d o) ≡ false
slot_none d None = refl
slot_none d (Some t) = refl

borrow_none : (o : Option ValueId) → is_object (borrow_source o) ≡ false
borrow_none None = refl
borrow_none (Some v) = refl

upcast_none : (o : Option ValueId) → is_object (upcast_source o) ≡ false
upcast_none None = refl
upcast_none (Some v) = refl

loan_none : (o : Option ValueId) → is_object (loan_source o) ≡ false
loan_none None = refl
loan_none (Some v) = refl

field_none : (o : Option ValueId) (k : Option ℕ) (trivial : Bool) → is_object (field_source o k trivial) ≡ false
field_none None k trivial = refl
field_none (Some v) None trivial = refl
field_none (Some v) (Some k) trivial = refl

part_none : (o : Option ValueId) (k : Option ℕ) → is_object (part_source o k) ≡ false
part_none None k = refl
part_none (Some v) None = refl
part_none (Some v) (Some k) = refl

kind_none : (k : AccessKind) → makes_object k ≡ false → (d : Declarations) (x : Inst) → is_object (source_by k d x) ≡ false
kind_none access.NoAccess e d x = refl
kind_none access.AllocatesSlot e d x = slot_none d x.ty
kind_none access.AllocatesObject e d x = absurd (true≢false e)
kind_none access.DeallocatesSlot e d x = refl
kind_none access.LendsValue e d x = borrow_none (first_value x)
kind_none access.Upcasts e d x = upcast_none (first_value x)
kind_none access.LendsLocation e d x = loan_none (first_value x)
kind_none access.NamesField e d x = field_none (first_value x) (member_place d x.member) (is_trivial_member d x.member)
kind_none access.NamesMember e d x = part_none (first_value x) (member_place d x.member)
kind_none access.NamesElement e d x = part_none (first_value x) (element_place x.number)
kind_none access.Loads e d x = refl
kind_none access.Stores e d x = refl
kind_none access.Destroys e d x = refl
kind_none access.Passes e d x = refl

handed_none : (trivial : Bool) (row : Option AddressRow) → is_object (handed_source trivial row) ≡ false
handed_none trivial None = refl
handed_none trivial (Some row) = refl

told_none : (d : Declarations) (o : Option Told) → is_object (argument_source_or d o) ≡ false
told_none d None = refl
told_none d (Some t) = handed_none _ (address_row t.convention)

argument_none : (d : Declarations) (f : Function) (b k : ℕ) → is_object (source_of_argument d f b k) ≡ false
argument_none d f zero k = told_none d (slice_get (arguments_of f.signature) k)
argument_none d f (suc b) k = refl

-- ---- memory that changes on the stack alone

pub stack_stays : (m : Module) (memory later : Memory) (tasks : List (Task Frame)) → KeepsWhole memory later → later.objects ≡ memory.objects
    → StaysBelow m (said m) memory later tasks
stack_stays m memory later tasks keeps same = record {
  whole = keeps.1;
  more = subst (λ os. length memory.objects ≤ length os) (sym same) (omega arith);
  classes = λ o made. ap (λ os. (unwrap_or (slice_get os o.0) no_object).class) same;
  building = λ o some. ap (λ os. unwrap_or (slice_get os o.0) no_object) same;
}

-- ---- an item that a frame does

module _ (m : Module) (memory : Memory) (rest : List (Task Frame)) (frame : Frame) (f : Function) (i : Item) (left : List Entry) where
  abbrev d : Declarations
  d = declarations_of m

  abbrev pub Sources : List Source
  Sources = sources_of d f

  abbrev pub was : Progress
  was = said m f frame.trail

  -- the frame is one of an accepted function, the item comes next, and what ended is gone
  pub record Doing : Type 0 where
    pub body : IsAcceptedBody m frame.function.0 f
    pub trail : IsRunTrail f (i ∷ frame.trail)
    pub stands : Stands m (said m) memory rest frame f
    pub loses : LosesEntries Sources was frame.entries left

  -- the item's instruction, where it has one, makes no object
  abbrev pub MakesNone : Type 0
  MakesNone = (x : Inst) → item_inst f i ≡ Some x → makes_object (access_kind_of x.op) ≡ false

  -- no field is written now
  abbrev pub WritesNone : Type 0
  WritesNone = (object : ValueId) (k : ℕ) → FillsNone d f i object k ⊎ (was.unwritten object k ≡ Some false)

  -- what a change may be
  pub record IsQuietly (c : Change) : Type 0 where
    pub whole : IsWholeMemory c.memory
    pub stays : StaysBelow m (said m) memory c.memory (Runs frame ∷ rest)
    pub dropped : NameWhole c.memory c.dropped
    pub may : (v : ValueId) (x : Datum) → makes f v i ≡ true → Begun (item_defined f i) c.results v x
        → MayBegin (shapes_of m) Sources was c.memory left v x

  module _ (doing : Doing) where
    unmade : MakesNone → (object : ValueId) (fields : ℕ) → source_at Sources object ≡ source.Object fields → makes f object i ≡ false
    unmade none object fields is = at (makes f object i) refl
      where
        by : IsMadeBy d f i object → ⊥
        by (result x so row) = true≢false (sym (ap is_object is) ∙ ap is_object row ∙ kind_none (access_kind_of x.op) (none x so) d x)
        by (argument b k row) = true≢false (sym (ap is_object is) ∙ ap is_object row ∙ argument_none d f b k)

        at : (b : Bool) → makes f object i ≡ b → b ≡ false
        at false e = refl
        at true e =
            absurd (by (made_so m frame.function.0 f doing.body i object (contained_among object (item_defined f i) (has_among (item_defined f i) object e))))

    unwritten : MakesNone → WritesNone → (w : ValueId) (k : ℕ) → (said m f (i ∷ frame.trail)).unwritten w k ≡ was.unwritten w k
    unwritten none writes w k = at (has_new_field (source_at Sources w) k) refl
      where
        nowhere : (t : List Item) → has_new_field (source_at Sources w) k ≡ false → (said m f t).unwritten w k ≡ None
        nowhere t e = ap (λ b. cond b (is_on d f (Building w k) t) None) e

        at : (b : Bool) → has_new_field (source_at Sources w) k ≡ b → (said m f (i ∷ frame.trail)).unwritten w k ≡ was.unwritten w k
        at true e =
            let x = field_told (source_at Sources w) k e in
            fields_left m frame.function.0 f doing.body frame.trail i doing.trail w k (unmade none w x.0 x.1) (writes w k)
        at false e = nowhere (i ∷ frame.trail) e ∙ sym (nowhere frame.trail e)

    -- the frame behind it
    pub quietly_right : MakesNone → WritesNone → (c : Change) → IsQuietly c → (facts : ValueId → Option Facts) (behind : List Entry) (slots : List Place)
        → results_put facts (item_defined f i) c.results left ≡ Ok behind
        → IsWholeMemory c.memory × TasksBuild m (said m) c.memory (dropping c.dropped (Runs (frame_behind frame i behind slots) ∷ rest))
    quietly_right none writes c quiet facts behind slots put = (
      quiet.whole,
      quiet_right m (said m) memory c.memory rest frame f i left behind slots c.dropped doing.stands (record {
        loses = doing.loses;
        stays = quiet.stays;
        unwritten = unwritten none writes;
        begins = begins;
        objects = λ object fields is. put_other facts (item_defined f i) c.results left behind put object (unmade none object fields is);
      }) quiet.dropped,
    )
      where
        begins : (v : ValueId) → Begins (shapes_of m) Sources was (said m f (i ∷ frame.trail)) c.memory left behind v
        begins v = at (has (item_defined f i) v.0) refl
          where
            at : (b : Bool) → has (item_defined f i) v.0 ≡ b → Begins (shapes_of m) Sources was (said m f (i ∷ frame.trail)) c.memory left behind v
            at false e =
                laws.stays (put_other facts (item_defined f i) c.results left behind put v e)
                (λ w now. (as_made_before f frame.trail i w v e now).1)
            at true e = laws.begins (λ x names. quiet.may v x e (put_named facts (item_defined f i) c.results left behind put v e x names))

    -- what names whole objects alone may begin, where the row keeps its results apart
    pub whole_may : (later : Memory) → KeepsApart f i → (v : ValueId) (x : Datum) → makes f v i ≡ true → NameWhole later (references_in x)
        → MayBegin (shapes_of m) Sources was later left v x
    whole_may later apart v x made whole =
        begin_whole (shapes_of m) Sources was later left v x whole (made_apart m frame.function.0 f doing.body i v made apart)

    -- a change on the stack, whose results name whole objects alone
    pub apart_quietly : KeepsApart f i → (c : Change) → KeepsWhole memory c.memory → StaysBelow m (said m) memory c.memory (Runs frame ∷ rest)
        → NameWhole c.memory c.dropped → Each (λ x. NameWhole c.memory (references_in x)) c.results → IsQuietly c
    apart_quietly apart c keeps stays dropped results = record {
      whole = keeps.0;
      stays = stays;
      dropped = dropped;
      may = λ v x made begun. whole_may c.memory apart v x made (each_at (λ y. NameWhole c.memory (references_in y)) c.results begun.place x results begun.datum);
    }

    -- what an operand's datum may begin, a result may begin behind the ends
    pub may_behind : (later : Memory) (v : ValueId) (x : Datum) → MayBegin (shapes_of m) Sources was later frame.entries v x
        → MayBegin (shapes_of m) Sources was later left v x
    may_behind later v x may = record {
      named = each_of (MayName (shapes_of m) Sources was later frame.entries v) (MayName (shapes_of m) Sources was later left v) named (references_in x) may.named;
      same = λ object differ about o holds. may.same object differ about o (held object o holds);
      placed = may.placed;
    }
      where
        named : (o : ObjectId) → MayName (shapes_of m) Sources was later frame.entries v o → MayName (shapes_of m) Sources was later left v o
        named o (frames.whole is) = frames.whole is
        named o (frames.unfinished object about un holds) = frames.unfinished object about un (doing.loses.kept object un ∙ holds)

        held : (object : ValueId) (o : ObjectId) → Holds left object o → Holds frame.entries object o
        held object o holds = by (doing.loses.gone object)
          where
            by : (entry_at left object ≡ entry_at frame.entries object) ⊎ (entry_at left object ≡ Gone) → Holds frame.entries object o
            by (inl same) = sym same ∙ holds
            by (inr gone) = let two = sym gone ∙ holds in cc
