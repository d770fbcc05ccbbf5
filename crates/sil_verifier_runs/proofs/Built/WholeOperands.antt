-- Operands of an item whose row takes no unfinished object: as values they name whole objects alone.
use Rattle.std.proofs.Common.{◌≡◌, inl, inr, ℕ, List, [], ◌∷◌, length, refl, sym, ap, ◌∙◌, subst, true, Option, Some, None}
use Rattle.std.specs.Prelude.{Contains}
use Rattle.std.proofs.lemmas.Bool.{true≢false}
use Rattle.std.proofs.lemmas.Option.{none-some, same_Some}
use Rattle.sil_verifier_frames.specs.holder_model.Calling.{value_count}
use Rattle.sil_verifier_frames.specs.holder_model.Data.{AddressOf, Datum, FunctionOf, ValueOf, references_in, values_of, with_first}
use Rattle.sil_verifier_frames.specs.holder_model.Frames.{Frame, Operands}
use Rattle.sil_verifier_frames.specs.holder_model.ModuleShapes.{shapes_of}
use Rattle.sil_verifier_frames.specs.holder_model.States.{Task}
use Rattle.sil_verifier_frames.specs.memory_rules_accesses.Accesses.{allowance_of}
use Rattle.sil_verifier_frames.specs.memory_rules_accesses.Sources.{sources_of}
use Rattle.sil_verifier_frames.specs.memory_rules_parts.Building.{builds, takes_borrow, takes_object}
use Rattle.sil_verifier_frames.specs.memory_rules_accesses.declared.location.Location.{Location}
use Rattle.sil_verifier_frames.specs.sil_verifier_trails.RunTrails.inner.RunTrails.{IsTurnedTrail}
use Rattle.sil_verifier_frames.proofs.sil_verifier_trails.RunTrails.RunPaths.{are_trails}
use Rattle.sil_verifier_frames.proofs.sil_verifier_trails.RunTrails.TurnedTrails.{turned_older}
use Rattle.sil_verifier_frames.proofs.sil_verifier_trails.AcceptedPlaces.ItemStacks.{accepted_in}
use Rattle.sil_verifier_frames.specs.holder_model.RunTyping.Forms.{Form, OfValue, form_of}
use Rattle.sil_verifier_frames.specs.holder_model_laws.HolderLaws.inner.Built.Building.{IsAbout, IsFieldAddress, address, borrow, itself}
use Rattle.sil_verifier_frames.specs.holder_model_laws.HolderLaws.inner.Built.FrameObjects.{HoldsObjects, MayName, Names}
use Rattle.sil_verifier_frames.specs.holder_model_laws.HolderLaws.inner.Built.FrameObjects as frames
use Rattle.sil_verifier_frames.proofs.holder_model_laws.HolderLaws.Held.Items.{held}
use Rattle.sil_cfg_items.specs.Items.{item_taken}
use Rattle.sil_cfg_items.specs.Parts.{item_inst}
use Rattle.sil_cfg_items.specs.declared.taken.Taken.{Taken}
use Rattle.numbered_form.specs.Lists.{Each}
use Rattle.numbered_form.proofs.PointChecks.Among.{Among, contained_among}
use Rattle.holder_model_values.specs.RunValues.Memory.{Memory}
use Rattle.holder_model_values.specs.RunValues.Shapes.{Shape}
use Rattle.holder_model_values.specs.RunValues.Values.{Value, references_of}
use Rattle.sil_ast.specs.declared.function.Function.{Function}
use Rattle.sil_ast.specs.declared.inst.Inst.{Inst}
use Rattle.sil_ast.specs.declared.module.Module.{Module}
use Rattle.sil_ast.specs.declared.place.ObjectId.{ObjectId}
use Rattle.sil_ast.specs.declared.place.ValueId.{ValueId}
use Rattle.sil_cfg.specs.declared.item.Item.{Item}
use Rattle.sil_types_declarations.specs.TypeDefinitions.Declarations.{declarations_of}
use Rattle.sil_verifier_frames.specs.inner.Typed.TypedStates.{EntriesAre}
use Rattle.sil_verifier_frames.specs.holder_model_typing.TypedMemory.inner.Worlds.{DatumIs, IsWorldOf, MemoryIs, World}
use Rattle.sil_verifier_frames.specs.holder_model_laws.HolderLaws.inner.Whole.Whole.{IsWhole, NameWhole}
use Rattle.sil_verifier_frames.proofs.holder_model_laws.HolderLaws.Whole.Lists.{each_of}
use Rattle.sil_verifier_runs.specs.inner.Built.Said.{IsUnfinishedOn, said}
use Rattle.sil_verifier_runs.proofs.Built.About.{before_item}
use Rattle.sil_verifier_runs.proofs.Built.EntriesNamed.{AreNamed}
use Rattle.sil_verifier_runs.proofs.Built.GoesOn.{TakesWhole}
use Rattle.sil_verifier_runs.proofs.Built.ItemsDone.{Doing}
use Rattle.sil_verifier_runs.proofs.Built.Operands.{unfinished_operands}
use Rattle.sil_verifier_runs.proofs.Built.PlaceForms.{no_field_address}
use Rattle.sil_verifier_runs.proofs.Built.Reading.{named_datum}

-- a value has the form of one
pub value_form : (m : Module) (w : World) (form : Form) (x : Datum) → DatumIs m w form x → (v : Value) → x ≡ ValueOf v → (s : Shape) × (form ≡ OfValue s)
value_form m w _ _ (DatumIs.value s y suits) v e = (s, refl)
value_form m w _ _ (DatumIs.place p is) v e = absurd (cc)
value_form m w _ _ (DatumIs.function g) v e = absurd (cc)

-- a datum that is a value
abbrev pub IsValueOf : Datum → Type 0
IsValueOf x = (v : Value) × (x ≡ ValueOf v)

-- what values name, one by one
pub values_name : (P : ObjectId → Type 0) (xs : List Datum) (vs : List Value) → values_of xs ≡ Some vs → Each (λ x. Each P (references_in x)) xs → Each (λ v. Each P (references_of v)) vs
values_name P [] vs e h = subst (Each (λ v. Each P (references_of v))) (same_Some [] vs e) tt
values_name P (ValueOf x ∷ xs) vs e h = at (values_of xs) (λ ys is. values_name P xs ys is h.1) e
  where
    at : (o : Option (List Value)) → ((ys : List Value) → o ≡ Some ys → Each (λ v. Each P (references_of v)) ys) → with_first (Some x) o ≡ Some vs
        → Each (λ v. Each P (references_of v)) vs
    at None more e = absurd (none-some vs e)
    at (Some ys) more e = subst (Each (λ v. Each P (references_of v))) (same_Some (x ∷ ys) vs e) (h.0, more ys refl)
values_name P (AddressOf p ∷ xs) vs e h = absurd (none-some vs e)
values_name P (FunctionOf g ∷ xs) vs e h = absurd (none-some vs e)

pub values_each : (xs : List Datum) (vs : List Value) → values_of xs ≡ Some vs → Each IsValueOf xs
values_each [] vs e = tt
values_each (ValueOf x ∷ xs) vs e = at (values_of xs) (λ ys is. values_each xs ys is) e
  where
    at : (o : Option (List Value)) → ((ys : List Value) → o ≡ Some ys → Each IsValueOf xs) → with_first (Some x) o ≡ Some vs → Each IsValueOf (ValueOf x ∷ xs)
    at None more e = absurd (none-some vs e)
    at (Some ys) more e = ((x, refl), more ys refl)
values_each (AddressOf p ∷ xs) vs e = absurd (none-some vs e)
values_each (FunctionOf g ∷ xs) vs e = absurd (none-some vs e)

module _ (m : Module) (memory : Memory) (rest : List (Task Frame)) (frame : Frame) (f : Function) (i : Item) (ops : Operands) where
  -- an item of a typed frame, whose operands are read
  pub record Ready : Type 0 where
    pub doing : Doing m memory rest frame f i ops.left
    pub w : World
    pub of : IsWorldOf m w
    pub typed : MemoryIs m w memory
    pub entries : EntriesAre m w f frame.entries
    pub size : length ops.left ≡ value_count f
    pub named : AreNamed memory frame.entries ops.left (item_taken f i) ops.given

  module _ (ready : Ready) where
    pub turned : IsTurnedTrail f (i ∷ frame.trail)
    turned = are_trails f (accepted_in m frame.function.0 f ready.doing.body).once (i ∷ frame.trail) ready.doing.trail

    pub holds_objects : HoldsObjects (shapes_of m) (sources_of (declarations_of m) f) (said m f frame.trail) memory frame.entries
    holds_objects = held m (said m) memory rest frame f ready.doing.stands

    -- the operand's datum has the form of its value
    pub operand_form : (y : Taken) (v : Value) → Names frame.entries y.value (ValueOf v) → (s : Shape) × (form_of (declarations_of m) f y.value ≡ OfValue s)
    operand_form y v names =
        value_form m ready.w (form_of (declarations_of m) f y.value) (ValueOf v)
        (named_datum m ready.w f frame.entries ready.entries y.value (ValueOf v) names) v refl

    -- so it is no address of a field
    pub no_address : (y : Taken) → Contains (item_taken f i) y → (v : Value) → Names frame.entries y.value (ValueOf v)
        → (l : Location) (of : ValueId) (k : ℕ) → IsFieldAddress (sources_of (declarations_of m) f) y.value l of k → ⊥
    no_address y c v names l of k at =
        let form = operand_form y v names in
        no_field_address m frame.function.0 f ready.doing.body frame.trail (turned_older f i frame.trail turned) y.value
        (before_item m frame.function.0 f ready.doing.body y.value frame.trail i turned y c) form.0 form.1 l of k at

    module _ (x : Inst) (is : item_inst f i ≡ Some x) (takes : TakesWhole x.op) where
      allowed : (y : Taken) → Contains (item_taken f i) y → (object : ValueId) → IsUnfinishedOn (declarations_of m) f frame.trail object
          → (y.value ≡ object → takes_object (allowance_of x.op) ≡ true)
          × (builds (sources_of (declarations_of m) f) object y.value ≡ true → takes_borrow (allowance_of x.op) ≡ true)
      allowed y c object un = unfinished_operands m frame.function.0 f ready.doing.body frame.trail i ready.doing.trail x is takes.keeps y c object un

      pub whole_value : (y : Taken) → Contains (item_taken f i) y → (v : Value) → Names frame.entries y.value (ValueOf v) → NameWhole memory (references_of v)
      whole_value y c v names =
          each_of (MayName (shapes_of m) (sources_of (declarations_of m) f) (said m f frame.trail) memory frame.entries y.value) (IsWhole memory) by (references_of v)
          (holds_objects.named y.value (ValueOf v) names)
        where
          forbidden : (object : ValueId) → IsAbout (sources_of (declarations_of m) f) object y.value → IsUnfinishedOn (declarations_of m) f frame.trail object → ⊥
          forbidden object (itself same) un = true≢false (sym ((allowed y c object un).0 same) ∙ takes.object)
          forbidden object (borrow built) un = true≢false (sym ((allowed y c object un).1 built) ∙ takes.borrow)
          forbidden object (address l of k at built) un = no_address y c v names l of k at

          by : (o : ObjectId) → MayName (shapes_of m) (sources_of (declarations_of m) f) (said m f frame.trail) memory frame.entries y.value o → IsWhole memory o
          by o (frames.whole is) = is
          by o (frames.unfinished object about un holds) = absurd (forbidden object about un)

      -- all of several operands that are values
      pub whole_data : (ts : List Taken) (xs : List Datum) → AreNamed memory frame.entries ops.left ts xs → ((t : Taken) → Among t ts → Contains (item_taken f i) t) → Each IsValueOf xs
          → Each (λ x. NameWhole memory (references_in x)) xs
      whole_data [] [] named among values = tt
      whole_data [] (z ∷ xs) named among values = absurd named
      whole_data (t ∷ ts) [] named among values = tt
      whole_data (t ∷ ts) (z ∷ xs) named among values =
          let v = values.0 in (
            subst (λ y. NameWhole memory (references_in y)) (sym v.1)
                (whole_value t (among t (inl refl)) v.0 (named.0.0 ∙ ap (λ y. Some y) v.1)),
            whole_data ts xs named.1 (λ u a. among u (inr a)) values.1,
          )

      pub all_whole : Each IsValueOf ops.given → Each (λ x. NameWhole memory (references_in x)) ops.given
      all_whole values = whole_data (item_taken f i) ops.given ready.named (λ t a. contained_among t (item_taken f i) a) values
