-- A function with a body is called: the places that are lent are as their rows ask, and the callee begins with its places.
use Rattle.std.proofs.Common.{◌≡◌, ⊎_elim, ℕ, List, ◌∷◌, drop, map, true, false, Option, Ok, Some, sym, ap, ◌∙◌, slice_get}
use Rattle.std.proofs.lemmas.Bool.{true≢false}
use Rattle.holder_model_laws.specs.holder_model.Calling.{are_as_before, as_argument, handed_over, lent_places, value_count}
use Rattle.holder_model_laws.specs.holder_model.Data.{Datum}
use Rattle.holder_model_laws.specs.holder_model.Effects.{Calls}
use Rattle.holder_model_laws.specs.holder_model.Frames.{Entry, Frame, LentPlace, Operands, has_any, no_entries, results_put}
use Rattle.holder_model_laws.specs.holder_model.HolderStates.{HolderNext, HolderState}
use Rattle.holder_model_laws.specs.holder_model.MemoryEffects.{effect}
use Rattle.holder_model_laws.specs.holder_model.ModuleFacts.{ModuleFacts, facts_told}
use Rattle.holder_model_laws.specs.holder_model.ModuleShapes.{ModuleShapes}
use Rattle.holder_model_laws.specs.holder_model.Standing.{stands_at}
use Rattle.holder_model_laws.specs.holder_model.StepParts.{new_frame}
use Rattle.holder_model_laws.specs.holder_model.States.{Runs, Task}
use Rattle.holder_model_laws.specs.memory_rules_accesses.Operations.{operations_of}
use Rattle.holder_model_laws.specs.memory_rules_accesses.Rows.{is_part}
use Rattle.holder_model_laws.specs.memory_rules_accesses.Sources.{is_trivial_at, sources_of}
use Rattle.holder_model_laws.specs.memory_rules_accesses.declared.access.Operated.{Operated}
use Rattle.sil_verifier_trails.specs.RunTrails.inner.RunTrails.{IsRunTrail}
use Rattle.sil_verifier_trails.specs.sil_verifier_accepted.AcceptedModules.inner.Checked.{IsVerified}
use Rattle.sil_verifier_trails.specs.sil_verifier_values.inner.Known.{IsAcceptedBody}
use Rattle.holder_model_laws.specs.HolderLaws.inner.Steps.Ways.{Enters}
use Rattle.holder_model_laws.proofs.HolderLaws.Steps.WhichFaults.{results_err}
use Rattle.sil_cfg_items.specs.Items.{item_defined, item_taken}
use Rattle.sil_cfg_items.specs.Parts.{inst_at}
use Rattle.holder_model_laws.specs.ownership_kinds_chains.declared.ownership_chains.facts.Facts.{Facts}
use Rattle.numbered_form.proofs.PointChecks.Among.{Among}
use Rattle.holder_model_values.specs.RunValues.Memory.{Memory}
use Rattle.holder_model_values.specs.RunValues.Shapes.{Shape}
use Rattle.holder_model_values.specs.RunValues.Trivial.{is_trivial}
use Rattle.sil_ast.specs.declared.function.Function.{Function}
use Rattle.sil_ast.specs.declared.inst.Inst.{Inst}
use Rattle.sil_ast.specs.declared.module.Module.{Module}
use Rattle.sil_ast.specs.declared.place.FuncId.{FuncId}
use Rattle.sil_ast.specs.declared.place.PointId.{PointId}
use Rattle.sil_ast.specs.declared.place.ValueId.{ValueId}
use Rattle.sil_cfg.specs.declared.item.Item.TheVariants as item
use Rattle.sil_types_declarations.specs.TypeDefinitions.Declarations.{declarations_of}
use Rattle.sil_verifier_trails.specs.holder_model_typing.TypedMemory.inner.Worlds.{World}
use Rattle.sil_verifier_frames.proofs.Typed.GoesOn.{accepted_body}
use Rattle.sil_verifier_frames.specs.inner.Placed.FramePlaces.{Names}
use Rattle.sil_verifier_frames.specs.inner.Placed.Items.{PlacedNext}
use Rattle.sil_verifier_frames.specs.inner.Placed.PlaceStates.{TasksPlaced}
use Rattle.sil_verifier_frames.specs.inner.Placed.Premises.{HandsOver, ReadsOperands}
use Rattle.sil_verifier_frames.specs.inner.Placed.TrailLaws.{TrailLaws}
use Rattle.sil_verifier_frames.proofs.Placed.CalleesBegin.{arguments_named, given_lent, others_gone}
use Rattle.sil_verifier_frames.proofs.Placed.Calls.{calls_placed}
use Rattle.sil_verifier_frames.proofs.Placed.ComesToCalls.{comes_to_call}
use Rattle.sil_verifier_frames.proofs.Placed.FirstFrames.{IsFirst, TypingLaws, body, left_first}
use Rattle.sil_verifier_frames.proofs.Placed.Lending.{IsCallAt}
use Rattle.sil_verifier_frames.proofs.Placed.Lent.{Calling, all_as_before}
use Rattle.sil_verifier_frames.proofs.Placed.OtherFaults.{result_fault}
use Rattle.sil_verifier_frames.proofs.Placed.Reading.{operand_within}
use Rattle.sil_verifier_frames.proofs.Placed.RowCalls.{calls_by_row}

-- a function is entered, with these entries
pub enters_placed : (m : Module) (told : ModuleFacts) (bound : ℕ) (Found : Type 0) (s : HolderState) (rest : List (Task Frame)) (g : FuncId) (callee : Function) (args : List Datum)
    → ((entries : List Entry) → results_put (facts_told told g) (item_defined callee item.Entry) args (no_entries (value_count callee)) ≡ Ok entries
    → TasksPlaced m s.memory (Runs (new_frame g entries) ∷ rest))
    → (next : HolderNext) → Enters m told bound s rest g callee args next → PlacedNext Found m next
enters_placed m told bound Found s rest g callee args begins _ (Enters.enters entries put deep turn) = begins entries put
enters_placed m told bound Found s rest g callee args begins _ (Enters.wrong_argument x put) =
    λ found. result_fault x (results_err (facts_told told g) (item_defined callee item.Entry) args (no_entries (value_count callee)) x put)
enters_placed m told bound Found s rest g callee args begins _ (Enters.too_deep deep) = tt
enters_placed m told bound Found s rest g callee args begins _ (Enters.no_turn deep turn) = tt

module _ (laws : TrailLaws) (typing : TypingLaws) (m : Module) (verified : IsVerified m) (w : World) (memory : Memory) (frame : Frame) (rest : List (Task Frame)) (f : Function)
    (first : IsFirst m w memory frame rest f) (facts : ValueId → Option Facts) (i : Inst) (ops : Operands) (shapes : ModuleShapes) (values : List Shape)
    (g : FuncId) (args : List Datum) (callee : Function) where
  -- the frame stands at a call of a function with a body
  pub record CallsBody : Type 0 where
    pub reads : ReadsOperands m frame.function.0 f w facts memory frame.entries (item.Inst (stands_at f frame.trail)) ops
    pub here : inst_at f (stands_at f frame.trail) ≡ Some i
    pub trail : IsRunTrail f (item.Inst (stands_at f frame.trail) ∷ frame.trail)
    pub is : effect (declarations_of m) shapes values memory i ops.given ≡ Calls g args
    pub there : slice_get m.functions g.0 ≡ Some callee
    pub bodied : has_any callee.blocks ≡ true

  module _ (s : CallsBody) where
    abbrev pub point : PointId
    point = stands_at f frame.trail

    abbrev pub left : Frame
    left = record frame { entries = ops.left }

    abbrev pub lent : List LentPlace
    lent = lent_places (drop 1 (item_taken f (item.Inst (stands_at f frame.trail)))) args

    pub accepted : IsAcceptedBody m frame.function.0 f
    accepted = body laws typing m verified w memory frame rest f first

    pub now : IsFirst m w memory (record frame { entries = ops.left }) rest f
    now = left_first laws typing m verified w memory frame rest f first facts (item.Inst point) ops s.reads

    over : HandsOver f (stands_at f frame.trail) i ops.left args callee
    over = typing.calls m frame.function.0 f w facts memory frame.entries point ops s.reads i s.here shapes values g args callee s.is s.there

    pub call : IsCallAt laws m frame.function.0 f accepted frame.trail point i
    call = comes_to_call laws m frame.function.0 f accepted w ops.left now.typed.entries frame.trail point i lent (record {
      inst = s.here;
      calls = calls_by_row (declarations_of m) shapes values memory i ops.given g args s.is;
      trail = s.trail;
      goes = first.typed.goes;
      by = over.lent;
    })

    shaped : (o : Operated) (c : Among o (operations_of i)) (l : LentPlace) → Among l lent → Names ops.left o.address l.place
        → is_part (call.located o c).location ≡ false → is_trivial_at (sources_of (declarations_of m) f) (call.located o c).location.root ≡ true → is_trivial l.place.shape ≡ true
    shaped o c l among names whole trivial =
        let at = call.located o c in
        let in_root = operand_within m memory f left rest now.holds o.address at.location at.is at.there at.made l.place names in
        ⊎_elim
        (λ (all : (is_part at.location ≡ false) × (l.place ≡ in_root.whole)).
        ap (λ p. is_trivial p.shape) all.1
        ∙ typing.shaped m frame.function.0 f w ops.left accepted now.typed.entries frame.trail at.location.root at.there in_root.whole in_root.names ∙ trivial)
        (λ (inner : (is_part at.location ≡ true) × (l.place.is_part ≡ true)). absurd (true≢false (sym inner.0 ∙ whole)))
        in_root.how

    pub calling : Calling laws m frame.function.0 f accepted point i memory left rest lent
    calling = record { call = call; holds = now.holds; none_lent = now.none_lent; by = over.lent; shaped = shaped }

    pub never_wrong : are_as_before memory (lent_places (drop 1 (item_taken f (item.Inst (stands_at f frame.trail)))) args) ≡ false → ⊥
    never_wrong e = true≢false (sym (all_as_before laws m frame.function.0 f accepted point i memory left rest lent calling) ∙ e)

    -- the callee goes on over the frame that waits
    pub callee_begins : (new : ValueId → Option Facts) (entries : List Entry)
        → results_put new (item_defined callee item.Entry) (map as_argument args) (no_entries (value_count callee)) ≡ Ok entries
        → TasksPlaced m (handed_over memory (lent_places (drop 1 (item_taken f (item.Inst (stands_at f frame.trail)))) args))
        (Runs (new_frame g entries)
        ∷ Runs (record frame { entries = ops.left; lent = lent_places (drop 1 (item_taken f (item.Inst (stands_at f frame.trail)))) args }) ∷ rest)
    callee_begins new entries put =
        calls_placed laws m frame.function.0 f accepted point i memory left rest lent calling g.0 callee other g s.there entries
        (given_lent laws m g.0 callee other new entries args ops.left (drop 1 (item_taken f (item.Inst point))) put over.alike over.handed)
        (arguments_named laws m g.0 callee other new entries args ops.left (drop 1 (item_taken f (item.Inst point))) put over.alike over.handed)
        (others_gone laws m g.0 callee other new entries (map as_argument args) put)
        first.typed.is s.here (calls_by_row (declarations_of m) shapes values memory i ops.given g args s.is) now.below
      where
        other : IsAcceptedBody m g.0 callee
        other = accepted_body m verified g callee s.there s.bodied
