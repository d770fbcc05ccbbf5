-- A return: what it leaves is as it should be, and what waits below goes on with its places.
use Rattle.std.proofs.Common.{◌≡◌, ℕ, List, [], ◌∷◌, map, true, Option, Ok, Some, refl, sym, ap, ◌∙◌, subst, slice_get}
use Rattle.std.proofs.lemmas.Option.{same_Some}
use Rattle.holder_model_laws.specs.holder_model.Calling.{places_given}
use Rattle.holder_model_laws.specs.holder_model.Data.{Datum}
use Rattle.holder_model_laws.specs.holder_model.Effects.{unchanged}
use Rattle.holder_model_laws.specs.holder_model.Frames.{Entry, Frame, Operands, results_put}
use Rattle.holder_model_laws.specs.holder_model.HolderStates.{HolderNext, HolderState}
use Rattle.holder_model_laws.specs.holder_model.ModuleFacts.{ModuleFacts, facts_told}
use Rattle.holder_model_laws.specs.holder_model.Standing.{stands_at}
use Rattle.holder_model_laws.specs.holder_model.States.{Runs, Task}
use Rattle.sil_verifier_trails.specs.RunTrails.inner.RunTrails.{IsRunTrail}
use Rattle.sil_verifier_trails.specs.sil_verifier_accepted.AcceptedModules.inner.Checked.{IsVerified}
use Rattle.sil_verifier_trails.specs.sil_verifier_values.inner.Known.{IsAcceptedBody}
use Rattle.sil_verifier_trails.proofs.RunTrails.WalkEdges.{are_next}
use Rattle.holder_model_laws.specs.HolderLaws.inner.Steps.Stacks.{Below}
use Rattle.holder_model_laws.specs.HolderLaws.inner.Steps.Ways.{GoesBehind, Leaves, Reaches}
use Rattle.holder_model_laws.proofs.HolderLaws.Steps.WhichFaults.{results_err}
use Rattle.sil_cfg_items.specs.Items.{item_defined}
use Rattle.sil_cfg_items.specs.Parts.{inst_at}
use Rattle.holder_model_laws.specs.ownership_kinds_chains.declared.ownership_chains.facts.Facts.{Facts}
use Rattle.sil_ast.specs.declared.function.Function.{Function}
use Rattle.sil_ast.specs.declared.module.Module.{Module}
use Rattle.sil_ast.specs.declared.place.PointId.{PointId}
use Rattle.sil_ast.specs.declared.place.ValueId.{ValueId}
use Rattle.sil_cfg.specs.Returns.{is_return}
use Rattle.sil_cfg.specs.declared.item.Item.{Item}
use Rattle.sil_cfg.specs.declared.item.Item.TheVariants as item
use Rattle.sil_verifier_frames.specs.inner.Typed.TypedStates.{DeinitsTyped, DroppedTyped, FinishedTyped, FrameIs, GoesTyped, WaitsTyped}
use Rattle.sil_verifier_trails.specs.holder_model_typing.TypedMemory.inner.Worlds.{World}
use Rattle.sil_verifier_frames.proofs.Typed.GoesOn.{accepted_body}
use Rattle.sil_verifier_frames.specs.inner.Placed.FramePlaces.{HoldsPlaces}
use Rattle.sil_verifier_frames.specs.inner.Placed.Items.{PlacedNext}
use Rattle.sil_verifier_frames.specs.inner.Placed.PlaceStates.{BelowPlaced, TasksPlaced, WaitsPlaced, as_given}
use Rattle.sil_verifier_frames.specs.inner.Placed.Premises.{ReadsOperands}
use Rattle.sil_verifier_frames.specs.inner.Placed.TrailLaws.{TrailLaws}
use Rattle.sil_verifier_frames.proofs.Placed.Applying.{leaves_slots}
use Rattle.sil_verifier_frames.proofs.Placed.ComesToCalls.{comes_to_call}
use Rattle.sil_verifier_frames.proofs.Placed.EntriesKept.{ok_once}
use Rattle.sil_verifier_frames.proofs.Placed.FirstFrames.{IsFirst, TypingLaws, body, left_first}
use Rattle.sil_verifier_frames.proofs.Placed.Leaving.{Waited, places_left, resumed, slots_gone}
use Rattle.sil_verifier_frames.proofs.Placed.Lending.{IsCallAt}
use Rattle.sil_verifier_frames.proofs.Placed.OtherFaults.{result_fault}
use Rattle.sil_verifier_frames.proofs.Placed.Resuming.{AreShaped}
use Rattle.sil_verifier_frames.proofs.Placed.Returning.{Returns}

abbrev pub TypedBelow : Module → World → Frame → List (Task Frame) → Type 0
TypedBelow m w callee tasks = Below (GoesTyped m w) (WaitsTyped m w) (DeinitsTyped m w) (DroppedTyped m w) (FinishedTyped m w) callee tasks

pub frame_of : (m : Module) (w : World) (frame : Frame) (f g : Function) → FrameIs m w f frame → slice_get m.functions frame.function.0 ≡ Some g → FrameIs m w g frame
frame_of m w frame f g is there = subst (λ x. FrameIs m w x frame) (same_Some f g (sym is.is ∙ there)) is

module _ (laws : TrailLaws) (typing : TypingLaws) (m : Module) (told : ModuleFacts) (bound : ℕ) (verified : IsVerified m) (w : World) (Found : Type 0)
    (s : HolderState) (top : Frame) (rest : List (Task Frame)) (f : Function) (first : IsFirst m w s.memory top rest f)
    (i : Item) (facts : ValueId → Option Facts) (ops : Operands) (reads : ReadsOperands m top.function.0 f w facts s.memory top.entries i ops)
    (trail : IsRunTrail f (i ∷ top.trail)) (leaves : is_return f i ≡ true) where
  abbrev left : Frame
  left = record top { entries = ops.left }

  accepted : IsAcceptedBody m top.function.0 f
  accepted = body laws typing m verified w s.memory top rest f first

  now : IsFirst m w s.memory (record top { entries = ops.left }) rest f
  now = left_first laws typing m verified w s.memory top rest f first facts i ops reads

  returns : Returns laws m top.function.0 f accepted s.memory (record top { entries = ops.left }) rest i
  returns = record { holds = now.holds; none_lent = now.none_lent; trail = trail; goes = first.typed.goes; leaves = leaves }

  shaped_top : AreShaped m f (record top { entries = ops.left })
  shaped_top v there p names = typing.shaped m top.function.0 f w ops.left accepted now.typed.entries top.trail v there p names

  -- the frame that waited goes on behind its call
  module _ (frame : Frame) (below : List (Task Frame)) (g : Function) (typed : FrameIs m w g frame) (waits : WaitsPlaced m s.memory (record top { entries = ops.left }) frame below)
      (under : BelowPlaced m s.memory frame below) where
    abbrev point : PointId
    point = stands_at g frame.trail

    caller : IsAcceptedBody m frame.function.0 g
    caller = accepted_body m verified frame.function g typed.is typed.bodied

    same : waits.f ≡ g
    same = same_Some waits.f g (sym waits.is ∙ typed.is)

    here : inst_at g (stands_at g frame.trail) ≡ Some waits.call
    here = subst (λ h. inst_at h (stands_at h frame.trail) ≡ Some waits.call) same waits.stands

    run : IsRunTrail g (item.Inst (stands_at g frame.trail) ∷ frame.trail)
    run = (are_next g frame.trail (item.Inst point) typed.goes (refl, waits.call, here), typed.trail)

    given : places_given f ops.left ≡ map as_given frame.lent
    given = ap (λ h. places_given h ops.left) (same_Some f waits.body (sym first.typed.is ∙ waits.there)) ∙ waits.given

    call : IsCallAt laws m frame.function.0 g caller frame.trail point waits.call
    call = comes_to_call laws m frame.function.0 g caller w frame.entries typed.entries frame.trail point waits.call frame.lent (record {
      inst = here;
      calls = waits.calls;
      trail = run;
      goes = typed.goes;
      by = waits.lent;
    })

    waited : (x : Datum) (entries : List Entry)
        → results_put (facts_told told frame.function) (item_defined g (item.Inst (stands_at g frame.trail))) (x ∷ []) frame.entries ≡ Ok entries
        → Waited laws m top.function.0 f accepted s.memory left rest i returns shaped_top frame.function.0 g caller
        (facts_told told frame.function) frame below point waits.call (x ∷ []) entries
    waited x entries put = record {
      call = call;
      by = waits.lent;
      given = given;
      shaped = λ v there p names. typing.shaped m frame.function.0 g w frame.entries caller typed.entries frame.trail v there p names;
      is = typed.is;
      under = under;
      puts = record { holds = subst (λ h. HoldsPlaces m s.memory h frame below) same waits.holds; goes = typed.goes; trail = run; put = put };
      slots = leaves_slots waits.call waits.calls g point here;
      news = typing.calls_named m frame.function.0 g caller frame.trail point waits.call here waits.calls frame.entries entries;
    }

    pub waited_goes_on : (x : Datum) (next : HolderNext)
        → GoesBehind m told bound s below frame g (item.Inst (stands_at g frame.trail)) (record (unchanged s.memory) { results = x ∷ [] }) next → PlacedNext Found m next
    waited_goes_on x _ (GoesBehind.goes slots entries stay put) =
        subst (λ ps. TasksPlaced m s.memory (Runs (record frame { trail = item.Inst point ∷ frame.trail; entries = entries; slots = ps; lent = [] }) ∷ below)) (ok_once frame.slots slots stay)
        (resumed laws m top.function.0 f accepted s.memory left rest i returns shaped_top frame.function.0 g caller (facts_told told frame.function) frame below point waits.call (x ∷ []) entries
        (waited x entries put))
    waited_goes_on x _ (GoesBehind.wrong_slot y stay) = absurd (cc)
    waited_goes_on x _ (GoesBehind.wrong_result slots y stay put) =
        λ found. result_fault y (results_err (facts_told told frame.function) (item_defined g (item.Inst point)) (x ∷ []) frame.entries y put)

  reaches_placed : (x : Datum) (tasks : List (Task Frame)) → TypedBelow m w top tasks → BelowPlaced m s.memory (record top { entries = ops.left }) tasks
      → (next : HolderNext) → Reaches m told bound s x tasks next → PlacedNext Found m next
  reaches_placed x _ typed below _ (Reaches.ends v is) = tt
  reaches_placed x _ typed below next (Reaches.resumes frame tasks g n there moves) =
      waited_goes_on frame tasks g (frame_of m w frame typed.0.f g typed.0.of there) below.0 below.1 x next moves
  reaches_placed x _ typed below _ (Reaches.finishes deinits o tasks) = (below.1, below.2)
  reaches_placed x _ typed below _ (Reaches.no_value is) = λ found. refl
  reaches_placed x _ typed below _ (Reaches.no_function frame tasks there) = λ found. refl
  reaches_placed x _ typed below _ (Reaches.on_drops os tasks) = λ found. refl

  pub leaves_placed : TypedBelow m w top rest → (x : Datum) (next : HolderNext) → Leaves m told bound s rest (record top { entries = ops.left }) f x next → PlacedNext Found m next
  leaves_placed typed x next (Leaves.leaves n held slots places reaches) = reaches_placed x rest typed now.below next reaches
  leaves_placed typed x _ (Leaves.holds held) = λ found. refl
  leaves_placed typed x _ (Leaves.has_slot slots) = absurd (slots_gone laws m top.function.0 f accepted s.memory left rest i returns shaped_top slots)
  leaves_placed typed x _ (Leaves.wrong_place places) = absurd (places_left laws m top.function.0 f accepted s.memory left rest i returns shaped_top places)
