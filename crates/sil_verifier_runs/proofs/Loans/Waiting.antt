-- A frame that waits for a call: what its open scopes lend it doesn't hand over to be changed, and lends still when the call is over.
use Rattle.std.proofs.Common.{◌≡◌, ℕ, List, [], ◌∷◌, true, Some, Ok, sym, ap, ◌∙◌, subst, slice_get}
use Rattle.std.proofs.lemmas.Option.{same_Some}
use Rattle.sil_verifier_frames.specs.holder_model.Data.{Datum}
use Rattle.sil_verifier_frames.specs.holder_model.Frames.{Entry, Frame, Lent, datum_in, entry_at, results_put}
use Rattle.sil_verifier_frames.specs.holder_model.Standing.{stands_at}
use Rattle.sil_verifier_frames.specs.holder_model.States.{Task}
use Rattle.sil_verifier_frames.specs.sil_verifier_trails.RunTrails.inner.RunTrails.{IsRunTrail, IsTurnedTrail}
use Rattle.sil_verifier_frames.specs.sil_verifier_accepted.AcceptedModules.inner.Checked.{IsVerified}
use Rattle.sil_verifier_frames.specs.sil_verifier_values.inner.Known.{IsAcceptedBody}
use Rattle.sil_verifier_frames.proofs.sil_verifier_trails.RunTrails.WalkEdges.{are_next}
use Rattle.sil_cfg_items.specs.Parts.{inst_at}
use Rattle.holder_model_values.specs.RunValues.Memory.{Memory}
use Rattle.sil_ast.specs.declared.function.Function.{Function}
use Rattle.sil_ast.specs.declared.module.Module.{Module}
use Rattle.sil_ast.specs.declared.place.PointId.{PointId}
use Rattle.sil_ast.specs.declared.place.ValueId.{ValueId}
use Rattle.sil_cfg.specs.declared.item.Item.TheVariants as item
use Rattle.sil_types_declarations.specs.TypeDefinitions.Declarations.{declarations_of}
use Rattle.sil_verifier_frames.proofs.Typed.GoesOn.{accepted_body}
use Rattle.sil_verifier_frames.specs.inner.Typed.TypedStates.{FrameIs, WaitsTyped}
use Rattle.sil_verifier_frames.specs.holder_model_typing.TypedMemory.inner.Worlds.{World}
use Rattle.sil_verifier_frames.proofs.Tracked.NextItems.{inst_comes, turned_next}
use Rattle.sil_verifier_frames.specs.inner.Tracked.TrackedStates.{WaitsAlong}
use Rattle.numbered_form.specs.ValueTables.Borrows.{is_borrow}
use Rattle.sil_verifier_frames.specs.inner.Placed.FramePlaces.{HoldsPlaces, is_lent}
use Rattle.sil_verifier_frames.specs.inner.Placed.PlaceStates.{WaitsPlaced}
use Rattle.sil_verifier_frames.proofs.Placed.ComesToCalls.{comes_to_call}
use Rattle.sil_verifier_frames.proofs.Placed.Lending.{IsCallAt}
use Rattle.sil_verifier_frames.proofs.Placed.TrailsSo.{trail_laws}
use Rattle.sil_verifier_runs.specs.inner.Loans.Loans.{loans_of}
use Rattle.sil_verifier_runs.proofs.Loans.OpenScopes.{lent_on}
use Rattle.sil_cfg_items.specs.Items.{item_defined}
use Rattle.sil_verifier_frames.specs.ownership_kinds_origins.Facts.{facts_in}
use Rattle.holder_model_values.specs.RunValues.Places.{Place}
use Rattle.sil_verifier_frames.proofs.Placed.EntriesKept.{results_other}
use Rattle.sil_verifier_runs.proofs.Loans.CallsClear.{not_lent}
use Rattle.sil_verifier_runs.proofs.Loans.LoanAt.{LendsCell, lends_cell, lent_still}
use Rattle.sil_verifier_runs.proofs.Loans.RootsStay.{root_there}
use Rattle.sil_verifier_frames.specs.sil_verifier_trails.AcceptedPlaces.inner.Loans.{IsLentOn}

module _ (m : Module) (verified : IsVerified m) (memory : Memory) (w : World) (callee frame : Frame) (rest : List (Task Frame)) (typed : WaitsTyped m w callee frame rest)
    (placed : WaitsPlaced m memory callee frame rest) (f : Function) (is : slice_get m.functions frame.function.0 ≡ Some f) (along : WaitsAlong (declarations_of m) f frame) where
  abbrev pub point : PointId
  point = stands_at f frame.trail

  of : FrameIs m w f frame
  of = subst (λ b. FrameIs m w b frame) (same_Some typed.f f (sym typed.of.is ∙ is)) typed.of

  same : placed.f ≡ f
  same = same_Some placed.f f (sym placed.is ∙ is)

  pub waiting_holds : HoldsPlaces m memory f frame rest
  waiting_holds = subst (λ b. HoldsPlaces m memory b frame rest) same placed.holds

  stands : inst_at f (stands_at f frame.trail) ≡ Some placed.call
  stands = subst (λ b. inst_at b (stands_at b frame.trail) ≡ Some placed.call) same placed.stands

  accepted : IsAcceptedBody m frame.function.0 f
  accepted = accepted_body m verified frame.function f of.is of.bodied

  run : IsRunTrail f (item.Inst (stands_at f frame.trail) ∷ frame.trail)
  run = (are_next f frame.trail (item.Inst point) of.goes (inst_comes f point placed.call stands), of.trail)

  turned : IsTurnedTrail f (item.Inst (stands_at f frame.trail) ∷ frame.trail)
  turned = turned_next m frame.function.0 f accepted frame.trail (item.Inst point) of.trail of.goes (inst_comes f point placed.call stands)

  call : IsCallAt trail_laws m frame.function.0 f accepted frame.trail (stands_at f frame.trail) placed.call
  call = comes_to_call trail_laws m frame.function.0 f accepted w frame.entries of.entries frame.trail point placed.call frame.lent (record {
    inst = stands;
    calls = placed.calls;
    trail = run;
    goes = of.goes;
    by = placed.lent;
  })

  module _ (s : ValueId) (x : Datum) (k : ℕ) (borrow : is_borrow f s ≡ true) (lent : entry_at frame.entries s ≡ Lent x) (lends : loans_of m f frame s k ≡ true) where
    cell : LendsCell m f frame s k
    cell = lends_cell m f frame s k lends

    on : (h : IsRunTrail f (item.Inst (stands_at f frame.trail) ∷ frame.trail)) → IsLentOn (declarations_of m) f frame.trail (item.Inst (stands_at f frame.trail)) s cell.address
    on h = lent_on m frame.function.0 f accepted frame.trail (item.Inst point) h turned frame.entries along.tracked s cell.address x borrow lent cell.source

    pub waiting_not_lent : is_lent frame.lent k ≡ true → ⊥
    waiting_not_lent = not_lent trail_laws m frame.function.0 f accepted memory frame rest waiting_holds point placed.call frame.lent call placed.lent k
        (record { scope = s; cell = cell; on = on call.trail })

    -- with results behind the call it lends what it lent
    pub lent_later : (results : List Datum) (entries : List Entry)
        → results_put (facts_in (declarations_of m) f) (item_defined f (item.Inst (stands_at f frame.trail))) results frame.entries ≡ Ok entries → (slots : List Place)
        → loans_of m f (record frame { trail = item.Inst (stands_at f frame.trail) ∷ frame.trail; entries = entries; slots = slots; lent = [] }) s k ≡ true
    lent_later results entries put slots =
        lent_still m f frame (record frame { trail = item.Inst (stands_at f frame.trail) ∷ frame.trail; entries = entries; slots = slots; lent = [] }) s k cell
        (root_there m frame.function.0 f accepted frame.trail (item.Inst point) run s cell.address (on run) cell.location cell.at cell.root.there)
        (ap datum_in (results_other (facts_in (declarations_of m) f) (item_defined f (item.Inst point)) results frame.entries entries put cell.location.root
        (trail_laws.made_once m frame.function.0 f accepted frame.trail (item.Inst point) run of.goes cell.location.root cell.root.there)) ∙ cell.names)
