-- The frame that goes on: it is typed and holds its places, also without the operands that ended.
use Rattle.std.proofs.Common.{◌≡◌, List, [], Option, Ok, refl, sym, ◌∙◌, subst}
use Rattle.std.proofs.lemmas.Option.{same_Some}
use Rattle.holder_model_laws.specs.holder_model.Calling.{places_given}
use Rattle.holder_model_laws.specs.holder_model.Frames.{Frame, Operands, without_ended}
use Rattle.holder_model_laws.specs.holder_model.States.{Task}
use Rattle.sil_verifier_trails.specs.sil_verifier_accepted.AcceptedModules.inner.Checked.{IsVerified}
use Rattle.sil_verifier_trails.specs.sil_verifier_values.inner.Known.{IsAcceptedBody}
use Rattle.sil_cfg_items.specs.Items.{item_taken}
use Rattle.holder_model_laws.specs.ownership_kinds_chains.declared.ownership_chains.facts.Facts.{Facts}
use Rattle.holder_model_values.specs.RunValues.Memory.{Memory}
use Rattle.sil_ast.specs.declared.function.Function.{Function}
use Rattle.sil_ast.specs.declared.module.Module.{Module}
use Rattle.sil_ast.specs.declared.place.ValueId.{ValueId}
use Rattle.sil_cfg.specs.declared.item.Item.{Item}
use Rattle.sil_verifier_frames.specs.inner.Typed.TypedStates.{FrameIs}
use Rattle.sil_verifier_trails.specs.holder_model_typing.TypedMemory.inner.Worlds.{World}
use Rattle.sil_verifier_frames.proofs.Typed.GoesOn.{accepted_body}
use Rattle.sil_verifier_frames.proofs.Typed.Operands.{operands_read}
use Rattle.sil_verifier_frames.specs.inner.Placed.FramePlaces.{HoldsPlaces}
use Rattle.sil_verifier_frames.specs.inner.Placed.PlaceStates.{BelowPlaced}
use Rattle.sil_verifier_frames.specs.inner.Placed.Premises.{AreCallsHandingOver, AreCallsNamed, AreChangesNamed, AreEdgesNamed, AreEntriesPlain, AreLeftTyped}
use Rattle.sil_verifier_frames.specs.inner.Placed.Premises.{AreOperandsNamed, AreRootsShaped, AreStoresFit, ReadsOperands}
use Rattle.sil_verifier_frames.specs.inner.Placed.Roots.{argument}
use Rattle.sil_verifier_frames.specs.inner.Placed.TrailLaws.{TrailLaws}
use Rattle.sil_verifier_frames.proofs.Placed.Calls.{below_same}
use Rattle.sil_verifier_frames.proofs.Placed.Taking.{AreAddressesPlain, given_kept, root_left, taken_holds}

-- what typing says of the places that operands and results name
pub record TypingLaws : Type 0 where
  pub plain : AreEntriesPlain
  pub shaped : AreRootsShaped
  pub left : AreLeftTyped
  pub named : AreOperandsNamed
  pub stores : AreStoresFit
  pub changes : AreChangesNamed
  pub calls : AreCallsHandingOver
  pub calls_named : AreCallsNamed
  pub edges_named : AreEdgesNamed

pub record IsFirst (m : Module) (w : World) (memory : Memory) (frame : Frame) (rest : List (Task Frame)) (f : Function) : Type 0 where
  pub typed : FrameIs m w f frame
  pub holds : HoldsPlaces m memory f frame rest
  pub none_lent : frame.lent ≡ []
  pub below : BelowPlaced m memory frame rest

module _ (laws : TrailLaws) (typing : TypingLaws) (m : Module) (verified : IsVerified m) (w : World) (memory : Memory) (frame : Frame) (rest : List (Task Frame)) (f : Function)
    (first : IsFirst m w memory frame rest f) where
  pub body : IsAcceptedBody m frame.function.0 f
  body = accepted_body m verified frame.function f first.typed.is first.typed.bodied

  module _ (facts : ValueId → Option Facts) (i : Item) (ops : Operands) (reads : ReadsOperands m frame.function.0 f w facts memory frame.entries i ops) where
    ended : without_ended facts (item_taken f i) frame.entries ≡ Ok ops.left
    ended = (operands_read facts memory (item_taken f i) frame.entries ops reads.read).left

    plain : AreAddressesPlain frame.entries
    plain = typing.plain m frame.function.0 f w frame.entries body first.typed.entries

    -- what the function was given stays
    same_given : places_given f ops.left ≡ places_given f frame.entries
    same_given = given_kept laws m frame.function.0 f body frame.entries ops.left (λ v row trivial src.
        root_left laws m frame.function.0 f body memory frame rest facts (item_taken f i) ops.left first.holds ended plain v (argument row trivial src))

    pub left_first : IsFirst m w memory (record frame { entries = ops.left }) rest f
    left_first = record {
      typed = record {
        is = first.typed.is;
        bodied = first.typed.bodied;
        trail = first.typed.trail;
        goes = first.typed.goes;
        entries = typing.left m frame.function.0 f w facts memory frame.entries i ops reads;
      };
      holds = taken_holds laws m frame.function.0 f body memory frame rest facts (item_taken f i) ops.left first.holds ended plain;
      none_lent = first.none_lent;
      below = below_same m memory frame (record frame { entries = ops.left }) rest refl
          (λ b there. subst (λ g. places_given g ops.left ≡ places_given g frame.entries) (same_Some f b (sym first.typed.is ∙ there)) same_given) first.below;
    }
