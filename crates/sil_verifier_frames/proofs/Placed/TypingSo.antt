-- What typing says of the places of operands and results, all of it proved.
use Rattle.sil_verifier_frames.specs.inner.Placed.Premises.{AreEntriesPlain}
use Rattle.sil_verifier_frames.proofs.Placed.FirstFrames.{TypingLaws}
use Rattle.sil_verifier_frames.proofs.Placed.HandingOver.{calls_hand_over}
use Rattle.sil_verifier_frames.proofs.Placed.NamedChanges.{changes_named}
use Rattle.sil_verifier_frames.proofs.Placed.NewParts.{calls_named, edges_named}
use Rattle.sil_verifier_frames.proofs.Placed.OperandsNamed.{left_typed_still, operands_named}
use Rattle.sil_verifier_frames.proofs.Placed.PlainAddresses.{entries_plain}
use Rattle.sil_verifier_frames.proofs.Placed.RootsShaped.{roots_shaped}
use Rattle.sil_verifier_frames.proofs.Placed.StoresFit.{stores_fit}

all_plain : AreEntriesPlain
all_plain m number f w entries body typed = entries_plain m w number f body entries typed

pub typing_laws : TypingLaws
typing_laws = record {
  plain = all_plain;
  shaped = roots_shaped;
  left = left_typed_still;
  named = operands_named;
  stores = stores_fit;
  changes = changes_named;
  calls = calls_hand_over;
  calls_named = calls_named;
  edges_named = edges_named;
}
