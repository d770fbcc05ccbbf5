-- A frame that is entered has no entries, and its first item is the entry.
use Rattle.std.proofs.Common.{◌≡◌, ℕ, zero, suc, [], ◌∷◌, refl, sym, ap, ◌∙◌, subst, Bool, false, Some}
use Rattle.std.specs.Prelude.{slice_get, unwrap_or}
use Rattle.std.proofs.lemmas.Bool.{false≢true}
use Rattle.std.proofs.lemmas.List.{length-replicate}
use Rattle.std.proofs.lemmas.Option.{same_Some}
use Rattle.sil_ast.specs.declared.function.Function.{Function}
use Rattle.sil_ast.specs.declared.module.Module.{Module}
use Rattle.sil_ast.specs.declared.place.ValueId.{ValueId}
use Rattle.sil_cfg.specs.declared.item.Item.TheVariants as item
use Rattle.sil_types_declarations.specs.TypeDefinitions.Declarations.{Declarations}
use Rattle.sil_verifier_trails.specs.sil_verifier_values.inner.Known.{IsAcceptedBody}
use Rattle.sil_verifier_trails.specs.RunTrails.inner.RunTrails.{IsTurnedTrail}
use Rattle.holder_model_laws.specs.holder_model.Calling.{value_count}
use Rattle.holder_model_laws.specs.holder_model.Data.{Datum}
use Rattle.holder_model_laws.specs.holder_model.Frames.{Entry, Gone, Held, Lent, entry_at, is_held, no_entries}
use Rattle.sil_verifier_trails.specs.HeldEntries.inner.Tracked.{IsWhile}
use Rattle.sil_verifier_trails.proofs.RunTrails.RunPaths.{are_trails}
use Rattle.sil_verifier_frames.proofs.Tracked.HowValuesEnd.{accepted_in}
use Rattle.sil_verifier_frames.proofs.Tracked.ResultsPut.{AreLeft}

all_gone : (n : ℕ) (k : ℕ) → unwrap_or (slice_get (no_entries n) k) Gone ≡ Gone
all_gone zero k = refl
all_gone (suc n) zero = refl
all_gone (suc n) (suc k) = all_gone n k

pub entry_turned : (m : Module) (n : ℕ) (f : Function) → IsAcceptedBody m n f → IsTurnedTrail f (item.Entry ∷ [])
entry_turned m n f a = are_trails f (accepted_in m n f a).once (item.Entry ∷ []) (a.body.body, tt)

-- nothing is held or lent before the entry
pub entered : (d : Declarations) (f : Function) → AreLeft d f [] item.Entry (no_entries (value_count f))
entered d f = record {
  tracked = record { owned = λ v owned on e. off Held v on e; scopes = λ v own on e. off Lent v on e };
  others = λ v never defined. absurd (false≢true defined);
  size = length-replicate (value_count f) Gone;
  held = λ v held. absurd (false≢true (sym (ap is_held (gone v)) ∙ held));
}
  where
    gone : (v : ValueId) → entry_at (no_entries (value_count f)) v ≡ Gone
    gone v = all_gone (value_count f) v.0

    off : (form : Datum → Entry) (v : ValueId) (on : Bool) → Some false ≡ Some on → IsWhile form on (entry_at (no_entries (value_count f)) v)
    off form v on e = subst (λ b. IsWhile form b (entry_at (no_entries (value_count f)) v)) (same_Some false on e) (gone v)
